-- How the run of a feed ends: what was taken and written until then, over what the lines of the deliveries mean.
use Rattle.std.specs.Prelude.{◌≡◌, ◌≢◌, ℕ, List, [], ◌∷◌, ◌++◌, length, Option, IfSome, ◌⊎◌}
use Rattle.std.specs.Ffi.{without_last}
use Rattle.adg_model.specs.declared.delivery.RawDelivery.{RawDelivery}
use Rattle.adg_model.specs.declared.fault.FeedKind.{FeedKind}
use Rattle.adg_model.specs.declared.fault.FeedKind.TheVariants as kinds
use Rattle.adg_model.specs.declared.fault.RedoFault.{RedoFault}
use Rattle.adg_model.specs.Feed.{Item, IsHeader, IsFeed, FeedFails, opening_bytes, deliveries_bytes, feed_bytes}
use Rattle.adg_model.specs.Sound.{IsRedoFault}
use Rattle.feed_run.specs.Report.{feed_line, redo_line, usage_line}
use Rattle.feed_run.specs.Standby.{Meaning, deliveries_of}

-- how a run ends
pub data Ending : Type 0 where
  FeedRead : Ending
  WordsRefused : Ending
  FeedRefused : FeedKind → ℕ → Ending
  RedoRefused : RedoFault → Ending
  SourceFailed : Ending
  SinkFailed : Ending
  NoMemory : Ending

abbrev pub status_of : Ending → ℕ
status_of FeedRead = 0
status_of WordsRefused = 1
status_of (FeedRefused kind byte) = 2
status_of (RedoRefused fault) = 3
status_of SourceFailed = 4
status_of SinkFailed = 5
status_of NoMemory = 6

-- the line that says so, where there is one
abbrev pub line_of : Ending → List ℕ
line_of FeedRead = []
line_of WordsRefused = usage_line
line_of (FeedRefused kind byte) = feed_line kind byte
line_of (RedoRefused fault) = redo_line fault
line_of SourceFailed = []
line_of SinkFailed = []
line_of NoMemory = []

-- the opening of a feed and some of its deliveries
abbrev pub read_bytes : (threads sessions : ℕ) → List (List Item) → List ℕ
read_bytes threads sessions deliveries = opening_bytes threads sessions ++ deliveries_bytes deliveries

-- a whole feed was read, through its stop frame and no further, and answered
pub record HasEnded (meaning : Meaning) (taken written : List ℕ) : Type 0 where
  pub threads : ℕ
  pub sessions : ℕ
  pub deliveries : List (List Item)
  pub feed : IsFeed threads sessions deliveries
  pub read : taken ≡ feed_bytes threads sessions deliveries
  pub ran : meaning threads sessions (deliveries_of deliveries) written

-- Nothing is wrong with these bytes but that they end: some of an opening, or an opening, whole deliveries and
-- some of another.
abbrev pub IsFeedFront : List ℕ → (threads sessions : ℕ) → List (List Item) → Type 0
IsFeedFront bytes threads sessions deliveries = FeedFails bytes threads sessions deliveries kinds.Truncated (length bytes)

-- The bytes of the source have this first fault, and the deliveries before it were answered. No more bytes were
-- taken than show it: they have it themselves, and, where it is not that they end, they have no other fault
-- than that without the last of them.
pub record HasFeedFault (meaning : Meaning) (source : Option (List ℕ)) (kind : FeedKind) (byte : ℕ) (taken written : List ℕ) : Type 0 where
  pub threads : ℕ
  pub sessions : ℕ
  pub deliveries : List (List Item)
  pub fails : IfSome source (λ bytes. FeedFails bytes threads sessions deliveries kind byte)
  pub shown : FeedFails taken threads sessions deliveries kind byte
  pub at_once : kind ≢ kinds.Truncated → IsFeedFront (without_last taken) threads sessions deliveries
  pub ran : meaning threads sessions (deliveries_of deliveries) written

-- deliveries were answered, and one more was read
pub record HasOneMore (meaning : Meaning) (taken written : List ℕ) : Type 0 where
  pub threads : ℕ
  pub sessions : ℕ
  pub deliveries : List (List Item)
  pub last : List Item
  pub feed : IsFeed threads sessions (deliveries ++ last ∷ [])
  pub read : taken ≡ read_bytes threads sessions (deliveries ++ last ∷ [])
  pub ran : meaning threads sessions (deliveries_of deliveries) written

abbrev pub all_of : {meaning : Meaning} {taken written : List ℕ} → HasOneMore meaning taken written → List RawDelivery
all_of h = deliveries_of (h.deliveries ++ h.last ∷ [])

-- with the last delivery the redo has this fault
pub record HasRedoFault (meaning : Meaning) (fault : RedoFault) (taken written : List ℕ) : Type 0 where
  pub one : HasOneMore meaning taken written
  pub bad : IsRedoFault one.threads (all_of one) fault

-- nothing is wrong with these bytes but that they end, and the deliveries that are whole in them were answered
pub record HasRunFront (meaning : Meaning) (bytes written : List ℕ) : Type 0 where
  pub threads : ℕ
  pub sessions : ℕ
  pub deliveries : List (List Item)
  pub front : IsFeedFront bytes threads sessions deliveries
  pub ran : meaning threads sessions (deliveries_of deliveries) written

-- the last delivery was answered, and of its lines a front was written, but not all
pub record IsCutTranscript (meaning : Meaning) (taken written : List ℕ) : Type 0 where
  pub before : List ℕ
  pub front : List ℕ
  pub cut : List ℕ
  pub one : HasOneMore meaning taken before
  pub ran : meaning one.threads one.sessions (all_of one) (before ++ (front ++ cut))
  pub some : cut ≢ []
  pub written_is : written ≡ before ++ front

-- How the run of a feed stops, before a line is written that says so. Where memory was wanting, a delivery
-- that the last byte taken ended may not have been answered.
abbrev pub Stops : Meaning → Ending → Option (List ℕ) → (taken written : List ℕ) → Type 0
Stops meaning FeedRead source taken written = HasEnded meaning taken written
Stops meaning WordsRefused source taken written = ⊥
Stops meaning (FeedRefused kind byte) source taken written = HasFeedFault meaning source kind byte taken written
Stops meaning (RedoRefused fault) source taken written = HasRedoFault meaning fault taken written
Stops meaning SourceFailed source taken written = HasRunFront meaning taken written
Stops meaning SinkFailed source taken written = IsCutTranscript meaning taken written
Stops meaning NoMemory source taken written = HasRunFront meaning taken written ⊎ HasRunFront meaning (without_last taken) written

-- the run of a feed stopped, and then the line of its ending was written
pub record StopsWithLine (meaning : Meaning) (ending : Ending) (source : Option (List ℕ)) (taken written : List ℕ) : Type 0 where
  pub before : List ℕ
  pub stops : Stops meaning ending source taken before
  pub then_line : written ≡ before ++ line_of ending

-- the endings of the run of a feed that a line tells
abbrev pub HasLine : Ending → Type 0
HasLine (FeedRefused kind byte) = Unit {0}
HasLine (RedoRefused fault) = Unit {0}
HasLine _ = ⊥

-- the same, but of the line only a front was written
pub record StopsInLine (meaning : Meaning) (source : Option (List ℕ)) (taken written : List ℕ) : Type 0 where
  pub ending : Ending
  pub told : HasLine ending
  pub before : List ℕ
  pub front : List ℕ
  pub cut : List ℕ
  pub stops : Stops meaning ending source taken before
  pub line : front ++ cut ≡ line_of ending
  pub some : cut ≢ []
  pub written_is : written ≡ before ++ front

-- the same, but there was no memory for the line
pub record StopsBeforeLine (meaning : Meaning) (source : Option (List ℕ)) (taken written : List ℕ) : Type 0 where
  pub ending : Ending
  pub told : HasLine ending
  pub stops : Stops meaning ending source taken written

-- how the run of a feed ends, with the line that says so
abbrev pub RunEnds : Meaning → Option (List ℕ) → Ending → (taken written : List ℕ) → Type 0
RunEnds meaning source WordsRefused taken written = ⊥
RunEnds meaning source SinkFailed taken written = IsCutTranscript meaning taken written ⊎ StopsInLine meaning source taken written
RunEnds meaning source NoMemory taken written = Stops meaning NoMemory source taken written ⊎ StopsBeforeLine meaning source taken written
RunEnds meaning source ending taken written = StopsWithLine meaning ending source taken written

-- nothing was read, and the usage line was written, or a front of it
pub record IsUsage (taken written cut : List ℕ) : Type 0 where
  pub nothing_read : taken ≡ []
  pub usage : written ++ cut ≡ usage_line

-- how a run ends whose words are refused
abbrev pub UsageEnds : Ending → (taken written : List ℕ) → Type 0
UsageEnds WordsRefused taken written = IsUsage taken written []
UsageEnds SinkFailed taken written = (cut : List ℕ) × (cut ≢ []) × IsUsage taken written cut
UsageEnds _ taken written = ⊥
