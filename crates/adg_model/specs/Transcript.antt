-- A legal transcript of a list of deliveries.
use Rattle.std.specs.Prelude.{◌≡◌, ℕ, ◌+◌, ◌≤◌, Bool, true, false, ◌==◌, if◌then◌else◌, List, [], ◌∷◌, ◌++◌, length, count_by, Option, Some, None, ◌⊎◌}
use Rattle.std.specs.List.{flat_map, filter_map, list_any, range_with_len, AllByRecursion, AllZip}
use Rattle.std.specs.Str.{bytes_eq}
use Rattle.adg_base.specs.declared.log.LogEntry.{LogEntry}
use Rattle.adg_base.specs.declared.vector.RedoRecord.{RedoRecord}
use Rattle.adg_base.specs.declared.command.CommandText.{CommandText}
use Rattle.adg_base.specs.declared.command.Command.TheVariants as command
use Rattle.adg_base.specs.declared.answer.Reply.{Reply}
use Rattle.adg_base.specs.declared.answer.Reply.TheVariants.{Rows, Populated, Synced, Shown, Aborted, BadQuery, NoTable, NotInMemory, NoColumn, WrongType, Down}
use Rattle.adg_base.specs.declared.answer.Line.{Line}
use Rattle.adg_base.specs.declared.answer.Lines.{Lines}
use Rattle.adg_model.specs.declared.delivery.RawDelivery.{RawDelivery}
use Rattle.adg_model.specs.Log.{frontier, merged_log, ReceivedFrom}
use Rattle.adg_model.specs.Command.{command_bytes}
use Rattle.adg_model.specs.Reply.{IsReply, lines_bytes}

-- a command of a delivery: its session, its number there from 1, and its text
pub record Asked : Type 0 where
  pub session : ℕ
  pub number : ℕ
  pub text : List ℕ

abbrev pub text_of : ℕ → CommandText → Option (List ℕ)
text_of session c = if c.session == session then Some c.text else None

-- the command texts of a session in their order
abbrev pub texts_of : ℕ → List CommandText → List (List ℕ)
texts_of session commands = filter_map (text_of session) commands

abbrev pub asked_from : ℕ → ℕ → List (List ℕ) → List Asked
asked_from session number [] = []
asked_from session number (text ∷ texts) =
    record { session = session; number = number; text = text } ∷ asked_from session (number + 1) texts

-- the commands in the order of their replies: session by session
abbrev pub all_asked : ℕ → List CommandText → List Asked
all_asked sessions commands = flat_map (λ s. asked_from s 1 (texts_of s commands)) (range_with_len 1 sessions)

-- the SCN that a reply names
abbrev pub scn_of : Reply → Option ℕ
scn_of (Rows scn answer col row) = Some scn
scn_of (Populated scn units) = Some scn
scn_of (Synced scn) = Some scn
scn_of (Shown scn) = Some scn
scn_of (Aborted scn) = Some scn
scn_of (BadQuery scn byte) = Some scn
scn_of (NoTable scn) = Some scn
scn_of (NotInMemory scn) = Some scn
scn_of (NoColumn scn) = Some scn
scn_of (WrongType scn) = Some scn
scn_of Down = None

abbrev pub reply_in : ℕ → Line → Option Reply
reply_in session l = if l.session == session then Some l.reply else None

-- the replies to a session in their order
abbrev pub replies_to : ℕ → List Line → List Reply
replies_to session lines = filter_map (reply_in session) lines

abbrev pub is_down : Reply → Bool
is_down Down = true
is_down other = false

abbrev pub is_aborted : Reply → Bool
is_aborted (Aborted scn) = true
is_aborted other = false

-- a reply is Down, or is the reply of its text
abbrev pub Answers : List LogEntry → ℕ → Asked → Line → Type 0
Answers log f a l =
    (a.session ≡ l.session) × (a.number ≡ l.number) × ((l.reply ≡ Down) ⊎ IsReply log f a.text l.reply)

-- SCNs that do not fall, from one on up to another
abbrev pub Rises : ℕ → ℕ → List ℕ → Type 0
Rises low high [] = low ≤ high
Rises low high (q ∷ qs) = (low ≤ q) × Rises q high qs

abbrev pub AllAre : ℕ → List ℕ → Type 0
AllAre f qs = AllByRecursion (λ q. q ≡ f) qs

-- after Synced each later SCN of the session, and the end, is the frontier
abbrev pub SyncHolds : ℕ → ℕ → List Reply → Type 0
SyncHolds f end [] = Unit {0}
SyncHolds f end (Synced scn ∷ later) = AllAre f (filter_map scn_of later) × (end ≡ f) × SyncHolds f end later
SyncHolds f end (other ∷ later) = SyncHolds f end later

abbrev pub AllDown : List Reply → Type 0
AllDown replies = AllByRecursion (λ r. is_down r ≡ true) replies

-- after Aborted or Down each later reply of the session is Down
abbrev pub DownStays : List Reply → Type 0
DownStays [] = Unit {0}
DownStays (r ∷ later) = (is_aborted r ≡ true → AllDown later) × (is_down r ≡ true → AllDown later) × DownStays later

abbrev pub is_abort : CommandText → Bool
is_abort c = bytes_eq c.text (command_bytes command.Abort)

-- how many lines have a reply of a sort
abbrev pub replies_that : (Reply → Bool) → List Line → ℕ
replies_that test lines = count_by (λ l. test l.reply) lines

-- where no command is ABORT, none is answered Down and the end is the frontier
pub record IsCalm (f : ℕ) (lines : Lines) : Type 0 where
  pub up : replies_that is_down lines.list ≡ 0
  pub reached : lines.end ≡ f

-- Legal lines of a delivery, with the last end before it, the frontier after it and the merged log then.
pub record IsLegal (sessions : ℕ) (log : List LogEntry) (floor f : ℕ) (commands : List CommandText) (lines : Lines) : Type 0 where
  -- one reply for each command, in order, with its meaning
  pub answered : AllZip (Answers log f) (all_asked sessions commands) lines.list
  -- inside a session no SCN falls; each is at least the last end and at most this one
  pub rises : (session : ℕ) → Rises floor lines.end (filter_map scn_of (replies_to session lines.list))
  pub ends : lines.end ≤ f
  pub synced : (session : ℕ) → SyncHolds f lines.end (replies_to session lines.list)
  pub calm : list_any is_abort commands ≡ false → IsCalm f lines
  -- where a command is ABORT, exactly one is answered Aborted
  pub aborts : list_any is_abort commands ≡ true → replies_that is_aborted lines.list ≡ 1
  pub stays : (session : ℕ) → DownStays (replies_to session lines.list)

-- The lines of deliveries, one after another: of each, the records received so far give the log and the
-- frontier, and the end before it is the floor.
abbrev pub LegalFrom : (threads sessions : ℕ) → List RawDelivery → ℕ → List RawDelivery → List Lines → Type 0
LegalFrom threads sessions earlier floor [] [] = Unit {0}
LegalFrom threads sessions earlier floor [] (l ∷ ls) = ⊥
LegalFrom threads sessions earlier floor (d ∷ ds) [] = ⊥
LegalFrom threads sessions earlier floor (d ∷ ds) (l ∷ ls) =
    (records : List (List RedoRecord)) × (length records ≡ threads) × ReceivedFrom 1 (earlier ++ d ∷ []) records
    × IsLegal sessions (merged_log records) floor (frontier records) d.commands l
    × LegalFrom threads sessions (earlier ++ d ∷ []) l.end ds ls

-- the bytes of the lines of deliveries from a number on
abbrev pub printed : ℕ → List Lines → List ℕ
printed delivery [] = []
printed delivery (l ∷ ls) = lines_bytes delivery l ++ printed (delivery + 1) ls

-- these bytes are a legal transcript of these deliveries
pub record IsTranscript (threads sessions : ℕ) (deliveries : List RawDelivery) (bytes : List ℕ) : Type 0 where
  pub lines : List Lines
  pub legal : LegalFrom threads sessions [] 0 deliveries lines
  pub print : bytes ≡ printed 1 lines
