-- What a merger stands for.
use Rattle.std.specs.Prelude.{◌≡◌, ℕ, ◌+◌, ◌<◌, ◌==◌, if◌then◌else◌, List, [], ◌∷◌, ◌++◌, length, map, Option, Some, None, Result, Ok, Err, ◌⊎◌}
use Rattle.std.specs.List.{flat_map}
use Rattle.adg_base.specs.declared.vector.RedoRecord.{RedoRecord}
use Rattle.adg_base.specs.declared.log.LogEntry.{LogEntry}
use Rattle.adg_model.specs.declared.fault.RedoFault.{RedoFault}
use Rattle.adg_model.specs.declared.delivery.RedoPiece.{RedoPiece}
use Rattle.adg_model.specs.declared.delivery.RawDelivery.{RawDelivery}
use Rattle.adg_model.specs.Records.{HasRecords, HasBadRecord, bytes_for, thread_text}
use Rattle.adg_model.specs.Log.{thread_entries, frontier, merged_log, greatest}
use Rattle.redo_frames.specs.Assembly.{next_number}
use Rattle.log_merger.specs.declared.refused.MergeRefused.{MergeRefused}
use Rattle.log_merger.specs.declared.refused.MergeRefused.TheVariants.{Redo, Memory}
use Rattle.log_merger.specs.Thread.{Receiving, HasRead, IsRead, IsFaultOf}
use Rattle.log_merger.specs.Merge.{above}

-- the threads, how many entries were given, and the refusal that was answered
pub record Merging : Type 0 where
  pub threads : List Receiving
  pub given : ℕ
  pub refused : Option RedoFault

-- the text that was accepted of each thread: none yet, and with one more piece of a thread
abbrev pub no_texts : ℕ → List ℕ
no_texts thread = []

abbrev pub with_piece : ℕ → List ℕ → (ℕ → List ℕ) → ℕ → List ℕ
with_piece thread piece texts t = if t == thread then texts t ++ piece else texts t

-- the texts of some deliveries, and with some pieces of one more
abbrev pub texts_of : List RawDelivery → ℕ → List ℕ
texts_of deliveries thread = thread_text thread deliveries

abbrev pub texts_with : List RawDelivery → List RedoPiece → ℕ → List ℕ
texts_with deliveries pieces thread = thread_text thread deliveries ++ flat_map (bytes_for thread) pieces

-- these are the records of the texts of the threads from one on
abbrev pub RecordsFrom : ℕ → (ℕ → List ℕ) → List (List RedoRecord) → Type 0
RecordsFrom thread texts [] = Unit {0}
RecordsFrom thread texts (records ∷ more) = HasRecords (texts thread) records × RecordsFrom (thread + 1) texts more

-- The lowest of so many threads whose text has a bad record, and that record: the threads below it
-- have none.
pub record IsFirstBad (threads : ℕ) (texts : ℕ → List ℕ) (fault : RedoFault) : Type 0 where
  pub below : List (List RedoRecord)
  pub records : List RedoRecord
  pub good : RecordsFrom 1 texts below
  pub thread : fault.thread ≡ length below + 1
  pub is_thread : length below < threads
  pub number : fault.number ≡ length records + 1
  pub bad : HasBadRecord (texts fault.thread) records fault.kind

-- the records of a thread that are read: those behind the entries given, and those since
pub record Part : Type 0 where
  pub shown : List RedoRecord
  pub more : List RedoRecord

abbrev pub part_records : Part → List RedoRecord
part_records p = p.shown ++ p.more

-- A thread has its text and these records. Of those shown the entries above an SCN wait, and of the
-- others all.
pub record IsThread (thread low : ℕ) (text : List ℕ) (t : Receiving) (p : Part) : Type 0 where
  pub number : t.number ≡ thread
  pub read : HasRead t text (p.shown ++ p.more)
  pub waiting : t.waiting ≡ above low (thread_entries thread 1 p.shown) ++ thread_entries thread (length p.shown + 1) p.more

-- so it is for the threads from one on
abbrev pub ThreadsFrom : ℕ → ℕ → (ℕ → List ℕ) → List Receiving → List Part → Type 0
ThreadsFrom thread low texts [] [] = Unit {0}
ThreadsFrom thread low texts [] (p ∷ ps) = ⊥
ThreadsFrom thread low texts (t ∷ ts) [] = ⊥
ThreadsFrom thread low texts (t ∷ ts) (p ∷ ps) = IsThread thread low (texts thread) t p × ThreadsFrom (thread + 1) low texts ts ps

abbrev pub shown_of : List Part → List (List RedoRecord)
shown_of parts = map (λ p. p.shown) parts

abbrev pub records_of : List Part → List (List RedoRecord)
records_of parts = map part_records parts

-- A merger stands for the texts that were accepted, and for the entries that were given of their
-- merged log: the whole log of the records behind them.
pub record StandsFor (m : Merging) (texts : ℕ → List ℕ) (given : List LogEntry) : Type 0 where
  pub parts : List Part
  pub threads : ThreadsFrom 1 (frontier (shown_of parts)) texts m.threads parts
  pub log : given ≡ merged_log (shown_of parts)
  pub count : m.given ≡ length given

-- what was given is the merged log of the records of so many threads
pub record IsMerged (threads : ℕ) (texts : ℕ → List ℕ) (given : List LogEntry) : Type 0 where
  pub records : List (List RedoRecord)
  pub all : length records ≡ threads
  pub received : RecordsFrom 1 texts records
  pub log : given ≡ merged_log records

-- The entries go on where those given before end, and with them they are the merged log.
pub record Merges (old new : Merging) (texts : ℕ → List ℕ) (given entries : List LogEntry) : Type 0 where
  pub stands : StandsFor new texts (given ++ entries)
  pub merged : IsMerged (length old.threads) texts (given ++ entries)

-- what a drain leaves, where these were the texts and the entries given before
abbrev pub Drains : Merging → Merging → (ℕ → List ℕ) → List LogEntry → Result (List LogEntry) MergeRefused → Type 0
Drains old new texts given (Ok entries) = Merges old new texts given entries
Drains old new texts given (Err (Redo fault)) = StandsFor new texts given × (old.refused ≡ None → IsFirstBad (length old.threads) texts fault)
Drains old new texts given (Err Memory) = StandsFor new texts given

-- the refusal that a drain leaves for the next one
abbrev pub refusal_of : {T : Type 0} → Result T MergeRefused → Option RedoFault
refusal_of (Ok entries) = None
refusal_of (Err (Redo fault)) = Some fault
refusal_of (Err Memory) = None

-- the greatest number that the next record of a thread has
abbrev pub highest_number : Merging → ℕ
highest_number m = greatest (map (λ t. next_number t.assembly) m.threads)

-- Of the threads read in turn the first with a bad record is refused, and those before it are read
-- whole.
abbrev pub RefusesFirst : List Receiving → List Receiving → RedoFault → Type 0
RefusesFirst [] new fault = ⊥
RefusesFirst (o ∷ os) [] fault = ⊥
RefusesFirst (o ∷ os) (n ∷ ns) fault = IsFaultOf o fault ⊎ (IsRead n × RefusesFirst os ns fault)
