-- A sound log: each entry passes the eight checks against the entries before it.
use Rattle.std.specs.Prelude.{◌≡◌, ℕ, ◌+◌, ◌*◌, ◌<◌, ◌≤◌, Bool, true, false, not, nat_lt, ◌&&◌, List, [], ◌∷◌, ◌++◌, length, Option, Some, None}
use Rattle.adg_base.specs.declared.value.ColKind.{ColKind}
use Rattle.adg_base.specs.declared.value.ColKind.TheVariants as kind
use Rattle.adg_base.specs.declared.value.Value.{Value}
use Rattle.adg_base.specs.declared.value.Value.TheVariants as value
use Rattle.adg_base.specs.declared.vector.Vector.{Vector}
use Rattle.adg_base.specs.declared.vector.Vector.TheVariants.{Begin, Put, Delete, Undo, Commit, Abort, Create, DropObject, AddColumn, NoInMemory, EndThread}
use Rattle.adg_base.specs.declared.vector.RedoRecord.{RedoRecord}
use Rattle.adg_base.specs.declared.log.LogEntry.{LogEntry}
use Rattle.adg_model.specs.declared.delivery.RawDelivery.{RawDelivery}
use Rattle.adg_model.specs.declared.fault.CheckKind.{CheckKind}
use Rattle.adg_model.specs.declared.fault.CheckKind.TheVariants.{TxnTwice, TxnUnknown, ObjectTwice, NoObject, BadAddress, BadRow, NothingToUndo, BadFlag}
use Rattle.adg_model.specs.declared.fault.RedoKind.{RedoKind}
use Rattle.adg_model.specs.declared.fault.RedoKind.TheVariants.{Frame, BadVector, Unsound}
use Rattle.adg_model.specs.declared.fault.RedoFault.{RedoFault}
use Rattle.adg_model.specs.Spelling.{IsVector}
use Rattle.adg_model.specs.Records.{thread_text, HasBadRecord}
use Rattle.adg_model.specs.Log.{merged_log, numbered, ReceivedFrom}
use Rattle.adg_model.specs.Database.{Database, Table, after, no_database, database, has_change}
use Rattle.adg_base.specs.Address.{place}

-- a check that has to hold, and what is checked after it
abbrev pub demand : Bool → CheckKind → Option CheckKind → Option CheckKind
demand true refusal later = later
demand false refusal later = Some refusal

abbrev pub is_running : Database → ℕ → Bool
is_running db txn = db.begun txn && not (db.ended txn)

-- the object is there, and what is checked of its definition
abbrev pub on_table : Option Table → (Table → Option CheckKind) → Option CheckKind
on_table None later = Some NoObject
on_table (Some table) later = later table

-- a slot of a block of the object
abbrev pub has_address : Table → ℕ → ℕ → Bool
has_address table block slot = nat_lt slot 64 && nat_lt block (16 * table.extents)

abbrev pub fits_kind : Value → ColKind → Bool
fits_kind value.Null k = true
fits_kind (value.Int n) kind.Int = true
fits_kind (value.Int n) kind.Text = false
fits_kind (value.Text t) kind.Int = false
fits_kind (value.Text t) kind.Text = true

-- one value for each column, Null or of its kind
abbrev pub fits_row : List Value → List ColKind → Bool
fits_row [] [] = true
fits_row [] (k ∷ ks) = false
fits_row (v ∷ vs) [] = false
fits_row (v ∷ vs) (k ∷ ks) = fits_kind v k && fits_row vs ks

-- a change of a running transaction at an address of an object
abbrev pub on_change : Database → ℕ → ℕ → ℕ → ℕ → (Table → Option CheckKind) → Option CheckKind
on_change db txn o b s later =
    demand (is_running db txn) TxnUnknown (on_table (db.tables o) (λ table. demand (has_address table b s) BadAddress (later table)))

abbrev pub same_flag : Bool → Bool → Bool
same_flag true b = b
same_flag false b = not b

-- the first check that a vector fails
abbrev pub refusal : Database → Vector → Option CheckKind
refusal db (Begin txn) = demand (not (db.begun txn)) TxnTwice None
refusal db (Put txn o b s row) = on_change db txn o b s (λ table. demand (fits_row row table.kinds) BadRow None)
refusal db (Delete txn o b s) = on_change db txn o b s (λ table. None)
refusal db (Undo txn o b s) = on_change db txn o b s (λ table. demand (has_change (place o b s) (db.pending txn)) NothingToUndo None)
refusal db (Commit txn flag) = demand (is_running db txn) TxnUnknown (demand (same_flag flag (db.noted txn)) BadFlag None)
refusal db (Abort txn) = demand (is_running db txn) TxnUnknown None
refusal db (Create o e f columns) = demand (not (db.created o)) ObjectTwice None
refusal db (DropObject o) = on_table (db.tables o) (λ table. None)
refusal db (AddColumn o k) = on_table (db.tables o) (λ table. demand (nat_lt (length table.kinds) 16) BadRow None)
refusal db (NoInMemory o) = on_table (db.tables o) (λ table. None)
refusal db EndThread = None

-- entries that may follow what has made a database: each has a spelling and passes the checks
abbrev pub SoundFrom : Database → List LogEntry → Type 0
SoundFrom db [] = Unit {0}
SoundFrom db (e ∷ es) = IsVector 1 e.vector × (refusal db e.vector ≡ None) × SoundFrom (after db e.vector) es

abbrev pub IsSound : List LogEntry → Type 0
IsSound log = SoundFrom no_database log

-- SCNs that do not fall, from one on, none above another
abbrev pub ScnsWithin : ℕ → ℕ → List LogEntry → Type 0
ScnsWithin low high [] = Unit {0}
ScnsWithin low high (e ∷ es) = (low ≤ e.scn) × (e.scn ≤ high) × ScnsWithin e.scn high es

-- a merged log up to a frontier: it is sound, its positions run on from 0, and its SCNs are from 1 on, do not fall, and
-- are at most the frontier
pub record IsLog (log : List LogEntry) (frontier : ℕ) : Type 0 where
  pub sound : IsSound log
  pub places : numbered 0 log ≡ log
  pub scns : ScnsWithin 1 frontier log

-- entries that continue a log with one frontier to a later one: the log with them is sound, their
-- positions run on, and their SCNs are above the one and at most the other
pub record IsContinuation (log : List LogEntry) (old : ℕ) (entries : List LogEntry) (new : ℕ) : Type 0 where
  pub sound : IsSound (log ++ entries)
  pub places : numbered (length log) entries ≡ entries
  pub scns : ScnsWithin (old + 1) new entries
  pub forward : old ≤ new

-- the first entry of a log that fails a check, and the first check that it fails
pub record IsFirstUnsound (log : List LogEntry) (entry : LogEntry) (check : CheckKind) : Type 0 where
  pub before : List LogEntry
  pub later : List LogEntry
  pub split : log ≡ before ++ entry ∷ later
  pub sound : IsSound before
  pub fails : refusal (database before) entry.vector ≡ Some check

-- The lowest thread whose text has a bad record, and that record: the threads below it have none.
pub record IsFirstBadRecord (threads : ℕ) (deliveries : List RawDelivery) (fault : RedoFault) : Type 0 where
  pub below : List (List RedoRecord)
  pub records : List RedoRecord
  pub received : ReceivedFrom 1 deliveries below
  pub thread : fault.thread ≡ length below + 1
  pub is_thread : length below < threads
  pub number : fault.number ≡ length records + 1
  pub bad : HasBadRecord (thread_text fault.thread deliveries) records fault.kind

-- All records can be read, and this is the first entry of their merged log that is not sound.
pub record IsFirstUnsoundEntry (threads : ℕ) (deliveries : List RawDelivery) (fault : RedoFault) : Type 0 where
  pub records : List (List RedoRecord)
  pub received : ReceivedFrom 1 deliveries records
  pub all : length records ≡ threads
  pub entry : LogEntry
  pub check : CheckKind
  pub unsound : IsFirstUnsound (merged_log records) entry check
  pub thread : fault.thread ≡ entry.thread
  pub number : fault.number ≡ entry.number
  pub kind : fault.kind ≡ Unsound entry.index check

-- The redo fault after some deliveries: a bad record comes before an unsound entry.
abbrev pub IsRedoFault : ℕ → List RawDelivery → RedoFault → Type 0
IsRedoFault threads deliveries fault = by_kind fault.kind
  where
    by_kind : RedoKind → Type 0
    by_kind (Frame f) = IsFirstBadRecord threads deliveries fault
    by_kind (BadVector index) = IsFirstBadRecord threads deliveries fault
    by_kind (Unsound index check) = IsFirstUnsoundEntry threads deliveries fault
