-- What a merger has received of one thread and not given yet.
use Rattle.std.specs.Prelude.{◌≡◌, ℕ, ◌+◌, Bool, true, false, List, [], ◌∷◌, ◌++◌, length, map, None, Result, Ok, Err}
use Rattle.adg_base.specs.declared.vector.RedoRecord.{RedoRecord}
use Rattle.adg_base.specs.declared.log.LogEntry.{LogEntry}
use Rattle.adg_model.specs.declared.fault.RedoFault.{RedoFault}
use Rattle.adg_model.specs.declared.fault.RedoKind.TheVariants.{BadVector}
use Rattle.adg_model.specs.Spelling.{AreVectors, IsBadVector}
use Rattle.adg_model.specs.Records.{Raw, Mark, mark_after, raw_of, AreReadable, HasBadRecord}
use Rattle.adg_model.specs.Log.{record_entries, thread_entries}
use Rattle.redo_frames.specs.declared.record.RawRecord.{RawRecord}
use Rattle.redo_frames.specs.Assembly.{Assembly, Holds, raw_of_record}
use Rattle.log_merger.specs.declared.refused.MergeRefused.{MergeRefused}
use Rattle.log_merger.specs.declared.refused.MergeRefused.TheVariants.{Redo, Memory}

-- the thread's number, its assembler, where it stands after the whole records, those of them whose
-- vectors are not read yet, and the entries that wait to be given
pub record Receiving : Type 0 where
  pub number : ℕ
  pub assembly : Assembly
  pub mark : Mark
  pub unread : List RawRecord
  pub waiting : List LogEntry

-- records without their numbers
abbrev pub raws : List RawRecord → List Raw
raws records = map raw_of_record records

-- the numbers of records count up from one
abbrev pub NumberedFrom : ℕ → List RawRecord → Type 0
NumberedFrom number [] = Unit {0}
NumberedFrom number (r ∷ rs) = (r.number ≡ number) × NumberedFrom (number + 1) rs

-- The bytes received are a text. Of its records, up to the first bad frame, these are read, and the
-- unread ones follow them.
pub record HasRead (t : Receiving) (text : List ℕ) (records : List RedoRecord) : Type 0 where
  pub holds : Holds t.assembly text (map raw_of records ++ raws t.unread)
  pub none_held : t.assembly.held ≡ []
  pub readable : AreReadable records
  pub numbers : NumberedFrom (length records + 1) t.unread
  pub mark : t.mark ≡ t.assembly.mark

-- The records that an assembler held came behind those that are unread.
pub record Takes (a b : Assembly) (from to : Mark) (before after : List RawRecord) : Type 0 where
  pub more : List RawRecord
  pub added : after ≡ before ++ more
  pub held : a.held ≡ raws more
  pub numbers : NumberedFrom (a.taken + 1) more
  pub mark : to ≡ mark_after from a.held
  pub rest : b ≡ record a { taken = a.taken + length more; held = [] }

-- The first unread record was read, and its entries wait behind the others.
pub record ReadsOne (old new : Receiving) : Type 0 where
  pub raw : RawRecord
  pub read : RedoRecord
  pub first : old.unread ≡ raw ∷ new.unread
  pub same : raw_of read ≡ raw_of_record raw
  pub readable : AreVectors (length read.vectors) read.vectors
  pub entries : new.waiting ≡ old.waiting ++ record_entries old.number raw.number read.scn 1 read.vectors
  pub rest : new ≡ record old { unread = new.unread; waiting = new.waiting }

-- A vector of the first unread record cannot be read, and the fault says which.
pub record BadNext (t : Receiving) (fault : RedoFault) : Type 0 where
  pub raw : RawRecord
  pub later : List RawRecord
  pub first : t.unread ≡ raw ∷ later
  pub index : ℕ
  pub fault_is : fault ≡ record { thread = t.number; number = raw.number; kind = BadVector index }
  pub bad : IsBadVector raw.count raw.body index

-- what reading the first unread record does, where there is one
abbrev pub ReadsNext : Receiving → Receiving → Result Bool MergeRefused → Type 0
ReadsNext old new (Ok true) = ReadsOne old new
ReadsNext old new (Ok false) = (old.unread ≡ []) × (new ≡ old)
ReadsNext old new (Err (Redo fault)) = (new ≡ old) × BadNext old fault
ReadsNext old new (Err Memory) = new ≡ old

-- Some more records are read, and their entries wait behind the others.
pub record ReadsSome (old new : Receiving) (text : List ℕ) (records : List RedoRecord) : Type 0 where
  pub more : List RedoRecord
  pub read : HasRead new text (records ++ more)
  pub entries : new.waiting ≡ old.waiting ++ thread_entries old.number (length records + 1) more

-- so it is, whatever was received and read before
pub record ReadsOn (old new : Receiving) : Type 0 where
  pub number : new.number ≡ old.number
  pub assembly : new.assembly ≡ old.assembly
  pub reads : (text : List ℕ) (records : List RedoRecord) → HasRead old text records → ReadsSome old new text records

-- all that was received is read, and nothing is wrong with it so far
pub record IsRead (t : Receiving) : Type 0 where
  pub unread : t.unread ≡ []
  pub good : t.assembly.refused ≡ None

-- the first bad record of a text of a thread
pub record IsBadRecord (thread : ℕ) (text : List ℕ) (fault : RedoFault) : Type 0 where
  pub records : List RedoRecord
  pub thread_is : fault.thread ≡ thread
  pub number : fault.number ≡ length records + 1
  pub bad : HasBadRecord text records fault.kind

-- the fault is that of the bytes received
abbrev pub IsFaultOf : Receiving → RedoFault → Type 0
IsFaultOf t fault = (text : List ℕ) (records : List RedoRecord) → HasRead t text records → IsBadRecord t.number text fault
