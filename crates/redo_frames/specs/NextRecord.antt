-- What the first bytes of a text are, where a thread stands at a mark.
use Rattle.std.specs.Prelude.{◌≡◌, ℕ, ◌-◌, ◌≤◌, List, [], ◌∷◌, length, take, drop, slice_index, Option, Some, None}
use Rattle.adg_model.specs.declared.fault.FrameKind.{FrameKind}
use Rattle.adg_model.specs.Records.{Raw, raw_bytes, AreRaws, Mark, IsPart, record_fault, stated_len, stated_scn}
use Rattle.redo_frames.specs.declared.next_record.NextRecord.{NextRecord}
use Rattle.redo_frames.specs.declared.next_record.NextRecord.TheVariants.{Part, Whole, Fault}

-- the record that begins here, where a whole one does
abbrev pub raw_at : List ℕ → Raw
raw_at bytes = record { scn = stated_scn bytes; count = slice_index bytes 10; body = take (stated_len bytes - 13) (drop 11 bytes) }

-- a whole record begins here, which may follow where the thread stands
pub record Begins (mark : Mark) (bytes : List ℕ) : Type 0 where
  pub long : 13 ≤ stated_len bytes
  pub whole : stated_len bytes ≤ length bytes
  pub follows : AreRaws mark (raw_at bytes ∷ [])
  pub spelled : raw_bytes (raw_at bytes) ≡ take (stated_len bytes) bytes

-- less than a whole record with nothing wrong so far, or the fault of the record that begins here
abbrev pub Stops : Option FrameKind → Mark → List ℕ → Type 0
Stops None mark bytes = IsPart bytes × (record_fault mark bytes ≡ None)
Stops (Some kind) mark bytes = record_fault mark bytes ≡ Some kind

abbrev pub IsNextRecord : NextRecord → Mark → List ℕ → Type 0
IsNextRecord Part mark bytes = Stops None mark bytes
IsNextRecord (Whole len scn) mark bytes = Begins mark bytes × (len ≡ stated_len bytes) × (scn ≡ stated_scn bytes)
IsNextRecord (Fault kind) mark bytes = Stops (Some kind) mark bytes
