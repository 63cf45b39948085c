-- An assembler: the records of a thread that it put together from the bytes fed so far.
use Rattle.std.specs.Prelude.{◌≡◌, ℕ, ◌+◌, List, [], ◌∷◌, ◌++◌, length, Option, Some, None, Result, Ok, Err}
use Rattle.adg_model.specs.declared.fault.FrameKind.{FrameKind}
use Rattle.adg_model.specs.Records.{Raw, Mark, first_mark, mark_after}
use Rattle.redo_frames.specs.declared.record.RawRecord.{RawRecord}
use Rattle.redo_frames.specs.declared.record.FrameRefused.{FrameRefused}
use Rattle.redo_frames.specs.declared.record.FrameRefused.TheVariants.{Refused, Memory}
use Rattle.redo_frames.specs.Reading.{Stands}

-- how many records were taken, those that are held, the bytes of an unfinished one, where the thread
-- stands after them, and what is wrong with the record that comes next
pub record Assembly : Type 0 where
  pub taken : ℕ
  pub held : List Raw
  pub rest : List ℕ
  pub mark : Mark
  pub refused : Option FrameKind

abbrev pub empty : Assembly
empty = record { taken = 0; held = []; rest = []; mark = first_mark; refused = None }

-- the number of the record that comes after those held
abbrev pub next_number : Assembly → ℕ
next_number a = a.taken + length a.held + 1

-- The bytes fed so far are a text, and the records taken were these: they and those held are the
-- records of the text, up to its first fault.
pub record Holds (a : Assembly) (text : List ℕ) (taken : List Raw) : Type 0 where
  pub count : length taken ≡ a.taken
  pub mark : a.mark ≡ mark_after first_mark (taken ++ a.held)
  pub stands : Stands a.refused first_mark text (taken ++ a.held) a.rest

-- what feed answers where it leaves an assembler so
abbrev pub IsAnswer : {T : Type 0} → Result T FrameRefused → Assembly → Type 0
IsAnswer (Ok done) a = a.refused ≡ None
IsAnswer (Err (Refused number kind)) a = (a.refused ≡ Some kind) × (number ≡ next_number a)
IsAnswer (Err Memory) a = a.refused ≡ None

-- a record without its number
abbrev pub raw_of_record : RawRecord → Raw
raw_of_record r = record { scn = r.scn; count = r.count; body = r.body }

-- what take gives, as a list
abbrev pub given : Option RawRecord → List Raw
given None = []
given (Some r) = raw_of_record r ∷ []
