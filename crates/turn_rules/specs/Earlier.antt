-- What earlier deliveries tell by their lines: where an object was populated last, and which objects never were.
use Rattle.std.specs.Prelude.{◌≡◌, ℕ, ◌<◌, nat_lt, false, if◌then◌else◌, List, [], ◌∷◌, None, Some, ◌⊎◌}
use Rattle.adg_base.specs.declared.log.LogEntry.{LogEntry}
use Rattle.adg_base.specs.declared.command.CommandText.{CommandText}
use Rattle.adg_base.specs.declared.answer.Lines.{Lines}
use Rattle.adg_model.specs.Spelling.{IsObj}
use Rattle.adg_model.specs.Transcript.{replies_that, is_aborted}
use Rattle.core_rules.specs.Share.{NotRedefined}
use Rattle.core_rules.specs.State.{Units}
use Rattle.core_rules.specs.ColumnUse.{Before, told_to, last_populated, has_abort, others_populate, anyone_populates, HasReadyUnits, HasNoUnits}

-- a delivery that is over: its commands and its lines
pub record Past : Type 0 where
  pub commands : List CommandText
  pub lines : Lines

-- an object of which a session of the delivery was told last that it is populated, at this SCN; and no other session
-- populates it
pub record PopulatedIn (p : Past) (obj scn : ℕ) : Type 0 where
  pub object : IsObj obj
  pub session : ℕ
  pub told : last_populated obj (told_to session p.commands p.lines) ≡ Some scn
  pub alone : others_populate session obj p.commands ≡ false

-- no session of the delivery was told that the object is populated
abbrev pub NoneTold : Past → ℕ → Type 0
NoneTold p obj = (session : ℕ) → last_populated obj (told_to session p.commands p.lines) ≡ None

-- The object was populated last at this SCN, in one of these deliveries, the latest of which stands first; and no
-- ABORT stands in that one or in a later one.
abbrev pub PopulatedLast : List Past → (obj scn : ℕ) → Type 0
PopulatedLast [] obj scn = ⊥
PopulatedLast (p ∷ older) obj scn =
    (has_abort p.commands ≡ false) × (PopulatedIn p obj scn ⊎ (NoneTold p obj × PopulatedLast older obj scn))

-- No POPULATE of the object stands in one of these deliveries behind the last that answered Aborted.
abbrev pub NeverPopulated : List Past → (obj : ℕ) → Type 0
NeverPopulated [] obj = Unit {0}
NeverPopulated (p ∷ older) obj =
    (0 < replies_that is_aborted p.lines.list) ⊎ ((anyone_populates obj p.commands ≡ false) × NeverPopulated older obj)

abbrev pub told_by_lines : List Past → Before
told_by_lines pasts = record { populated = PopulatedLast pasts; unpopulated = NeverPopulated pasts }

-- the end of the last of these deliveries that answered Aborted, 0 where none did
abbrev pub born_by_lines : List Past → ℕ
born_by_lines [] = 0
born_by_lines (p ∷ older) = if nat_lt 0 (replies_that is_aborted p.lines.list) then p.lines.end else born_by_lines older

-- What the lines tell is so of the units: those of an object that was populated last at an SCN, and is not redefined
-- since, are ready then; none of an object stands that was never populated.
pub record UnitsAreTold (log : List LogEntry) (frontier : ℕ) (units : Units) (pasts : List Past) : Type 0 where
  pub populated : (obj scn : ℕ) → PopulatedLast pasts obj scn → NotRedefined log obj scn frontier → HasReadyUnits log units obj scn
  pub never : (obj : ℕ) → NeverPopulated pasts obj → HasNoUnits units obj
