-- What the checks of one entry find, and what becomes of a dictionary.
use Rattle.std.specs.Prelude.{◌≡◌, ℕ, true, List, [], ◌∷◌, ◌++◌, Option, Some, Result}
use Rattle.adg_base.specs.Address.{Place, place}
use Rattle.adg_base.specs.declared.definition.Definition.{Definition}
use Rattle.adg_base.specs.declared.vector.Vector.{Vector}
use Rattle.adg_base.specs.declared.log.LogEntry.{LogEntry}
use Rattle.adg_model.specs.declared.fault.CheckKind.{CheckKind}
use Rattle.adg_model.specs.Database.{Database, Table, database}
use Rattle.adg_model.specs.Defined.{IsDefinition}
use Rattle.adg_model.specs.Sound.{refusal, is_running, on_change, has_address}
use Rattle.dictionary.specs.declared.refused.RedoRefused.{RedoRefused}
use Rattle.dictionary.specs.Standing.{Known, StandsFor, MayFollow, IsAnswer}

-- The answer to a vector is what the definition of a sound log finds.
abbrev pub Answers : {T : Type 0} → Known → Vector → Result T RedoRefused → Type 0
Answers old vector result = (log : List LogEntry) → StandsFor old log → IsAnswer result (refusal (database log) vector)

-- An entry with this SCN and this vector is taken up.
abbrev pub TakesUp : Known → Known → ℕ → Vector → Type 0
TakesUp old new scn vector =
    (log : List LogEntry) (entry : LogEntry) → StandsFor old log → MayFollow log entry → entry.scn ≡ scn → entry.vector ≡ vector → StandsFor new (log ++ entry ∷ [])

-- a change at an address of an object
pub record IsPlaced (db : Database) (obj block slot : ℕ) (addr : Place) (definition : Definition) : Type 0 where
  pub table : Table
  pub there : db.tables obj ≡ Some table
  pub defined : IsDefinition obj table definition
  pub within : has_address table block slot ≡ true
  pub at : addr ≡ place obj block slot

-- the check that a change of a running transaction fails, whatever is checked after its address
abbrev pub IsMisplaced : Database → (obj block slot : ℕ) → CheckKind → Type 0
IsMisplaced db obj block slot check =
    (txn : ℕ) (later : Table → Option CheckKind) → is_running db txn ≡ true → on_change db txn obj block slot later ≡ Some check
