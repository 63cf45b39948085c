-- All facts of a log together.
use Rattle.std.proofs.Common.{◌≡◌, ℕ, ◌≤◌, Bool, true, List, Some}
use Rattle.std.specs.List.{Contains}
use Rattle.adg_base.specs.Address.{Place}
use Rattle.adg_base.specs.declared.vector.Vector.TheVariants.{Commit}
use Rattle.adg_base.specs.declared.log.LogEntry.{LogEntry}
use Rattle.adg_model.specs.declared.mined.Mined.TheVariants as mined
use Rattle.adg_model.specs.Database.{Table, table_at, touched_by}
use Rattle.adg_model.specs.Mined.{mined_of}
use Rattle.core_rules.specs.Share.{NotRedefined}
use Rattle.core_rules.specs.LogFacts.{IsInMemory, LogHasFacts}
use Rattle.adg_model.specs.Sound.{IsLog}
use Rattle.core_rules.proofs.FactsOrder.{positions, rises, received}
use Rattle.core_rules.proofs.FactsTxns.{begun_once, ended_once, begun_to_touch, begun_to_end, touched_to_end}
use Rattle.core_rules.proofs.FactsRows.{same_row}

-- the facts of definitions and flags, of each log
abbrev pub NotedFact : List LogEntry → Type 0
NotedFact log =
    (t : ℕ) (a : Place) (e : LogEntry) (low high : ℕ) → Contains log e → touched_by t e.vector ≡ Some a → e.scn ≤ high
    → IsInMemory log a.obj low → NotRedefined log a.obj low high → mined_of log e ≡ Some (mined.Note t a)

abbrev pub FlaggedFact : List LogEntry → Type 0
FlaggedFact log =
    (t : ℕ) (a : Place) (e f : LogEntry) (flag : Bool) (low : ℕ) → Contains log e → Contains log f → touched_by t e.vector ≡ Some a
    → f.vector ≡ Commit t flag → IsInMemory log a.obj low → NotRedefined log a.obj low f.scn → flag ≡ true

abbrev pub SameTableFact : List LogEntry → Type 0
SameTableFact log =
    (obj low high : ℕ) (table : Table) → low ≤ high → table_at log low obj ≡ Some table → NotRedefined log obj low high → table_at log high obj ≡ Some table

abbrev pub ExtentsFact : List LogEntry → Type 0
ExtentsFact log = (obj scn : ℕ) (table : Table) → table_at log scn obj ≡ Some table → (1 ≤ table.extents) × (table.extents ≤ 256)

abbrev pub OfEachLog : (List LogEntry → Type 0) → Type 0
OfEachLog P = (log : List LogEntry) (frontier : ℕ) → IsLog log frontier → P log

pub log_has_facts : OfEachLog NotedFact → OfEachLog FlaggedFact → OfEachLog SameTableFact → OfEachLog ExtentsFact → LogHasFacts
log_has_facts noted flagged same_table extents log frontier is = record {
  positions = positions log frontier is;
  rises = rises log frontier is;
  received = received log frontier is;
  begun_once = begun_once log frontier is;
  ended_once = ended_once log frontier is;
  begun_to_touch = begun_to_touch log frontier is;
  begun_to_end = begun_to_end log frontier is;
  touched_to_end = touched_to_end log frontier is;
  noted = noted log frontier is;
  flagged = flagged log frontier is;
  same_table = same_table log frontier is;
  extents = extents log frontier is;
  same_row = same_row log frontier is;
}
