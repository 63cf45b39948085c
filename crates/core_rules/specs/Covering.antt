-- What a scan needs of the unit that it looks at.
use Rattle.std.specs.Prelude.{ℕ, ◌<◌, ◌≤◌, List}
use Rattle.adg_base.specs.declared.log.LogEntry.{LogEntry}
use Rattle.core_rules.specs.Share.{CommitsAt, NotRedefined}
use Rattle.core_rules.specs.State.{ColumnUnit}
use Rattle.core_rules.specs.UnitParts.{UnitIsBuilt, IsCovered}

-- A unit covers an SCN: its columns are the rows at its snapshot, which is not above the SCN; since then, up to the
-- SCN, the object's definition did not change, and what a transaction that committed touched in the extent is marked.
pub record Covers (log : List LogEntry) (obj extent scn : ℕ) (u : ColumnUnit) : Type 0 where
  pub built : UnitIsBuilt log obj extent u
  pub snapshot : u.snapshot ≤ scn
  pub same : NotRedefined log obj u.snapshot scn
  pub marked : (t commit : ℕ) → CommitsAt log t commit → u.snapshot < commit → commit ≤ scn → IsCovered log t obj extent u
