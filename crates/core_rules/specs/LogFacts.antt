-- A log up to a frontier, and the facts of it that the invariant of the core rests on.
use Rattle.std.specs.Prelude.{◌≡◌, ℕ, ◌<◌, ◌≤◌, Bool, true, List, Some}
use Rattle.std.specs.List.{Contains}
use Rattle.adg_base.specs.Address.{Place}
use Rattle.adg_base.specs.declared.vector.Vector.TheVariants.{Commit}
use Rattle.adg_base.specs.declared.log.LogEntry.{LogEntry}
use Rattle.adg_model.specs.declared.mined.Mined.TheVariants as mined
use Rattle.adg_model.specs.Database.{Table, rows_at, table_at, touched, touched_by}
use Rattle.adg_model.specs.Sound.{IsLog}
use Rattle.adg_model.specs.Mined.{mined_of}
use Rattle.core_rules.specs.Share.{begins, ends, CommitsAt, NotRedefined}
use Rattle.core_rules.specs.State.{At}

-- an object is in-memory at an SCN
pub record IsInMemory (log : List LogEntry) (obj scn : ℕ) : Type 0 where
  pub table : Table
  pub defined : table_at log scn obj ≡ Some table
  pub flag : table.flag ≡ true

-- no transaction that committed above one SCN and at most at another touched an address
abbrev pub NotTouched : List LogEntry → (low high : ℕ) → Place → Type 0
NotTouched log low high a = (t scn : ℕ) → CommitsAt log t scn → low < scn → scn ≤ high → Contains (touched t log) a → ⊥

pub record LogFacts (log : List LogEntry) (frontier : ℕ) : Type 0 where
  -- an entry's position is its place, SCNs do not fall, and none is above the frontier
  pub positions : (n : ℕ) (e : LogEntry) → At log n e → e.pos ≡ n
  pub rises : (i j : ℕ) (e f : LogEntry) → i ≤ j → At log i e → At log j f → e.scn ≤ f.scn
  pub received : (e : LogEntry) → Contains log e → e.scn ≤ frontier
  -- a transaction begins at most once and ends at most once
  pub begun_once : (t : ℕ) (e f : LogEntry) → Contains log e → Contains log f → begins t e.vector ≡ true → begins t f.vector ≡ true → e ≡ f
  pub ended_once : (t : ℕ) (e f : LogEntry) → Contains log e → Contains log f → ends t e.vector ≡ true → ends t f.vector ≡ true → e ≡ f
  -- it begins before it touches and before it ends, and touches before it ends
  pub begun_to_touch : (t : ℕ) (a : Place) (e : LogEntry) → Contains log e → touched_by t e.vector ≡ Some a
      → (b : LogEntry) × Contains log b × (begins t b.vector ≡ true) × (b.pos < e.pos) × (b.scn ≤ e.scn)
  pub begun_to_end : (t : ℕ) (e : LogEntry) → Contains log e → ends t e.vector ≡ true
      → (b : LogEntry) × Contains log b × (begins t b.vector ≡ true) × (b.pos < e.pos) × (b.scn ≤ e.scn)
  pub touched_to_end : (t : ℕ) (a : Place) (e f : LogEntry) → Contains log e → Contains log f → touched_by t e.vector ≡ Some a → ends t f.vector ≡ true
      → (e.pos < f.pos) × (e.scn ≤ f.scn)
  -- while an object stays in-memory, what a transaction touches of it is noted, and its commit has the flag
  pub noted : (t : ℕ) (a : Place) (e : LogEntry) (low high : ℕ) → Contains log e → touched_by t e.vector ≡ Some a → e.scn ≤ high
      → IsInMemory log a.obj low → NotRedefined log a.obj low high → mined_of log e ≡ Some (mined.Note t a)
  pub flagged : (t : ℕ) (a : Place) (e f : LogEntry) (flag : Bool) (low : ℕ) → Contains log e → Contains log f → touched_by t e.vector ≡ Some a
      → f.vector ≡ Commit t flag → IsInMemory log a.obj low → NotRedefined log a.obj low f.scn → flag ≡ true
  -- a definition stays where nothing changes it, and an object has 1 to 256 extents
  pub same_table : (obj low high : ℕ) (table : Table) → low ≤ high → table_at log low obj ≡ Some table → NotRedefined log obj low high → table_at log high obj ≡ Some table
  pub extents : (obj scn : ℕ) (table : Table) → table_at log scn obj ≡ Some table → (1 ≤ table.extents) × (table.extents ≤ 256)
  -- a row stays where no transaction that touched it committed
  pub same_row : (a : Place) (low high : ℕ) → low ≤ high → NotTouched log low high a → rows_at log high a ≡ rows_at log low a

-- They hold of each log.
abbrev pub LogHasFacts : Type 0
LogHasFacts = (log : List LogEntry) (frontier : ℕ) → IsLog log frontier → LogFacts log frontier
