-- The parts of the invariant that speak of column units, populations and scans, and the precision of marks.
use Rattle.std.specs.Prelude.{◌≡◌, ℕ, ◌+◌, ◌*◌, ◌<◌, ◌≤◌, true, List, length, Option, Some, None, ◌⊎◌}
use Rattle.std.specs.List.{Contains}
use Rattle.adg_base.specs.Address.{Place}
use Rattle.adg_base.specs.declared.vector.Vector.TheVariants.{Commit}
use Rattle.adg_base.specs.declared.placed.PlacedRow.{PlacedRow}
use Rattle.adg_base.specs.declared.log.LogEntry.{LogEntry}
use Rattle.adg_model.specs.Database.{Table, rows_at, table_at, touched}
use Rattle.adg_model.specs.Query.{has_columns, has_types}
use Rattle.core_rules.specs.Share.{begins, CommitsAt, NotRedefined}
use Rattle.core_rules.specs.Extents.{IsInExtent, extent_rows, rows_of_blocks, without_places}
use Rattle.core_rules.specs.State.{ColumnUnit, Units, Population, Scan, Session, Populating, Link, At, PassesTxn, PassesDrop}

-- A unit of an extent of an object has these rows where it is Ready; none are asked for where it is Loading.
abbrev pub ColumnsAre : Option (List PlacedRow) → List PlacedRow → Type 0
ColumnsAre None rows = Unit {0}
ColumnsAre (Some columns) rows = columns ≡ rows

-- Columns: the object is in-memory at the unit's snapshot and has the extent, and the columns are the committed rows
-- of the extent then, as wide as the object.
pub record UnitIsBuilt (log : List LogEntry) (obj extent : ℕ) (u : ColumnUnit) : Type 0 where
  pub table : Table
  pub defined : table_at log u.snapshot obj ≡ Some table
  pub in_memory : table.flag ≡ true
  pub within : extent < table.extents
  pub columns : ColumnsAre u.columns (extent_rows (rows_at log u.snapshot) obj (length table.kinds) extent)

-- A transaction that committed at an SCN counts for a unit where this is at most the QuerySCN, or where its
-- worklink is past the place of the unit's shard.
abbrev pub Counts : (query : ℕ) → List Link → (place t scn : ℕ) → Type 0
Counts query links place t scn = (scn ≤ query) ⊎ PassesTxn links place t

-- all that a transaction touched in the extent is marked, or the unit is marked wholly
abbrev pub IsCovered : List LogEntry → (t obj extent : ℕ) → ColumnUnit → Type 0
IsCovered log t obj extent u = (u.all ≡ true) ⊎ ((a : Place) → Contains (touched t log) a → IsInExtent obj extent a → u.marked a ≡ true)

-- Marks: a transaction that committed above the snapshot, counts, and committed before any change of the object's
-- definition since, is covered.
abbrev pub UnitIsCovered : List LogEntry → (query : ℕ) → List Link → (place obj extent : ℕ) → ColumnUnit → Type 0
UnitIsCovered log query links place obj extent u =
    (t scn : ℕ) → CommitsAt log t scn → u.snapshot < scn → Counts query links place t scn → NotRedefined log obj u.snapshot scn → IsCovered log t obj extent u

-- Standing: the object's definition did not change since the snapshot, up to the QuerySCN, and no worklink that
-- drops the object's units is past the place.
pub record UnitStands (log : List LogEntry) (query : ℕ) (links : List Link) (place obj snapshot : ℕ) : Type 0 where
  pub same : NotRedefined log obj snapshot query
  pub kept : PassesDrop links place obj → ⊥

-- Of a unit that stands for an extent; the place is that of its shard behind the areas.
pub record UnitIs (log : List LogEntry) (query next : ℕ) (links : List Link) (place obj extent : ℕ) (u : ColumnUnit) : Type 0 where
  pub snapshot : u.snapshot ≤ query
  pub ticket : u.ticket < next
  pub built : UnitIsBuilt log obj extent u
  pub covered : UnitIsCovered log query links place obj extent u
  pub stands : UnitStands log query links place obj u.snapshot

-- Precision: what is marked was touched by a transaction that committed above the snapshot and is cut,
pub record TouchedWithin (log : List LogEntry) (low high : ℕ) (a : Place) : Type 0 where
  pub txn : ℕ
  pub scn : ℕ
  pub commits : CommitsAt log txn scn
  pub above : low < scn
  pub upto : scn ≤ high
  pub touches : Contains (touched txn log) a

-- and wholly only where a transaction that began before the last restart committed so, with the flag.
pub record CoarseWithin (log : List LogEntry) (born low high : ℕ) : Type 0 where
  pub txn : ℕ
  pub entry : LogEntry
  pub within : Contains log entry
  pub commits : entry.vector ≡ Commit txn true
  pub above : low < entry.scn
  pub upto : entry.scn ≤ high
  pub begin : LogEntry
  pub begin_within : Contains log begin
  pub is_begin : begins txn begin.vector ≡ true
  pub earlier : begin.scn ≤ born

pub record UnitIsPrecise (log : List LogEntry) (born limit : ℕ) (u : ColumnUnit) : Type 0 where
  pub marked : (a : Place) → u.marked a ≡ true → TouchedWithin log u.snapshot limit a
  pub all : u.all ≡ true → CoarseWithin log born u.snapshot limit

-- Of a population: its snapshot is at most the QuerySCN, and is it while the population holds publication back; the
-- object is in-memory then, with this definition; no more units are registered than there are extents, the extent
-- at hand is one of them, and the rows read are those of its first blocks at the snapshot.
pub record PopulationIs (log : List LogEntry) (query next : ℕ) (p : Population) : Type 0 where
  pub snapshot : p.snapshot ≤ query
  pub held : p.holds ≡ true → p.snapshot ≡ query
  pub ticket : p.ticket < next
  pub defined : table_at log p.snapshot p.obj ≡ Some p.table
  pub in_memory : p.table.flag ≡ true
  pub registered : p.registered ≤ p.table.extents
  pub extent : p.extent < p.table.extents
  pub blocks : p.blocks ≤ 16
  pub read : p.read ≡ rows_of_blocks (rows_at log p.snapshot) p.obj (length p.table.kinds) (16 * p.extent) p.blocks
  pub installed : p.installed ≤ p.extent

-- Tickets: those of two populations differ, and a unit with the ticket of a population has its object and snapshot.
abbrev pub TicketsDiffer : List Session → Type 0
TicketsDiffer sessions =
    (i j : ℕ) (p q : Population) → At sessions i (Populating p) → At sessions j (Populating q) → p.ticket ≡ q.ticket → i ≡ j

abbrev pub HasItsUnits : Units → Population → Type 0
HasItsUnits units p = (obj extent : ℕ) (u : ColumnUnit) → units obj extent ≡ Some u → u.ticket ≡ p.ticket → (obj ≡ p.obj) × (u.snapshot ≡ p.snapshot)

-- Of a scan: its SCN is at most the QuerySCN; this is the definition of its object then, and the SELECT fits it; the
-- rows gathered are those of the first extents then, and each was counted once.
pub record ScanIs (log : List LogEntry) (query : ℕ) (s : Scan) : Type 0 where
  pub scn : s.scn ≤ query
  pub defined : table_at log s.scn s.select.obj ≡ Some s.table
  pub columns : has_columns s.select s.table ≡ true
  pub types : has_types s.select s.table ≡ true
  pub extents : s.extents ≤ s.table.extents
  pub rows : s.rows ≡ without_places (rows_of_blocks (rows_at log s.scn) s.select.obj (length s.table.kinds) 0 (16 * s.extents))
  pub split : s.col + s.row ≡ length s.rows
