-- When the columns of an extent as of one SCN, with the marks, serve a scan at a later one.
use Rattle.std.specs.Prelude.{◌≡◌, ℕ, ◌<◌, ◌≤◌, Bool, true, false, ◌==◌, List, length, Option, Some, None}
use Rattle.std.specs.List.{Contains}
use Rattle.adg_base.specs.Address.{Place}
use Rattle.adg_base.specs.declared.value.Value.{Value}
use Rattle.adg_base.specs.declared.vector.Vector.{Vector}
use Rattle.adg_base.specs.declared.vector.Vector.TheVariants.{AddColumn, NoInMemory, DropObject}
use Rattle.adg_base.specs.declared.log.LogEntry.{LogEntry}
use Rattle.adg_model.specs.Database.{Rows, Table, commits, rows_at, table_at, touched}
use Rattle.column_codec.specs.Extent.{PlacedColumns, is_in_extent, row_in}
use Rattle.column_units.specs.Look.{Look}
use Rattle.column_units.specs.Unit.{marks}
use Rattle.adg_model.specs.Sound.{IsLog}
use Rattle.hybrid_scan.specs.Scan.{wide, scanned, extent_rows}

-- whether a vector changes the definition of an object that is there
abbrev pub changes_definition : ℕ → Vector → Bool
changes_definition obj (AddColumn o k) = o == obj
changes_definition obj (NoInMemory o) = o == obj
changes_definition obj (DropObject o) = o == obj
changes_definition obj other = false

-- no entry with an SCN above s and at most q changes the definition of the object
abbrev pub IsStanding : List LogEntry → ℕ → ℕ → ℕ → Type 0
IsStanding log obj s q = (e : LogEntry) → Contains log e → s < e.scn → e.scn ≤ q → changes_definition obj e.vector ≡ false

-- what a transaction that committed above s and at most q touched in the extent is marked
abbrev pub AreMarked : List LogEntry → ℕ → ℕ → ℕ → ℕ → (Place → Type 0) → Type 0
AreMarked log obj extent s q marked =
    (t : ℕ) (e : LogEntry) → Contains log e → commits t e.vector ≡ true → s < e.scn → e.scn ≤ q
    → (a : Place) → Contains (touched t log) a → is_in_extent obj extent a ≡ true → marked a

-- the object is defined at an SCN, and so wide
abbrev pub IsWideAt : List LogEntry → ℕ → ℕ → ℕ → Type 0
IsWideAt log scn obj width = (table : Table) × (table_at log scn obj ≡ Some table) × (length table.kinds ≡ width)

-- the columns are the rows of the extent that are committed at s, each as wide as the object is then
pub record AreRowsAt (log : List LogEntry) (obj extent s : ℕ) (columns : PlacedColumns) : Type 0 where
  pub width : ℕ
  pub defined : IsWideAt log s obj width
  pub rows : (a : Place) → is_in_extent obj extent a ≡ true → row_in columns a ≡ wide width (rows_at log s) a

-- columns of an extent as of s, with marks, serve a scan at q
pub record Covers (log : List LogEntry) (obj extent s q : ℕ) (columns : PlacedColumns) (marked : Place → Type 0) : Type 0 where
  pub reached : s ≤ q
  pub standing : IsStanding log obj s q
  pub marks : AreMarked log obj extent s q marked
  pub rows : AreRowsAt log obj extent s columns

-- so does a look, from some SCN on; without a look nothing is asked
abbrev pub LookCovers : List LogEntry → ℕ → ℕ → ℕ → Option Look → Type 0
LookCovers log obj extent q None = Unit {0}
LookCovers log obj extent q (Some look) = (s : ℕ) × Covers log obj extent s q look.columns (λ a. marks look.marked a ≡ true)

-- a store has the rows of the extent that are committed at q
abbrev pub HasRowsAt : Rows → List LogEntry → ℕ → ℕ → ℕ → Type 0
HasRowsAt store log q obj extent = (a : Place) → is_in_extent obj extent a ≡ true → store a ≡ rows_at log q a

-- What a scan of an extent at q asks of a log: the object is so wide, the store has its rows, and the look covers q.
pub record FitsScan (log : List LogEntry) (look : Option Look) (width : ℕ) (store : Rows) (obj extent q : ℕ) : Type 0 where
  pub frontier : ℕ
  pub is_log : IsLog log frontier
  pub defined : IsWideAt log q obj width
  pub store_has : HasRowsAt store log q obj extent
  pub covers : LookCovers log obj extent q look

-- The rows that are scanned are then the committed rows of the extent, each as wide as the object, in order.
abbrev pub AreCommitted : List (List Value) → Option Look → ℕ → Rows → ℕ → ℕ → ℕ → Type 0
AreCommitted rows look width store obj extent q =
    (log : List LogEntry) → FitsScan log look width store obj extent q → rows ≡ extent_rows (wide width (rows_at log q)) obj extent

-- what is seen by a look that covers q are the committed rows at q
abbrev pub LooksGiveRows : Type 0
LooksGiveRows = (look : Option Look) (width : ℕ) (store : Rows) (obj extent q : ℕ) → AreCommitted (scanned look width store obj extent) look width store obj extent q
