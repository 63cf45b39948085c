-- A column unit: its marks, and what its calls make of it.
use Rattle.std.specs.Prelude.{◌≡◌, ℕ, ◌%◌, Bool, true, false, ◌==◌, ◌&&◌, ◌||◌, List, slice_index_or, Option, Some, None}
use Rattle.std.specs.Int.{bit_at}
use Rattle.adg_base.specs.Address.{Place, same_place}
use Rattle.column_codec.specs.Extent.{PlacedColumns, AreColumns, is_in_extent}
use Rattle.column_units.specs.declared.unit.Unit.{Unit as ColumnUnit}
use Rattle.column_units.specs.declared.unit.UnitState.{UnitState}
use Rattle.column_units.specs.declared.unit.UnitState.TheVariants.{Loading, Ready}

-- whether the map of an extent marks an address: it has a word for each block and a bit for each slot
abbrev pub marks : List ℕ → Place → Bool
marks map a = bit_at (slice_index_or map (a.block % 16) 0) a.slot == 1

-- whether an address is one of the unit's extent and is marked
abbrev pub is_marked : ColumnUnit → Place → Bool
is_marked u a = is_in_extent u.obj u.extent a && marks u.map a

-- the columns of a unit that has them
abbrev pub columns_of : UnitState → Option PlacedColumns
columns_of Loading = None
columns_of (Ready columns) = Some columns

-- columns, if there are any, are those of an extent
abbrev pub FitState : ℕ → ℕ → UnitState → Type 0
FitState obj extent Loading = Unit {0}
FitState obj extent (Ready columns) = AreColumns obj extent columns

-- a unit is that of an object and an extent, and so are its columns
pub record IsOf (obj extent : ℕ) (u : ColumnUnit) : Type 0 where
  pub object : u.obj ≡ obj
  pub number : u.extent ≡ extent
  pub columns : FitState obj extent u.state

-- a unit that is being loaded by a population with this ticket
abbrev pub awaits_in : ℕ → ℕ → UnitState → Bool
awaits_in ticket own Loading = own == ticket
awaits_in ticket own (Ready columns) = false

abbrev pub awaits : ℕ → ColumnUnit → Bool
awaits ticket u = awaits_in ticket u.ticket u.state

-- a new unit: nothing is marked
pub record IsNew (obj extent scn population : ℕ) (u : ColumnUnit) : Type 0 where
  pub object : u.obj ≡ obj
  pub number : u.extent ≡ extent
  pub snapshot : u.snapshot ≡ scn
  pub ticket : u.ticket ≡ population
  pub state : u.state ≡ Loading
  pub marked : (a : Place) → marks u.map a ≡ false
  pub all : u.all ≡ false

-- with columns, and otherwise the same
abbrev pub loaded : PlacedColumns → ColumnUnit → ColumnUnit
loaded columns u = record u { state = Ready columns }

-- with all marked, and otherwise the same
abbrev pub marked_whole : ColumnUnit → ColumnUnit
marked_whole u = record u { all = true }

-- with one more address marked, and otherwise the same
pub record Marks (a : Place) (old new : ColumnUnit) : Type 0 where
  pub object : new.obj ≡ old.obj
  pub number : new.extent ≡ old.extent
  pub snapshot : new.snapshot ≡ old.snapshot
  pub ticket : new.ticket ≡ old.ticket
  pub state : new.state ≡ old.state
  pub all : new.all ≡ old.all
  pub marked : (b : Place) → is_marked new b ≡ (is_marked old b || same_place b a)
