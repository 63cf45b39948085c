-- What a scan may take from a unit.
use Rattle.std.specs.Prelude.{ℕ, Bool, true, false, not, nat_le, ◌&&◌, if◌then◌else◌, List, filter, Option, Some, None, option_map}
use Rattle.adg_base.specs.declared.placed.PlacedRow.{PlacedRow}
use Rattle.column_codec.specs.Extent.{PlacedColumns, placed_rows}
use Rattle.column_units.specs.declared.unit.Unit.{Unit as ColumnUnit}
use Rattle.column_units.specs.declared.unit.UnitState.{UnitState}
use Rattle.column_units.specs.declared.unit.UnitState.TheVariants.{Loading, Ready}
use Rattle.column_units.specs.Unit.{marks, columns_of}

-- columns, and the map of the addresses whose rows are not to be taken from them
pub record Look : Type 0 where
  pub columns : PlacedColumns
  pub marked : List ℕ

-- the rows that are to be taken from them, with their addresses, in order
abbrev pub clean_rows : Look → List PlacedRow
clean_rows look = filter (λ r. not (marks look.marked r.addr)) (placed_rows look.columns)

-- None exactly where a unit is not ready, all is marked, or its snapshot is above q; else its columns and its map
abbrev pub look_in : (usable : Bool) → List ℕ → UnitState → Option Look
look_in usable map Loading = None
look_in false map (Ready columns) = None
look_in true map (Ready columns) = Some (record { columns = columns; marked = map })

abbrev pub look_at : ℕ → ColumnUnit → Option Look
look_at q u = look_in (not u.all && nat_le u.snapshot q) u.map u.state

-- the rows of a unit that are not marked, with their addresses: None where it gives no look
abbrev pub unmarked_rows : ℕ → ColumnUnit → Option (List PlacedRow)
unmarked_rows q u = if not u.all && nat_le u.snapshot q then option_map (λ columns. filter (λ r. not (marks u.map r.addr)) (placed_rows columns)) (columns_of u.state) else None
