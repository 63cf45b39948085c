-- The rows of an extent, of which some are taken from columns and the others from the store.
use Rattle.std.specs.Prelude.{ℕ, if◌then◌else◌, List, map, Option, Some, None, option_map}
use Rattle.std.specs.List.{filter_map, range_with_len}
use Rattle.adg_base.specs.declared.value.Value.{Value}
use Rattle.adg_base.specs.declared.placed.PlacedRow.{PlacedRow}
use Rattle.adg_model.specs.Database.{Rows}
use Rattle.adg_model.specs.Query.{padded}
use Rattle.column_codec.specs.Values.{row_at}
use Rattle.column_codec.specs.Extent.{PlacedColumns, row_in}
use Rattle.adg_base.specs.Address.{extent_places}
use Rattle.column_units.specs.Unit.{marks}
use Rattle.column_units.specs.Look.{Look}

-- the row at an address as wide as its object
abbrev pub wide : ℕ → Rows → Rows
wide width rows a = option_map (padded width) (rows a)

-- the row at an address: where it is marked, that of the store, else that of the columns
abbrev pub seen : Look → ℕ → Rows → Rows
seen look width store a = if marks look.marked a then wide width store a else row_in look.columns a

-- without a look, all rows are those of the store
abbrev pub seen_by : Option Look → ℕ → Rows → Rows
seen_by None width store = wide width store
seen_by (Some look) width store = seen look width store

-- the row at an address that comes from the store: where it is marked, that of the store, else none
abbrev pub stored : Look → ℕ → Rows → Rows
stored look width store a = if marks look.marked a then wide width store a else None

-- without a look, all rows come from the store
abbrev pub stored_by : Option Look → ℕ → Rows → Rows
stored_by None width store = wide width store
stored_by (Some look) width store = stored look width store

-- the rows of an extent, in the order of their addresses
unfoldable pub extent_rows : Rows → ℕ → ℕ → List (List Value)
extent_rows rows obj extent = filter_map rows (extent_places obj extent)

abbrev pub scanned : Option Look → ℕ → Rows → ℕ → ℕ → List (List Value)
scanned look width store obj extent = extent_rows (seen_by look width store) obj extent

-- those of the rows of an extent that come from the store
abbrev pub from_store : Option Look → ℕ → Rows → ℕ → ℕ → List (List Value)
from_store look width store obj extent = extent_rows (stored_by look width store) obj extent

-- rows each as wide as the object
abbrev pub wide_rows : ℕ → List PlacedRow → List (List Value)
wide_rows width rows = map (λ r. padded width r.row) rows

-- so many rows of columns from a place on
abbrev pub rows_from : PlacedColumns → ℕ → ℕ → List (List Value)
rows_from c place count = map (row_at c.columns) (range_with_len place count)
