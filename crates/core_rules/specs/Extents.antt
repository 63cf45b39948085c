-- The rows of an object's extents, each beside its address and as wide as the object.
use Rattle.std.specs.Prelude.{◌≡◌, ℕ, ◌+◌, ◌*◌, ◌<◌, ◌≤◌, List, map, Option, option_map}
use Rattle.std.specs.List.{filter_map, flat_map, range_with_len}
use Rattle.adg_base.specs.Address.{Place, block_places}
use Rattle.adg_base.specs.declared.value.Value.{Value}
use Rattle.adg_base.specs.declared.placed.PlacedRow.{PlacedRow}
use Rattle.adg_model.specs.Database.{Rows}
use Rattle.adg_model.specs.Query.{padded}

-- an address lies in an extent of an object, which is 16 blocks
pub record IsInExtent (obj extent : ℕ) (a : Place) : Type 0 where
  pub object : a.obj ≡ obj
  pub from : 16 * extent ≤ a.block
  pub below : a.block < 16 * extent + 16

-- the row at an address, beside it
abbrev pub placed_row : Rows → ℕ → Place → Option PlacedRow
placed_row rows width a = option_map {T = List Value} (λ row. record { addr = a; row = padded width row }) (rows a)

-- the rows of a block, of so many blocks from one on, and of an extent
abbrev pub block_rows : Rows → (obj width block : ℕ) → List PlacedRow
block_rows rows obj width block = filter_map (placed_row rows width) (block_places obj block)

abbrev pub rows_of_blocks : Rows → (obj width first count : ℕ) → List PlacedRow
rows_of_blocks rows obj width first count = flat_map (block_rows rows obj width) (range_with_len first count)

abbrev pub extent_rows : Rows → (obj width extent : ℕ) → List PlacedRow
extent_rows rows obj width extent = rows_of_blocks rows obj width (16 * extent) 16

-- rows without their addresses
abbrev pub without_places : List PlacedRow → List (List Value)
without_places rows = map (λ r. r.row) rows
