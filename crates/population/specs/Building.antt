-- The rows of an extent as they are read, block by block, and the columns that they make.
use Rattle.std.specs.Prelude.{◌≡◌, ℕ, ◌*◌, ◌≤◌, Bool, List, length, map, filter}
use Rattle.std.specs.List.{AllByRecursion, flat_map, range_with_len}
use Rattle.adg_base.specs.Address.{Place, block_places}
use Rattle.adg_base.specs.declared.value.Value.{Value}
use Rattle.adg_base.specs.declared.placed.PlacedRow.{PlacedRow}
use Rattle.adg_model.specs.Query.{padded}
use Rattle.column_codec.specs.Values.{value_at}
use Rattle.column_codec.specs.Extent.{PlacedColumns}

-- what was read so far of an extent at an SCN: how many of its blocks, and their rows
pub record Building : Type 0 where
  pub obj : ℕ
  pub extent : ℕ
  pub snapshot : ℕ
  pub width : ℕ
  pub blocks : ℕ
  pub rows : List PlacedRow

abbrev pub addresses_of : List PlacedRow → List Place
addresses_of rows = map (λ r. r.addr) rows

-- none of the rows is longer than the width
abbrev pub Fit : ℕ → List PlacedRow → Type 0
Fit width rows = AllByRecursion (λ r. length r.row ≤ width) rows

-- the rows of some of these places, in their order
pub record AreRowsOf (places : List Place) (rows : List PlacedRow) : Type 0 where
  pub kept : Place → Bool
  pub order : addresses_of rows ≡ filter kept places

-- the places of the first blocks of an extent
abbrev pub first_places : ℕ → ℕ → ℕ → List Place
first_places obj extent blocks = flat_map (block_places obj) (range_with_len (16 * extent) blocks)

-- what was read are rows of the blocks so far
pub record IsRead (b : Building) : Type 0 where
  pub places : AreRowsOf (first_places b.obj b.extent b.blocks) b.rows
  pub fit : Fit b.width b.rows
  pub most : b.blocks ≤ 16

-- a value of each row
abbrev pub column_of : List PlacedRow → ℕ → List Value
column_of rows index = map (λ r. value_at index r.row) rows

-- the columns of rows
abbrev pub columns_of : ℕ → List PlacedRow → PlacedColumns
columns_of width rows = record { addresses = addresses_of rows; columns = map (column_of rows) (range_with_len 0 width) }

-- rows with Null in the columns that they lack
abbrev pub wide_row : ℕ → PlacedRow → PlacedRow
wide_row width r = record r { row = padded width r.row }

abbrev pub widened : ℕ → List PlacedRow → List PlacedRow
widened width rows = map (wide_row width) rows
