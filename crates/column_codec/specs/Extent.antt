-- The rows of an extent, column by column.
use Rattle.std.specs.Prelude.{◌≡◌, ℕ, ◌+◌, ◌*◌, ◌/◌, Bool, ◌==◌, nat_lt, ◌&&◌, if◌then◌else◌, List, [], ◌∷◌, length, filter, Option, Some, None}
use Rattle.std.specs.List.{AllByRecursion}
use Rattle.adg_base.specs.Address.{Place, same_place, extent_places}
use Rattle.adg_base.specs.declared.value.Value.{Value}
use Rattle.adg_base.specs.declared.placed.PlacedRow.{PlacedRow}
use Rattle.column_codec.specs.Values.{row_at}

-- the addresses of the rows of an extent in order, and its columns
pub record PlacedColumns : Type 0 where
  pub addresses : List Place
  pub columns : List (List Value)

-- whether an address is one of an extent
abbrev pub is_in_extent : ℕ → ℕ → Place → Bool
is_in_extent obj extent a = (a.obj == obj) && (a.block / 16 == extent) && nat_lt a.slot 64

-- Columns of an extent: their addresses are some of its addresses, in order, and each column has one value for each.
pub record AreColumns (obj extent : ℕ) (c : PlacedColumns) : Type 0 where
  pub kept : Place → Bool
  pub order : c.addresses ≡ filter kept (extent_places obj extent)
  pub values : AllByRecursion (λ column. length column ≡ length c.addresses) c.columns

-- the rows from a place on with their addresses
abbrev pub placed_from : ℕ → List (List Value) → List Place → List PlacedRow
placed_from place columns [] = []
placed_from place columns (a ∷ more) = record { addr = a; row = row_at columns place } ∷ placed_from (place + 1) columns more

abbrev pub placed_rows : PlacedColumns → List PlacedRow
placed_rows c = placed_from 0 c.columns c.addresses

-- the row at an address, where there is one
abbrev pub found_from : ℕ → List (List Value) → List Place → Place → Option (List Value)
found_from place columns [] a = None
found_from place columns (b ∷ more) a = if same_place a b then Some (row_at columns place) else found_from (place + 1) columns more a

abbrev pub row_in : PlacedColumns → Place → Option (List Value)
row_in c a = found_from 0 c.columns c.addresses a
