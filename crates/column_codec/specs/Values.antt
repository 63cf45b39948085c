-- The values of columns, and the rows across them.
use Rattle.std.specs.Prelude.{ℕ, List, map, slice_get, unwrap_or}
use Rattle.adg_base.specs.declared.value.Value.{Value}
use Rattle.adg_base.specs.declared.value.Value.TheVariants.{Null}

-- the value at an index, Null behind the end
abbrev pub value_at : ℕ → List Value → Value
value_at index values = unwrap_or (slice_get values index) Null

-- the row at a place: the value there of each column
abbrev pub row_at : List (List Value) → ℕ → List Value
row_at columns place = map (value_at place) columns
