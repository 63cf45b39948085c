-- The meaning of a SELECT over the rows of an object: conditions, aggregates and groups.
use Rattle.std.specs.Prelude.{ℕ, ◌-◌, ◌*◌, ℤ, pos, ◌+ℤ◌, Bool, true, false, not, nat_le, ◌&&◌, if◌then◌else◌, List, [], ◌∷◌, ◌++◌, length, map, filter, replicate, slice_get, Option, Some, None, unwrap_or, option_to_list}
use Rattle.std.specs.List.{list_all, flat_map, filter_map, range_with_len}
use Rattle.std.specs.Ordering.{is_eq, is_lt, is_gt}
use Rattle.std.specs.declared.cmp.Ordering.{Ordering}
use Rattle.std.specs.declared.cmp.Ordering.TheVariants.{Less, Equal, Greater}
use Rattle.adg_base.specs.Address.{Place, place, block_places}
use Rattle.adg_base.specs.Values.{value_cmp, is_null, cell_of}
use Rattle.adg_base.specs.declared.value.ColKind.{ColKind}
use Rattle.adg_base.specs.declared.value.ColKind.TheVariants as kind
use Rattle.adg_base.specs.declared.value.Value.{Value}
use Rattle.adg_base.specs.declared.value.Value.TheVariants.{Null, Int, Text}
use Rattle.adg_base.specs.declared.answer.Cell.{Cell}
use Rattle.adg_base.specs.declared.answer.Cell.TheVariants as cell
use Rattle.adg_base.specs.declared.command.Select.{Select}
use Rattle.adg_base.specs.declared.command.Condition.{Condition}
use Rattle.adg_base.specs.declared.command.Op.{Op}
use Rattle.adg_base.specs.declared.command.Op.TheVariants as op
use Rattle.adg_base.specs.declared.command.What.{What}
use Rattle.adg_base.specs.declared.command.What.TheVariants.{All, Aggregates}
use Rattle.adg_base.specs.declared.command.Aggregate.{Aggregate}
use Rattle.adg_base.specs.declared.command.Aggregate.TheVariants.{Count, Sum, Min, Max}
use Rattle.adg_model.specs.Database.{Rows, Table}
use Rattle.adg_model.specs.Sound.{fits_kind}

-- the addresses of an object with so many extents, in order: 16 blocks an extent
abbrev pub object_places : ℕ → ℕ → List Place
object_places obj extents = flat_map (block_places obj) (range_with_len 0 (16 * extents))

-- the rows of an object in the order of their addresses
abbrev pub object_rows : Rows → ℕ → ℕ → List (List Value)
object_rows rows obj extents = filter_map rows (object_places obj extents)

-- a row with Null in the columns that it lacks
abbrev pub padded : ℕ → List Value → List Value
padded width row = row ++ replicate (width - length row) Null

abbrev pub table_rows : Rows → ℕ → Table → List (List Value)
table_rows rows obj table = map (padded (length table.kinds)) (object_rows rows obj table.extents)

-- the value in a column, which counts from 1
abbrev pub value_in : ℕ → List Value → Value
value_in column row = unwrap_or (slice_get row (column - 1)) Null

abbrev pub allows : Op → Ordering → Bool
allows op.Eq o = is_eq o
allows op.Ne o = not (is_eq o)
allows op.Lt o = is_lt o
allows op.Le o = not (is_gt o)
allows op.Gt o = is_gt o
allows op.Ge o = not (is_lt o)

-- a comparison with Null is false
abbrev pub meets : List Value → Condition → Bool
meets row c = not (is_null (value_in c.column row)) && not (is_null c.literal) && allows c.op (value_cmp (value_in c.column row) c.literal)

abbrev pub filtered : List Condition → List (List Value) → List (List Value)
filtered conditions rows = filter (λ row. list_all (meets row) conditions) rows

-- the values of a column that are not Null
abbrev pub values_in : ℕ → List (List Value) → List Value
values_in column rows = filter (λ v. not (is_null v)) (map (value_in column) rows)

abbrev pub number_of : Value → ℤ
number_of Null = pos 0
number_of (Int n) = n
number_of (Text t) = pos 0

abbrev pub total : List Value → ℤ
total [] = pos 0
total (v ∷ vs) = number_of v +ℤ total vs

abbrev pub sum_cell : List Value → Cell
sum_cell [] = cell.Null
sum_cell (v ∷ vs) = cell.Number (total (v ∷ vs))

-- the value of a list that comes first where a test says which of two does
abbrev pub chosen : (Ordering → Bool) → Value → List Value → Value
chosen better v [] = v
chosen better v (w ∷ ws) = chosen better (if better (value_cmp w v) then w else v) ws

abbrev pub chosen_cell : (Ordering → Bool) → List Value → Cell
chosen_cell better [] = cell.Null
chosen_cell better (v ∷ vs) = cell_of (chosen better v vs)

abbrev pub aggregate_cell : List (List Value) → Aggregate → Cell
aggregate_cell rows Count = cell.Number (pos (length rows))
aggregate_cell rows (Sum column) = sum_cell (values_in column rows)
aggregate_cell rows (Min column) = chosen_cell is_lt (values_in column rows)
aggregate_cell rows (Max column) = chosen_cell is_gt (values_in column rows)

abbrev pub aggregate_cells : List Aggregate → List (List Value) → List Cell
aggregate_cells aggregates rows = map (aggregate_cell rows) aggregates

-- the keys of the rows, each once, in their order
abbrev pub by_order : {X : Type 0} → Ordering → X → X → X → X
by_order Less a b c = a
by_order Equal a b c = b
by_order Greater a b c = c

abbrev pub with_key : Value → List Value → List Value
with_key k [] = k ∷ []
with_key k (x ∷ xs) = by_order (value_cmp k x) (k ∷ x ∷ xs) (x ∷ xs) (x ∷ with_key k xs)

abbrev pub keys_of : ℕ → List (List Value) → List Value
keys_of column [] = []
keys_of column (row ∷ rows) = with_key (value_in column row) (keys_of column rows)

abbrev pub rows_with : ℕ → Value → List (List Value) → List (List Value)
rows_with column key rows = filter (λ row. is_eq (value_cmp (value_in column row) key)) rows

-- one result line for each key, the key first
abbrev pub group_lines : List Aggregate → ℕ → List (List Value) → List (List Cell)
group_lines aggregates column rows =
    map (λ key. cell_of key ∷ aggregate_cells aggregates (rows_with column key rows)) (keys_of column rows)

abbrev pub result_lines : What → Option ℕ → List (List Value) → List (List Cell)
result_lines All group rows = map (map cell_of) rows
result_lines (Aggregates aggregates) None rows = aggregate_cells aggregates rows ∷ []
result_lines (Aggregates aggregates) (Some column) rows = group_lines aggregates column rows

-- the lines of a SELECT over a list of rows: those that meet its conditions, or what it asks of them
abbrev pub select_lines : Select → List (List Value) → List (List Cell)
select_lines select rows = result_lines select.what select.group (filtered select.conditions rows)

-- the answer of a SELECT over the rows of its object
abbrev pub answer_of : Rows → Select → Table → List (List Cell)
answer_of rows select table = select_lines select (table_rows rows select.obj table)

-- how many rows the object has, before the filter
abbrev pub row_count : Rows → ℕ → Table → ℕ
row_count rows obj table = length (object_rows rows obj table.extents)

-- The columns that a SELECT names, and whether they are columns of the object.
abbrev pub column_of : Aggregate → Option ℕ
column_of Count = None
column_of (Sum c) = Some c
column_of (Min c) = Some c
column_of (Max c) = Some c

abbrev pub columns_in : What → List ℕ
columns_in All = []
columns_in (Aggregates aggregates) = filter_map column_of aggregates

abbrev pub columns_of : Select → List ℕ
columns_of select = columns_in select.what ++ map (λ c. c.column) select.conditions ++ option_to_list select.group

abbrev pub has_columns : Select → Table → Bool
has_columns select table = list_all (λ c. nat_le c (length table.kinds)) (columns_of select)

-- A literal is of its column's kind, and a sum is of a column of integers.
abbrev pub fits_column : Value → Option ColKind → Bool
fits_column v None = false
fits_column v (Some k) = fits_kind v k

abbrev pub kind_in : ℕ → Table → Option ColKind
kind_in column table = slice_get table.kinds (column - 1)

abbrev pub is_int : Option ColKind → Bool
is_int None = false
is_int (Some kind.Int) = true
is_int (Some kind.Text) = false

abbrev pub sums_integers : Table → Aggregate → Bool
sums_integers table Count = true
sums_integers table (Sum c) = is_int (kind_in c table)
sums_integers table (Min c) = true
sums_integers table (Max c) = true

abbrev pub aggregates_of : What → List Aggregate
aggregates_of All = []
aggregates_of (Aggregates aggregates) = aggregates

abbrev pub has_types : Select → Table → Bool
has_types select table =
    list_all (λ c. fits_column c.literal (kind_in c.column table)) select.conditions && list_all (sums_integers table) (aggregates_of select.what)
