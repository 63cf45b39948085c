-- The columns of rows.
use Rattle.std.proofs.Common.{◌≡◌, ℕ, zero, suc, ◌+◌, ◌-◌, ◌≤◌, List, [], ◌∷◌, ◌++◌, map, length, filter, refl, sym, ap, ap₂, ◌∙◌, arith}
use Rattle.std.specs.Prelude.{replicate}
use Rattle.std.specs.List.{AllByRecursion, range_with_len}
use Rattle.std.proofs.lemmas.List.{length-map, append_assoc}
use Rattle.adg_base.specs.Address.{Place}
use Rattle.adg_base.specs.declared.value.Value.{Value}
use Rattle.adg_base.specs.declared.value.Value.TheVariants.{Null}
use Rattle.adg_base.specs.declared.placed.PlacedRow.{PlacedRow}
use Rattle.adg_model.specs.Query.{padded}
use Rattle.column_codec.specs.Values.{value_at, row_at}
use Rattle.column_codec.specs.Extent.{PlacedColumns, AreColumns, placed_from, placed_rows}
use Rattle.population.specs.Building.{AreRowsOf, Fit, addresses_of, column_of, columns_of, widened, first_places}

each_long : (rows : List PlacedRow) (k n : ℕ) → AllByRecursion (λ column. length column ≡ length (addresses_of rows)) (map (column_of rows) (range_with_len k n))
each_long rows k zero = tt
each_long rows k (suc n) = (length-map rows (λ r. value_at k r.row) ∙ sym (length-map rows (λ r. r.addr)), each_long rows (k + 1) n)

pub columns_fit : (obj extent width blocks : ℕ) (rows : List PlacedRow) → AreRowsOf (first_places obj extent blocks) rows → blocks ≡ 16 → AreColumns obj extent (columns_of width rows)
columns_fit obj extent width blocks rows are whole =
    record { kept = are.kept; order = are.order ∙ ap (λ n. filter are.kept (first_places obj extent n)) whole; values = each_long rows 0 width }

-- ---- a row of the columns

abbrev values_from : List Value → ℕ → ℕ → List Value
values_from row k n = map (λ c. value_at c row) (range_with_len k n)

values_later : (x : Value) (row : List Value) (k n : ℕ) → values_from (x ∷ row) (k + 1) n ≡ values_from row k n
values_later x row k zero = refl
values_later x row k (suc n) =
    let s : k + 1 ≡ suc k = omega arith in
    ap₂ (λ (v : Value) (vs : List Value). v ∷ vs) (ap (λ j. value_at j (x ∷ row)) s) (values_later x row (k + 1) n)

values_none : (k n : ℕ) → values_from [] k n ≡ replicate n Null
values_none k zero = refl
values_none k (suc n) = ap (λ vs. Null ∷ vs) (values_none (k + 1) n)

values_are_padded : (row : List Value) (width : ℕ) → length row ≤ width → values_from row 0 width ≡ padded width row
values_are_padded [] width h = let z : width ≡ width - 0 = omega arith in values_none 0 width ∙ ap (λ n. replicate n Null) z
values_are_padded (x ∷ row) zero h = absurd (omega (arith, h))
values_are_padded (x ∷ row) (suc width) h =
    let z : width - length row ≡ suc width - suc (length row) = omega arith in
    ap (λ vs. x ∷ vs) (values_later x row 0 width ∙ values_are_padded row width (omega (arith, h)) ∙ ap (λ n. row ++ replicate n Null) z)

value_at_place : (f : PlacedRow → Value) (before : List PlacedRow) (r : PlacedRow) (more : List PlacedRow) → value_at (length before) (map f (before ++ r ∷ more)) ≡ f r
value_at_place f [] r more = refl
value_at_place f (b ∷ before) r more = value_at_place f before r more

row_of_columns : (before : List PlacedRow) (r : PlacedRow) (more : List PlacedRow) (k n : ℕ) → row_at (map (column_of (before ++ r ∷ more)) (range_with_len k n)) (length before) ≡ values_from r.row k n
row_of_columns before r more k zero = refl
row_of_columns before r more k (suc n) = ap₂ (λ (v : Value) (vs : List Value). v ∷ vs) (value_at_place (λ x. value_at k x.row) before r more) (row_of_columns before r more (k + 1) n)

length_push : (xs : List PlacedRow) (x : PlacedRow) → length (xs ++ x ∷ []) ≡ length xs + 1
length_push [] x = refl
length_push (y ∷ xs) x = let h = length_push xs x in omega (arith, h)

placed_are : (width : ℕ) (before rest : List PlacedRow) → Fit width rest → placed_from (length before) (map (column_of (before ++ rest)) (range_with_len 0 width)) (addresses_of rest) ≡ widened width rest
placed_are width before [] fit = refl
placed_are width before (r ∷ rest) fit =
    let all : (before ++ r ∷ []) ++ rest ≡ before ++ r ∷ rest = append_assoc before (r ∷ []) rest in
    let row = row_of_columns before r rest 0 width ∙ values_are_padded r.row width fit.0 in
    let later = placed_are width (before ++ r ∷ []) rest fit.1 in
    let columns = ap (λ rows. map (column_of rows) (range_with_len 0 width)) all in
    ap₂ (λ (x : PlacedRow) (xs : List PlacedRow). x ∷ xs) (ap (λ (values : List Value). record { addr = r.addr; row = values }) row)
    (ap₂ (λ n cs. placed_from n cs (addresses_of rest)) (sym (length_push before r)) (sym columns) ∙ later)

-- the columns hold the rows, each as wide as the object
pub columns_hold : (width : ℕ) (rows : List PlacedRow) → Fit width rows → placed_rows (columns_of width rows) ≡ widened width rows
columns_hold width rows fit = placed_are width [] rows fit

-- columns that are made of the addresses and the columns of rows
pub made_of : (c : PlacedColumns) (addresses : List Place) (columns : List (List Value)) (width : ℕ) (rows : List PlacedRow) → c ≡ record { addresses = addresses; columns = columns } → addresses ≡ addresses_of rows
    → columns ≡ map (column_of rows) (range_with_len 0 width) → c ≡ columns_of width rows
made_of c addresses columns width rows is places values = is ∙ ap₂ (λ (a : List Place) (cs : List (List Value)). columns_with a cs) places values
  where
    columns_with : List Place → List (List Value) → PlacedColumns
    columns_with a cs = record { addresses = a; columns = cs }
