-- The cells of an answer over a sound log are plain.
use Rattle.std.proofs.Common.{◌≡◌, ℕ, zero, suc, ◌-◌, Bool, true, false, ◌&&◌, cond, List, [], ◌∷◌, ◌++◌, length, map, filter, replicate, Option, Some, None, refl}
use Rattle.std.specs.Prelude.{slice_get, unwrap_or}
use Rattle.std.specs.List.{filter_map, cons_option, list_all, AllByRecursion}
use Rattle.std.specs.declared.cmp.Ordering.{Ordering}
use Rattle.std.specs.declared.cmp.Ordering.TheVariants.{Less, Equal, Greater}
use Rattle.adg_base.specs.Address.{Place}
use Rattle.adg_base.specs.Values.{value_cmp, cell_of}
use Rattle.adg_base.specs.declared.answer.Cell.{Cell}
use Rattle.adg_base.specs.declared.command.Aggregate.TheVariants.{Count, Sum}
use Rattle.adg_base.specs.declared.log.LogEntry.{LogEntry}
use Rattle.adg_base.specs.declared.value.Value.{Value}
use Rattle.adg_base.specs.declared.value.Value.TheVariants.{Null, Int, Text}
use Rattle.adg_model.specs.Database.{Rows, Table, no_database, rows_at, table_at}
use Rattle.adg_model.specs.Query.{meets, padded, value_in, values_in, sum_cell, by_order, with_key, keys_of, rows_with, aggregate_cells, object_places, object_rows, table_rows, filtered, answer_of, has_columns, has_types}
use Rattle.adg_model.specs.Sound.{SoundFrom}
use Rattle.adg_model.specs.Spelling.{IsValue}
use Rattle.soak_run.specs.Summary.{balances_of, answer_over, answer_at}
use Rattle.soak_run.proofs.Lines.{IsPlainCell}
use Rattle.soak_run.proofs.Stands.{AreValues, row_spelled}

abbrev AreRows : List (List Value) → Type 0
AreRows rows = AllByRecursion AreValues rows

abbrev pub ArePlain : List (List Cell) → Type 0
ArePlain lines = AllByRecursion (AllByRecursion IsPlainCell) lines

-- ---- lists whose elements are good

each_kept : {X : Type 0} (P : X → Type 0) (p : X → Bool) (xs : List X) → AllByRecursion P xs → AllByRecursion P (filter p xs)
each_kept P p [] h = tt
each_kept {X} P p (x ∷ xs) h = by_test (p x) (each_kept P p xs h.1)
  where
    by_test : (b : Bool) → AllByRecursion P (filter p xs) → AllByRecursion P (cond b (x ∷ filter p xs) (filter p xs))
    by_test true k = (h.0, k)
    by_test false k = k

each_found : (P : List Value → Type 0) (f : Rows) (places : List Place) → ((a : Place) (row : List Value) → f a ≡ Some row → P row) → AllByRecursion P (filter_map f places)
each_found P f [] h = tt
each_found P f (a ∷ places) h = by_option (f a) refl (each_found P f places h)
  where
    by_option : (o : Option (List Value)) → f a ≡ o → AllByRecursion P (filter_map f places) → AllByRecursion P (cons_option o (filter_map f places))
    by_option None e k = k
    by_option (Some row) e k = (h a row e, k)

values_append : (xs ys : List Value) → AreValues xs → AreValues ys → AreValues (xs ++ ys)
values_append [] ys h k = k
values_append (x ∷ xs) ys h k = (h.0, values_append xs ys h.1 k)

nulls : (n : ℕ) → AreValues (replicate n Null)
nulls zero = tt
nulls (suc n) = (tt, nulls n)

padded_good : (width : ℕ) (rows : List (List Value)) → AreRows rows → AreRows (map (padded width) rows)
padded_good width [] h = tt
padded_good width (row ∷ rows) h = (values_append row (replicate (width - length row) Null) h.0 (nulls (width - length row)), padded_good width rows h.1)

-- ---- values and keys

value_at : (row : List Value) (i : ℕ) → AreValues row → IsValue (unwrap_or (slice_get row i) Null)
value_at [] i h = tt
value_at (v ∷ row) zero h = h.0
value_at (v ∷ row) (suc i) h = value_at row i h.1

value_plain : (v : Value) → IsValue v → IsPlainCell (cell_of v)
value_plain Null h = tt
value_plain (Int n) h = tt
value_plain (Text t) h = h

key_good : (k : Value) (xs : List Value) → IsValue k → AreValues xs → AreValues (with_key k xs)
key_good k [] g h = (g, tt)
key_good k (x ∷ xs) g h = by_cases (value_cmp k x) (key_good k xs g h.1)
  where
    by_cases : (o : Ordering) → AreValues (with_key k xs) → AreValues (by_order o (k ∷ x ∷ xs) (x ∷ xs) (x ∷ with_key k xs))
    by_cases Less ih = (g, h)
    by_cases Equal ih = h
    by_cases Greater ih = (h.0, ih)

keys_good : (column : ℕ) (rows : List (List Value)) → AreRows rows → AreValues (keys_of column rows)
keys_good column [] h = tt
keys_good column (row ∷ rows) h = key_good (value_in column row) (keys_of column rows) (value_at row (column - 1) h.0) (keys_good column rows h.1)

-- ---- the lines of the balances

sum_plain : (vs : List Value) → IsPlainCell (sum_cell vs)
sum_plain [] = tt
sum_plain (v ∷ vs) = tt

lines_plain : (column sum : ℕ) (rows : List (List Value)) (keys : List Value) → AreValues keys
    → ArePlain (map (λ key. cell_of key ∷ aggregate_cells (Count ∷ Sum sum ∷ []) (rows_with column key rows)) keys)
lines_plain column sum rows [] h = tt
lines_plain column sum rows (key ∷ keys) h =
    ((value_plain key h.0, (tt, (sum_plain (values_in sum (rows_with column key rows)), tt))), lines_plain column sum rows keys h.1)

answer_plain : (rows : Rows) (k : ℕ) (table : Table) → ((a : Place) (row : List Value) → rows a ≡ Some row → AreValues row) → ArePlain (answer_of rows (balances_of k) table)
answer_plain rows k table h =
    let all = padded_good (length table.kinds) (object_rows rows k table.extents) (each_found AreValues rows (object_places k table.extents) h) in
    let kept = filtered [] (table_rows rows k table) in
    lines_plain 1 2 kept (keys_of 1 kept) (keys_good 1 kept (each_kept AreValues (λ row. list_all (meets row) []) (table_rows rows k table) all))

over_plain : (rows : Rows) (k : ℕ) (o : Option Table) → ((a : Place) (row : List Value) → rows a ≡ Some row → AreValues row) → ArePlain (answer_over rows (balances_of k) o)
over_plain rows k None h = tt
over_plain rows k (Some table) h = by_test (has_columns (balances_of k) table && has_types (balances_of k) table)
  where
    by_test : (b : Bool) → ArePlain (cond b (answer_of rows (balances_of k) table) [])
    by_test true = answer_plain rows k table h
    by_test false = tt

pub balances_plain : (log : List LogEntry) (scn k : ℕ) → SoundFrom no_database log → ArePlain (answer_at log scn (balances_of k))
balances_plain log scn k s = over_plain (rows_at log scn) k (table_at log scn k) (λ a row e. row_spelled log scn a row s e)
