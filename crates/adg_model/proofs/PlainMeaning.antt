-- Lemmas on the meaning of a SELECT as the plain program computes it.
use Rattle.std.proofs.Common.{◌≡◌, ℕ, zero, suc, ◌+◌, Bool, true, false, nat_le, ◌&&◌, List, [], ◌∷◌, ◌++◌, map, length, replicate, Option, Some, None, option_to_list, refl, sym, ap, ap₂, ◌∙◌, arith, append_assoc, append-nil}
use Rattle.std.specs.List.{list_all, flat_map, filter_map, range_with_len, cons_option}
use Rattle.std.proofs.lemmas.List.{map-append}
use Rattle.std.proofs.lemmas.List.Elements.{filter_map-append}
use Rattle.std.proofs.lemmas.List.Folds.{list_all-append, list_all-map}
use Rattle.std.proofs.lemmas.List.FromFn.{map-range_with_len_more}
use Rattle.adg_base.specs.Address.{Place, place}
use Rattle.adg_base.specs.declared.value.Value.{Value}
use Rattle.adg_base.specs.declared.command.Select.{Select}
use Rattle.adg_base.specs.declared.command.Aggregate.{Aggregate}
use Rattle.adg_model.specs.Database.{Rows, Table}
use Rattle.adg_model.specs.Query.{padded, columns_in, column_of, has_columns}

-- one Null more
pub replicate_more : (n : ℕ) (v : Value) → replicate (n + 1) v ≡ replicate n v ++ v ∷ []
replicate_more n v = let e : n + 1 ≡ suc n = omega arith in rw e (one_more n)
  where
    one_more : (n : ℕ) → replicate (suc n) v ≡ replicate n v ++ v ∷ []
    one_more zero = refl
    one_more (suc n) = ap (λ l. v ∷ l) (one_more n)

-- the rows at one address more
pub rows_more : (f : Rows) (w : ℕ) (xs ys : List Place) → map (padded w) (filter_map f (xs ++ ys)) ≡ map (padded w) (filter_map f xs) ++ map (padded w) (filter_map f ys)
rows_more f w xs ys = ap (map (padded w)) (filter_map-append f xs ys) ∙ map-append (padded w) (filter_map f xs) (filter_map f ys)

pub slot_more : (f : Rows) (w o b n : ℕ) (rows : List (List Value)) →
    rows ++ map (padded w) (filter_map f (map (place o b) (range_with_len 0 (n + 1))))
    ≡ (rows ++ map (padded w) (filter_map f (map (place o b) (range_with_len 0 n)))) ++ map (padded w) (filter_map f (place o b n ∷ []))
slot_more f w o b n rows =
    let before = map (place o b) (range_with_len 0 n) in
    let at : 0 + n ≡ n = omega arith in
    ap (λ ps. rows ++ map (padded w) (filter_map f ps)) (map-range_with_len_more (place o b) 0 n n at)
    ∙ ap (λ rs. rows ++ rs) (rows_more f w before (place o b n ∷ []))
    ∙ sym (append_assoc rows (map (padded w) (filter_map f before)) (map (padded w) (filter_map f (place o b n ∷ []))))

-- the rows of one block more
flat_map_more : {X : Type 0} (g : ℕ → List X) (a n : ℕ) → flat_map g (range_with_len a (suc n)) ≡ flat_map g (range_with_len a n) ++ g (a + n)
flat_map_more g a zero = let e : a + 0 ≡ a = omega arith in rw e (append-nil (g a))
flat_map_more g a (suc n) =
    let e : a + 1 + n ≡ a + suc n = omega arith in
    ap (λ l. g a ++ l) (flat_map_more g (a + 1) n)
    ∙ sym (append_assoc (g a) (flat_map g (range_with_len (a + 1) n)) (g (a + 1 + n)))
    ∙ ap (λ k. (g a ++ flat_map g (range_with_len (a + 1) n)) ++ g k) e

pub block_more : (f : Rows) (w : ℕ) (g : ℕ → List Place) (n : ℕ) →
    map (padded w) (filter_map f (flat_map g (range_with_len 0 (n + 1))))
    ≡ map (padded w) (filter_map f (flat_map g (range_with_len 0 n))) ++ map (padded w) (filter_map f (g n))
block_more f w g n =
    let e : n + 1 ≡ suc n = omega arith in
    let at : 0 + n ≡ n = omega arith in
    ap (λ k. map (padded w) (filter_map f (flat_map g (range_with_len 0 k)))) e
    ∙ ap (λ ps. map (padded w) (filter_map f ps)) (flat_map_more g 0 n)
    ∙ rows_more f w (flat_map g (range_with_len 0 n)) (g (0 + n))
    ∙ ap (λ k. map (padded w) (filter_map f (flat_map g (range_with_len 0 n))) ++ map (padded w) (filter_map f (g k))) at

-- the columns that a SELECT names, part by part
pub all_in_columns : (p : ℕ → Bool) (aggregates : List Aggregate) → list_all p (filter_map column_of aggregates) ≡ list_all (λ a. list_all p (option_to_list (column_of a))) aggregates
all_in_columns p [] = refl
all_in_columns p (a ∷ as') = by_column (column_of a) (all_in_columns p as')
  where
    by_column : (c : Option ℕ) → list_all p (filter_map column_of as') ≡ list_all (λ x. list_all p (option_to_list (column_of x))) as' → list_all p (cons_option c (filter_map column_of as')) ≡ (list_all p (option_to_list c) && list_all (λ x. list_all p (option_to_list (column_of x))) as')
    by_column None ih = ih
    by_column (Some c) ih = cases (p c)
      where
        cases : (b : Bool) → (b && list_all p (filter_map column_of as')) ≡ ((b && true) && list_all (λ x. list_all p (option_to_list (column_of x))) as')
        cases true = ih
        cases false = refl

pub all_columns : (select : Select) (table : Table) (asked tested grouped : Bool)
    → asked ≡ list_all (λ c. nat_le c (length table.kinds)) (columns_in select.what)
    → tested ≡ list_all (λ c. nat_le c.column (length table.kinds)) select.conditions
    → grouped ≡ list_all (λ c. nat_le c (length table.kinds)) (option_to_list select.group)
    → (asked && tested && grouped) ≡ has_columns select table
all_columns select table asked tested grouped a t g =
    let p : ℕ → Bool = λ c. nat_le c (length table.kinds) in
    let columns = map (λ c. c.column) select.conditions in
    ap₂ (λ (x y : Bool). x && y) (ap₂ (λ (x y : Bool). x && y) a (t ∙ sym (list_all-map p (λ c. c.column) select.conditions))) g
    ∙ sym (list_all-append p (columns_in select.what ++ columns) (option_to_list select.group) ∙ ap (λ b. b && list_all p (option_to_list select.group)) (list_all-append p (columns_in select.what) columns))
