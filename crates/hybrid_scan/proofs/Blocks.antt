-- The rows of blocks.
use Rattle.std.proofs.Common.{◌≡◌, ℕ, zero, suc, ◌+◌, ◌≤◌, List, [], ◌∷◌, ◌++◌, map, length, Option, Some, None, option_map, refl, ap, ap₂, ◌∙◌, arith}
use Rattle.std.specs.Prelude.{option_to_list}
use Rattle.std.specs.List.{AllByRecursion, filter_map, range_with_len, cons_option}
use Rattle.std.proofs.lemmas.List.Elements.{filter_map-append}
use Rattle.std.proofs.lemmas.List.FromFn.{map-range_with_len_more}
use Rattle.adg_base.specs.Address.{Place, place}
use Rattle.adg_base.specs.declared.value.Value.{Value}
use Rattle.adg_model.specs.Database.{Rows}
use Rattle.adg_model.specs.Query.{padded}
use Rattle.hybrid_scan.specs.Reader.{placed, placed_at}
use Rattle.hybrid_scan.specs.Scan.{wide, wide_rows}

abbrev pub slots_of : ℕ → ℕ → ℕ → List Place
slots_of obj block n = map (λ slot. place obj block slot) (range_with_len 0 n)

filter_one : {X Y : Type 0} (f : X → Option Y) (x : X) → filter_map f (x ∷ []) ≡ option_to_list (f x)
filter_one {Y} f x = by_case (f x) refl
  where
    by_case : (o : Option Y) → f x ≡ o → filter_map f (x ∷ []) ≡ option_to_list o
    by_case None e = rw e refl
    by_case (Some y) e = rw e refl

-- one more place
pub filter_map_more : {X Y : Type 0} (f : X → Option Y) (xs : List X) (x : X) → filter_map f (xs ++ x ∷ []) ≡ filter_map f xs ++ option_to_list (f x)
filter_map_more f xs x = filter_map-append f xs (x ∷ []) ∙ ap (λ l. filter_map f xs ++ l) (filter_one f x)

pub slots_more : (obj block n : ℕ) → slots_of obj block (n + 1) ≡ slots_of obj block n ++ place obj block n ∷ []
slots_more obj block n = map-range_with_len_more (λ slot. place obj block slot) 0 n n (omega arith)

-- the rows of a block's slots, with one more
pub placed_more : (rows : Rows) (obj block n : ℕ) → placed rows (slots_of obj block (n + 1)) ≡ placed rows (slots_of obj block n) ++ option_to_list (option_map (placed_at (place obj block n)) (rows (place obj block n)))
placed_more rows obj block n = ap (placed rows) (slots_more obj block n) ∙ filter_map_more (λ a. option_map (placed_at a) (rows a)) (slots_of obj block n) (place obj block n)

-- the same where the same comes of each
pub filter_map_same : {X Y : Type 0} (f g : X → Option Y) (xs : List X) → AllByRecursion (λ x. f x ≡ g x) xs → filter_map f xs ≡ filter_map g xs
filter_map_same f g [] h = refl
filter_map_same f g (x ∷ xs) h = ap₂ cons_option h.0 (filter_map_same f g xs h.1)

-- the same rows at each slot
pub placed_same : (rows rows' : Rows) (obj block k n : ℕ) → ((slot : ℕ) → rows (place obj block slot) ≡ rows' (place obj block slot))
    → placed rows (map (λ slot. place obj block slot) (range_with_len k n)) ≡ placed rows' (map (λ slot. place obj block slot) (range_with_len k n))
placed_same rows rows' obj block k zero same = refl
placed_same rows rows' obj block k (suc n) same = ap₂ cons_option (ap (option_map (placed_at (place obj block k))) (same k)) (placed_same rows rows' obj block (k + 1) n same)

-- no rows where there are none
pub placed_none : (rows : Rows) (obj block k n : ℕ) → ((slot : ℕ) → rows (place obj block slot) ≡ None) → placed rows (map (λ slot. place obj block slot) (range_with_len k n)) ≡ []
placed_none rows obj block k zero none = refl
placed_none rows obj block k (suc n) none = ap₂ cons_option (ap (option_map (placed_at (place obj block k))) (none k)) (placed_none rows obj block (k + 1) n none)

-- placed rows, each as wide as the object
pub wide_placed : (width : ℕ) (rows : Rows) (places : List Place) → wide_rows width (placed rows places) ≡ filter_map (wide width rows) places
wide_placed width rows [] = refl
wide_placed width rows (a ∷ places) = by_row (rows a) ∙ ap (cons_option (wide width rows a)) (wide_placed width rows places)
  where
    by_row : (r : Option (List Value)) → wide_rows width (cons_option (option_map (placed_at a) r) (placed rows places)) ≡ cons_option (option_map (padded width) r) (wide_rows width (placed rows places))
    by_row None = refl
    by_row (Some row) = refl

pub length_filter_map : {X Y : Type 0} (f : X → Option Y) (xs : List X) → length (filter_map f xs) ≤ length xs
length_filter_map f [] = omega arith
length_filter_map {Y = Y} f (x ∷ xs) = by_item (f x) (length_filter_map f xs)
  where
    by_item : (o : Option Y) → length (filter_map f xs) ≤ length xs → length (cons_option o (filter_map f xs)) ≤ suc (length xs)
    by_item None h = omega (arith, h)
    by_item (Some y) h = omega (arith, h)
