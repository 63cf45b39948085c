-- The row at an address in the columns of an extent, as a scan comes to it.
use Rattle.std.proofs.Common.{◌≡◌, ℕ, suc, ◌+◌, ◌-◌, ◌<◌, ◌≤◌, Bool, true, false, ◌||◌, cond, if◌then◌else◌, List, [], ◌∷◌, ◌++◌, length, filter, Option, Some, None, is_some, option_map, refl, sym, ap, ap₂, ◌∙◌, arith, true≢false}
use Rattle.std.specs.Prelude.{slice_get}
use Rattle.std.specs.List.{list_any}
use Rattle.std.proofs.lemmas.List.Elements.{filter-append}
use Rattle.std.proofs.lemmas.Bool.Decides.{nat_tests}
use Rattle.adg_base.specs.Address.{Place, same_place, extent_places}
use Rattle.adg_base.specs.declared.value.Value.{Value}
use Rattle.column_codec.specs.Values.{row_at}
use Rattle.column_codec.specs.Extent.{PlacedColumns, found_from, row_in}
use Rattle.hybrid_scan.specs.Progress.{is_here, nth_place}
use Rattle.hybrid_scan.proofs.Places.{nth_places, places_are, places_more, places_split, later_places, none_later, none_before, length_places}

-- what passes a test passes one that is wider
filter_none : (test kept : Place → Bool) (xs : List Place) → list_any test xs ≡ false → list_any test (filter kept xs) ≡ false
filter_none test kept [] e = refl
filter_none test kept (x ∷ xs) e = by_first (test x) refl (filter_none test kept xs)
  where
    by_first : (b : Bool) → test x ≡ b → (list_any test xs ≡ false → list_any test (filter kept xs) ≡ false) → list_any test (filter kept (x ∷ xs)) ≡ false
    by_first true p rest = absurd (true≢false (sym (ap (λ b. b || list_any test xs) p) ∙ e))
    by_first false p rest = by_kept (kept x) refl (rest (sym (ap (λ b. b || list_any test xs) p) ∙ e))
      where
        by_kept : (b : Bool) → kept x ≡ b → list_any test (filter kept xs) ≡ false → list_any test (filter kept (x ∷ xs)) ≡ false
        by_kept true k later = ap (λ b. list_any test (cond b (x ∷ filter kept xs) (filter kept xs))) k ∙ ap₂ (λ b c. b || c) p later
        by_kept false k later = ap (λ b. list_any test (cond b (x ∷ filter kept xs) (filter kept xs))) k ∙ later

found_none : (at : ℕ) (columns : List (List Value)) (xs : List Place) (a : Place) → list_any (same_place a) xs ≡ false → found_from at columns xs a ≡ None
found_none at columns [] a e = refl
found_none at columns (x ∷ xs) a e = by_first (same_place a x) refl (found_none (at + 1) columns xs a)
  where
    by_first : (b : Bool) → same_place a x ≡ b → (list_any (same_place a) xs ≡ false → found_from (at + 1) columns xs a ≡ None) → found_from at columns (x ∷ xs) a ≡ None
    by_first true p rest = absurd (true≢false (sym (ap (λ b. b || list_any (same_place a) xs) p) ∙ e))
    by_first false p rest = ap (λ b. if b then Some (row_at columns at) else found_from (at + 1) columns xs a) p ∙ rest (sym (ap (λ b. b || list_any (same_place a) xs) p) ∙ e)

found_behind : (at : ℕ) (columns : List (List Value)) (xs ys : List Place) (a : Place) → list_any (same_place a) xs ≡ false → found_from at columns (xs ++ ys) a ≡ found_from (at + length xs) columns ys a
found_behind at columns [] ys a e = let z : at ≡ at + 0 = omega arith in ap (λ k. found_from k columns ys a) z
found_behind at columns (x ∷ xs) ys a e = by_first (same_place a x) refl (found_behind (at + 1) columns xs ys a)
  where
    by_first : (b : Bool) → same_place a x ≡ b → (list_any (same_place a) xs ≡ false → found_from (at + 1) columns (xs ++ ys) a ≡ found_from (at + 1 + length xs) columns ys a)
        → found_from at columns (x ∷ (xs ++ ys)) a ≡ found_from (at + suc (length xs)) columns ys a
    by_first true p rest = absurd (true≢false (sym (ap (λ b. b || list_any (same_place a) xs) p) ∙ e))
    by_first false p rest =
        let z : at + 1 + length xs ≡ at + suc (length xs) = omega arith in
        ap (λ b. if b then Some (row_at columns at) else found_from (at + 1) columns (xs ++ ys) a) p ∙ rest (sym (ap (λ b. b || list_any (same_place a) xs) p) ∙ e) ∙ ap (λ k. found_from k columns ys a) z

get_behind : (xs ys : List Place) → slice_get (xs ++ ys) (length xs) ≡ slice_get ys 0
get_behind [] ys = refl
get_behind (x ∷ xs) ys = get_behind xs ys

same_itself : (a : Place) → same_place a a ≡ true
same_itself a = grind (arith, nat_tests)

first_apart : (a : Place) (ys : List Place) → list_any (same_place a) ys ≡ false → is_here (slice_get ys 0) a ≡ false
first_apart a [] e = refl
first_apart a (y ∷ ys) e = by_first (same_place a y) refl
  where
    by_first : (b : Bool) → same_place a y ≡ b → same_place a y ≡ false
    by_first false p = p
    by_first true p = absurd (true≢false (sym (ap (λ b. b || list_any (same_place a) ys) p) ∙ e))

-- what stands at the place that a scan has come to, where the address is kept, and where it is not
pub record Here (addresses : List Place) (columns : List (List Value)) (next : ℕ) (a : Place) (kept : Bool) : Type 0 where
  pub here : is_here (slice_get addresses next) a ≡ kept
  pub row : found_from 0 columns addresses a ≡ (if kept then Some (row_at columns next) else None)

here_in : (kept : Place → Bool) (columns : List (List Value)) (before after : List Place) (a : Place) (next : ℕ) → list_any (same_place a) before ≡ false → list_any (same_place a) after ≡ false → next ≡ length (filter kept before)
    → Here (filter kept (before ++ a ∷ after)) columns next a (kept a)
here_in kept columns before after a next not_before not_after is = by_kept (kept a) refl
  where
    front : List Place
    front = filter kept before

    split : filter kept (before ++ a ∷ after) ≡ front ++ filter kept (a ∷ after)
    split = filter-append kept before (a ∷ after)

    none_front : list_any (same_place a) front ≡ false
    none_front = filter_none (same_place a) kept before not_before

    none_back : list_any (same_place a) (filter kept after) ≡ false
    none_back = filter_none (same_place a) kept after not_after

    zero_more : 0 + length front ≡ next
    zero_more = omega (arith, is)

    at_next : slice_get (filter kept (before ++ a ∷ after)) next ≡ slice_get (filter kept (a ∷ after)) 0
    at_next = ap₂ slice_get split is ∙ get_behind front (filter kept (a ∷ after))

    from_next : found_from 0 columns (filter kept (before ++ a ∷ after)) a ≡ found_from next columns (filter kept (a ∷ after)) a
    from_next = ap (λ xs. found_from 0 columns xs a) split ∙ found_behind 0 columns front (filter kept (a ∷ after)) a none_front ∙ ap (λ k. found_from k columns (filter kept (a ∷ after)) a) zero_more

    by_kept : (b : Bool) → kept a ≡ b → Here (filter kept (before ++ a ∷ after)) columns next a b
    by_kept true k =
        let back : filter kept (a ∷ after) ≡ a ∷ filter kept after = ap (λ b. cond b (a ∷ filter kept after) (filter kept after)) k in
        record {
          here = ap (λ o. is_here o a) (at_next ∙ ap (λ xs. slice_get xs 0) back) ∙ same_itself a;
          row = from_next ∙ ap (λ xs. found_from next columns xs a) back ∙ ap (λ b. if b then Some (row_at columns next) else found_from (next + 1) columns (filter kept after) a) (same_itself a);
        }
    by_kept false k =
        let back : filter kept (a ∷ after) ≡ filter kept after = ap (λ b. cond b (a ∷ filter kept after) (filter kept after)) k in
        record {
          here = ap (λ o. is_here o a) (at_next ∙ ap (λ xs. slice_get xs 0) back) ∙ first_apart a (filter kept after) none_back;
          row = from_next ∙ ap (λ xs. found_from next columns xs a) back ∙ found_none next columns (filter kept after) a none_back;
        }

-- A scan of an extent's columns has come to an address by its number: the next row is behind those of the addresses before it.
pub record IsNext (obj extent : ℕ) (addresses : List Place) (index next : ℕ) : Type 0 where
  pub kept : Place → Bool
  pub order : addresses ≡ filter kept (extent_places obj extent)
  pub place : next ≡ length (filter kept (nth_places obj extent index))

pub next_here : (obj extent : ℕ) (c : PlacedColumns) (index next : ℕ) → (n : IsNext obj extent c.addresses index next) → index < 1024
    → Here c.addresses c.columns next (nth_place obj extent index) (n.kept (nth_place obj extent index))
next_here obj extent c index next n within =
    let a = nth_place obj extent index in
    let e : c.addresses ≡ filter n.kept (nth_places obj extent index ++ a ∷ later_places obj extent (index + 1) (1023 - index)) =
    n.order ∙ ap (filter n.kept) (places_are obj extent ∙ places_split obj extent index within) in
    let h = here_in n.kept c.columns (nth_places obj extent index) (later_places obj extent (index + 1) (1023 - index)) a next
    (none_before obj extent index 0 index (omega arith)) (none_later obj extent index (index + 1) (1023 - index) (omega arith)) n.place in
    record { here = ap (λ xs. is_here (slice_get xs next) a) e ∙ h.here; row = ap (λ xs. found_from 0 c.columns xs a) e ∙ h.row }

abbrev pub place_if : Bool → ℕ → Option ℕ
place_if here next = if here then Some next else None

-- the row at the address is that at the place of the next row, where it is here
pub row_here : (obj extent : ℕ) (c : PlacedColumns) (index next : ℕ) → IsNext obj extent c.addresses index next → index < 1024
    → row_in c (nth_place obj extent index) ≡ option_map (row_at c.columns) (place_if (is_here (slice_get c.addresses next) (nth_place obj extent index)) next)
row_here obj extent c index next n within =
    let h = next_here obj extent c index next n within in
    h.row ∙ turned (n.kept (nth_place obj extent index)) ∙ ap (λ b. option_map (row_at c.columns) (place_if b next)) (sym h.here)
  where
    turned : (b : Bool) → (if b then Some (row_at c.columns next) else None) ≡ option_map (row_at c.columns) (place_if b next)
    turned true = refl
    turned false = refl

length_one : (kept : Place → Bool) (a : Place) → length (filter kept (a ∷ [])) ≡ (if kept a then 1 else 0)
length_one kept a = by_kept (kept a) refl
  where
    by_kept : (b : Bool) → kept a ≡ b → length (filter kept (a ∷ [])) ≡ (if b then 1 else 0)
    by_kept true k = ap (λ b. length (cond b (a ∷ []) [])) k
    by_kept false k = ap (λ b. length (cond b (a ∷ []) [])) k

length_append : (xs ys : List Place) → length (xs ++ ys) ≡ length xs + length ys
length_append [] ys = omega arith
length_append (x ∷ xs) ys = let h = length_append xs ys in omega (arith, h)

-- so it has come to the next address
pub next_more : (obj extent : ℕ) (c : PlacedColumns) (index next : ℕ) → IsNext obj extent c.addresses index next → index < 1024
    → IsNext obj extent c.addresses (index + 1) (next + (if is_here (slice_get c.addresses next) (nth_place obj extent index) then 1 else 0))
next_more obj extent c index next n within =
    let a = nth_place obj extent index in
    let h = next_here obj extent c index next n within in
    record {
      kept = n.kept;
      order = n.order;
      place = ap₂ (λ x b. x + (if b then 1 else 0)) n.place h.here
          ∙ sym (ap (λ xs. length (filter n.kept xs)) (places_more obj extent index) ∙ ap length (filter-append n.kept (nth_places obj extent index) (a ∷ []))
          ∙ length_append (filter n.kept (nth_places obj extent index)) (filter n.kept (a ∷ [])) ∙ ap (λ k. length (filter n.kept (nth_places obj extent index)) + k) (length_one n.kept a));
    }

-- the place of the next row then
pub next_place : (obj extent : ℕ) (c : PlacedColumns) (index next : ℕ) (n : IsNext obj extent c.addresses index next) → index < 1024
    → next + (if is_here (slice_get c.addresses next) (nth_place obj extent index) then 1 else 0) ≡ length (filter n.kept (nth_places obj extent (index + 1)))
unfolding next_more
next_place obj extent c index next n within = (next_more obj extent c index next n within).place

pub next_first : (obj extent : ℕ) (c : PlacedColumns) (kept : Place → Bool) → c.addresses ≡ filter kept (extent_places obj extent) → IsNext obj extent c.addresses 0 0
next_first obj extent c kept order = record { kept = kept; order = order; place = refl }

length_filter_most : (kept : Place → Bool) (xs : List Place) → length (filter kept xs) ≤ length xs
length_filter_most kept [] = omega arith
length_filter_most kept (x ∷ xs) = by_kept (kept x) refl (length_filter_most kept xs)
  where
    by_kept : (b : Bool) → kept x ≡ b → length (filter kept xs) ≤ length xs → length (filter kept (x ∷ xs)) ≤ suc (length xs)
    by_kept true k h = let e : length (filter kept (x ∷ xs)) ≡ suc (length (filter kept xs)) = ap (λ b. length (cond b (x ∷ filter kept xs) (filter kept xs))) k in omega (arith, e, h)
    by_kept false k h = let e : length (filter kept (x ∷ xs)) ≡ length (filter kept xs) = ap (λ b. length (cond b (x ∷ filter kept xs) (filter kept xs))) k in omega (arith, e, h)

pub next_most : (obj extent : ℕ) (addresses : List Place) (index next : ℕ) → IsNext obj extent addresses index next → next ≤ index
next_most obj extent addresses index next n =
    let most = length_filter_most n.kept (nth_places obj extent index) in
    let long = length_places obj extent index in
    omega (arith, n.place, most, long)

-- the next row is behind where there is one here
abbrev pub one_if : Bool → ℕ
one_if b = if b then 1 else 0

pub counted_here : (b : Bool) (next : ℕ) → one_if (is_some (place_if b next)) ≡ one_if b
counted_here true next = refl
counted_here false next = refl
