-- Where a list in the order of SCN is parted at an SCN.
use Rattle.std.proofs.Common.{◌≡◌, ℕ, zero, suc, ◌-◌, ◌<◌, ◌≤◌, min, Bool, true, false, cond, leb, ltb, List, [], ◌∷◌, ◌++◌, length, take, drop, filter, get_or, sym, ap, ◌∙◌, refl, arith}
use Rattle.std.specs.List.{AllWithin, insert}
use Rattle.std.specs.List.Sorted.{IsPartitionPoint}
use Rattle.std.proofs.lemmas.Bool.{le-leb, lt-leb, le-ltb, lt-ltb, leb-true, leb-false}
use Rattle.std.proofs.lemmas.List.Sorted.{IsNonDecreasingBy-insert}
use Rattle.std.proofs.lemmas.List.{get_or_default, take_min}
use Rattle.scn_queue.specs.Queue.{upto, above, entered, IsInScnOrder, IsPartedAt}

module _ {X : Type 0} (p : X → Bool) where
  -- a test that no entry passes keeps none
  none_pass : (xs : List X) → AllWithin (λ x. p x ≡ false) xs 0 (length xs) → filter p xs ≡ []
  none_pass [] h = refl
  none_pass (x ∷ xs) h = ap (λ b. cond b (x ∷ filter p xs) (filter p xs)) (h 0 x (omega arith) (omega arith)) ∙ none_pass xs (λ k d low high. h (suc k) d (omega arith) (omega arith))

  -- a test that all entries pass keeps all
  all_pass : (xs : List X) → AllWithin (λ x. p x ≡ true) xs 0 (length xs) → filter p xs ≡ xs
  all_pass [] h = refl
  all_pass (x ∷ xs) h = ap (λ b. cond b (x ∷ filter p xs) (filter p xs)) (h 0 x (omega arith) (omega arith)) ∙ ap (λ l. x ∷ l) (all_pass xs (λ k d low high. h (suc k) d (omega arith) (omega arith)))

  -- a test that entries pass up to a place, and none behind it, keeps the entries up to there
  passes_upto : (xs : List X) (i : ℕ) → AllWithin (λ x. p x ≡ true) xs 0 i → AllWithin (λ x. p x ≡ false) xs i (length xs) → i ≤ length xs → take i xs ≡ filter p xs
  passes_upto xs zero passed failed within = sym (none_pass xs failed)
  passes_upto [] (suc i) passed failed within = refl
  passes_upto (x ∷ xs) (suc i) passed failed within =
      let rest = passes_upto xs i (λ k d low high. passed (suc k) d (omega arith) (omega arith)) (λ k d low high. failed (suc k) d (omega arith) (omega arith)) (omega arith) in
      ap (λ l. x ∷ l) rest ∙ sym (ap (λ b. cond b (x ∷ filter p xs) (filter p xs)) (passed 0 x (omega arith) (omega arith)))

  -- and one that entries pass from a place on keeps those from there on
  passes_from : (xs : List X) (i : ℕ) → AllWithin (λ x. p x ≡ false) xs 0 i → AllWithin (λ x. p x ≡ true) xs i (length xs) → i ≤ length xs → drop i xs ≡ filter p xs
  passes_from xs zero failed passed within = sym (all_pass xs passed)
  passes_from [] (suc i) failed passed within = refl
  passes_from (x ∷ xs) (suc i) failed passed within =
      let rest = passes_from xs i (λ k d low high. failed (suc k) d (omega arith) (omega arith)) (λ k d low high. passed (suc k) d (omega arith) (omega arith)) (omega arith) in
      rest ∙ sym (ap (λ b. cond b (x ∷ filter p xs) (filter p xs)) (failed 0 x (omega arith) (omega arith)))

module _ {X : Type 0} (scn : X → ℕ) (through : ℕ) (xs : List X) (i : ℕ) where
  -- what a binary search finds
  pub parted_from_point : i ≤ length xs → IsPartitionPoint (λ x. leb (scn x) through ≡ true) (λ x. leb (scn x) through ≡ false) xs i → IsPartedAt scn through xs i
  parted_from_point within point = record {
    within = within;
    first = λ k d low high. leb-true _ _ (point.0 k d low high);
    rest = λ k d low high. leb-false _ _ (point.1 k d low high);
  }

  -- the entries before the place have SCNs up to the one
  pub taken : IsPartedAt scn through xs i → take i xs ≡ upto scn through xs
  taken parted = passes_upto (λ x. leb (scn x) through) xs i (λ k d low high. le-leb _ _ (parted.first k d low high)) (λ k d low high. lt-leb _ _ (parted.rest k d low high)) parted.within

  -- and those behind it have SCNs above it
  pub left : IsPartedAt scn through xs i → drop i xs ≡ above scn through xs
  left parted = passes_from (λ x. ltb through (scn x)) xs i (λ k d low high. le-ltb _ _ (parted.first k d low high)) (λ k d low high. lt-ltb _ _ (parted.rest k d low high)) parted.within

-- an entry that is put where the list is parted at its SCN
module _ {X : Type 0} (scn : X → ℕ) (x : X) (xs : List X) (i : ℕ) (parted : IsPartedAt scn (scn x) xs i) where
  pub entered_at : insert xs i x ≡ entered scn x xs
  entered_at = ap (λ l. l ++ x ∷ drop i xs) (taken scn (scn x) xs i parted) ∙ ap (λ l. upto scn (scn x) xs ++ x ∷ l) (left scn (scn x) xs i parted)

  -- leaves the list in order
  pub still_in_order : IsInScnOrder scn xs → IsInScnOrder scn (insert xs i x)
  still_in_order order = IsNonDecreasingBy-insert scn xs i x order parted.within (λ k d high. parted.first k d (omega arith) high) (λ k d low high. ≤-from (parted.rest k d low high))
    where
      ≤-from : {a b : ℕ} → a < b → a ≤ b
      ≤-from h = omega arith

-- where the last entry has an SCN up to the one, the list is parted at its end
pub parted_at_end : {X : Type 0} (scn : X → ℕ) (through : ℕ) (xs : List X) (last : X) → IsInScnOrder scn xs → 0 < length xs → last ≡ get_or xs (length xs - 1) last → scn last ≤ through → IsPartedAt scn through xs (length xs)
parted_at_end scn through xs last order some is low = record {
  within = omega arith;
  first = λ k d _ high.
      let up : scn (get_or xs k d) ≤ scn (get_or xs (length xs - 1) d) = order k (length xs - 1) d (omega arith) (omega arith) in
      let same : get_or xs (length xs - 1) d ≡ last = get_or_default xs (length xs - 1) d last (omega arith) ∙ sym is in
      omega (arith, up, ap scn same, low);
  rest = λ k d lower higher. absurd (omega arith);
}

-- and the empty list at its beginning
pub parted_empty : {X : Type 0} (scn : X → ℕ) (through : ℕ) (xs : List X) → length xs ≡ 0 → IsPartedAt scn through xs 0
parted_empty scn through xs none = record { within = omega arith; first = λ k d lower higher. absurd (omega arith); rest = λ k d lower higher. absurd (omega arith) }

-- the front of two lists together is a front of the first and then of the second
pub front_of_two : {X : Type 0} (xs ys zs : List X) (n : ℕ) → xs ++ ys ≡ zs → take (min n (length xs)) xs ++ take (n - min n (length xs)) ys ≡ take n zs
front_of_two {X} xs ys zs n whole =
    let first : take (min n (length xs)) xs ≡ take n xs = take_min n xs in
    let rest : n - min n (length xs) ≡ n - length xs = omega arith in
    ap (λ l. l ++ take (n - min n (length xs)) ys) first ∙ ap (λ m. take n xs ++ take m ys) rest ∙ sym (by xs n) ∙ ap (take n) whole
  where
    by : (xs : List X) (n : ℕ) → take n (xs ++ ys) ≡ take n xs ++ take (n - length xs) ys
    by [] zero = refl
    by [] (suc n) = ap (λ m. take m ys) {x = suc n} {y = suc n - 0} (omega arith)
    by (x ∷ xs) zero = ap (λ m. take m ys) {x = 0} {y = 0 - suc (length xs)} (omega arith)
    by (x ∷ xs) (suc n) = ap (λ l. x ∷ l) (by xs n ∙ ap (λ m. take n xs ++ take m ys) {x = n - length xs} {y = suc n - suc (length xs)} (omega arith))
