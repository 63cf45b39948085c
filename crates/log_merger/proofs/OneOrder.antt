-- Two lists of the same entries in strictly rising order are equal.
use Rattle.std.proofs.Common.{◌≡◌, ℕ, ◌<◌, true, List, [], ◌∷◌, length, get_or, zero, suc, ◌⊎◌, inl, inr, refl, sym, ap₂, ◌∙◌, subst, arith, true≢false}
use Rattle.std.specs.List.{Contains}
use Rattle.adg_base.specs.declared.log.LogEntry.{LogEntry}
use Rattle.adg_model.specs.Log.{comes_before}
use Rattle.log_merger.specs.Law.{RisesStrictly, OrderIsOne}
use Rattle.log_merger.proofs.Orders.{not_after, not_itself}

first_before : (x : LogEntry) (xs : List LogEntry) → RisesStrictly (x ∷ xs) → (e : LogEntry) → Contains xs e → comes_before x e ≡ true
first_before x xs h e m = subst (λ (y : LogEntry). comes_before x y ≡ true) m.2 (h 0 (suc m.0) e (omega arith) (omega (arith, m.1)))

rest_rises : (x : LogEntry) (xs : List LogEntry) → RisesStrictly (x ∷ xs) → RisesStrictly xs
rest_rises x xs h = λ i j d lt within. h (suc i) (suc j) d (omega (arith, lt)) (omega (arith, within))

contains_first : (x : LogEntry) (xs : List LogEntry) → Contains (x ∷ xs) x
contains_first x xs = (0, omega arith, refl)

contains_later : (x : LogEntry) (xs : List LogEntry) (e : LogEntry) → Contains xs e → Contains (x ∷ xs) e
contains_later x xs e m = (suc m.0, omega (arith, m.1), m.2)

first_or_later : (x : LogEntry) (xs : List LogEntry) (e : LogEntry) → Contains (x ∷ xs) e → (x ≡ e) ⊎ Contains xs e
first_or_later x xs e m = by_place m.0 m.1 m.2
  where
    by_place : (k : ℕ) → k < length (x ∷ xs) → get_or (x ∷ xs) k e ≡ e → (x ≡ e) ⊎ Contains xs e
    by_place zero lt at = inl at
    by_place (suc k) lt at = inr (k, omega (arith, lt), at)

no_members : (x : LogEntry) → Contains [] x → ⊥
no_members x m = omega (arith, m.1)

-- the first entries are the same: neither comes before the other
firsts : (x y : LogEntry) (xs ys : List LogEntry) → RisesStrictly (x ∷ xs) → RisesStrictly (y ∷ ys) → (x ≡ y) ⊎ Contains xs y → (y ≡ x) ⊎ Contains ys x → x ≡ y
firsts x y xs ys h k (inl e) later = e
firsts x y xs ys h k (inr m) (inl e) = sym e
firsts x y xs ys h k (inr m) (inr n) = absurd (true≢false (sym (first_before y ys k x n) ∙ not_after x y (first_before x xs h y m)))

-- a member of the rest is none of the first
kept_later : (x y : LogEntry) (xs ys : List LogEntry) (e : LogEntry) → x ≡ y → RisesStrictly (x ∷ xs) → Contains xs e → (y ≡ e) ⊎ Contains ys e → Contains ys e
kept_later x y xs ys e same h m (inr n) = n
kept_later x y xs ys e same h m (inl at) = absurd (true≢false (sym (first_before x xs h e m) ∙ subst (λ (z : LogEntry). comes_before x z ≡ comes_before x x) (same ∙ at) refl ∙ not_itself x))

pub order_is_one : OrderIsOne
order_is_one [] [] h k same = refl
order_is_one [] (y ∷ ys) h k same = absurd (no_members y ((same y).1 (contains_first y ys)))
order_is_one (x ∷ xs) [] h k same = absurd (no_members x ((same x).0 (contains_first x xs)))
order_is_one (x ∷ xs) (y ∷ ys) h k same =
    let first : x ≡ y = firsts x y xs ys h k (first_or_later x xs y ((same y).1 (contains_first y ys))) (first_or_later y ys x ((same x).0 (contains_first x xs))) in
    let rest : xs ≡ ys = order_is_one xs ys (rest_rises x xs h) (rest_rises y ys k)
    (λ e. (
      λ m. kept_later x y xs ys e first h m (first_or_later y ys e ((same e).0 (contains_later x xs e m))),
      λ m. kept_later y x ys xs e (sym first) k m (first_or_later x xs e ((same e).1 (contains_later y ys e m))),
    )) in
    ap₂ (λ (z : LogEntry) (zs : List LogEntry). z ∷ zs) first rest
