-- A test leaves a permutation of what it leaves of a list.
use Rattle.std.proofs.Common.{◌≡◌, ℕ, zero, suc, ◌<◌, Bool, true, false, cond, List, [], ◌∷◌, filter, length, get_or, Some, None, ◌⊎◌, inl, inr, refl, sym, ap, ap₂, ◌∙◌, subst, arith, IsPermutation}
use Rattle.std.specs.Prelude.{slice_set}
use Rattle.std.specs.List.{swap}
use Rattle.std.proofs.lemmas.Bool.{cases_order}
use Rattle.std.proofs.lemmas.List.Sorted.{IsPermutation-refl, IsPermutation-sym, IsPermutation-trans, IsPermutation-cons, IsPermutation-middle, IsPermutation-keeps}
use Rattle.core_rules.specs.State.{At}
use Rattle.core_rules.proofs.Lists.{at_exists}

-- the list without the element at a place
abbrev pub without : {X : Type 0} → ℕ → List X → List X
without n [] = []
without zero (x ∷ xs) = xs
without (suc n) (x ∷ xs) = x ∷ without n xs

-- what a test leaves, with an element before it
abbrev pub before : {X : Type 0} → (X → Bool) → X → List X → List X
before p x xs = cond (p x) (x ∷ xs) xs

before_keeps : {X : Type 0} (p : X → Bool) (x : X) (xs ys : List X) → IsPermutation xs ys → IsPermutation (before p x xs) (before p x ys)
before_keeps p x xs ys h = by_test (p x)
  where
    by_test : (b : Bool) → IsPermutation (cond b (x ∷ xs) xs) (cond b (x ∷ ys) ys)
    by_test true = IsPermutation-cons x xs ys h
    by_test false = h

before_both : {X : Type 0} (p : X → Bool) (x y : X) (xs : List X) → IsPermutation (before p x (before p y xs)) (before p y (before p x xs))
before_both p x y xs = by_tests (p x) (p y)
  where
    by_tests : (a b : Bool) → IsPermutation (cond a (x ∷ cond b (y ∷ xs) xs) (cond b (y ∷ xs) xs)) (cond b (y ∷ cond a (x ∷ xs) xs) (cond a (x ∷ xs) xs))
    by_tests true true = IsPermutation-middle (x ∷ []) y xs
    by_tests true false = IsPermutation-refl (x ∷ xs)
    by_tests false true = IsPermutation-refl (y ∷ xs)
    by_tests false false = IsPermutation-refl xs

-- what a test leaves of a list, with one element brought to the front
pulled : {X : Type 0} (p : X → Bool) (xs : List X) (n : ℕ) (x : X) → At xs n x → IsPermutation (filter p xs) (before p x (filter p (without n xs)))
pulled p [] n x h = let e : None ≡ Some x = h in absurd cc
pulled p (z ∷ zs) zero x h =
    let e : Some z ≡ Some x = h in
    let same : z ≡ x = cc in
    subst (λ y. IsPermutation (filter p (z ∷ zs)) (before p y (filter p zs))) same (IsPermutation-refl (filter p (z ∷ zs)))
pulled p (z ∷ zs) (suc n) x h =
    IsPermutation-trans (before p z (filter p zs)) (before p z (before p x (filter p (without n zs)))) (before p x (before p z (filter p (without n zs))))
    (before_keeps p z (filter p zs) (before p x (filter p (without n zs))) (pulled p zs n x h))
    (before_both p z x (filter p (without n zs)))

without_set : {X : Type 0} (xs : List X) (n : ℕ) (y : X) → without n (slice_set xs n y) ≡ without n xs
without_set [] n y = refl
without_set (x ∷ xs) zero y = refl
without_set (x ∷ xs) (suc n) y = ap (λ ys. x ∷ ys) (without_set xs n y)

at_set : {X : Type 0} (xs : List X) (n : ℕ) (x y : X) → At xs n x → At (slice_set xs n y) n y
at_set [] n x y h = let e : None ≡ Some x = h in absurd cc
at_set (z ∷ zs) zero x y h = refl
at_set (z ∷ zs) (suc n) x y h = at_set zs n x y h

-- the first element exchanged with another
front : {X : Type 0} (p : X → Bool) (x y : X) (xs : List X) (n : ℕ) → At xs n y → IsPermutation (before p x (filter p xs)) (before p y (filter p (slice_set xs n x)))
front p x y xs n h =
    let left = pulled p xs n y h in
    let right = pulled p (slice_set xs n x) n x (at_set xs n y x h) in
    let right' : IsPermutation (filter p (slice_set xs n x)) (before p x (filter p (without n xs))) =
    subst (λ ys. IsPermutation (filter p (slice_set xs n x)) (before p x (filter p ys))) (without_set xs n x) right in
    let rest = filter p (without n xs) in
    IsPermutation-trans (before p x (filter p xs)) (before p x (before p y rest)) (before p y (filter p (slice_set xs n x)))
    (before_keeps p x (filter p xs) (before p y rest) left)
    (IsPermutation-trans (before p x (before p y rest)) (before p y (before p x rest)) (before p y (filter p (slice_set xs n x)))
    (before_both p x y rest)
    (before_keeps p y (before p x rest) (filter p (slice_set xs n x)) (IsPermutation-sym (filter p (slice_set xs n x)) (before p x rest) right')))

-- two elements exchanged
exchanged : {X : Type 0} (p : X → Bool) (xs : List X) (i j : ℕ) (x y : X) → i < j → At xs i x → At xs j y → IsPermutation (filter p xs) (filter p (slice_set (slice_set xs i y) j x))
exchanged p [] i j x y l h k = let e : None ≡ Some x = h in absurd cc
exchanged p (z ∷ zs) i zero x y l h k = absurd (omega arith)
exchanged p (z ∷ zs) zero (suc j) x y l h k =
    let e : Some z ≡ Some x = h in
    let same : x ≡ z = cc in
    subst (λ w. IsPermutation (before p w (filter p zs)) (before p y (filter p (slice_set zs j x)))) same (front p x y zs j k)
exchanged p (z ∷ zs) (suc i) (suc j) x y l h k = before_keeps p z (filter p zs) (filter p (slice_set (slice_set zs i y) j x)) (exchanged p zs i j x y (omega arith) h k)

set_set : {X : Type 0} (xs : List X) (i j : ℕ) (x y : X) → (i ≡ j → ⊥) → slice_set (slice_set xs i y) j x ≡ slice_set (slice_set xs j x) i y
set_set [] i j x y h = refl
set_set (z ∷ zs) zero zero x y h = absurd (h refl)
set_set (z ∷ zs) zero (suc j) x y h = refl
set_set (z ∷ zs) (suc i) zero x y h = refl
set_set (z ∷ zs) (suc i) (suc j) x y h = ap (λ ws. z ∷ ws) (set_set zs i j x y (λ e. h (ap suc e)))

set_itself : {X : Type 0} (xs : List X) (i : ℕ) (x : X) → At xs i x → slice_set (slice_set xs i x) i x ≡ xs
set_itself [] i x h = refl
set_itself (z ∷ zs) zero x h = let e : Some z ≡ Some x = h in let same : x ≡ z = cc in ap (λ w. w ∷ zs) same
set_itself (z ∷ zs) (suc i) x h = ap (λ ws. z ∷ ws) (set_itself zs i x h)

exchanged_any : {X : Type 0} (p : X → Bool) (xs : List X) (i j : ℕ) (x y : X) → At xs i x → At xs j y → IsPermutation (filter p xs) (filter p (slice_set (slice_set xs i y) j x))
exchanged_any p xs i j x y h k = by_order (cases_order i j)
  where
    by_order : (i ≡ j) ⊎ ((i < j) ⊎ (j < i)) → IsPermutation (filter p xs) (filter p (slice_set (slice_set xs i y) j x))
    by_order (inr (inl l)) = exchanged p xs i j x y l h k
    by_order (inr (inr l)) =
        subst (λ ys. IsPermutation (filter p xs) (filter p ys)) (set_set xs j i y x (λ e. absurd (omega arith))) (exchanged p xs j i y x l k h)
    by_order (inl e) =
        let at : At xs i y = subst (λ n. At xs n y) (sym e) k in
        let c : Some x ≡ Some y = sym h ∙ at in
        let same : x ≡ y = cc in
        let back : xs ≡ slice_set (slice_set xs i y) j x = sym (set_itself xs i x h) ∙ ap₂ (λ w n. slice_set (slice_set xs i w) n x) same e in
        subst (λ ys. IsPermutation (filter p xs) (filter p ys)) back (IsPermutation-refl (filter p xs))

get_at : {X : Type 0} (xs : List X) (n : ℕ) (d x : X) → At xs n x → get_or xs n d ≡ x
get_at [] n d x h = let e : None ≡ Some x = h in absurd cc
get_at (z ∷ zs) zero d x h = let e : Some z ≡ Some x = h in cc
get_at (z ∷ zs) (suc n) d x h = get_at zs n d x h

swapped : {X : Type 0} (p : X → Bool) (xs : List X) (i j : ℕ) → i < length xs → j < length xs → IsPermutation (filter p xs) (filter p (swap xs i j))
swapped p [] i j l k = IsPermutation-refl []
swapped p (z ∷ zs) i j l k =
    let a = at_exists (z ∷ zs) i l in
    let b = at_exists (z ∷ zs) j k in
    let ea : get_or (z ∷ zs) i z ≡ a.0 = get_at (z ∷ zs) i z a.0 a.1 in
    let eb : get_or (z ∷ zs) j z ≡ b.0 = get_at (z ∷ zs) j z b.0 b.1 in
    subst (λ w. IsPermutation (filter p (z ∷ zs)) (filter p (slice_set (slice_set (z ∷ zs) i (get_or (z ∷ zs) j z)) j w))) (sym ea)
    (subst (λ w. IsPermutation (filter p (z ∷ zs)) (filter p (slice_set (slice_set (z ∷ zs) i w) j a.0))) (sym eb)
    (exchanged_any p (z ∷ zs) i j a.0 b.0 a.1 b.1))

pub filter_permuted : {X : Type 0} (p : X → Bool) (xs ys : List X) → IsPermutation xs ys → IsPermutation (filter p xs) (filter p ys)
filter_permuted p xs ys h =
    IsPermutation-keeps xs (λ l. IsPermutation (filter p xs) (filter p l)) (IsPermutation-refl (filter p xs))
    (λ l i j a b k. IsPermutation-trans (filter p xs) (filter p l) (filter p (swap l i j)) k (swapped p l i j a b)) ys h
