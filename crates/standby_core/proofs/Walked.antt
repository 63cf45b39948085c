-- Lists that a walk has changed up to a place.
use Rattle.std.proofs.Common.{◌≡◌, ℕ, zero, suc, ◌+◌, ◌<◌, ◌≤◌, List, [], ◌∷◌, ◌++◌, map, take, drop, length, ◌⊎◌, inl, inr, refl, sym, ap, ◌∙◌, subst, arith}
use Rattle.std.specs.Prelude.{slice_get, slice_set}
use Rattle.std.proofs.lemmas.Bool.{cases_lt}
use Rattle.std.proofs.lemmas.List.{length-set}
use Rattle.core_rules.specs.State.{At}
use Rattle.core_rules.proofs.Lists.{at_same, at_within, at_set_cases, at_set_other}
use Rattle.standby_core.specs.Each.{EachAt}

-- at the places before one the elements are related to those that were there, and from it on they are as they were
abbrev pub WalkedTo : {X : Type 0} → (X → X → Type 0) → ℕ → List X → List X → Type 0
WalkedTo {X} R place old new = record {
  same_length : length old ≡ length new;
  done : (n : ℕ) (x y : X) → n < place → At old n x → At new n y → R x y;
  left : (n : ℕ) → place ≤ n → slice_get new n ≡ slice_get old n;
}

pub walk_begins : {X : Type 0} (R : X → X → Type 0) (xs : List X) → WalkedTo R 0 xs xs
walk_begins R xs = record { same_length = refl; done = λ n x y l at_x at_y. absurd (omega arith); left = λ n l. refl }

pub walk_goes_on : {X : Type 0} (R : X → X → Type 0) (place : ℕ) (old new : List X) (x y : X) → WalkedTo R place old new → At new place x → R x y → WalkedTo R (place + 1) old (slice_set new place y)
walk_goes_on {X} R place old new x y h at r = record {
  same_length = h.same_length ∙ sym (length-set new place y);
  done = λ n u v l at_u at_v. by_place n u v l at_u (at_set_cases new place n v y at_v);
  left = λ n l. at_set_other new place n y (λ e. absurd (omega arith)) ∙ h.left n (omega arith);
}
  where
    was : At old place x
    was = sym (h.left place (omega arith)) ∙ at

    by_place : (n : ℕ) (u v : X) → n < place + 1 → At old n u → ((n ≡ place) × (v ≡ y)) ⊎ ((n ≡ place → ⊥) × At new n v) → R u v
    by_place n u v l at_u (inl p) =
        let same : u ≡ x = at_same old place u x (subst (λ m. At old m u) p.0 at_u) was in
        rw (same, p.1) r
    by_place n u v l at_u (inr p) = h.done n u v (below (cases_lt n place)) at_u p.1
      where
        below : (n < place) ⊎ (place ≤ n) → n < place
        below (inl m) = m
        below (inr m) = absurd (p.0 (omega arith))

pub walk_ends : {X : Type 0} (R : X → X → Type 0) (place : ℕ) (old new : List X) → WalkedTo R place old new → length old ≤ place → EachAt (λ n. R) old new
walk_ends R place old new h l = record {
  same_length = h.same_length;
  each = λ n x y at_x at_y. let within : n < length old = at_within old n x at_x in h.done n x y (omega arith) at_x at_y;
}

-- each element of a list becomes one and the same
walk_set : {X : Type 0} (y : X) (place : ℕ) (xs : List X) → place < length xs → slice_set (map (λ (x : X). y) (take place xs) ++ drop place xs) place y ≡ map (λ (x : X). y) (take (suc place) xs) ++ drop (suc place) xs
walk_set y place [] l = absurd (omega arith)
walk_set y zero (x ∷ []) l = refl
walk_set y zero (x ∷ z ∷ zs) l = refl
walk_set y (suc place) (x ∷ xs) l = ap (λ zs. y ∷ zs) (walk_set y place xs (omega arith))

pub walk_sets : {X : Type 0} (y : X) (place : ℕ) (xs ys : List X) → place < length xs → ys ≡ map (λ (x : X). y) (take place xs) ++ drop place xs
    → slice_set ys place y ≡ map (λ (x : X). y) (take (place + 1) xs) ++ drop (place + 1) xs
walk_sets {X} y place xs ys l h =
    let next : suc place ≡ place + 1 = omega arith in
    ap (λ zs. slice_set zs place y) h ∙ walk_set y place xs l ∙ ap (λ n. map (λ (x : X). y) (take n xs) ++ drop n xs) next
