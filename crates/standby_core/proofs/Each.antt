-- Two lists that are related place by place.
use Rattle.std.proofs.Common.{◌≡◌, ℕ, ◌<◌, List, length, ◌⊎◌, inl, inr, sym, ap, ◌∙◌, arith}
use Rattle.std.specs.Prelude.{slice_set, replicate}
use Rattle.std.proofs.lemmas.List.{length-set, length-replicate, set-get_or}
use Rattle.std.proofs.lemmas.Option.{get_or_from_slice_get}
use Rattle.core_rules.specs.State.{At}
use Rattle.core_rules.proofs.Lists.{at_within, at_exists, at_set_cases, at_replicate}
use Rattle.standby_core.specs.Each.{EachAt}

module _ {X Y : Type 0} (R : ℕ → X → Y → Type 0) (xs : List X) (ys : List Y) where
  -- where one list has an element the other has one, and they are related
  pub each_right : EachAt R xs ys → (n : ℕ) (x : X) → At xs n x → (y : Y) × At ys n y × R n x y
  each_right h n x at =
      let within : n < length xs = at_within xs n x at in
      let same : length xs ≡ length ys = h.same_length in
      let r = at_exists ys n (omega arith) in
      (r.0, r.1, h.each n x r.0 at r.1)

  pub each_left : EachAt R xs ys → (n : ℕ) (y : Y) → At ys n y → (x : X) × At xs n x × R n x y
  each_left h n y at =
      let within : n < length ys = at_within ys n y at in
      let same : length xs ≡ length ys = h.same_length in
      let r = at_exists xs n (omega arith) in
      (r.0, r.1, h.each n r.0 y r.1 at)

  -- one place may be set in both
  pub each_set : EachAt R xs ys → (n : ℕ) (x : X) (y : Y) → R n x y → EachAt R (slice_set xs n x) (slice_set ys n y)
  each_set h n x y r = record {
    same_length = length-set xs n x ∙ h.same_length ∙ sym (length-set ys n y);
    each = λ m u v at_u at_v. by_place m u v (at_set_cases xs n m u x at_u) (at_set_cases ys n m v y at_v);
  }
    where
      by_place : (m : ℕ) (u : X) (v : Y) → ((m ≡ n) × (u ≡ x)) ⊎ ((m ≡ n → ⊥) × At xs m u) → ((m ≡ n) × (v ≡ y)) ⊎ ((m ≡ n → ⊥) × At ys m v) → R m u v
      by_place m u v (inl a) (inl b) = rw (a.0, a.1, b.1) r
      by_place m u v (inl a) (inr b) = absurd (b.0 a.0)
      by_place m u v (inr a) (inl b) = absurd (a.0 b.0)
      by_place m u v (inr a) (inr b) = h.each m u v a.1 b.1

-- the relation may be weakened
pub each_weaker : {X Y : Type 0} (R S : ℕ → X → Y → Type 0) (xs : List X) (ys : List Y) → ((n : ℕ) (x : X) (y : Y) → At xs n x → At ys n y → R n x y → S n x y) → EachAt R xs ys → EachAt S xs ys
each_weaker R S xs ys f h = record { same_length = h.same_length; each = λ n x y at_x at_y. f n x y at_x at_y (h.each n x y at_x at_y) }

-- as many times the same
pub each_replicate : {X Y : Type 0} (R : ℕ → X → Y → Type 0) (count : ℕ) (x : X) (y : Y) → ((n : ℕ) → n < count → R n x y) → EachAt R (replicate count x) (replicate count y)
each_replicate R count x y r = record {
  same_length = length-replicate count x ∙ sym (length-replicate count y);
  each = λ n u v at_u at_v.
      let within : n < length (replicate count x) = at_within (replicate count x) n u at_u in
      let count_is : length (replicate count x) ≡ count = length-replicate count x in
      let below : n < count = omega arith in
      rw (at_replicate count n u x at_u, at_replicate count n v y at_v) (r n below);
}

-- an element set where it stands
pub set_same : {X : Type 0} (xs : List X) (n : ℕ) (x : X) → At xs n x → slice_set xs n x ≡ xs
set_same xs n x h = ap (slice_set xs n) (sym (get_or_from_slice_get xs n x x h)) ∙ set-get_or xs n x
