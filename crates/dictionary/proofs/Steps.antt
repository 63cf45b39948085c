-- The steps of an object's history.
use Rattle.std.proofs.Common.{◌≡◌, ℕ, zero, suc, ◌-◌, ◌<◌, ◌≤◌, true, false, cond, nat_le, List, [], ◌∷◌, ◌++◌, length, take, Option, Some, None, refl, sym, ap, ◌∙◌, arith}
use Rattle.std.specs.List.{AllWithin, slice_get}
use Rattle.std.specs.List.Sorted.{IsPartitionPoint}
use Rattle.adg_base.specs.declared.definition.Definition.{Definition}
use Rattle.dictionary.specs.declared.history.Step.{Step}
use Rattle.dictionary.specs.History.{last_from, defined_from}

pub last_from_push : (before : Option Definition) (steps : List Step) (step : Step) → last_from before (steps ++ step ∷ []) ≡ step.definition
last_from_push before [] step = refl
last_from_push before (s ∷ later) step = last_from_push s.definition later step

pub defined_from_push : (before : Option Definition) (scn : ℕ) (steps : List Step) (step : Step) → defined_from before scn (steps ++ step ∷ []) ≡ cond (nat_le step.scn scn) step.definition (defined_from before scn steps)
defined_from_push before scn [] step = refl
defined_from_push before scn (s ∷ later) step = defined_from_push (cond (nat_le s.scn scn) s.definition before) scn later step

-- the last step of a list
pub last_from_get : (before : Option Definition) (steps : List Step) (step : Step) → Some step ≡ slice_get steps (length steps - 1) → last_from before steps ≡ step.definition
last_from_get before [] step is = absurd cc
last_from_get before (s ∷ []) step is = ap (λ (x : Step). x.definition) (let e : s ≡ step = cc in e)
last_from_get before (s ∷ t ∷ later) step is =
    let e : length (s ∷ t ∷ later) - 1 ≡ suc (length (t ∷ later) - 1) = omega arith in
    let next : Some step ≡ slice_get (t ∷ later) (length (t ∷ later) - 1) = is ∙ ap (slice_get (s ∷ t ∷ later)) e in
    last_from_get s.definition (t ∷ later) step next

pub last_from_none : (steps : List Step) → None ≡ slice_get steps (length steps - 1) → last_from None steps ≡ None
last_from_none [] is = refl
last_from_none (s ∷ later) is = absurd (none_within (s ∷ later) (length (s ∷ later) - 1) (omega arith) is)
  where
    none_within : (xs : List Step) (i : ℕ) → i < length xs → None ≡ slice_get xs i → ⊥
    none_within [] i h e = omega arith
    none_within (x ∷ xs) zero h e = absurd cc
    none_within (x ∷ xs) (suc i) h e = none_within xs i (omega arith) e

-- where the steps up to an SCN come first, the last of them decides
pub defined_from_split : (before : Option Definition) (scn : ℕ) (steps : List Step) (i : ℕ) → AllWithin (λ (s : Step). nat_le s.scn scn ≡ true) steps 0 i → AllWithin (λ (s : Step). nat_le s.scn scn ≡ false) steps i (length steps) → i ≤ length steps → defined_from before scn steps ≡ last_from before (take i steps)
defined_from_split before scn [] zero low high le = refl
defined_from_split before scn [] (suc i) low high le = refl
defined_from_split before scn (s ∷ later) zero low high le =
    rw (high 0 s (omega arith) (omega arith))
    (defined_from_split before scn later zero (λ k d lo hi. absurd (omega arith)) (λ k d lo hi. high (suc k) d (omega arith) (omega arith)) (omega arith))
defined_from_split before scn (s ∷ later) (suc i) low high le =
    rw (low 0 s (omega arith) (omega arith))
    (defined_from_split s.definition scn later i (λ k d lo hi. low (suc k) d (omega arith) (omega arith)) (λ k d lo hi. high (suc k) d (omega arith) (omega arith)) (omega arith))

pub defined_from_part : (steps xs part : List Step) (scn i : ℕ) → xs ≡ steps → part ≡ take i xs → IsPartitionPoint (λ (s : Step). nat_le s.scn scn ≡ true) (λ (s : Step). nat_le s.scn scn ≡ false) xs i → i ≤ length xs → last_from None part ≡ defined_from None scn steps
defined_from_part steps xs part scn i shown is parted le =
    ap (last_from None) is ∙ sym (defined_from_split None scn xs i parted.0 parted.1 le) ∙ ap (defined_from None scn) shown
