-- The frontier as a loop over the threads finds it.
use Rattle.std.proofs.Common.{◌≡◌, ℕ, ◌<◌, Bool, true, false, cond, not, List, [], ◌∷◌, ◌++◌, length, filter, Option, Some, None, min, max, refl, sym, ap, ◌∙◌, subst, arith, append-nil, length-append}
use Rattle.std.proofs.lemmas.List.{map-append}
use Rattle.std.proofs.lemmas.List.Elements.{filter-append}
use Rattle.adg_model.specs.Records.{Mark}
use Rattle.adg_model.specs.Log.{least, greatest, is_open, scns_of, or_greatest}
use Rattle.log_merger.specs.Merge.{frontier_of, least_with}

-- the least of some numbers, where there is one
abbrev pub IsLeast : Option ℕ → List ℕ → Type 0
IsLeast None ns = ns ≡ []
IsLeast (Some n) ns = (0 < length ns) × (n ≡ least ns)

least_push : (ns : List ℕ) (n : ℕ) → 0 < length ns → least (ns ++ n ∷ []) ≡ min (least ns) n
least_push [] n some = absurd (omega (arith, some))
least_push (a ∷ []) n some = refl
least_push (a ∷ b ∷ more) n some = let ih = least_push (b ∷ more) n (omega arith) in omega (arith, ih)

greatest_push : (ns : List ℕ) (n : ℕ) → greatest (ns ++ n ∷ []) ≡ max (greatest ns) n
greatest_push [] n = omega arith
greatest_push (a ∷ ns) n = let ih = greatest_push ns n in omega (arith, ih)

pub greatest_next : (ms : List Mark) (m : Mark) → greatest (scns_of (ms ++ m ∷ [])) ≡ max (greatest (scns_of ms)) m.scn
greatest_next ms m = ap greatest (map-append (λ (x : Mark). x.scn) ms (m ∷ [])) ∙ greatest_push (scns_of ms) m.scn

open_next : (ms : List Mark) (m : Mark) → scns_of (filter is_open (ms ++ m ∷ [])) ≡ scns_of (filter is_open ms) ++ scns_of (cond (not m.ended) (m ∷ []) [])
open_next ms m = ap scns_of (filter-append is_open ms (m ∷ [])) ∙ map-append (λ (x : Mark). x.scn) (filter is_open ms) (filter is_open (m ∷ []))

pub ended_next : (least_so_far : Option ℕ) (ms : List Mark) (m : Mark) → m.ended ≡ true → IsLeast least_so_far (scns_of (filter is_open ms)) → IsLeast least_so_far (scns_of (filter is_open (ms ++ m ∷ [])))
ended_next o ms m e h =
    subst (IsLeast o) (sym (open_next ms m ∙ ap (λ (b : Bool). scns_of (filter is_open ms) ++ scns_of (cond (not b) (m ∷ []) [])) e ∙ append-nil (scns_of (filter is_open ms)))) h

least_next : (o : Option ℕ) (ns : List ℕ) (n : ℕ) → IsLeast o ns → IsLeast (Some (least_with o n)) (ns ++ n ∷ [])
least_next None ns n h = subst (λ (l : List ℕ). IsLeast (Some n) (l ++ n ∷ [])) (sym h) (omega arith, refl)
least_next (Some m) ns n h = (omega (arith, length-append ns (n ∷ [])), ap (λ (k : ℕ). min k n) h.1 ∙ sym (least_push ns n h.0))

pub open_more : (o : Option ℕ) (ms : List Mark) (m : Mark) → m.ended ≡ false → IsLeast o (scns_of (filter is_open ms)) → IsLeast (Some (least_with o m.scn)) (scns_of (filter is_open (ms ++ m ∷ [])))
open_more o ms m e h =
    subst (IsLeast (Some (least_with o m.scn))) (sym (open_next ms m ∙ ap (λ (b : Bool). scns_of (filter is_open ms) ++ scns_of (cond (not b) (m ∷ []) [])) e))
    (least_next o (scns_of (filter is_open ms)) m.scn h)

pub frontier_some : (n : ℕ) (marks : List Mark) → IsLeast (Some n) (scns_of (filter is_open marks)) → n ≡ frontier_of marks
frontier_some n marks h = by_list (scns_of (filter is_open marks)) h
  where
    by_list : (ns : List ℕ) → IsLeast (Some n) ns → n ≡ or_greatest ns (scns_of marks)
    by_list [] k = absurd (omega (arith, k.0))
    by_list (a ∷ more) k = k.1

pub frontier_none : (n : ℕ) (marks : List Mark) → IsLeast None (scns_of (filter is_open marks)) → n ≡ greatest (scns_of marks) → n ≡ frontier_of marks
frontier_none n marks h e = e ∙ ap (λ (ns : List ℕ). or_greatest ns (scns_of marks)) (sym h)
