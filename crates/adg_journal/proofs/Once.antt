-- Lists of addresses in which none stands twice.
use Rattle.std.proofs.Common.{◌≡◌, ℕ, zero, suc, ◌+◌, ◌<◌, false, if◌then◌else◌, ◌||◌, List, [], ◌∷◌, ◌++◌, length, take, get_or, Result, Ok, Err, OnOk, OnErr, sym, ap, ◌∙◌, refl, subst, arith}
use Rattle.std.specs.List.{list_any, IsDistinct}
use Rattle.std.specs.Cmp.{IsEquivalence}
use Rattle.std.proofs.lemmas.Cmp.{nat_eq_equiv, on_equiv, and_equiv}
use Rattle.std.proofs.lemmas.Map.Keys.{IsDistinct-push, IsDistinct-tail, apart_from_distinct}
use Rattle.std.proofs.lemmas.List.{take_more}
use Rattle.indexmap.specs.IndexSet.{insert_key}
use Rattle.adg_base.specs.Address.{Place}
use Rattle.adg_journal.specs.Places.{same_place, EachOnce}

-- `same_place` is an equivalence
pub same_place_equiv : IsEquivalence same_place
same_place_equiv = and_equiv (on_equiv (λ (p : Place). p.obj) nat_eq_equiv) (and_equiv (on_equiv (λ (p : Place). p.block) nat_eq_equiv) (on_equiv (λ (p : Place). p.slot) nat_eq_equiv))

-- in the empty list no address stands twice
pub none_once : EachOnce []
unfolding IsDistinct
none_once = tt

-- nor where one comes to others that are not it
pub pushed_once : (at : Place) (ps : List Place) → EachOnce ps → list_any (same_place at) ps ≡ false → EachOnce (ps ++ at ∷ [])
pushed_once at ps once new = IsDistinct-push same_place_equiv ps at once new

-- an address is not among those before it
not_before : (ps : List Place) (i : ℕ) (d : Place) → i < length ps → EachOnce ps → list_any (same_place (get_or ps i d)) (take i ps) ≡ false
not_before [] i d within once = absurd (omega arith)
not_before (p ∷ ps) zero d within once = refl
not_before (p ∷ ps) (suc i) d within once =
    let apart : same_place (get_or ps i d) p ≡ false = same_place_equiv.symm (get_or ps i d) p ∙ apart_from_distinct same_place (p ∷ ps) 0 (suc i) d once (omega arith) within in
    ap (λ b. b || list_any (same_place (get_or ps i d)) (take i ps)) apart ∙ not_before ps i d (omega arith) (IsDistinct-tail same_place p ps once)

-- a key that is not among the keys comes last
pub key_last : (ks : List Place) (at : Place) → list_any (same_place at) ks ≡ false → insert_key same_place ks at ≡ ks ++ at ∷ []
key_last ks at new = ap (λ b. if b then ks else ks ++ at ∷ []) new

-- so an index of the first so many addresses becomes one of one more
pub indexed_more : (ps ks : List Place) (i : ℕ) (at : Place) → EachOnce ps → i < length ps → at ≡ get_or ps i at → ks ≡ take i ps → insert_key same_place ks at ≡ take (i + 1) ps
indexed_more ps ks i at once within is indexed =
    let new : list_any (same_place at) (take i ps) ≡ false = subst (λ p. list_any (same_place p) (take i ps) ≡ false) (sym is) (not_before ps i at within once) in
    ap (λ l. insert_key same_place l at) indexed ∙ key_last (take i ps) at new ∙ ap (λ p. take i ps ++ p ∷ []) is ∙ sym (take_more ps i at within)

-- a call that adds an address which is not there, or adds none, leaves each once
pub added_once : {X E : Type 0} (result : Result X E) (at : Place) (old new : List Place) → OnOk result (new ≡ old ++ at ∷ []) → OnErr result (new ≡ old) → list_any (same_place at) old ≡ false → EachOnce old → EachOnce new
added_once (Ok x) at old new ok err absent once = subst EachOnce (sym ok) (pushed_once at old once absent)
added_once (Err e) at old new ok err absent once = subst EachOnce (sym err) once
