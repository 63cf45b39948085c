-- What an area holds, told by membership.
use Rattle.std.proofs.Common.{◌≡◌, ℕ, zero, suc, ◌<◌, ◌⊎◌, inl, ◌↔◌, Bool, true, false, nat_eq, ◌&&◌, if◌then◌else◌, List, [], ◌∷◌, ◌++◌, length, map, get_or, Option, Some, None, Contains, sym, ap, ◌∙◌, refl, subst, arith, true≢false, is_some}
use Rattle.std.specs.List.{list_any, IsDistinct, AllByRecursion}
use Rattle.std.proofs.lemmas.Bool.{eqb-true, eq-eqb, and_parts}
use Rattle.std.proofs.lemmas.List.Elements.{Contains-append_left, Contains-append_right, Contains-push, Contains-push_cases, Contains-get_or}
use Rattle.std.proofs.lemmas.Cmp.{nat_eq_equiv}
use Rattle.std.proofs.lemmas.Map.Keys.{IsDistinct-head, IsDistinct-tail}
use Rattle.indexmap.proofs.CallerLemmas.{Contains-list_any}
use Rattle.adg_base.specs.Address.{Place}
use Rattle.adg_base.specs.Area.{Held, HoldsPlace, HoldsBegin}
use Rattle.adg_journal.specs.Places.{same_place, with_place}
use Rattle.adg_journal.specs.Area.{held_of, places_in, begun_in, places_of, is_begun, IsArea}

some_same : (x y : Held) → Some x ≡ Some y → x ≡ y
some_same x y e = ap out e
  where
    out : Option Held → Held
    out None = x
    out (Some z) = z

-- what is found of a transaction is in the area, and is of it
found_within : (area : List Held) (txn : ℕ) (held : Held) → held_of area txn ≡ Some held → Contains area held × (held.txn ≡ txn)
found_within [] txn held h = absurd (true≢false (sym (ap is_some h)))
found_within (first ∷ area) txn held h = by (nat_eq txn first.txn) refl (found_within area txn held) h
  where
    by : (b : Bool) → nat_eq txn first.txn ≡ b → (held_of area txn ≡ Some held → Contains area held × (held.txn ≡ txn)) → (if b then Some first else held_of area txn) ≡ Some held
        → Contains (first ∷ area) held × (held.txn ≡ txn)
    by true k rest e =
        let same = some_same first held e in
        (subst (Contains (first ∷ area)) same (Contains-get_or (first ∷ area) 0 first (omega arith)), ap (λ (x : Held). x.txn) (sym same) ∙ sym (eqb-true txn first.txn k))
    by false k rest e = let r = rest e in (Contains-append_right (first ∷ []) area held r.0, r.1)

-- no other transaction in the area has a number that none has
others_differ : (txn : ℕ) (area : List Held) (k : ℕ) (held : Held) → AllByRecursion (λ y. nat_eq txn y ≡ false) (map (λ (h : Held). h.txn) area) → k < length area → get_or area k held ≡ held → nat_eq txn held.txn ≡ false
others_differ txn [] k held h within at = absurd (omega arith)
others_differ txn (first ∷ area) zero held h within at = subst (λ (x : Held). nat_eq txn x.txn ≡ false) at h.0
others_differ txn (first ∷ area) (suc k) held h within at = others_differ txn area k held h.1 (omega arith) at

-- what is in the area is found of its transaction
within_found : (area : List Held) (k : ℕ) (held : Held) → IsDistinct nat_eq (map (λ (h : Held). h.txn) area) → k < length area → get_or area k held ≡ held → held_of area held.txn ≡ Some held
within_found [] k held once within at = absurd (omega arith)
within_found (first ∷ area) zero held once within at =
    let same : nat_eq held.txn first.txn ≡ true = eq-eqb held.txn first.txn (ap (λ (h : Held). h.txn) (sym at)) in
    ap (λ b. if b then Some first else held_of area held.txn) same ∙ ap Some at
within_found (first ∷ area) (suc k) held once within at =
    let apart : nat_eq first.txn held.txn ≡ false = others_differ first.txn area k held (IsDistinct-head nat_eq first.txn (map (λ (h : Held). h.txn) area) once) (omega arith) at in
    let differ : nat_eq held.txn first.txn ≡ false = nat_eq_equiv.symm held.txn first.txn ∙ apart in
    ap (λ b. if b then Some first else held_of area held.txn) differ ∙ within_found area k held (IsDistinct-tail nat_eq first.txn (map (λ (h : Held). h.txn) area) once) (omega arith) at

-- an address is held for a transaction exactly where it is in the transaction's list
pub place_is_held : (area : List Held) (txn : ℕ) (at : Place) → IsArea area → HoldsPlace area txn at ↔ Contains (places_of area txn) at
place_is_held area txn at is = (into, from (held_of area txn) refl)
  where
    into : HoldsPlace area txn at → Contains (places_of area txn) at
    into h =
        let found : held_of area txn ≡ Some h.held = subst (λ t. held_of area t ≡ Some h.held) h.of (within_found area h.within.0 h.held is.once h.within.1 h.within.2) in
        subst (λ o. Contains (places_in o) at) (sym found) h.noted

    from : (o : Option Held) → held_of area txn ≡ o → Contains (places_in o) at → HoldsPlace area txn at
    from None e c = absurd (omega (arith, c.1))
    from (Some held) e c = let f = found_within area txn held e in record { held = held; within = f.0; of = f.1; noted = c }

-- and a beginning where the mark is set
pub begin_is_held : (area : List Held) (txn : ℕ) → IsArea area → HoldsBegin area txn ↔ (is_begun area txn ≡ true)
begin_is_held area txn is = (into, from (held_of area txn) refl)
  where
    into : HoldsBegin area txn → is_begun area txn ≡ true
    into h =
        let found : held_of area txn ≡ Some h.held = subst (λ t. held_of area t ≡ Some h.held) h.of (within_found area h.within.0 h.held is.once h.within.1 h.within.2) in
        ap begun_in found ∙ h.noted

    from : (o : Option Held) → held_of area txn ≡ o → begun_in o ≡ true → HoldsBegin area txn
    from None e b = absurd (true≢false (sym b))
    from (Some held) e b = let f = found_within area txn held e in record { held = held; within = f.0; of = f.1; noted = b }

-- addresses that are one are equal
same_place_true : (a b : Place) → same_place a b ≡ true → a ≡ b
same_place_true a b h =
    let p = and_parts (nat_eq a.obj b.obj) (nat_eq a.block b.block && nat_eq a.slot b.slot) h in
    let q = and_parts (nat_eq a.block b.block) (nat_eq a.slot b.slot) p.1 in
    λ j. record { obj = eqb-true a.obj b.obj p.0 j; block = eqb-true a.block b.block q.0 j; slot = eqb-true a.slot b.slot q.1 j }

-- an address is in the list with one more where it was in the list or is the one
pub with_place_cases : (at : Place) (ps : List Place) (x : Place) → Contains (with_place at ps) x → Contains ps x ⊎ (at ≡ x)
with_place_cases at ps x = by (list_any (same_place at) ps)
  where
    by : (b : Bool) → Contains (if b then ps else ps ++ at ∷ []) x → Contains ps x ⊎ (at ≡ x)
    by true c = inl c
    by false c = Contains-push_cases ps at x c

pub with_place_keeps : (at : Place) (ps : List Place) (x : Place) → Contains ps x → Contains (with_place at ps) x
with_place_keeps at ps x = by (list_any (same_place at) ps)
  where
    by : (b : Bool) → Contains ps x → Contains (if b then ps else ps ++ at ∷ []) x
    by true c = c
    by false c = Contains-append_left ps (at ∷ []) x c

pub with_place_has : (at : Place) (ps : List Place) → Contains (with_place at ps) at
with_place_has at ps = by (list_any (same_place at) ps) refl
  where
    by : (b : Bool) → list_any (same_place at) ps ≡ b → Contains (if b then ps else ps ++ at ∷ []) at
    by true k = Contains-list_any same_place same_place_true ps at k
    by false k = Contains-push ps at
