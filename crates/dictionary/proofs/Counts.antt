-- What is kept of pending changes, before and after a change of one entry.
use Rattle.std.proofs.Common.{◌≡◌, ℕ, ◌+◌, ◌-◌, Bool, true, false, cond, ◌&&◌, nat_eq, List, Option, Some, None, refl, sym, ap, ◌∙◌, subst, is_some, eq-eqb}
use Rattle.std.proofs.lemmas.Bool.{eqb-true, and_parts, cond-true, cond-false, true≢false, false≢true}
use Rattle.std.specs.Option.{option_map}
use Rattle.adg_base.specs.Address.{Place, same_place}
use Rattle.dictionary.specs.declared.change.Change.{Change}
use Rattle.dictionary.specs.declared.change.Pending.{Pending}
use Rattle.dictionary.specs.Pending.{kept_at, change_of, same_change, one_less, one_more, SetsAt, earlier_at, HasChain}
use Rattle.dictionary.proofs.Chains.{HasChain_less, HasChain_ends, HasChain_known}

same_change_true : (a b : Change) → same_change a b ≡ true → a ≡ b
same_change_true a b same =
    let first = and_parts _ _ same in
    let second = and_parts _ _ first.1 in
    let third = and_parts _ _ second.1 in
    let t : a.txn ≡ b.txn = eqb-true a.txn b.txn first.0 in
    let o : a.addr.obj ≡ b.addr.obj = eqb-true a.addr.obj b.addr.obj second.0 in
    let n : a.addr.block ≡ b.addr.block = eqb-true a.addr.block b.addr.block third.0 in
    let s : a.addr.slot ≡ b.addr.slot = eqb-true a.addr.slot b.addr.slot third.1 in
    ap (λ (x : ℕ). of x a.addr.obj a.addr.block a.addr.slot) t
    ∙ ap (λ (x : ℕ). of b.txn x a.addr.block a.addr.slot) o
    ∙ ap (λ (x : ℕ). of b.txn b.addr.obj x a.addr.slot) n
    ∙ ap (λ (x : ℕ). of b.txn b.addr.obj b.addr.block x) s
  where
    of : ℕ → ℕ → ℕ → ℕ → Change
    of t o n s = record { txn = t; addr = record { obj = o; block = n; slot = s } }

-- where nothing is kept, to take one off changes nothing
pub sets_as_it_was : (old inside new : List (Change × Pending)) (change : Change) → inside ≡ old → new ≡ inside → kept_at inside change ≡ None → SetsAt old new change (one_less (kept_at old change))
sets_as_it_was old inside new change shown same none q = by_test (same_change change q) refl
  where
    here : kept_at old change ≡ None
    here = ap (λ (l : List (Change × Pending)). kept_at l change) (sym shown) ∙ none

    by_test : (b : Bool) → same_change change q ≡ b → kept_at new q ≡ cond b (one_less (kept_at old change)) (kept_at old q)
    by_test true e =
        let at_q : kept_at old q ≡ None = ap (kept_at old) (sym (same_change_true change q e)) ∙ here in
        ap (λ (l : List (Change × Pending)). kept_at l q) (same ∙ shown) ∙ at_q ∙ sym (ap one_less here)
    by_test false e = ap (λ (l : List (Change × Pending)). kept_at l q) (same ∙ shown)

-- something is put, in place of what was there
pub sets_in_its_place : (old inside new : List (Change × Pending)) (change : Change) (put kept : Option Pending) → inside ≡ old → ((q : Change) → kept_at new q ≡ cond (same_change change q) put (kept_at inside q)) → put ≡ kept → SetsAt old new change kept
sets_in_its_place old inside new change put kept shown sets e q =
    sets q ∙ ap (λ (l : List (Change × Pending)). cond (same_change change q) put (kept_at l q)) shown ∙ ap (λ (o : Option Pending). cond (same_change change q) o (kept_at old q)) e

pub one_more_than : (old inside : List (Change × Pending)) (change : Change) (earlier : Option Place) (was : Pending) (count : ℕ) → inside ≡ old → kept_at inside change ≡ Some was → count ≡ was.count + 1 → Some (record was { count = count }) ≡ Some (one_more earlier (kept_at old change))
one_more_than old inside change earlier was count shown had e =
    ap (λ (n : ℕ). Some (let p : Pending = record was { count = n } in p)) e
    ∙ ap (λ (o : Option Pending). Some (one_more earlier o)) (sym (ap (λ (l : List (Change × Pending)). kept_at l change) (sym shown) ∙ had))

pub one_more_than_none : (old inside : List (Change × Pending)) (change : Change) (earlier : Option Place) → inside ≡ old → kept_at inside change ≡ None → Some (one_more earlier None) ≡ Some (one_more earlier (kept_at old change))
one_more_than_none old inside change earlier shown had =
    ap (λ (o : Option Pending). Some (one_more earlier o)) (sym (ap (λ (l : List (Change × Pending)). kept_at l change) (sym shown) ∙ had))

pub one_less_than : (old inside : List (Change × Pending)) (change : Change) (was : Pending) (count : ℕ) → inside ≡ old → Some was ≡ kept_at inside change → count ≡ was.count - 1 → Some (record was { count = count }) ≡ one_less (kept_at old change)
one_less_than old inside change was count shown had e =
    ap (λ (n : ℕ). Some (let p : Pending = record was { count = n } in p)) e
    ∙ ap one_less (had ∙ ap (λ (l : List (Change × Pending)). kept_at l change) shown)

-- what is kept of another transaction is of another change
pub same_change_at : (txn : ℕ) (a : Place) (q : Change) → nat_eq txn q.txn ≡ false → same_change (change_of txn a) q ≡ false
same_change_at txn a q apart = rw apart refl

and_assoc : (a b c : Bool) → (a && (b && c)) ≡ ((a && b) && c)
and_assoc true b c = refl
and_assoc false b c = refl

pub same_change_place : (txn : ℕ) (a p : Place) → same_change (change_of txn a) (change_of txn p) ≡ same_place a p
same_change_place txn a p =
    rw (eq-eqb txn txn refl) (and_assoc (nat_eq a.obj p.obj) (nat_eq a.block p.block) (nat_eq a.slot p.slot))

-- an entry is taken out of a chain
pub earlier_removed : (old new : List (Change × Pending)) (txn : ℕ) (a : Place) → ((q : Change) → kept_at new q ≡ cond (same_change (change_of txn a) q) None (kept_at old q)) → (p : Place) → earlier_at new txn p ≡ cond (same_place a p) None (earlier_at old txn p)
earlier_removed old new txn a sets p = by_test (same_place a p) refl
  where
    at_p : kept_at new (change_of txn p) ≡ cond (same_place a p) None (kept_at old (change_of txn p))
    at_p = sets (change_of txn p) ∙ ap (λ (b : Bool). cond b None (kept_at old (change_of txn p))) (same_change_place txn a p)

    by_test : (b : Bool) → same_place a p ≡ b → earlier_at new txn p ≡ cond b None (earlier_at old txn p)
    by_test true e = ap (option_map (λ (k : Pending). k.earlier)) (at_p ∙ cond-true (same_place a p) None (kept_at old (change_of txn p)) e)
    by_test false e = ap (option_map (λ (k : Pending). k.earlier)) (at_p ∙ cond-false (same_place a p) None (kept_at old (change_of txn p)) e)

pub kept_of_others : (old new : List (Change × Pending)) (txn : ℕ) (a : Place) → ((q : Change) → kept_at new q ≡ cond (same_change (change_of txn a) q) None (kept_at old q)) → (q : Change) → nat_eq txn q.txn ≡ false → kept_at new q ≡ kept_at old q
kept_of_others old new txn a sets q apart = sets q ∙ cond-false (same_change (change_of txn a) q) None (kept_at old q) (same_change_at txn a q apart)

-- where a transaction has no chain left, its changes are all forgotten
pub forgotten : (old new : List (Change × Pending)) (txn : ℕ) → ((p : Place) → is_some (earlier_at new txn p) ≡ false) → ((q : Change) → nat_eq txn q.txn ≡ false → kept_at new q ≡ kept_at old q) → (q : Change) → kept_at new q ≡ cond (nat_eq txn q.txn) None (kept_at old q)
forgotten old new txn none others q = by_test (nat_eq txn q.txn) refl
  where
    none_kept : (o : Option Pending) → is_some (option_map (λ (k : Pending). k.earlier) o) ≡ false → o ≡ None
    none_kept None e = refl
    none_kept (Some k) e = absurd (true≢false e)

    by_test : (b : Bool) → nat_eq txn q.txn ≡ b → kept_at new q ≡ cond b None (kept_at old q)
    by_test true e =
        ap (λ (t : ℕ). kept_at new (change_of t q.addr)) (sym (eqb-true txn q.txn e)) ∙ none_kept (kept_at new (change_of txn q.addr)) (none q.addr)
    by_test false e = others q e

-- The changes of a transaction are taken out along its chain. So far its chain leads on from a next
-- place, and what is kept of the others is as it was.
abbrev pub IsLeft : List (Change × Pending) → List (Change × Pending) → ℕ → Option Place → Type 0
IsLeft old now txn next = HasChain (earlier_at now txn) next × ((q : Change) → nat_eq txn q.txn ≡ false → kept_at now q ≡ kept_at old q)

pub left_at_first : (old inside : List (Change × Pending)) (txn : ℕ) (latest : Option Place) → inside ≡ old → HasChain (earlier_at old txn) latest → IsLeft old inside txn latest
left_at_first old inside txn latest shown h =
    (subst (λ (l : List (Change × Pending)). HasChain (earlier_at l txn) latest) (sym shown) h, λ q apart. ap (λ (l : List (Change × Pending)). kept_at l q) shown)

pub left_after_one : (old now new : List (Change × Pending)) (txn : ℕ) (next : Option Place) (a : Place) (was : Pending) → next ≡ Some a → kept_at now (change_of txn a) ≡ Some was
    → ((q : Change) → kept_at new q ≡ cond (same_change (change_of txn a) q) None (kept_at now q)) → IsLeft old now txn next → IsLeft old new txn was.earlier
left_after_one old now new txn next a was is had sets h = (
  HasChain_less (earlier_at now txn) (earlier_at new txn) a was.earlier (ap (option_map (λ (k : Pending). k.earlier)) had) (earlier_removed now new txn a sets) (subst (HasChain (earlier_at now txn)) is h.0),
  λ q apart. kept_of_others now new txn a sets q apart ∙ h.1 q apart,
)

pub left_at_end : (old now : List (Change × Pending)) (txn : ℕ) (next : Option Place) → next ≡ None → IsLeft old now txn next → (q : Change) → kept_at now q ≡ cond (nat_eq txn q.txn) None (kept_at old q)
left_at_end old now txn next is h = forgotten old now txn (HasChain_ends (earlier_at now txn) (subst (HasChain (earlier_at now txn)) is h.0)) h.1

pub left_at_known : (old now : List (Change × Pending)) (txn : ℕ) (next : Option Place) (a : Place) → next ≡ Some a → kept_at now (change_of txn a) ≡ None → IsLeft old now txn next → ⊥
left_at_known old now txn next a is none h =
    false≢true (sym (ap is_some (ap (option_map (λ (k : Pending). k.earlier)) none)) ∙ HasChain_known (earlier_at now txn) a (subst (HasChain (earlier_at now txn)) is h.0))
