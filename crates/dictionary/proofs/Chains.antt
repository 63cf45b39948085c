-- Chains of places.
use Rattle.std.proofs.Common.{◌≡◌, ℕ, Bool, true, false, cond, ◌||◌, List, [], ◌∷◌, Option, Some, None, ◌⊎◌, inl, inr, refl, sym, ap, ◌∙◌, subst, is_some, eq-eqb}
use Rattle.std.specs.List.{list_any}
use Rattle.std.proofs.lemmas.Bool.{eqb-true, and_parts, and_from, or_cases, or_left, or_right, false≢true, true≢false, false_from_ne_true, cond-true, cond-false}
use Rattle.adg_base.specs.Address.{Place, place, same_place}
use Rattle.dictionary.specs.Pending.{Links, IsChain, HasChain}

pub same_place_true : (a b : Place) → same_place a b ≡ true → a ≡ b
same_place_true a b same =
    let both = and_parts _ _ same in
    let first = and_parts _ _ both.0 in
    let o : a.obj ≡ b.obj = eqb-true a.obj b.obj first.0 in
    let n : a.block ≡ b.block = eqb-true a.block b.block first.1 in
    let s : a.slot ≡ b.slot = eqb-true a.slot b.slot both.1 in
    ap (λ (x : ℕ). place x a.block a.slot) o ∙ ap (λ (x : ℕ). place b.obj x a.slot) n ∙ ap (λ (x : ℕ). place b.obj b.block x) s

pub same_place_refl : (a : Place) → same_place a a ≡ true
same_place_refl a = and_from _ _ (and_from _ _ (eq-eqb a.obj a.obj refl) (eq-eqb a.block a.block refl)) (eq-eqb a.slot a.slot refl)

-- each place of a chain has an earlier one
Links_known : (f : Place → Option (Option Place)) (latest : Option Place) (chain : List Place) (a : Place) → Links f latest chain → list_any (same_place a) chain ≡ true → is_some (f a) ≡ true
Links_known f latest [] a h e = absurd (false≢true e)
Links_known f latest (x ∷ xs) a h e = by_place (or_cases (same_place a x) (list_any (same_place a) xs) e) (Links_known f h.1.0 xs a h.1.2)
  where
    by_place : (same_place a x ≡ true) ⊎ (list_any (same_place a) xs ≡ true) → (list_any (same_place a) xs ≡ true → is_some (f a) ≡ true) → is_some (f a) ≡ true
    by_place (inl same) known = ap (λ (p : Place). is_some (f p)) (same_place_true a x same) ∙ ap is_some h.1.1
    by_place (inr later) known = known later

-- links that are the same along a chain
Links_same : (f g : Place → Option (Option Place)) (latest : Option Place) (chain : List Place) → ((p : Place) → list_any (same_place p) chain ≡ true → g p ≡ f p) → Links f latest chain → Links g latest chain
Links_same f g latest [] same h = h
Links_same f g latest (x ∷ xs) same h =
    (h.0, (h.1.0, same x (or_left (same_place x x) (list_any (same_place x) xs) (same_place_refl x)) ∙ h.1.1, Links_same f g h.1.0 xs (λ p k. same p (or_right (same_place p x) (list_any (same_place p) xs) k)) h.1.2))

pub HasChain_same : (f g : Place → Option (Option Place)) (latest : Option Place) → ((p : Place) → g p ≡ f p) → HasChain f latest → HasChain g latest
HasChain_same f g latest same h = (
  h.0,
  record {
    links = Links_same f g latest h.0 (λ p k. same p) h.1.links;
    apart = h.1.apart;
    all = λ p k. h.1.all p (ap is_some (sym (same p)) ∙ k);
  },
)

-- no links at all
pub HasChain_none : (f : Place → Option (Option Place)) → ((p : Place) → f p ≡ None) → HasChain f None
HasChain_none f none = ([], record { links = refl; apart = tt; all = λ p k. absurd (false≢true (ap is_some (sym (none p)) ∙ k)) })

-- a place not on the chain becomes its last one
pub HasChain_more : (f g : Place → Option (Option Place)) (latest : Option Place) (a : Place) → f a ≡ None → ((p : Place) → g p ≡ cond (same_place a p) (Some latest) (f p)) → HasChain f latest → HasChain g (Some a)
HasChain_more f g latest a none sets h =
    let off : list_any (same_place a) h.0 ≡ false = false_from_ne_true (list_any (same_place a) h.0) (λ on. false≢true (ap is_some (sym none) ∙ Links_known f latest h.0 a h.1.links on)) in
    let other : (p : Place) → list_any (same_place p) h.0 ≡ true → same_place a p ≡ false =
    λ p on. false_from_ne_true (same_place a p) (λ same. false≢true (sym off ∙ subst (λ (x : Place). list_any (same_place x) h.0 ≡ true) (sym (same_place_true a p same)) on)) in (
      a ∷ h.0,
      record {
        links = (refl, (latest, sets a ∙ cond-true (same_place a a) (Some latest) (f a) (same_place_refl a), Links_same f g latest h.0 (λ p on. sets p ∙ cond-false (same_place a p) (Some latest) (f p) (other p on)) h.1.links));
        apart = (off, h.1.apart);
        all = λ p some. by_test p some (same_place a p) refl;
      },
    )
  where
    by_test : (p : Place) → is_some (g p) ≡ true → (b : Bool) → same_place a p ≡ b → (same_place p a || list_any (same_place p) h.0) ≡ true
    by_test p some true same = or_left (same_place p a) (list_any (same_place p) h.0) (subst (λ (x : Place). same_place x a ≡ true) (same_place_true a p same) (same_place_refl a))
    by_test p some false apart = or_right (same_place p a) (list_any (same_place p) h.0) (h.1.all p (ap is_some (sym (sets p ∙ cond-false (same_place a p) (Some latest) (f p) apart)) ∙ some))

-- the last place is taken off
off_chain : (f g : Place → Option (Option Place)) (a : Place) (e : Option Place) → f a ≡ Some e → ((p : Place) → g p ≡ cond (same_place a p) None (f p)) → (chain : List Place) → IsChain f (Some a) chain → HasChain g e
off_chain f g a e is sets [] h = absurd cc
  where
    impossible : Some a ≡ None
    impossible = h.links
off_chain f g a e is sets (x ∷ xs) h =
    let here : a ≡ x = cc in
    let next : h.links.1.0 ≡ e = cc in
    let off : list_any (same_place a) xs ≡ false = subst (λ (p : Place). list_any (same_place p) xs ≡ false) (sym here) h.apart.0 in
    let other : (p : Place) → list_any (same_place p) xs ≡ true → same_place a p ≡ false =
    λ p on. false_from_ne_true (same_place a p) (λ same. false≢true (sym off ∙ subst (λ (x : Place). list_any (same_place x) xs ≡ true) (sym (same_place_true a p same)) on)) in (
      xs,
      record {
        links = subst (λ (l : Option Place). Links g l xs) next (Links_same f g h.links.1.0 xs (λ p on. sets p ∙ cond-false (same_place a p) None (f p) (other p on)) h.links.1.2);
        apart = h.apart.1;
        all = λ p some. by_test p some (same_place a p) refl;
      },
    )
  where
    by_test : (p : Place) → is_some (g p) ≡ true → (b : Bool) → same_place a p ≡ b → list_any (same_place p) xs ≡ true
    by_test p some true same = absurd (false≢true (ap is_some (sym (sets p ∙ cond-true (same_place a p) None (f p) same)) ∙ some))
    by_test p some false apart = by_case (or_cases (same_place p x) (list_any (same_place p) xs) (h.all p (ap is_some (sym (sets p ∙ cond-false (same_place a p) None (f p) apart)) ∙ some)))
      where
        by_case : (same_place p x ≡ true) ⊎ (list_any (same_place p) xs ≡ true) → list_any (same_place p) xs ≡ true
        by_case (inl same) =
            let here : a ≡ x = cc in
            let there : p ≡ x = same_place_true p x same in
            let both : a ≡ p = here ∙ sym there in
            absurd (true≢false (sym (subst (λ (y : Place). same_place a y ≡ true) both (same_place_refl a)) ∙ apart))
        by_case (inr later) = later

pub HasChain_less : (f g : Place → Option (Option Place)) (a : Place) (e : Option Place) → f a ≡ Some e → ((p : Place) → g p ≡ cond (same_place a p) None (f p)) → HasChain f (Some a) → HasChain g e
HasChain_less f g a e is sets h = off_chain f g a e is sets h.0 h.1

-- where there is no last place, none has an earlier one
empty_chain : (f : Place → Option (Option Place)) (chain : List Place) → IsChain f None chain → (p : Place) → is_some (f p) ≡ false
empty_chain f [] h p = false_from_ne_true (is_some (f p)) (λ some. false≢true (h.all p some))
empty_chain f (x ∷ xs) h p = absurd cc
  where
    impossible : None ≡ Some x
    impossible = h.links.0

pub HasChain_ends : (f : Place → Option (Option Place)) → HasChain f None → (p : Place) → is_some (f p) ≡ false
HasChain_ends f h p = empty_chain f h.0 h.1 p

-- the last place has an earlier one
known_last : (f : Place → Option (Option Place)) (a : Place) (chain : List Place) → IsChain f (Some a) chain → is_some (f a) ≡ true
known_last f a [] h = absurd cc
  where
    impossible : Some a ≡ None
    impossible = h.links
known_last f a (x ∷ xs) h =
    let here : a ≡ x = cc in
    ap (λ (p : Place). is_some (f p)) here ∙ ap is_some h.links.1.1

pub HasChain_known : (f : Place → Option (Option Place)) (a : Place) → HasChain f (Some a) → is_some (f a) ≡ true
HasChain_known f a h = known_last f a h.0 h.1
