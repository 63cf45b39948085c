-- The worklink that an actor holds is one, and what is shown where its cursor goes on.
use Rattle.std.proofs.Common.{◌≡◌, ℕ, zero, suc, ◌+◌, ◌<◌, ◌≤◌, Bool, cond, List, [], ◌∷◌, length, Some, ◌⊎◌, inl, inr, refl, sym, ap, ◌∙◌, subst, arith, Vec, Global}
use Rattle.std.specs.Prelude.{slice_set, count_by, nat_le}
use Rattle.std.proofs.lemmas.Bool.{cases_eq}
use Rattle.std.proofs.lemmas.List.Sums.{sum_by-cons}
use Rattle.std.proofs.lemmas.List.{length-set}
use Rattle.core_rules.specs.State.{CoreState, Collected, Link, Quiesce, At}
use Rattle.core_rules.specs.State as rules
use Rattle.core_rules.specs.Flush.{HasLink}
use Rattle.core_rules.proofs.Lists.{at_same, at_within, at_set_cases, at_set_same, at_set_kept}
use Rattle.standby_core.specs.declared.link.Stage.TheVariants.{Claimed}
use Rattle.standby_core.specs.declared.link.Link.{Link as OwnLink}
use Rattle.standby_core.specs.declared.flush.Flush.{Flush}
use Rattle.standby_core.specs.declared.standby.Core.{Core}
use Rattle.standby_core.specs.Each.{EachAt}
use Rattle.standby_core.specs.Links.{stage_with, is_unclaimed, is_finished, ShowsLink, AreNumbers, ShowsFlush}
use Rattle.standby_core.specs.Shows.{IsState}
use Rattle.standby_core.proofs.Each.{each_right, each_set, set_same}
use Rattle.standby_core.proofs.HeldLinks.{held_number}

-- of a stage that an actor has there is one actor and one cursor
one_claim : (a b k m : ℕ) → Claimed a k ≡ Claimed b m → (a ≡ b) × (k ≡ m)
one_claim a b k m e = (cc, cc)

one_cursor : (a b k m : ℕ) (xs ys : List Collected) → rules.Claimed a k xs ≡ rules.Claimed b m ys → k ≡ m
one_cursor a b k m xs ys e = cc

one_number : (m n : ℕ) → Some m ≡ Some n → m ≡ n
one_number m n e = cc

module _ (core : Core) (c : CoreState) (h : IsState core c) where
  -- where the core has no number for an actor, the actor holds no worklink
  pub none_held : (actor : ℕ) → ((n : ℕ) → At core.flush.held.items actor (Some n) → ⊥) → (number : ℕ) (link : Link) (cursor : ℕ) (collected : List Collected) → HasLink c actor number link cursor collected → ⊥
  none_held actor none number link cursor collected has =
      none number (held_number core.worker_count core.flush c.quiesce c.links h.shows.flush actor number cursor link collected has.found has.stage)

  module _ (actor number : ℕ) (held : At core.flush.held.items actor (Some number)) where
    -- the number is that of a worklink
    pub number_within : number < length core.flush.links.items
    number_within = let r = h.shows.flush.numbers.holds actor number held in at_within core.flush.links.items number r.0 r.2

    module _ (own : OwnLink) (at : At core.flush.links.items number own) where
      -- which the actor has
      pub is_held : (cursor : ℕ) × (own.stage ≡ Claimed actor cursor)
      is_held =
          let r = h.shows.flush.numbers.holds actor number held in
          (r.1, ap (λ (x : OwnLink). x.stage) (at_same core.flush.links.items number own r.0 at r.2) ∙ r.3)

      pub shown_link : (l : Link) × At c.links number l × ShowsLink core.worker_count own l
      shown_link = each_right (λ n. ShowsLink core.worker_count) core.flush.links.items c.links h.shows.flush.links number own at

      module _ (a cursor : ℕ) (stage : own.stage ≡ Claimed a cursor) where
        pub own_stage : own.stage ≡ Claimed actor cursor
        own_stage = let r = is_held in r.1 ∙ ap (Claimed actor) (sym (one_claim a actor cursor r.0 (sym stage ∙ r.1)).1)

        pub has_link : HasLink c actor number shown_link.0 cursor shown_link.2.collected
        has_link = record {
          known =
              let w : actor < length core.flush.held.items = at_within core.flush.held.items actor (Some number) held in
              let l : length core.flush.held.items ≡ core.worker_count + 1 = h.shows.flush.numbers.actors in
              let k : core.worker_count ≡ length c.workers = h.shows.worker_count in
              omega arith;
          found = shown_link.1;
          stage = shown_link.2.stage ∙ ap (stage_with shown_link.2.collected) own_stage;
        }

        -- and no other
        pub only_link : (n : ℕ) (l : Link) (k : ℕ) (xs : List Collected) → HasLink c actor n l k xs → k ≡ cursor
        only_link n l k xs has =
            let there : At core.flush.held.items actor (Some n) = held_number core.worker_count core.flush c.quiesce c.links h.shows.flush actor n k l xs has.found has.stage in
            let one : n ≡ number = one_number n number (at_same core.flush.held.items actor (Some n) (Some number) there held) in
            let same : l ≡ shown_link.0 = at_same c.links number l shown_link.0 (subst (λ m. At c.links m l) one has.found) shown_link.1 in
            one_cursor actor actor k cursor xs shown_link.2.collected (sym has.stage ∙ ap (λ (x : Link). x.stage) same ∙ has_link.stage)

-- as many pass a test where one place is set to what passes alike
count_cons : {X : Type 0} (p : X → Bool) (x : X) (xs : List X) → count_by p (x ∷ xs) ≡ cond (p x) 1 0 + count_by p xs
count_cons p x xs = sum_by-cons (λ y. cond (p y) 1 0) x xs

count_same : {X : Type 0} (p : X → Bool) (xs : List X) (n : ℕ) (x y : X) → At xs n x → p y ≡ p x → count_by p (slice_set xs n y) ≡ count_by p xs
count_same p [] n x y h k = refl
count_same p (z ∷ xs) zero x y h k =
    let e : Some z ≡ Some x = h in
    let one : z ≡ x = cc in
    count_cons p y xs ∙ ap (λ (b : Bool). cond b 1 0 + count_by p xs) (k ∙ ap p (sym one)) ∙ sym (count_cons p z xs)
count_same p (z ∷ xs) (suc n) x y h k =
    count_cons p z (slice_set xs n y) ∙ ap (λ m. cond (p z) 1 0 + m) (count_same p xs n x y h k) ∙ sym (count_cons p z xs)

-- the numbers stay where a cursor goes on
pub numbers_go_on : (workers : ℕ) (flush : Flush) (number actor cursor next : ℕ) (own new : OwnLink) (ls : Vec OwnLink Global) → AreNumbers workers flush → At flush.links.items number own
    → own.stage ≡ Claimed actor cursor → new.stage ≡ Claimed actor next → ls.items ≡ slice_set flush.links.items number new → AreNumbers workers (record flush { links = ls })
numbers_go_on workers flush number actor cursor next own new ls h at own_is new_is ls_is = record {
  claimed = λ n x k. claimed n x (cases n x k);
  within = let w : flush.claimed ≤ length flush.links.items = h.within in let l : length ls.items ≡ length flush.links.items = ap length ls_is ∙ length-set flush.links.items number new in omega arith;
  done = h.done ∙ sym (ap (count_by (λ (x : OwnLink). is_finished x.stage)) ls_is ∙ count_same (λ (x : OwnLink). is_finished x.stage) flush.links.items number own new at (ap is_finished new_is ∙ sym (ap is_finished own_is)));
  actors = h.actors;
  held = λ a n k x m s. held a n k x (cases n x m) s;
  holds = λ a n m. holds a n (h.holds a n m);
}
  where
    cases : (n : ℕ) (x : OwnLink) → At ls.items n x → ((n ≡ number) × (x ≡ new)) ⊎ ((n ≡ number → ⊥) × At flush.links.items n x)
    cases n x k = at_set_cases flush.links.items number n x new (subst (λ l. At l n x) ls_is k)

    claimed : (n : ℕ) (x : OwnLink) → ((n ≡ number) × (x ≡ new)) ⊎ ((n ≡ number → ⊥) × At flush.links.items n x) → is_unclaimed x.stage ≡ nat_le flush.claimed n
    claimed n x (inl e) =
        ap (λ (y : OwnLink). is_unclaimed y.stage) e.1 ∙ ap is_unclaimed new_is ∙ sym (ap is_unclaimed own_is) ∙ h.claimed number own at ∙ ap (nat_le flush.claimed) (sym e.0)
    claimed n x (inr e) = h.claimed n x e.1

    held : (a n k : ℕ) (x : OwnLink) → ((n ≡ number) × (x ≡ new)) ⊎ ((n ≡ number → ⊥) × At flush.links.items n x) → x.stage ≡ Claimed a k → At flush.held.items a (Some n)
    held a n k x (inl e) s =
        let one : actor ≡ a = (one_claim actor a next k (sym new_is ∙ sym (ap (λ (y : OwnLink). y.stage) e.1) ∙ s)).0 in
        subst (λ m. At flush.held.items a (Some m)) (sym e.0) (subst (λ b. At flush.held.items b (Some number)) one (h.held actor number cursor own at own_is))
    held a n k x (inr e) s = h.held a n k x e.1 s

    holds : (a n : ℕ) → (x : OwnLink) × (k : ℕ) × At flush.links.items n x × (x.stage ≡ Claimed a k) → (x : OwnLink) × (k : ℕ) × At ls.items n x × (x.stage ≡ Claimed a k)
    holds a n r = by (cases_eq n number)
      where
        by : (n ≡ number) ⊎ (n ≡ number → ⊥) → (x : OwnLink) × (k : ℕ) × At ls.items n x × (x.stage ≡ Claimed a k)
        by (inl e) =
            let same : r.0 ≡ own = at_same flush.links.items number r.0 own (subst (λ m. At flush.links.items m r.0) e r.2) at in
            let one : actor ≡ a = (one_claim actor a cursor r.1 (sym own_is ∙ sym (ap (λ (y : OwnLink). y.stage) same) ∙ r.3)).0 in
            let set : At (slice_set flush.links.items number new) number new = at_set_same flush.links.items number new (at_within flush.links.items number own at) in
            (new, next, subst (λ m. At ls.items m new) (sym e) (subst (λ l. At l number new) (sym ls_is) set), subst (λ b. new.stage ≡ Claimed b next) one new_is)
        by (inr d) = (r.0, r.1, subst (λ l. At l n r.0) (sym ls_is) (at_set_kept flush.links.items number n r.0 new d r.2), r.3)

-- and so does what the flush shows
pub flush_goes_on : (workers : ℕ) (flush : Flush) (q : Quiesce) (links : List Link) (number actor cursor next : ℕ) (own new : OwnLink) (link : Link) (ls : Vec OwnLink Global)
    → ShowsFlush workers flush q links → At flush.links.items number own → own.stage ≡ Claimed actor cursor → new.stage ≡ Claimed actor next
    → ls.items ≡ slice_set flush.links.items number new → ShowsLink workers new link → ShowsFlush workers (record flush { links = ls }) q (slice_set links number link)
flush_goes_on workers flush q links number actor cursor next own new link ls h at own_is new_is ls_is shows = record {
  quiesce = h.quiesce;
  links = subst (λ l. EachAt (λ n. ShowsLink workers) l (slice_set links number link)) (sym ls_is) (each_set (λ n. ShowsLink workers) flush.links.items links h.links number new link shows);
  numbers = numbers_go_on workers flush number actor cursor next own new ls h.numbers at own_is new_is ls_is;
}

-- where a worklink is put back as it was
pub flush_stays : (core : Core) (c : CoreState) (h : IsState core c) (actor number : ℕ) (held : At core.flush.held.items actor (Some number)) (own : OwnLink) (at : At core.flush.links.items number own)
    (a cursor : ℕ) (stage : own.stage ≡ Claimed a cursor) (ls : Vec OwnLink Global) → ls.items ≡ slice_set core.flush.links.items number own
    → ShowsFlush core.worker_count (record core.flush { links = ls }) c.quiesce c.links
flush_stays core c h actor number held own at a cursor stage ls ls_is =
    let l = shown_link core c h actor number held own at in
    let is = own_stage core c h actor number held own at a cursor stage in
    subst (ShowsFlush core.worker_count (record core.flush { links = ls }) c.quiesce) (set_same c.links number l.0 l.1)
    (flush_goes_on core.worker_count core.flush c.quiesce c.links number actor cursor cursor own own l.0 ls h.shows.flush at is is ls_is l.2)
