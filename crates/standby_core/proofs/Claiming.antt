-- Claim, Done and Publish: what the flush is then, and why such an event can't happen.
use Rattle.std.proofs.Common.{◌≡◌, ℕ, zero, suc, ◌+◌, ◌<◌, ◌≤◌, Bool, true, false, cond, List, [], ◌∷◌, length, Option, Some, None, ◌⊎◌, inl, inr, refl, sym, ap, ◌∙◌, subst, arith, true≢false}
use Rattle.std.specs.Prelude.{slice_set, count_by, nat_le, ◌==◌}
use Rattle.std.specs.List.{list_any}
use Rattle.std.proofs.lemmas.Bool.{le-leb, leb-true, eq-eqb, eqb-true, cases_lt}
use Rattle.std.proofs.lemmas.List.{length-set}
use Rattle.std.proofs.lemmas.List.Sums.{sum_by-cons, count_by-le-length}
use Rattle.core_rules.specs.State.{CoreState, Quiesce, Link, Collected, At, is_flushing, is_held_by}
use Rattle.core_rules.specs.State as rules
use Rattle.core_rules.specs.Flush.{CanClaim, IsFirstUnclaimed, CanFinish, CanPublish}
use Rattle.core_rules.specs.Parts.{QuiesceIs}
use Rattle.core_rules.specs.declared.event.Event.TheVariants as event
use Rattle.core_rules.specs.declared.event.CoreAnswer.TheVariants.{Moved}
use Rattle.core_rules.proofs.Lists.{at_same, at_within, at_exists, at_contains, contains_at, at_set_cases, at_set_same, at_set_kept, any_contains, any_contains_back, any_none, any_false, not_both, each_at, each_from}
use Rattle.standby_core.specs.declared.link.Stage.{Stage as OwnStage}
use Rattle.standby_core.specs.declared.link.Stage.TheVariants.{Unclaimed, Claimed, Finished}
use Rattle.standby_core.specs.declared.link.Link.{Link as OwnLink}
use Rattle.standby_core.specs.declared.flush.Flush.{Flush}
use Rattle.standby_core.specs.declared.flush.Quiesce.{Quiesce as OwnQuiesce}
use Rattle.standby_core.specs.declared.flush.Quiesce.TheVariants as keeper
use Rattle.standby_core.specs.declared.standby.Core.{Core}
use Rattle.standby_core.specs.Each.{EachAt}
use Rattle.standby_core.specs.Links.{quiesce_shown, stage_with, is_unclaimed, is_finished, AreFew, ShowsLink, AreNumbers, ShowsFlush}
use Rattle.standby_core.specs.Shows.{Shows, IsState, HasStepped}
use Rattle.standby_core.proofs.Each.{each_left, each_right, each_set}
use Rattle.standby_core.proofs.Kept.{with_flush, with_query}
use Rattle.standby_core.proofs.HeldLinks.{HeldLink, held_link, held_number}

-- one for what passes a test, else none
abbrev pub bit : Bool → ℕ
bit b = cond b 1 0

pub count_cons : {X : Type 0} (p : X → Bool) (x : X) (xs : List X) → count_by p (x ∷ xs) ≡ bit (p x) + count_by p xs
count_cons p x xs = sum_by-cons (λ y. cond (p y) 1 0) x xs

-- one element set
pub count_set : {X : Type 0} (p : X → Bool) (xs : List X) (n : ℕ) (x y : X) → At xs n x → count_by p (slice_set xs n y) + bit (p x) ≡ count_by p xs + bit (p y)
count_set p [] n x y h = let e : None ≡ Some x = h in absurd cc
count_set p (z ∷ xs) zero x y h =
    let e : Some z ≡ Some x = h in
    let same : bit (p z) ≡ bit (p x) = let k : z ≡ x = cc in ap (λ w. bit (p w)) k in
    let new : count_by p (y ∷ xs) ≡ bit (p y) + count_by p xs = count_cons p y xs in
    let old : count_by p (z ∷ xs) ≡ bit (p z) + count_by p xs = count_cons p z xs in
    omega arith
count_set p (z ∷ xs) (suc n) x y h =
    let ih : count_by p (slice_set xs n y) + bit (p x) ≡ count_by p xs + bit (p y) = count_set p xs n x y h in
    let new : count_by p (z ∷ slice_set xs n y) ≡ bit (p z) + count_by p (slice_set xs n y) = count_cons p z (slice_set xs n y) in
    let old : count_by p (z ∷ xs) ≡ bit (p z) + count_by p xs = count_cons p z xs in
    omega arith

-- fewer pass a test than there are where one fails, so all pass where as many do
pub count_less : {X : Type 0} (p : X → Bool) (xs : List X) (n : ℕ) (x : X) → At xs n x → p x ≡ false → count_by p xs < length xs
count_less p [] n x h e = let f : None ≡ Some x = h in absurd cc
count_less p (z ∷ xs) zero x h e =
    let f : Some z ≡ Some x = h in
    let same : bit (p z) ≡ 0 = let k : z ≡ x = cc in ap (λ w. bit (p w)) k ∙ ap bit e in
    let count : count_by p (z ∷ xs) ≡ bit (p z) + count_by p xs = count_cons p z xs in
    let most : count_by p xs ≤ length xs = count_by-le-length p xs in
    omega arith
count_less p (z ∷ xs) (suc n) x h e =
    let less : count_by p xs < length xs = count_less p xs n x h e in
    let count : count_by p (z ∷ xs) ≡ bit (p z) + count_by p xs = count_cons p z xs in
    let one : bit (p z) ≤ 1 = one_at_most (p z) in
    omega arith
  where
    one_at_most : (b : Bool) → bit b ≤ 1
    one_at_most true = omega arith
    one_at_most false = omega arith

all_counted : {X : Type 0} (p : X → Bool) (xs : List X) → count_by p xs ≡ length xs → (n : ℕ) (x : X) → At xs n x → p x ≡ true
all_counted p xs same n x h = by_test (p x) refl
  where
    by_test : (b : Bool) → p x ≡ b → b ≡ true
    by_test true e = refl
    by_test false e = let less : count_by p xs < length xs = count_less p xs n x h e in absurd (omega arith)

leb_no : (a b : ℕ) → (a ≤ b → ⊥) → nat_le a b ≡ false
leb_no a b no_le = by_test (nat_le a b) refl
  where
    by_test : (t : Bool) → nat_le a b ≡ t → t ≡ false
    by_test true e = absurd (no_le (leb-true a b e))
    by_test false e = refl

-- as many pass as there are where all do
all_by : {X : Type 0} (p : X → Bool) (xs : List X) → ((n : ℕ) (x : X) → At xs n x → p x ≡ true) → count_by p xs ≡ length xs
all_by p [] each = refl
all_by p (x ∷ xs) each =
    let rest : count_by p xs ≡ length xs = all_by p xs (λ n y at. each (suc n) y at) in
    let count : count_by p (x ∷ xs) ≡ bit (p x) + count_by p xs = count_cons p x xs in
    let here : bit (p x) ≡ 1 = ap bit (each zero x refl) in
    omega arith

-- the stage of the state's worklink
same_unclaimed : (collected : List Collected) (x : OwnStage) → rules.is_unclaimed (stage_with collected x) ≡ is_unclaimed x
same_unclaimed collected Unclaimed = refl
same_unclaimed collected (Claimed actor cursor) = refl
same_unclaimed collected Finished = refl

same_finished : (collected : List Collected) (x : OwnStage) → rules.is_finished (stage_with collected x) ≡ is_finished x
same_finished collected Unclaimed = refl
same_finished collected (Claimed actor cursor) = refl
same_finished collected Finished = refl

is_left : (collected : List Collected) (x : OwnStage) → is_unclaimed x ≡ true → stage_with collected x ≡ rules.Unclaimed
is_left collected Unclaimed e = refl
is_left collected (Claimed actor cursor) e = absurd (true≢false (sym e))
is_left collected Finished e = absurd (true≢false (sym e))

holder_is : (actor : ℕ) (s : rules.Stage) → is_held_by actor s ≡ true → (cursor : ℕ) × (collected : List Collected) × (s ≡ rules.Claimed actor cursor collected)
holder_is actor rules.Unclaimed e = absurd (true≢false (sym e))
holder_is actor (rules.Claimed holder cursor collected) e = (cursor, collected, ap (λ a. rules.Claimed a cursor collected) (eqb-true holder actor e))
holder_is actor rules.Finished e = absurd (true≢false (sym e))

-- an actor of the state has a place in the core
actor_place : (core : Core) (c : CoreState) → Shows core c → (actor : ℕ) → actor ≤ length c.workers → (x : Option ℕ) × At core.flush.held.items actor x
actor_place core c h actor known =
    let count : length core.flush.held.items ≡ core.worker_count + 1 = h.flush.numbers.actors in
    let workers : core.worker_count ≡ length c.workers = h.worker_count in
    at_exists core.flush.held.items actor (omega arith)

-- a worklink stands in a flush alone
flushing : (quiesce : Quiesce) (query holders : ℕ) (links : List Link) (n : ℕ) (l : Link) → QuiesceIs quiesce query holders links → At links n l → is_flushing quiesce ≡ true
flushing rules.Idle query holders links n l q at = absurd (none (subst (λ ls. At ls n l) q.1 at))
  where
    none : At [] n l → ⊥
    none e = let f : None ≡ Some l = e in absurd cc
flushing (rules.Shared k) query holders links n l q at = absurd (none (subst (λ ls. At ls n l) q.2 at))
  where
    none : At [] n l → ⊥
    none e = let f : None ≡ Some l = e in absurd cc
flushing (rules.Flushing through) query holders links n l q at = refl

module _ (core : Core) (c : CoreState) (h : IsState core c) (actor : ℕ) where
  shown : ShowsFlush core.worker_count core.flush c.quiesce c.links
  shown = h.shows.flush

  -- Claim can't happen where the actor holds a worklink, is none, or all worklinks are claimed
  pub claim_barred : (At core.flush.held.items actor None → core.flush.claimed < length core.flush.links.items → ⊥) → CanClaim c actor → ⊥
  claim_barred barred can = by_place place.0 place.1
    where
      place : (x : Option ℕ) × At core.flush.held.items actor x
      place = actor_place core c h.shows actor can.known

      left : core.flush.claimed < length core.flush.links.items
      left =
          let some = any_contains_back (λ (l : Link). rules.is_unclaimed l.stage) c.links can.some in
          let at = contains_at c.links some.0 some.1 in
          let own = each_left (λ n. ShowsLink core.worker_count) core.flush.links.items c.links shown.links at.0 some.0 at.1 in
          let free : is_unclaimed own.0.stage ≡ true = sym (same_unclaimed own.2.collected own.0.stage) ∙ ap rules.is_unclaimed (sym own.2.stage) ∙ some.2 in
          let from : core.flush.claimed ≤ at.0 = leb-true core.flush.claimed at.0 (sym (shown.numbers.claimed at.0 own.0 own.1) ∙ free) in
          let within : at.0 < length core.flush.links.items = at_within core.flush.links.items at.0 own.0 own.1 in
          omega arith

      by_place : (x : Option ℕ) → At core.flush.held.items actor x → ⊥
      by_place None at = barred at left
      by_place (Some number) at =
          let l = held_link core.worker_count core.flush c.quiesce c.links shown actor number at in
          any_false (λ (l : Link). is_held_by actor l.stage) c.links l.link can.free (at_contains c.links number l.link l.found) (ap (is_held_by actor) l.stage ∙ eq-eqb actor actor refl)

  -- where an actor holds none, no worklink of the state is its own
  pub holds_none : At core.flush.held.items actor None → list_any (λ (l : Link). is_held_by actor l.stage) c.links ≡ false
  holds_none free = any_none (λ (l : Link). is_held_by actor l.stage) c.links (λ l k e.
      let at = contains_at c.links l k in
      let own = holder_is actor l.stage e in
      let number = held_number core.worker_count core.flush c.quiesce c.links shown actor at.0 own.0 l own.1 at.1 own.2 in
      let twice : Some (Some at.0) ≡ Some None = sym number ∙ free in
      absurd cc)

  module _ (number : ℕ) (first : number ≡ core.flush.claimed) (within : number < length core.flush.links.items) (free : At core.flush.held.items actor None) where
    own : (x : OwnLink) × At core.flush.links.items number x
    own = at_exists core.flush.links.items number within

    right : (l : Link) × At c.links number l × ShowsLink core.worker_count own.0 l
    right = each_right (λ n. ShowsLink core.worker_count) core.flush.links.items c.links shown.links number own.0 own.1

    left : is_unclaimed own.0.stage ≡ true
    left = shown.numbers.claimed number own.0 own.1 ∙ le-leb core.flush.claimed number (omega (arith, first))

    is_first : IsFirstUnclaimed c.links number right.0
    is_first = record {
      found = right.1;
      is = right.2.stage ∙ is_left right.2.collected own.0.stage left;
      first = λ n l below at.
          let other = each_left (λ n. ShowsLink core.worker_count) core.flush.links.items c.links shown.links n l at in
          ap rules.is_unclaimed other.2.stage ∙ same_unclaimed other.2.collected other.0.stage ∙ shown.numbers.claimed n other.0 other.1 ∙ leb_no core.flush.claimed n (λ (k : core.flush.claimed ≤ n). omega (arith, first, below));
    }

    known : actor ≤ length c.workers
    known =
        let count : length core.flush.held.items ≡ core.worker_count + 1 = shown.numbers.actors in
        let workers : core.worker_count ≡ length c.workers = h.shows.worker_count in
        let place : actor < length core.flush.held.items = at_within core.flush.held.items actor None free in
        omega arith

    can : CanClaim c actor
    can = record {
      known = known;
      flushing = flushing c.quiesce c.query _ c.links number right.0 h.invariant.quiesce right.1;
      free = holds_none free;
      some = any_contains (λ (l : Link). rules.is_unclaimed l.stage) c.links right.0 (at_contains c.links number right.0 right.1) (ap rules.is_unclaimed is_first.is);
    }

    abbrev taken_own : OwnLink
    taken_own = record own.0 { stage = Claimed actor 0 }

    abbrev taken : Link
    taken = record right.0 { stage = rules.Claimed actor 0 [] }

    -- nothing was collected for a worklink that nobody has
    no_lists : (x : OwnStage) (lists items : ℕ) → is_unclaimed x ≡ true → AreFew x lists items → lists ≡ 0
    no_lists Unclaimed lists items e few = few
    no_lists (Claimed a k) lists items e few = absurd (true≢false (sym e))
    no_lists Finished lists items e few = absurd (true≢false (sym e))

    none_gathered : length own.0.collected.lists ≡ 0
    none_gathered = no_lists own.0.stage (length own.0.collected.lists) (length own.0.items) left right.2.few

    shows_taken : ShowsLink core.worker_count taken_own taken
    shows_taken = record {
      items = right.2.items;
      collected = [];
      stage = refl;
      gathered = λ t a change k. let below : k.within.0 < 0 = k.within.1 in absurd (omega arith);
      only = λ t a k. let below : k.within.0 < length own.0.collected.lists = k.within.1 in absurd (omega (arith, none_gathered));
      lists = right.2.lists;
      room = right.2.room;
      few = omega (arith, none_gathered);
    }

    module _ (f : Flush) (held : f.held.items ≡ slice_set core.flush.held.items actor (Some number))
        (links : (x : OwnLink) → At core.flush.links.items number x → f.links.items ≡ slice_set core.flush.links.items number (record x { stage = Claimed actor 0 }))
        (claimed : f.claimed ≡ number + 1) (quiesce : f.quiesce ≡ core.flush.quiesce) (done : f.done ≡ core.flush.done) where
      links_are : f.links.items ≡ slice_set core.flush.links.items number taken_own
      links_are = links own.0 own.1

      behind : (n m : ℕ) → (n ≡ m → ⊥) → m ≤ n → m + 1 ≤ n
      behind n m apart l = by_order (cases_lt m n)
        where
          by_order : (m < n) ⊎ (n ≤ m) → m + 1 ≤ n
          by_order (inl k) = omega arith
          by_order (inr k) = absurd (apart (omega arith))

      numbers_claimed : (n : ℕ) (x : OwnLink) → At f.links.items n x → is_unclaimed x.stage ≡ nat_le f.claimed n
      numbers_claimed n x at = by_place (at_set_cases core.flush.links.items number n x taken_own (subst (λ ls. At ls n x) links_are at))
        where
          by_place : ((n ≡ number) × (x ≡ taken_own)) ⊎ ((n ≡ number → ⊥) × At core.flush.links.items n x) → is_unclaimed x.stage ≡ nat_le f.claimed n
          by_place (inl p) = ap (λ (y : OwnLink). is_unclaimed y.stage) p.1 ∙ sym (leb_no f.claimed n (λ (k : f.claimed ≤ n). omega (arith, claimed, p.0)))
          by_place (inr p) = shown.numbers.claimed n x p.1 ∙ by_test (nat_le core.flush.claimed n) refl
            where
              by_test : (b : Bool) → nat_le core.flush.claimed n ≡ b → nat_le core.flush.claimed n ≡ nat_le f.claimed n
              by_test true e =
                  let from : core.flush.claimed ≤ n = leb-true core.flush.claimed n e in
                  e ∙ sym (le-leb f.claimed n (subst (λ k. k ≤ n) (sym claimed) (behind n number p.0 (omega (arith, first)))))
              by_test false e = e ∙ sym (leb_no f.claimed n (λ (k : f.claimed ≤ n). not_both (nat_le core.flush.claimed n) (le-leb core.flush.claimed n (omega (arith, claimed, first, k))) e))

      numbers_held : (a n cursor : ℕ) (x : OwnLink) → At f.links.items n x → x.stage ≡ Claimed a cursor → At f.held.items a (Some n)
      numbers_held a n cursor x at stage = subst (λ xs. At xs a (Some n)) (sym held) (by_place (at_set_cases core.flush.links.items number n x taken_own (subst (λ ls. At ls n x) links_are at)))
        where
          by_place : ((n ≡ number) × (x ≡ taken_own)) ⊎ ((n ≡ number → ⊥) × At core.flush.links.items n x) → At (slice_set core.flush.held.items actor (Some number)) a (Some n)
          by_place (inl p) =
              let same : Claimed actor 0 ≡ Claimed a cursor = sym (ap (λ (y : OwnLink). y.stage) p.1) ∙ stage in
              let actors : actor ≡ a = cc in
              subst (λ b. At (slice_set core.flush.held.items actor (Some number)) b (Some n)) actors
              (subst (λ m. At (slice_set core.flush.held.items actor (Some number)) actor (Some m)) (sym p.0) (at_set_same core.flush.held.items actor (Some number) (at_within core.flush.held.items actor None free)))
          by_place (inr p) =
              let old : At core.flush.held.items a (Some n) = shown.numbers.held a n cursor x p.1 stage in
              at_set_kept core.flush.held.items actor a (Some n) (Some number) (λ same. absurd (apart old (subst (λ b. At core.flush.held.items b None) (sym same) free))) old
            where
              apart : At core.flush.held.items a (Some n) → At core.flush.held.items a None → ⊥
              apart h k = let e : Some (Some n) ≡ Some None = sym h ∙ k in absurd cc

      numbers_holds : (a n : ℕ) → At f.held.items a (Some n) → (x : OwnLink) × (cursor : ℕ) × At f.links.items n x × (x.stage ≡ Claimed a cursor)
      numbers_holds a n at = by_place (at_set_cases core.flush.held.items actor a (Some n) (Some number) (subst (λ xs. At xs a (Some n)) held at))
        where
          set : (x : OwnLink) → At (slice_set core.flush.links.items number taken_own) n x → At f.links.items n x
          set x k = subst (λ ls. At ls n x) (sym links_are) k

          by_place : ((a ≡ actor) × (Some n ≡ Some number)) ⊎ ((a ≡ actor → ⊥) × At core.flush.held.items a (Some n)) → (x : OwnLink) × (cursor : ℕ) × At f.links.items n x × (x.stage ≡ Claimed a cursor)
          by_place (inl p) =
              let numbers : n ≡ number = cc in
              (taken_own, 0, set taken_own (subst (λ m. At (slice_set core.flush.links.items number taken_own) m taken_own) (sym numbers) (at_set_same core.flush.links.items number taken_own within)), ap (λ b. Claimed b 0) (sym p.0))
          by_place (inr p) =
              let old = shown.numbers.holds a n p.1 in
              (old.0, old.1, set old.0 (at_set_kept core.flush.links.items number n old.0 taken_own (λ same. apart old.0 old.1 (subst (λ m. At core.flush.links.items m old.0) same old.2) old.3) old.2), old.3)
            where
              apart : (x : OwnLink) (cursor : ℕ) → At core.flush.links.items number x → x.stage ≡ Claimed a cursor → ⊥
              apart x cursor at stage =
                  let same : x ≡ own.0 = at_same core.flush.links.items number x own.0 at own.1 in
                  true≢false (sym left ∙ ap (λ (y : OwnLink). is_unclaimed y.stage) (sym same) ∙ ap is_unclaimed stage)

      finished_same : core.flush.done ≡ count_by (λ (x : OwnLink). is_finished x.stage) (slice_set core.flush.links.items number taken_own)
      finished_same =
          let set : count_by (λ (x : OwnLink). is_finished x.stage) (slice_set core.flush.links.items number taken_own) + bit (is_finished own.0.stage) ≡ count_by (λ (x : OwnLink). is_finished x.stage) core.flush.links.items + 0 = count_set (λ (x : OwnLink). is_finished x.stage) core.flush.links.items number own.0 taken_own own.1 in
          let not_finished : bit (is_finished own.0.stage) ≡ 0 = unfinished own.0.stage left in
          let before : core.flush.done ≡ count_by (λ (x : OwnLink). is_finished x.stage) core.flush.links.items = shown.numbers.done in
          omega arith
        where
          unfinished : (x : OwnStage) → is_unclaimed x ≡ true → bit (is_finished x) ≡ 0
          unfinished Unclaimed e = refl
          unfinished (Claimed a k) e = absurd (true≢false (sym e))
          unfinished Finished e = absurd (true≢false (sym e))

      numbers : AreNumbers core.worker_count f
      numbers = record {
        claimed = numbers_claimed;
        within = let count : length f.links.items ≡ length core.flush.links.items = ap length links_are ∙ length-set core.flush.links.items number taken_own in omega (arith, claimed, within);
        done = done ∙ finished_same ∙ ap (count_by (λ (x : OwnLink). is_finished x.stage)) (sym links_are);
        actors = ap length held ∙ length-set core.flush.held.items actor (Some number) ∙ shown.numbers.actors;
        held = numbers_held;
        holds = numbers_holds;
      }

      links_shown : EachAt (λ n. ShowsLink core.worker_count) f.links.items (slice_set c.links number taken)
      links_shown = subst (λ ls. EachAt (λ n. ShowsLink core.worker_count) ls (slice_set c.links number taken)) (sym links_are)
          (each_set (λ n. ShowsLink core.worker_count) core.flush.links.items c.links shown.links number taken_own taken shows_taken)

      pub claim_moves : HasStepped (record core { flush = f }) c (event.Claim actor) Moved
      claim_moves = record {
        next = record c { links = slice_set c.links number taken };
        steps = inr (refl, record { can = can; number = number; link = right.0; first = is_first; effect = refl });
        shows = with_flush core c f c.quiesce (slice_set c.links number taken) h.shows (record { quiesce = shown.quiesce ∙ ap quiesce_shown (sym quiesce); links = links_shown; numbers = numbers });
      }

-- Done: the worklink that an actor holds has been everywhere.
module _ (core : Core) (c : CoreState) (h : IsState core c) (actor number : ℕ) (has : At core.flush.held.items actor (Some number)) where
  flush_shown : ShowsFlush core.worker_count core.flush c.quiesce c.links
  flush_shown = h.shows.flush

  pub link_held : HeldLink core.worker_count core.flush c.links actor number
  link_held = held_link core.worker_count core.flush c.quiesce c.links flush_shown actor number has

  is_actor : actor ≤ length c.workers
  is_actor =
      let count : length core.flush.held.items ≡ core.worker_count + 1 = flush_shown.numbers.actors in
      let workers : core.worker_count ≡ length c.workers = h.shows.worker_count in
      let place : actor < length core.flush.held.items = at_within core.flush.held.items actor (Some number) has in
      omega arith

  -- the worklink of the state that the actor holds is this one, with this cursor
  only_link : (n cursor : ℕ) (l : Link) (collected : List Collected) → At c.links n l → l.stage ≡ rules.Claimed actor cursor collected → cursor ≡ link_held.cursor
  only_link n cursor l collected at stage =
      let other : At core.flush.held.items actor (Some n) = held_number core.worker_count core.flush c.quiesce c.links flush_shown actor n cursor l collected at stage in
      let twice : Some (Some n) ≡ Some (Some number) = sym other ∙ has in
      let numbers : n ≡ number = cc in
      let found : At c.links number l = subst (λ m. At c.links m l) numbers at in
      let links : l ≡ link_held.link = at_same c.links number l link_held.link found link_held.found in
      let stages : rules.Claimed actor cursor collected ≡ rules.Claimed actor link_held.cursor link_held.shows.collected = sym stage ∙ ap (λ (x : Link). x.stage) links ∙ link_held.stage in
      cc

  pub done_barred : (place : ℕ) → place ≡ length c.workers + 32 → (link_held.cursor == place) ≡ false → CanFinish c actor → ⊥
  done_barred place end barred can =
      let cursors : can.cursor ≡ link_held.cursor = only_link can.number can.cursor can.link can.collected can.has.found can.has.stage in
      not_both (link_held.cursor == place) (eq-eqb link_held.cursor place (sym cursors ∙ can.end ∙ sym end)) barred

  module _ (f : Flush) (place : ℕ) (end : place ≡ length c.workers + 32) (come : (link_held.cursor == place) ≡ true)
      (held : f.held.items ≡ slice_set core.flush.held.items actor None)
      (links : (x : OwnLink) → At core.flush.links.items number x → f.links.items ≡ slice_set core.flush.links.items number (record x { stage = Finished }))
      (done : f.done ≡ core.flush.done + 1) (quiesce : f.quiesce ≡ core.flush.quiesce) (claimed : f.claimed ≡ core.flush.claimed) where
    abbrev done_own : OwnLink
    done_own = record link_held.own { stage = Finished }

    abbrev done_link : Link
    done_link = record link_held.link { stage = rules.Finished }

    ends_are : f.links.items ≡ slice_set core.flush.links.items number done_own
    ends_are = links link_held.own link_held.at

    shows_done : ShowsLink core.worker_count done_own done_link
    shows_done = record {
      items = link_held.shows.items;
      collected = link_held.shows.collected;
      stage = refl;
      gathered = link_held.shows.gathered;
      only = link_held.shows.only;
      lists = link_held.shows.lists;
      room = link_held.shows.room;
      few = tt;
    }

    still_claimed : (n : ℕ) (x : OwnLink) → At f.links.items n x → is_unclaimed x.stage ≡ nat_le f.claimed n
    still_claimed n x at = by_place (at_set_cases core.flush.links.items number n x done_own (subst (λ ls. At ls n x) ends_are at)) ∙ ap (λ k. nat_le k n) (sym claimed)
      where
        by_place : ((n ≡ number) × (x ≡ done_own)) ⊎ ((n ≡ number → ⊥) × At core.flush.links.items n x) → is_unclaimed x.stage ≡ nat_le core.flush.claimed n
        by_place (inl p) =
            ap (λ (y : OwnLink). is_unclaimed y.stage) p.1 ∙ sym (ap is_unclaimed link_held.own_stage) ∙ flush_shown.numbers.claimed number link_held.own link_held.at ∙ ap (nat_le core.flush.claimed) (sym p.0)
        by_place (inr p) = flush_shown.numbers.claimed n x p.1

    still_held : (a n cursor : ℕ) (x : OwnLink) → At f.links.items n x → x.stage ≡ Claimed a cursor → At f.held.items a (Some n)
    still_held a n cursor x at stage = subst (λ xs. At xs a (Some n)) (sym held) (by_place (at_set_cases core.flush.links.items number n x done_own (subst (λ ls. At ls n x) ends_are at)))
      where
        by_place : ((n ≡ number) × (x ≡ done_own)) ⊎ ((n ≡ number → ⊥) × At core.flush.links.items n x) → At (slice_set core.flush.held.items actor None) a (Some n)
        by_place (inl p) = let e : Finished ≡ Claimed a cursor = sym (ap (λ (y : OwnLink). y.stage) p.1) ∙ stage in absurd cc
        by_place (inr p) =
            let old : At core.flush.held.items a (Some n) = flush_shown.numbers.held a n cursor x p.1 stage in
            at_set_kept core.flush.held.items actor a (Some n) None (λ same. p.0 (apart (subst (λ b. At core.flush.held.items b (Some n)) same old))) old
          where
            apart : At core.flush.held.items actor (Some n) → n ≡ number
            apart k = let e : Some (Some n) ≡ Some (Some number) = sym k ∙ has in cc

    still_holds : (a n : ℕ) → At f.held.items a (Some n) → (x : OwnLink) × (cursor : ℕ) × At f.links.items n x × (x.stage ≡ Claimed a cursor)
    still_holds a n at = by_place (at_set_cases core.flush.held.items actor a (Some n) None (subst (λ xs. At xs a (Some n)) held at))
      where
        by_place : ((a ≡ actor) × (Some n ≡ None)) ⊎ ((a ≡ actor → ⊥) × At core.flush.held.items a (Some n)) → (x : OwnLink) × (cursor : ℕ) × At f.links.items n x × (x.stage ≡ Claimed a cursor)
        by_place (inl p) = absurd cc
        by_place (inr p) =
            let old = flush_shown.numbers.holds a n p.1 in
            (old.0, old.1, subst (λ ls. At ls n old.0) (sym ends_are) (at_set_kept core.flush.links.items number n old.0 done_own (λ same. p.0 (apart old.0 old.1 (subst (λ m. At core.flush.links.items m old.0) same old.2) old.3)) old.2), old.3)
          where
            apart : (x : OwnLink) (cursor : ℕ) → At core.flush.links.items number x → x.stage ≡ Claimed a cursor → a ≡ actor
            apart x cursor at stage =
                let same : x ≡ link_held.own = at_same core.flush.links.items number x link_held.own at link_held.at in
                let stages : Claimed a cursor ≡ Claimed actor link_held.cursor = sym stage ∙ ap (λ (y : OwnLink). y.stage) same ∙ link_held.own_stage in
                cc

    one_more : core.flush.done + 1 ≡ count_by (λ (x : OwnLink). is_finished x.stage) (slice_set core.flush.links.items number done_own)
    one_more =
        let set : count_by (λ (x : OwnLink). is_finished x.stage) (slice_set core.flush.links.items number done_own) + bit (is_finished link_held.own.stage) ≡ count_by (λ (x : OwnLink). is_finished x.stage) core.flush.links.items + 1 = count_set (λ (x : OwnLink). is_finished x.stage) core.flush.links.items number link_held.own done_own link_held.at in
        let not_yet : bit (is_finished link_held.own.stage) ≡ 0 = ap (λ x. bit (is_finished x)) link_held.own_stage in
        let before : core.flush.done ≡ count_by (λ (x : OwnLink). is_finished x.stage) core.flush.links.items = flush_shown.numbers.done in
        omega arith

    done_numbers : AreNumbers core.worker_count f
    done_numbers = record {
      claimed = still_claimed;
      within =
          let count : length f.links.items ≡ length core.flush.links.items = ap length ends_are ∙ length-set core.flush.links.items number done_own in
          let old : core.flush.claimed ≤ length core.flush.links.items = flush_shown.numbers.within in
          omega (arith, claimed);
      done = done ∙ one_more ∙ ap (count_by (λ (x : OwnLink). is_finished x.stage)) (sym ends_are);
      actors = ap length held ∙ length-set core.flush.held.items actor None ∙ flush_shown.numbers.actors;
      held = still_held;
      holds = still_holds;
    }

    pub done_moves : HasStepped (record core { flush = f }) c (event.Done actor) Moved
    done_moves =
        let cursor : link_held.cursor ≡ length c.workers + 32 = eqb-true link_held.cursor place come ∙ end in
        record {
          next = record c { links = slice_set c.links number done_link };
          steps = inr (
            refl,
            record {
              number = number;
              link = link_held.link;
              cursor = link_held.cursor;
              collected = link_held.shows.collected;
              has = record { known = is_actor; found = link_held.found; stage = link_held.stage };
              end = cursor;
              effect = refl;
            },
          );
          shows = with_flush core c f c.quiesce (slice_set c.links number done_link) h.shows (record {
            quiesce = flush_shown.quiesce ∙ ap quiesce_shown (sym quiesce);
            links = subst (λ ls. EachAt (λ n. ShowsLink core.worker_count) ls (slice_set c.links number done_link)) (sym ends_are)
                (each_set (λ n. ShowsLink core.worker_count) core.flush.links.items c.links flush_shown.links number done_own done_link shows_done);
            numbers = done_numbers;
          });
        }

-- not all worklinks are done while an actor holds one
pub done_below : (core : Core) (c : CoreState) → IsState core c → (actor number : ℕ) → At core.flush.held.items actor (Some number) → core.flush.done < length core.flush.links.items
done_below core c h actor number has =
    let l = held_link core.worker_count core.flush c.quiesce c.links h.shows.flush actor number has in
    let less : count_by (λ (x : OwnLink). is_finished x.stage) core.flush.links.items < length core.flush.links.items = count_less (λ (x : OwnLink). is_finished x.stage) core.flush.links.items number l.own l.at (ap is_finished l.own_stage) in
    let count : core.flush.done ≡ count_by (λ (x : OwnLink). is_finished x.stage) core.flush.links.items = h.shows.flush.numbers.done in
    omega arith

-- where a worklink has been everywhere
pub places_are : (core : Core) (c : CoreState) → IsState core c → (places : ℕ) → places ≡ length core.workers.items + length core.units.items → places ≡ length c.workers + 32
places_are core c h places e =
    let as_many : length core.workers.items ≡ length c.workers = h.shows.workers.same_length in
    let shards : length core.units.items ≡ 32 = h.shows.units.count in
    omega (arith, e)

-- an actor without a worklink is not done with one
pub done_needs_link : (core : Core) (c : CoreState) → IsState core c → (actor : ℕ) → ((n : ℕ) → At core.flush.held.items actor (Some n) → ⊥) → CanFinish c actor → ⊥
done_needs_link core c h actor barred can =
    barred can.number (held_number core.worker_count core.flush c.quiesce c.links h.shows.flush actor can.number can.cursor can.link can.collected can.has.found can.has.stage)

-- Publish
own_flushing : (x : OwnQuiesce) (through : ℕ) → quiesce_shown x ≡ rules.Flushing through → x ≡ keeper.Flushing through
own_flushing keeper.Idle through e = absurd cc
own_flushing (keeper.Shared n) through e = absurd cc
own_flushing (keeper.Flushing t) through e = let same : t ≡ through = cc in ap keeper.Flushing same

module _ (core : Core) (c : CoreState) (h : IsState core c) where
  all_shown : ShowsFlush core.worker_count core.flush c.quiesce c.links
  all_shown = h.shows.flush

  -- it needs a flush whose worklinks are all done
  pub publish_barred : ((through : ℕ) → core.flush.quiesce ≡ keeper.Flushing through → core.flush.done ≡ length core.flush.links.items → ⊥) → CanPublish c → ⊥
  publish_barred barred can = barred can.through (own_flushing core.flush.quiesce can.through (sym all_shown.quiesce ∙ can.flushing)) (all_shown.numbers.done ∙ all_by (λ (x : OwnLink). is_finished x.stage) core.flush.links.items finished)
    where
      finished : (n : ℕ) (x : OwnLink) → At core.flush.links.items n x → is_finished x.stage ≡ true
      finished n x at =
          let right = each_right (λ k. ShowsLink core.worker_count) core.flush.links.items c.links all_shown.links n x at in
          sym (same_finished right.2.collected x.stage) ∙ ap rules.is_finished (sym right.2.stage) ∙ each_at (λ (l : Link). rules.is_finished l.stage ≡ true) c.links n right.0 can.done right.1

  module _ (f : Flush) (through : ℕ) (was : core.flush.quiesce ≡ keeper.Flushing through) (whole : core.flush.done ≡ length core.flush.links.items)
      (quiesce : f.quiesce ≡ keeper.Idle) (links : f.links.items ≡ []) (claimed : f.claimed ≡ 0) (done : f.done ≡ 0) (held : f.held.items ≡ core.flush.held.items) where
    finished_own : (n : ℕ) (x : OwnLink) → At core.flush.links.items n x → is_finished x.stage ≡ true
    finished_own = all_counted (λ (x : OwnLink). is_finished x.stage) core.flush.links.items (sym all_shown.numbers.done ∙ whole)

    none_there : (n : ℕ) (x : OwnLink) → At f.links.items n x → ⊥
    none_there n x at = let e : None ≡ Some x = subst (λ ls. At ls n x) links at in absurd cc

    closed : AreNumbers core.worker_count f
    closed = record {
      claimed = λ n x at. absurd (none_there n x at);
      within = omega (arith, claimed);
      done = done ∙ ap (count_by (λ (x : OwnLink). is_finished x.stage)) (sym links);
      actors = ap length held ∙ all_shown.numbers.actors;
      held = λ a n cursor x at stage. absurd (none_there n x at);
      holds = λ a n at.
          let old = all_shown.numbers.holds a n (subst (λ xs. At xs a (Some n)) held at) in
          absurd (true≢false (sym (finished_own n old.0 old.2) ∙ ap is_finished old.3));
    }

    pub publish_moves : HasStepped (record core { query = through; flush = f }) c event.Publish Moved
    publish_moves = record {
      next = record c { query = through; quiesce = rules.Idle; links = [] };
      steps = inr (
        refl,
        record {
          through = through;
          flushing = all_shown.quiesce ∙ ap quiesce_shown was;
          done = each_from (λ (l : Link). rules.is_finished l.stage ≡ true) c.links (λ l k.
              let at = contains_at c.links l k in
              let own = each_left (λ n. ShowsLink core.worker_count) core.flush.links.items c.links all_shown.links at.0 l at.1 in
              ap rules.is_finished own.2.stage ∙ same_finished own.2.collected own.0.stage ∙ finished_own at.0 own.0 own.1);
          effect = refl;
        },
      );
      shows = with_flush (record core { query = through }) (record c { query = through }) f rules.Idle [] (with_query core c through h.shows) (record {
        quiesce = ap quiesce_shown (sym quiesce);
        links = record { same_length = ap length links; each = λ n x y at_x at_y. absurd (none_there n x at_x) };
        numbers = closed;
      });
    }
