-- A begun flush is ended by the coordinator alone, in so many events.
use Rattle.std.proofs.Common.{◌≡◌, ℕ, zero, suc, ◌+◌, ◌*◌, ◌<◌, ◌≤◌, Bool, true, false, cond, List, [], ◌∷◌, length, Some, None, ◌⊎◌, inl, inr, refl, sym, ap, ◌∙◌, subst, arith, true≢false, length-set, suc-mul}
use Rattle.std.specs.Prelude.{slice_set}
use Rattle.std.specs.List.{Contains, AllByRecursion, list_any, count_by}
use Rattle.std.proofs.lemmas.Bool.{cases_eq}
use Rattle.core_rules.specs.declared.event.Event.{Event}
use Rattle.core_rules.specs.declared.event.Event.TheVariants as event
use Rattle.core_rules.specs.declared.event.CoreAnswer.{CoreAnswer}
use Rattle.core_rules.specs.declared.event.CoreAnswer.TheVariants.{Moved}
use Rattle.core_rules.specs.State.{CoreState, Idle, Flushing, Collected, Stage, Unclaimed, Claimed, Finished, Link, At, is_flushing, is_unclaimed, is_finished, is_held_by}
use Rattle.core_rules.specs.Flush.{HasLink, CanClaim, Claims, CanCollect, Collects, CanTouch, Touches, CanFinish, Finishes}
use Rattle.core_rules.specs.Step.{Happens, Steps}
use Rattle.core_rules.specs.LogFacts.{LogHasFacts}
use Rattle.core_rules.specs.Invariant.{Invariant}
use Rattle.core_rules.specs.Laws.{GuardsAreExact, IsOfCoordinator, EndsFlush, FlushEnds}
use Rattle.core_rules.proofs.Lists.{at_within, at_same, at_set_same, at_set_cases, contains_at, each_at, each_contains, each_from, Has, contains, any_contains, any_none, any_false, is_true}
use Rattle.core_rules.proofs.Once.{count_cons, count_none, count_some}
use Rattle.core_rules.proofs.Keeps.{Keeps}

-- what is proved of the coordinator's events
pub record CoordinatorKeeps : Type 0 where
  pub claim : (actor : ℕ) → Keeps (λ c new. Claims c actor new)
  pub collect : (actor : ℕ) → Keeps (λ c new. Collects c actor new)
  pub touch : (actor : ℕ) → Keeps (λ c new. Touches c actor new)
  pub finish : (actor : ℕ) → Keeps (λ c new. Finishes c actor new)

-- nobody has it
abbrev pub IsFree : Link → Type 0
IsFree l = (is_unclaimed l.stage ≡ true) ⊎ (is_finished l.stage ≡ true)

abbrev pub unclaimed_links : List Link → ℕ
unclaimed_links links = count_by (λ (l : Link). is_unclaimed l.stage) links

-- Nobody has a worklink, and so many are unclaimed; or the coordinator has one, and nobody another.
pub record AreQuiet (links : List Link) (left : ℕ) : Type 0 where
  pub each : AllByRecursion IsFree links
  pub count : unclaimed_links links ≡ left

pub record AreBusy (links : List Link) (number cursor left : ℕ) : Type 0 where
  pub link : Link
  pub collected : List Collected
  pub found : At links number link
  pub stage : link.stage ≡ Claimed 0 cursor collected
  pub others : (n : ℕ) (l : Link) → (n ≡ number → ⊥) → At links n l → IsFree l
  pub count : unclaimed_links links ≡ left

free_not_held : (l : Link) (actor : ℕ) → IsFree l → is_held_by actor l.stage ≡ true → ⊥
free_not_held l actor h k = by_stage l.stage h k
  where
    by_stage : (s : Stage) → (is_unclaimed s ≡ true) ⊎ (is_finished s ≡ true) → is_held_by actor s ≡ true → ⊥
    by_stage Unclaimed u w = true≢false (sym w)
    by_stage (Claimed a cursor collected) (inl u) w = true≢false (sym u)
    by_stage (Claimed a cursor collected) (inr u) w = true≢false (sym u)
    by_stage Finished u w = true≢false (sym w)

-- how many are unclaimed with one at another stage
count_set : (links : List Link) (number : ℕ) (link : Link) (stage : Stage) → At links number link
    → unclaimed_links (slice_set links number (record link { stage = stage })) + cond (is_unclaimed link.stage) 1 0 ≡ unclaimed_links links + cond (is_unclaimed stage) 1 0
count_set [] number link stage h = let e : None ≡ Some link = h in absurd cc
count_set (l ∷ ls) zero link stage h =
    let e : Some l ≡ Some link = h in
    let same : l ≡ link = cc in
    let tests : cond {A = ℕ} (is_unclaimed l.stage) 1 0 ≡ cond (is_unclaimed link.stage) 1 0 = ap (λ (x : Link). cond {A = ℕ} (is_unclaimed x.stage) 1 0) same in
    let old = count_cons (λ (x : Link). is_unclaimed x.stage) l ls in
    let new = count_cons (λ (x : Link). is_unclaimed x.stage) (record link { stage = stage }) ls in
    omega arith
count_set (l ∷ ls) (suc n) link stage h =
    let ih = count_set ls n link stage h in
    let old = count_cons (λ (x : Link). is_unclaimed x.stage) l ls in
    let new = count_cons (λ (x : Link). is_unclaimed x.stage) l (slice_set ls n (record link { stage = stage })) in
    omega arith

-- the coordinator claims the first, goes on, and is done
claimed_busy : (links : List Link) (left number : ℕ) (link : Link) → AreQuiet links (suc left) → At links number link → link.stage ≡ Unclaimed
    → AreBusy (slice_set links number (record link { stage = Claimed 0 0 [] })) number 0 left
claimed_busy links left number link q found is = record {
  link = record link { stage = Claimed 0 0 [] };
  collected = [];
  found = at_set_same links number (record link { stage = Claimed 0 0 [] }) (at_within links number link found);
  stage = refl;
  others = λ n l d h. others n l d (at_set_cases links number n l (record link { stage = Claimed 0 0 [] }) h);
  count =
      let set = count_set links number link (Claimed 0 0 []) found in
      let was : cond (is_unclaimed link.stage) 1 0 ≡ 1 = ap (λ s. cond {A = ℕ} (is_unclaimed s) 1 0) is in
      let all : unclaimed_links links ≡ suc left = q.count in
      omega arith;
}
  where
    others : (n : ℕ) (l : Link) → (n ≡ number → ⊥) → ((n ≡ number) × (l ≡ record link { stage = Claimed 0 0 [] })) ⊎ ((n ≡ number → ⊥) × At links n l) → IsFree l
    others n l d (inl p) = absurd (d p.0)
    others n l d (inr p) = each_at IsFree links n l q.each p.1

next_busy : (links : List Link) (left number cursor later : ℕ) (link : Link) (collected more : List Collected) → AreBusy links number cursor left → At links number link
    → link.stage ≡ Claimed 0 cursor collected → AreBusy (slice_set links number (record link { stage = Claimed 0 later more })) number later left
next_busy links left number cursor later link collected more b found is = record {
  link = record link { stage = Claimed 0 later more };
  collected = more;
  found = at_set_same links number (record link { stage = Claimed 0 later more }) (at_within links number link found);
  stage = refl;
  others = λ n l d h. others n l d (at_set_cases links number n l (record link { stage = Claimed 0 later more }) h);
  count =
      let set = count_set links number link (Claimed 0 later more) found in
      let was : cond (is_unclaimed link.stage) 1 0 ≡ 0 = ap (λ s. cond {A = ℕ} (is_unclaimed s) 1 0) is in
      let all : unclaimed_links links ≡ left = b.count in
      omega arith;
}
  where
    others : (n : ℕ) (l : Link) → (n ≡ number → ⊥) → ((n ≡ number) × (l ≡ record link { stage = Claimed 0 later more })) ⊎ ((n ≡ number → ⊥) × At links n l) → IsFree l
    others n l d (inl p) = absurd (d p.0)
    others n l d (inr p) = b.others n l d p.1

done_quiet : (links : List Link) (left number cursor : ℕ) (link : Link) (collected : List Collected) → AreBusy links number cursor left → At links number link
    → link.stage ≡ Claimed 0 cursor collected → AreQuiet (slice_set links number (record link { stage = Finished })) left
done_quiet links left number cursor link collected b found is = record {
  each = each_from IsFree (slice_set links number done) (λ l h. free l (contains_at (slice_set links number done) l h));
  count =
      let set = count_set links number link Finished found in
      let was : cond (is_unclaimed link.stage) 1 0 ≡ 0 = ap (λ s. cond {A = ℕ} (is_unclaimed s) 1 0) is in
      let all : unclaimed_links links ≡ left = b.count in
      omega arith;
}
  where
    done : Link
    done = record link { stage = Finished }

    free : (l : Link) → (n : ℕ) × At (slice_set links number done) n l → IsFree l
    free l at = by_case (at_set_cases links number at.0 l done at.1)
      where
        by_case : ((at.0 ≡ number) × (l ≡ done)) ⊎ ((at.0 ≡ number → ⊥) × At links at.0 l) → IsFree l
        by_case (inl p) = inr (ap (λ (x : Link). is_finished x.stage) p.1)
        by_case (inr p) = b.others at.0 l p.0 p.1

-- the worklink that the coordinator has is this one
pub record IsTheLink (links : List Link) (number cursor n : ℕ) (l : Link) (k : ℕ) : Type 0 where
  pub number_is : n ≡ number
  pub cursor_is : k ≡ cursor

the_link : (c : CoreState) (number cursor left n : ℕ) (l : Link) (k : ℕ) (xs : List Collected) → AreBusy c.links number cursor left → HasLink c 0 n l k xs → IsTheLink c.links number cursor n l k
the_link c number cursor left n l k xs b h = by_number (cases_eq n number)
  where
    held : is_held_by 0 l.stage ≡ true
    held = ap (is_held_by 0) h.stage

    by_number : (n ≡ number) ⊎ (n ≡ number → ⊥) → IsTheLink c.links number cursor n l k
    by_number (inr d) = absurd (free_not_held l 0 (b.others n l d h.found) held)
    by_number (inl e) =
        let one : l ≡ b.link = at_same c.links number l b.link (subst (λ m. At c.links m l) e h.found) b.found in
        let stages : Claimed 0 k xs ≡ Claimed 0 cursor b.collected = sym h.stage ∙ ap (λ (x : Link). x.stage) one ∙ b.stage in
        let cursors : k ≡ cursor = cc in
        record { number_is = e; cursor_is = cursors }

-- From such states the flush ends in so many events.
abbrev FromQuiet : (workers through left count : ℕ) → Type 0
FromQuiet workers through left count =
    (c : CoreState) → Invariant c → c.quiesce ≡ Flushing through → length c.workers ≡ workers → AreQuiet c.links left → EndsFlush c through count

abbrev FromBusy : (workers through number cursor left count : ℕ) → Type 0
FromBusy workers through number cursor left count =
    (c : CoreState) → Invariant c → c.quiesce ≡ Flushing through → length c.workers ≡ workers → AreBusy c.links number cursor left → EndsFlush c through count

-- one event before the others
one_before : (c new : CoreState) (e : Event) (through count : ℕ) → IsOfCoordinator e → Steps c e Moved new → EndsFlush new through count → EndsFlush c through (count + 1)
one_before c new e through count own step r = record {
  events = e ∷ r.events;
  coordinator = (own, r.coordinator);
  count_is = let n : length r.events ≡ count = r.count_is in omega arith;
  last = r.last;
  leads = (new, step, r.leads);
  idle = r.idle;
  published = r.published;
}

publish_one : (workers through : ℕ) → FromQuiet workers through 0 1
publish_one workers through c v flushing many q = record {
  events = event.Publish ∷ [];
  coordinator = (tt, tt);
  count_is = refl;
  last = record c { query = through; quiesce = Idle; links = [] };
  leads = (record c { query = through; quiesce = Idle; links = [] }, inr (refl, record { through = through; flushing = flushing; done = done; effect = refl }), refl);
  idle = refl;
  published = refl;
}
  where
    finished : (l : Link) → Contains c.links l → IsFree l → is_finished l.stage ≡ true
    finished l h (inr k) = k
    finished l h (inl k) =
        let some : 1 ≤ unclaimed_links c.links = count_some (λ (x : Link). is_unclaimed x.stage) c.links (any_contains (λ (x : Link). is_unclaimed x.stage) c.links l h k) in
        let none : unclaimed_links c.links ≡ 0 = q.count in
        absurd (omega arith)

    done : AllByRecursion (λ (l : Link). is_finished l.stage ≡ true) c.links
    done = each_from (λ (l : Link). is_finished l.stage ≡ true) c.links (λ l h. finished l h (each_contains IsFree c.links l q.each h))

claim_one : LogHasFacts → CoordinatorKeeps → GuardsAreExact → (workers through left count : ℕ) → ((number : ℕ) → FromBusy workers through number 0 left count)
    → FromQuiet workers through (suc left) (count + 1)
claim_one facts keep exact workers through left count later c v flushing many q = by_outcome ((exact c (event.Claim 0) v).possible can)
  where
    can : CanClaim c 0
    can = record {
      known = omega arith;
      flushing = ap is_flushing flushing;
      free = any_none (λ (l : Link). is_held_by 0 l.stage) c.links (λ l h k. free_not_held l 0 (each_contains IsFree c.links l q.each h) k);
      some = some (list_any (λ (l : Link). is_unclaimed l.stage) c.links) refl;
    }
      where
        not_here : list_any (λ (l : Link). is_unclaimed l.stage) c.links ≡ false → (l : Link) → Has c.links l → (is_unclaimed l.stage ≡ true) ⊎ (is_unclaimed l.stage ≡ false) → is_unclaimed l.stage ≡ false
        not_here e l h (inr k) = k
        not_here e l h (inl k) = absurd (any_false (λ (x : Link). is_unclaimed x.stage) c.links l e (contains c.links l h) k)

        some : (b : Bool) → list_any (λ (l : Link). is_unclaimed l.stage) c.links ≡ b → b ≡ true
        some true e = refl
        some false e =
            let by_false = λ (l : Link) (h : Has c.links l) (d : (is_unclaimed l.stage ≡ true) ⊎ (is_unclaimed l.stage ≡ false)). not_here e l h d in
            let none : unclaimed_links c.links ≡ 0 = count_none (λ (l : Link). is_unclaimed l.stage) c.links (λ l h. by_false l h (is_true (is_unclaimed l.stage))) in
            let all : unclaimed_links c.links ≡ suc left = q.count in
            absurd (omega arith)

    by_outcome : (answer : CoreAnswer) × (new : CoreState) × Happens c (event.Claim 0) answer new → EndsFlush c through (count + 1)
    by_outcome o = one_before c o.1 (event.Claim 0) through count refl (inr (refl, o.2.1)) (go o.1 o.2.1)
      where
        go : (new : CoreState) → Claims c 0 new → EndsFlush new through count
        go new r = later r.number new (keep.claim 0 facts c new r v) (ap (λ (d : CoreState). d.quiesce) r.effect ∙ flushing) (ap (λ (d : CoreState). length d.workers) r.effect ∙ many)
            (subst (λ ls. AreBusy ls r.number 0 left) (sym (ap (λ (d : CoreState). d.links) r.effect)) (claimed_busy c.links left r.number r.link q r.first.found r.first.is))

collect_one : LogHasFacts → CoordinatorKeeps → GuardsAreExact → (workers through number cursor left count : ℕ) → cursor < workers
    → FromBusy workers through number (cursor + 1) left count → FromBusy workers through number cursor left (count + 1)
collect_one facts keep exact workers through number cursor left count l later c v flushing many b = by_outcome ((exact c (event.Collect 0) v).possible can)
  where
    can : CanCollect c 0
    can = record { number = number; link = b.link; cursor = cursor; collected = b.collected; has = record { known = omega arith; found = b.found; stage = b.stage }; area = omega arith }

    by_outcome : (answer : CoreAnswer) × (new : CoreState) × Happens c (event.Collect 0) answer new → EndsFlush c through (count + 1)
    by_outcome o = one_before c o.1 (event.Collect 0) through count refl (inr (refl, o.2.1)) (go o.1 o.2.1)
      where
        go : (new : CoreState) → Collects c 0 new → EndsFlush new through count
        go new r = later new (keep.collect 0 facts c new r v) (ap (λ (d : CoreState). d.quiesce) r.effect ∙ flushing)
            (ap (λ (d : CoreState). length d.workers) r.effect ∙ length-set c.workers r.cursor (record r.was { area = r.area }) ∙ many)
            (subst (λ ls. AreBusy ls number (cursor + 1) left) (sym (ap (λ (d : CoreState). d.links) r.effect)) busy)
          where
            it : IsTheLink c.links number cursor r.number r.link r.cursor
            it = the_link c number cursor left r.number r.link r.cursor r.collected b r.has

            busy : AreBusy (slice_set c.links r.number (record r.link { stage = Claimed 0 (r.cursor + 1) r.more })) number (cursor + 1) left
            busy = subst (λ n. AreBusy (slice_set c.links n (record r.link { stage = Claimed 0 (r.cursor + 1) r.more })) number (cursor + 1) left) (sym it.number_is)
                (subst (λ k. AreBusy (slice_set c.links number (record r.link { stage = Claimed 0 (k + 1) r.more })) number (cursor + 1) left) (sym it.cursor_is)
                (next_busy c.links left number cursor (cursor + 1) r.link r.collected r.more b
                (subst (λ n. At c.links n r.link) it.number_is r.has.found)
                (subst (λ k. r.link.stage ≡ Claimed 0 k r.collected) it.cursor_is r.has.stage)))

touch_one : LogHasFacts → CoordinatorKeeps → GuardsAreExact → (workers through number cursor left count : ℕ) → workers ≤ cursor → cursor < workers + 32
    → FromBusy workers through number (cursor + 1) left count → FromBusy workers through number cursor left (count + 1)
touch_one facts keep exact workers through number cursor left count m l later c v flushing many b = by_outcome ((exact c (event.Touch 0) v).possible can)
  where
    can : CanTouch c 0
    can = record { number = number; link = b.link; cursor = cursor; collected = b.collected; has = record { known = omega arith; found = b.found; stage = b.stage }; from = omega arith; below = omega arith }

    by_outcome : (answer : CoreAnswer) × (new : CoreState) × Happens c (event.Touch 0) answer new → EndsFlush c through (count + 1)
    by_outcome o = one_before c o.1 (event.Touch 0) through count refl (inr (refl, o.2.1)) (go o.1 o.2.1)
      where
        go : (new : CoreState) → Touches c 0 new → EndsFlush new through count
        go new r = later new (keep.touch 0 facts c new r v) (ap (λ (d : CoreState). d.quiesce) r.effect ∙ flushing) (ap (λ (d : CoreState). length d.workers) r.effect ∙ many)
            (subst (λ ls. AreBusy ls number (cursor + 1) left) (sym (ap (λ (d : CoreState). d.links) r.effect)) busy)
          where
            it : IsTheLink c.links number cursor r.number r.link r.cursor
            it = the_link c number cursor left r.number r.link r.cursor r.collected b r.has

            busy : AreBusy (slice_set c.links r.number (record r.link { stage = Claimed 0 (r.cursor + 1) r.collected })) number (cursor + 1) left
            busy = subst (λ n. AreBusy (slice_set c.links n (record r.link { stage = Claimed 0 (r.cursor + 1) r.collected })) number (cursor + 1) left) (sym it.number_is)
                (subst (λ k. AreBusy (slice_set c.links number (record r.link { stage = Claimed 0 (k + 1) r.collected })) number (cursor + 1) left) (sym it.cursor_is)
                (next_busy c.links left number cursor (cursor + 1) r.link r.collected r.collected b
                (subst (λ n. At c.links n r.link) it.number_is r.has.found)
                (subst (λ k. r.link.stage ≡ Claimed 0 k r.collected) it.cursor_is r.has.stage)))

done_one : LogHasFacts → CoordinatorKeeps → GuardsAreExact → (workers through number left count : ℕ)
    → FromQuiet workers through left count → FromBusy workers through number (workers + 32) left (count + 1)
done_one facts keep exact workers through number left count later c v flushing many b = by_outcome ((exact c (event.Done 0) v).possible can)
  where
    can : CanFinish c 0
    can = record { number = number; link = b.link; cursor = workers + 32; collected = b.collected; has = record { known = omega arith; found = b.found; stage = b.stage }; end = omega arith }

    by_outcome : (answer : CoreAnswer) × (new : CoreState) × Happens c (event.Done 0) answer new → EndsFlush c through (count + 1)
    by_outcome o = one_before c o.1 (event.Done 0) through count refl (inr (refl, o.2.1)) (go o.1 o.2.1)
      where
        go : (new : CoreState) → Finishes c 0 new → EndsFlush new through count
        go new r = later new (keep.finish 0 facts c new r v) (ap (λ (d : CoreState). d.quiesce) r.effect ∙ flushing) (ap (λ (d : CoreState). length d.workers) r.effect ∙ many)
            (subst (λ ls. AreQuiet ls left) (sym (ap (λ (d : CoreState). d.links) r.effect)) quiet)
          where
            it : IsTheLink c.links number (workers + 32) r.number r.link r.cursor
            it = the_link c number (workers + 32) left r.number r.link r.cursor r.collected b r.has

            quiet : AreQuiet (slice_set c.links r.number (record r.link { stage = Finished })) left
            quiet = subst (λ n. AreQuiet (slice_set c.links n (record r.link { stage = Finished })) left) (sym it.number_is)
                (done_quiet c.links left number (workers + 32) r.link r.collected b
                (subst (λ n. At c.links n r.link) it.number_is r.has.found)
                (subst (λ k. r.link.stage ≡ Claimed 0 k r.collected) it.cursor_is r.has.stage))

-- so many areas, and so many unit shards
collect_all : LogHasFacts → CoordinatorKeeps → GuardsAreExact → (workers through number left count k cursor : ℕ) → cursor + k ≡ workers
    → FromBusy workers through number workers left count → FromBusy workers through number cursor left (count + k)
collect_all facts keep exact workers through number left count zero cursor e later c v flushing many b =
    let same : cursor ≡ workers = omega arith in
    let none : count ≡ count + 0 = omega arith in
    subst (EndsFlush c through) none (later c v flushing many (subst (λ n. AreBusy c.links number n left) same b))
collect_all facts keep exact workers through number left count (suc k) cursor e later c v flushing many b =
    let below : cursor < workers = omega arith in
    let next : cursor + 1 + k ≡ workers = omega arith in
    let more : count + k + 1 ≡ count + suc k = omega arith in
    subst (EndsFlush c through) more
    (collect_one facts keep exact workers through number cursor left (count + k) below (collect_all facts keep exact workers through number left count k (cursor + 1) next later) c v flushing many b)

touch_all : LogHasFacts → CoordinatorKeeps → GuardsAreExact → (workers through number left count k cursor : ℕ) → workers ≤ cursor → cursor + k ≡ workers + 32
    → FromBusy workers through number (workers + 32) left count → FromBusy workers through number cursor left (count + k)
touch_all facts keep exact workers through number left count zero cursor m e later c v flushing many b =
    let same : cursor ≡ workers + 32 = omega arith in
    let none : count ≡ count + 0 = omega arith in
    subst (EndsFlush c through) none (later c v flushing many (subst (λ n. AreBusy c.links number n left) same b))
touch_all facts keep exact workers through number left count (suc k) cursor m e later c v flushing many b =
    let below : cursor < workers + 32 = omega arith in
    let from : workers ≤ cursor + 1 = omega arith in
    let next : cursor + 1 + k ≡ workers + 32 = omega arith in
    let more : count + k + 1 ≡ count + suc k = omega arith in
    subst (EndsFlush c through) more
    (touch_one facts keep exact workers through number cursor left (count + k) m below (touch_all facts keep exact workers through number left count k (cursor + 1) from next later) c v flushing many b)

-- one worklink after another
all_ended : LogHasFacts → CoordinatorKeeps → GuardsAreExact → (workers through left : ℕ) → FromQuiet workers through left (left * (workers + 34) + 1)
all_ended facts keep exact workers through zero c v flushing many q =
    let e : 1 ≡ 0 * (workers + 34) + 1 = omega arith in
    subst (EndsFlush c through) e (publish_one workers through c v flushing many q)
all_ended facts keep exact workers through (suc left) c v flushing many q =
    subst (EndsFlush c through) count
    (claim_one facts keep exact workers through left (rest + 1 + 32 + workers)
    (λ number. collect_all facts keep exact workers through number left (rest + 1 + 32) workers 0 (omega arith)
    (touch_all facts keep exact workers through number left (rest + 1) 32 workers (omega arith) refl
    (done_one facts keep exact workers through number left rest (all_ended facts keep exact workers through left))))
    c v flushing many q)
  where
    rest : ℕ
    rest = left * (workers + 34) + 1

    count : left * (workers + 34) + 1 + 1 + 32 + workers + 1 ≡ suc left * (workers + 34) + 1
    count = let e : suc left * (workers + 34) ≡ left * (workers + 34) + (workers + 34) = suc-mul left (workers + 34) in omega arith

pub flush_ends : LogHasFacts → CoordinatorKeeps → GuardsAreExact → FlushEnds
flush_ends facts keep exact c through v flushing free =
    all_ended facts keep exact (length c.workers) through (unclaimed_links c.links) c v flushing refl (record { each = free; count = refl })
