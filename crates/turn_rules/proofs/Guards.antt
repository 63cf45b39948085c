-- What the tests of the rule find, and that the events which it picks for the coordinator and the workers can happen.
use Rattle.std.proofs.Common.{◌≡◌, ℕ, zero, suc, ◌+◌, ◌-◌, ◌<◌, ◌≤◌, Bool, true, false, cond, ◌&&◌, List, [], ◌∷◌, length, map, drop, Option, Some, None, ◌⊎◌, inl, inr, refl, sym, ap, ◌∙◌, subst, arith, true≢false}
use Rattle.std.specs.Prelude.{slice_get, nat_lt, ◌==◌}
use Rattle.std.specs.List.{AllByRecursion, list_all, list_any}
use Rattle.std.proofs.lemmas.Bool.{ltb-true, ltb-false, eqb-true, eq-eqb, and_parts, cond_both, cases_lt}
use Rattle.adg_base.specs.declared.log.LogEntry.{LogEntry}
use Rattle.adg_model.specs.Log.{least}
use Rattle.core_rules.specs.declared.event.Event.TheVariants as event
use Rattle.core_rules.specs.State.{CoreState, Worker, Quiesce, Idle, Shared, Flushing, Collected, Stage, Unclaimed, Claimed, Finished, Link, At, share_of, is_flushing, is_finished, is_held_by}
use Rattle.core_rules.specs.Share.{is_shared_by}
use Rattle.adg_base.specs.Shard.{shard_of_vector}
use Rattle.core_rules.specs.Flush.{HasLink}
use Rattle.core_rules.specs.LogFacts.{LogFacts}
use Rattle.core_rules.specs.Applying.{CanRaise}
use Rattle.core_rules.specs.Step.{Guard}
use Rattle.core_rules.specs.Invariant.{Invariant}
use Rattle.core_rules.proofs.Whole.{log_has_facts}
use Rattle.core_rules.proofs.Lists.{at_map, at_same, at_within, contains_at, at_contains, Has, has_map, each_from_has, each_from, any_false, filter_order}
use Rattle.core_rules.proofs.Shares.{share_log}
use Rattle.turn_rules.specs.Picks.{Act, Rests, Makes, Replies, MakesAndReplies, cursor_in, or_next, cursor_of, link_event, link_act, has_unclaimed, are_finished, is_idle, least_progress, flushing_act, calm_act, coordinator_act, below_entry, mined_through, share_act, worker_act}
use Rattle.turn_rules.proofs.View.{IsOfCrew}

-- an actor that has a worklink with this cursor
pub record HasCursor (actor : ℕ) (links : List Link) (cursor : ℕ) : Type 0 where
  pub number : ℕ
  pub link : Link
  pub collected : List Collected
  pub found : At links number link
  pub stage : link.stage ≡ Claimed actor cursor collected

in_stage : (actor k : ℕ) (s : Stage) → cursor_in actor s ≡ Some k → (xs : List Collected) × (s ≡ Claimed actor k xs)
in_stage actor k Unclaimed h = let e : None ≡ Some k = h in absurd cc
in_stage actor k Finished h = let e : None ≡ Some k = h in absurd cc
in_stage actor k (Claimed holder cursor xs) h = by_test (holder == actor) refl h
  where
    by_test : (b : Bool) → (holder == actor) ≡ b → cond b (Some cursor) None ≡ Some k → (ys : List Collected) × (Claimed holder cursor xs ≡ Claimed actor k ys)
    by_test true u e = let a : holder ≡ actor = eqb-true holder actor u in let f : Some cursor ≡ Some k = e in let g : cursor ≡ k = cc in (xs, cc)
    by_test false u e = let f : None ≡ Some k = e in absurd cc

pub cursor_found : (actor : ℕ) (links : List Link) (k : ℕ) → cursor_of actor links ≡ Some k → HasCursor actor links k
cursor_found actor [] k h = let e : None ≡ Some k = h in absurd cc
cursor_found actor (l ∷ ls) k h = by_stage (cursor_in actor l.stage) refl h (cursor_found actor ls k)
  where
    by_stage : (o : Option ℕ) → cursor_in actor l.stage ≡ o → or_next o (cursor_of actor ls) ≡ Some k → (cursor_of actor ls ≡ Some k → HasCursor actor ls k) → HasCursor actor (l ∷ ls) k
    by_stage None u e later = let p = later e in record { number = suc p.number; link = p.link; collected = p.collected; found = p.found; stage = p.stage }
    by_stage (Some j) u e later =
        let f : Some j ≡ Some k = e in
        let p = in_stage actor k l.stage (u ∙ f) in
        record { number = 0; link = l; collected = p.0; found = refl; stage = p.1 }

-- an actor that has none
pub not_held : (actor : ℕ) (links : List Link) → cursor_of actor links ≡ None → list_any (λ l. is_held_by actor l.stage) links ≡ false
not_held actor [] h = refl
not_held actor (l ∷ ls) h = by_stage l.stage refl h (not_held actor ls)
  where
    by_stage : (s : Stage) → l.stage ≡ s → or_next (cursor_in actor s) (cursor_of actor ls) ≡ None → (cursor_of actor ls ≡ None → list_any (λ (x : Link). is_held_by actor x.stage) ls ≡ false)
        → list_any (λ (x : Link). is_held_by actor x.stage) (l ∷ ls) ≡ false
    by_stage Unclaimed u e later = rw (ap (is_held_by actor) u) (later e)
    by_stage Finished u e later = rw (ap (is_held_by actor) u) (later e)
    by_stage (Claimed holder k xs) u e later = by_test (holder == actor) refl e
      where
        by_test : (b : Bool) → (holder == actor) ≡ b → or_next (cond b (Some k) None) (cursor_of actor ls) ≡ None → list_any (λ (x : Link). is_held_by actor x.stage) (l ∷ ls) ≡ false
        by_test true w f = let g : Some k ≡ None = f in absurd cc
        by_test false w f = rw (ap (is_held_by actor) u ∙ w) (later f)

-- and the other way round: who has a worklink has a cursor
pub holder_has_cursor : (actor : ℕ) (links : List Link) (n : ℕ) (l : Link) (k : ℕ) (xs : List Collected) → At links n l → l.stage ≡ Claimed actor k xs → cursor_of actor links ≡ None → ⊥
holder_has_cursor actor links n l k xs h s e =
    any_false (λ (x : Link). is_held_by actor x.stage) links l (not_held actor links e) (at_contains links n l h) (ap (is_held_by actor) s ∙ eq-eqb actor actor refl)

-- what a list_all says of each
pub all_each : {X : Type 0} (p : X → Bool) (xs : List X) → list_all p xs ≡ true → AllByRecursion (λ x. p x ≡ true) xs
all_each p [] h = tt
all_each p (x ∷ xs) h = let q = and_parts (p x) (list_all p xs) h in (q.0, all_each p xs q.1)

-- the flush that goes on
pub flush_is : (q : Quiesce) → is_flushing q ≡ true → (t : ℕ) × (q ≡ Flushing t)
flush_is Idle h = absurd (true≢false (sym h))
flush_is (Shared n) h = absurd (true≢false (sym h))
flush_is (Flushing t) h = (t, refl)

pub idle_is : (q : Quiesce) → is_idle q ≡ true → q ≡ Idle
idle_is Idle h = refl
idle_is (Shared n) h = absurd (true≢false (sym h))
idle_is (Flushing t) h = absurd (true≢false (sym h))

-- the least of some numbers is none above any
pub least_below : (ns : List ℕ) (n : ℕ) → Has ns n → least ns ≤ n
least_below [] n h = absurd h
least_below (m ∷ []) n (inl e) = omega arith
least_below (m ∷ []) n (inr h) = absurd h
least_below (m ∷ k ∷ more) n (inl e) = omega arith
least_below (m ∷ k ∷ more) n (inr h) = let ih = least_below (k ∷ more) n h in omega arith

pub least_reached : (ws : List Worker) → AllByRecursion (λ w. least (map (λ (x : Worker). x.progress) ws) ≤ w.progress) ws
least_reached ws = each_from_has (λ w. least (map (λ (x : Worker). x.progress) ws) ≤ w.progress) ws
    (λ w h. least_below (map (λ (x : Worker). x.progress) ws) w.progress (has_map (λ (x : Worker). x.progress) ws w h))

-- what stands at a place of the rest of a list, and of a list up to its length
pub at_drop : {X : Type 0} (n : ℕ) (xs : List X) (i : ℕ) (x : X) → At (drop n xs) i x → (k : ℕ) × (n ≤ k) × At xs k x
at_drop zero xs i x h = (i, omega arith, h)
at_drop (suc n) [] i x h = let e : None ≡ Some x = h in absurd cc
at_drop (suc n) (y ∷ xs) i x h = let p = at_drop n xs i x h in (suc p.0, omega arith, p.2)

pub none_from : {X : Type 0} (xs : List X) (n : ℕ) → slice_get xs n ≡ None → length xs ≤ n
none_from [] n h = omega arith
none_from (x ∷ xs) zero h = let e : Some x ≡ None = h in absurd cc
none_from (x ∷ xs) (suc n) h = let ih = none_from xs n h in omega arith

-- SCNs do not fall inside a share
pub share_rises : (c : CoreState) → Invariant c → (worker i j : ℕ) (e f : LogEntry) → i ≤ j → At (share_of c worker) i e → At (share_of c worker) j f → e.scn ≤ f.scn
share_rises c v worker i j e f l h k = by_case (cases_lt i j)
  where
    facts : LogFacts c.log c.frontier
    facts = log_has_facts c.log c.frontier v.log

    by_case : (i < j) ⊎ (j ≤ i) → e.scn ≤ f.scn
    by_case (inl m) =
        let p = filter_order (λ (x : LogEntry). is_shared_by (length c.workers) worker (shard_of_vector x.vector)) c.log i j e f m h k in
        facts.rises p.0 p.1 e f (let less : p.0 < p.1 = p.4 in omega arith) p.2 p.3
    by_case (inr m) =
        let same : j ≡ i = omega arith in
        let one : f ≡ e = at_same (share_of c worker) i f e (subst (λ n. At (share_of c worker) n f) same k) h in
        let scns : f.scn ≡ e.scn = ap (λ (x : LogEntry). x.scn) one in
        omega arith

-- a worker can raise its progress to where its share is mined
pub can_raise : (c : CoreState) → Invariant c → (worker : ℕ) (w : Worker) → At c.workers worker w → w.progress < mined_through c worker w → CanRaise c worker (mined_through c worker w)
can_raise c v worker w h above = by_next (slice_get (share_of c worker) w.mined) refl
  where
    facts : LogFacts c.log c.frontier
    facts = log_has_facts c.log c.frontier v.log

    by_next : (o : Option LogEntry) → slice_get (share_of c worker) w.mined ≡ o → CanRaise c worker (mined_through c worker w)
    by_next None e = record {
      was = w;
      found = h;
      above = above;
      received = let t : mined_through c worker w ≡ c.frontier = ap (below_entry c.frontier) e in omega arith;
      mined = each_from (λ (x : LogEntry). mined_through c worker w < x.scn) (drop w.mined (share_of c worker)) (λ x k.
          let p = contains_at (drop w.mined (share_of c worker)) x k in
          let q = at_drop w.mined (share_of c worker) p.0 x p.1 in
          let within : q.0 < length (share_of c worker) = at_within (share_of c worker) q.0 x q.2 in
          let end : length (share_of c worker) ≤ w.mined = none_from (share_of c worker) w.mined e in
          let from : w.mined ≤ q.0 = q.1 in
          absurd (omega arith));
    }
    by_next (Some n) e = record {
      was = w;
      found = h;
      above = above;
      received =
          let t : mined_through c worker w ≡ n.scn - 1 = ap (below_entry c.frontier) e in
          let r : n.scn ≤ c.frontier = facts.received n (share_log (length c.workers) worker c.log n (at_contains (share_of c worker) w.mined n e)) in
          omega arith;
      mined = each_from (λ (x : LogEntry). mined_through c worker w < x.scn) (drop w.mined (share_of c worker)) (λ x k.
          let p = contains_at (drop w.mined (share_of c worker)) x k in
          let q = at_drop w.mined (share_of c worker) p.0 x p.1 in
          let later : n.scn ≤ x.scn = share_rises c v worker w.mined q.0 n x q.1 e q.2 in
          let t : mined_through c worker w ≡ n.scn - 1 = ap (below_entry c.frontier) e in
          omega arith);
    }

-- What the coordinator or a worker does: nothing, or an event of theirs that can happen.
abbrev pub CrewDoes : CoreState → Act → Type 0
CrewDoes c Rests = Unit {0}
CrewDoes c (Makes e) = IsOfCrew e × Guard c e
CrewDoes c (Replies said) = ⊥
CrewDoes c (MakesAndReplies e said) = ⊥

-- Where an actor has a worklink, the event is of one of three sorts.
link_does : (c : CoreState) → Invariant c → (actor k : ℕ) → cursor_of actor c.links ≡ Some k → CrewDoes c (Makes (link_event (length c.workers) actor k))
link_does c v actor k h =
    cond_both (nat_lt k (length c.workers)) (event.Collect actor) (cond (nat_lt k (length c.workers + 32)) (event.Touch actor) (event.Done actor)) (λ e. IsOfCrew e × Guard c e)
    (λ u. (tt, record { number = f.number; link = f.link; cursor = k; collected = f.collected; has = has; area = ltb-true k (length c.workers) u }))
    (λ u. cond_both (nat_lt k (length c.workers + 32)) (event.Touch actor) (event.Done actor) (λ e. IsOfCrew e × Guard c e)
    (λ w. (tt, record { number = f.number; link = f.link; cursor = k; collected = f.collected; has = has; from = ltb-false k (length c.workers) u; below = ltb-true k (length c.workers + 32) w }))
    (λ w. (
      tt,
      record {
        number = f.number;
        link = f.link;
        cursor = k;
        collected = f.collected;
        has = has;
        end = let far : length c.workers + 32 ≤ k = ltb-false k (length c.workers + 32) w in let near : k ≤ length c.workers + 32 = bounds.1 in omega arith;
      },
    )))
  where
    f : HasCursor actor c.links k
    f = cursor_found actor c.links k h

    bounds : (actor ≤ length c.workers) × (k ≤ length c.workers + 32)
    bounds = v.flush.claims.bounds f.number actor k f.collected (at_map (λ (l : Link). l.stage) c.links f.number f.link f.found ∙ ap Some f.stage)

    has : HasLink c actor f.number f.link k f.collected
    has = record { known = bounds.0; found = f.found; stage = f.stage }

claim_does : (c : CoreState) (actor : ℕ) → actor ≤ length c.workers → is_flushing c.quiesce ≡ true → cursor_of actor c.links ≡ None → has_unclaimed c.links ≡ true → CrewDoes c (Makes (event.Claim actor))
claim_does c actor known flushing none some = (tt, record { known = known; flushing = flushing; free = not_held actor c.links none; some = some })

pub coordinator_does : (c : CoreState) → Invariant c → CrewDoes c (coordinator_act c)
coordinator_does c v = by_cursor (cursor_of 0 c.links) refl
  where
    flushing : is_flushing c.quiesce ≡ true → cursor_of 0 c.links ≡ None → CrewDoes c (flushing_act c.links)
    flushing u e = cond_both (has_unclaimed c.links) (Makes (event.Claim 0)) (cond (are_finished c.links) (Makes event.Publish) Rests) (CrewDoes c)
        (λ w. claim_does c 0 (omega arith) u e w)
        (λ w. cond_both (are_finished c.links) (Makes event.Publish) Rests (CrewDoes c)
        (λ f. let t = flush_is c.quiesce u in (tt, record { through = t.0; flushing = t.1; done = all_each (λ (l : Link). is_finished l.stage) c.links f }))
        (λ f. tt))

    calm : CrewDoes c (calm_act c)
    calm = cond_both (is_idle c.quiesce && nat_lt c.query (least_progress c)) (Makes (event.BeginFlush (least_progress c))) Rests (CrewDoes c)
        (λ u. let p = and_parts (is_idle c.quiesce) (nat_lt c.query (least_progress c)) u in
        (tt, record { idle = idle_is c.quiesce p.0; above = ltb-true c.query (least_progress c) p.1; reached = least_reached c.workers }))
        (λ u. tt)

    by_cursor : (o : Option ℕ) → cursor_of 0 c.links ≡ o → CrewDoes c (link_act (length c.workers) 0 o (cond (is_flushing c.quiesce) (flushing_act c.links) (calm_act c)))
    by_cursor (Some k) e = link_does c v 0 k e
    by_cursor None e = cond_both (is_flushing c.quiesce) (flushing_act c.links) (calm_act c) (CrewDoes c) (λ u. flushing u e) (λ u. calm)

pub worker_does : (c : CoreState) → Invariant c → (worker : ℕ) → worker < length c.workers → CrewDoes c (worker_act c worker)
worker_does c v worker known = by_cursor (cursor_of (worker + 1) c.links) refl
  where
    own : (o : Option Worker) → slice_get c.workers worker ≡ o → CrewDoes c (share_act c worker o)
    own None e = tt
    own (Some w) e =
        cond_both (nat_lt w.progress (mined_through c worker w)) (Makes (event.Raise worker (mined_through c worker w)))
        (cond (nat_lt w.mined w.applied) (Makes (event.Mine worker)) (cond (nat_lt w.applied (length (share_of c worker))) (Makes (event.Apply worker)) Rests)) (CrewDoes c)
        (λ u. (tt, can_raise c v worker w e (ltb-true w.progress (mined_through c worker w) u)))
        (λ u. cond_both (nat_lt w.mined w.applied) (Makes (event.Mine worker)) (cond (nat_lt w.applied (length (share_of c worker))) (Makes (event.Apply worker)) Rests) (CrewDoes c)
        (λ m. (tt, record { was = w; found = e; behind = ltb-true w.mined w.applied m }))
        (λ m. cond_both (nat_lt w.applied (length (share_of c worker))) (Makes (event.Apply worker)) Rests (CrewDoes c)
        (λ a. (tt, record { was = w; found = e; left = ltb-true w.applied (length (share_of c worker)) a }))
        (λ a. tt)))

    by_cursor : (o : Option ℕ) → cursor_of (worker + 1) c.links ≡ o
        → CrewDoes c (link_act (length c.workers) (worker + 1) o (cond (is_flushing c.quiesce && has_unclaimed c.links) (Makes (event.Claim (worker + 1))) (share_act c worker (slice_get c.workers worker))))
    by_cursor (Some k) e = link_does c v (worker + 1) k e
    by_cursor None e =
        cond_both (is_flushing c.quiesce && has_unclaimed c.links) (Makes (event.Claim (worker + 1))) (share_act c worker (slice_get c.workers worker)) (CrewDoes c)
        (λ u. let p = and_parts (is_flushing c.quiesce) (has_unclaimed c.links) u in claim_does c (worker + 1) (omega arith) p.0 e p.1)
        (λ u. own (slice_get c.workers worker) refl)
