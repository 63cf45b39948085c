-- A core as it starts shows the opening state.
use Rattle.std.proofs.Common.{◌≡◌, ℕ, ◌+◌, ◌<◌, ◌≤◌, List, [], ◌∷◌, ◌++◌, length, length-append, Option, Some, None, ◌⊎◌, inl, inr, refl, sym, ap, ◌∙◌, subst, arith, Vec, Global, mod-lt}
use Rattle.std.specs.Prelude.{slice_get, replicate, count_by}
use Rattle.std.proofs.lemmas.Bool.{cases_lt}
use Rattle.std.proofs.lemmas.List.{length-replicate}
use Rattle.adg_base.specs.Shard.{shard_of_unit}
use Rattle.adg_base.specs.declared.node.DdlNode.{DdlNode}
use Rattle.row_blocks.specs.declared.shard.Shard.{Shard as OwnShard}
use Rattle.row_blocks.specs.Shard.{shown}
use Rattle.row_blocks.specs.Stands.{StandsFor, Kept}
use Rattle.row_blocks.specs.Settled.{AreEachSettled}
use Rattle.row_blocks.specs.Shards.{shards_in, kept_or, StandAt, StandAtStart}
use Rattle.row_blocks.proofs.Together.{log_none}
use Rattle.column_units.specs.Shard as own
use Rattle.core_rules.specs.State.{CoreState, Worker, Shard, Link, Session, At, opening, idle_worker, empty_shard, no_units}
use Rattle.core_rules.specs.State as rules
use Rattle.core_rules.proofs.Lists.{at_exists, at_within, at_same, at_append_within, at_replicate}
use Rattle.standby_core.specs.declared.worker.Worker.{Worker as OwnWorker}
use Rattle.standby_core.specs.declared.session.Session.{Session as OwnSession}
use Rattle.standby_core.specs.declared.session.Session.TheVariants as own_session
use Rattle.standby_core.specs.declared.link.Link.{Link as OwnLink}
use Rattle.standby_core.specs.declared.flush.Quiesce.TheVariants as own_quiesce
use Rattle.standby_core.specs.Each.{EachAt}
use Rattle.standby_core.specs.Links.{is_finished, ShowsFlush}
use Rattle.standby_core.specs.Parts.{ShowsWorker, ShowsShard, ShowsAny, unit_in_shard, ShowsUnits, AreEmpty, ShowsSession}
use Rattle.standby_core.specs.Shows.{Shows}
use Rattle.standby_core.proofs.Each.{each_replicate}
use Rattle.standby_core.proofs.Areas.{no_area, nothing_held}

abbrev pub own_idle : OwnWorker
own_idle = record { share = []; applied = 0; mined = 0; progress = 0; area = []; ends = [] }

nothing_at : {X : Type 0} (n : ℕ) (x : X) → At [] n x → ⊥
nothing_at n x h = let e : None ≡ Some x = h in absurd cc

start_workers : (workers : ℕ) → EachAt (ShowsWorker workers []) (replicate workers own_idle) (replicate workers idle_worker)
start_workers workers = each_replicate (ShowsWorker workers []) workers own_idle idle_worker
    (λ n l. record { share = refl; applied = refl; mined = refl; progress = refl; area = nothing_held; is_area = no_area; ends = refl })

start_shards : (xs : List OwnShard) → length xs ≡ 64 → StandAtStart (shards_in xs) → AreEachSettled [] xs → EachAt (ShowsShard []) xs (replicate 64 empty_shard)
start_shards xs count start settled = record { same_length = count ∙ sym (length-replicate 64 empty_shard); each = each }
  where
    at : StandAt (shards_in xs) [] [] 0
    at = start [] 0 log_none

    each : (n : ℕ) (x : OwnShard) (s : Shard) → At xs n x → At (replicate 64 empty_shard) n s → ShowsShard [] n x s
    each n x s at_x at_s =
        let below : n < length xs = at_within xs n x at_x in
        let few : n < 64 = omega arith in
        let is : kept_or n (slice_get xs n) ≡ shown x = ap (kept_or n) at_x in
        let stands : StandsFor (shown x) [] 0 = subst (λ (k : Kept). StandsFor k [] 0) is (at.each n few) in
        let number : x.number ≡ n = subst (λ (k : Kept). k.number ≡ n) is (at.numbers n few) in
        let upto : x.applied ≤ 0 = subst (λ (k : Kept). k.applied ≤ 0) is ((at.passed n few).upto) in
        let none : x.applied ≡ 0 = omega arith in
        let same : s ≡ empty_shard = at_replicate 64 n s empty_shard at_s in
        subst (λ (y : Shard). ShowsShard [] n x y) (sym same) (record { number = number; applied = none; stands = stands; settled = settled n x at_x })

start_units : (us : List own.Units) → AreEmpty us → ShowsUnits us no_units
start_units us empty = record {
  count = empty.count;
  numbers = empty.numbers;
  each = λ obj extent.
      let small : shard_of_unit obj extent < 32 = mod-lt (obj + extent) {m = 32} (omega arith) in
      let count : length us ≡ 32 = empty.count in
      let s = at_exists us (shard_of_unit obj extent) (omega arith) in
      subst (λ o. ShowsAny (unit_in_shard o obj extent) None) (sym s.1)
      (subst (λ u. ShowsAny u None) (sym (empty.empty (shard_of_unit obj extent) s.0 s.1 obj extent)) tt);
}

start_sessions : (sessions : ℕ) → EachAt (λ n. ShowsSession) (replicate sessions own_session.Free) (replicate sessions rules.Free)
start_sessions sessions = each_replicate (λ n. ShowsSession) sessions own_session.Free rules.Free (λ n l. tt)

start_flush : (workers : ℕ) (links : Vec OwnLink Global) (held : Vec (Option ℕ) Global) → links.items ≡ [] → held.items ≡ replicate (workers + 1) None
    → ShowsFlush workers (record { quiesce = own_quiesce.Idle; links = links; claimed = 0; done = 0; held = held }) rules.Idle []
start_flush workers links held none free = record {
  quiesce = refl;
  links = record { same_length = ap length none; each = λ n x l at_x at_l. absurd (nothing_at n l at_l) };
  numbers = record {
    claimed = λ n x at. absurd (no_link n x at);
    within = omega arith;
    done = sym (ap (count_by (λ (x : OwnLink). is_finished x.stage)) none);
    actors = ap length free ∙ length-replicate (workers + 1) None;
    held = λ actor n cursor x at is. absurd (no_link n x at);
    holds = λ actor n at.
        let e : Some n ≡ None = at_replicate (workers + 1) actor (Some n) None (subst (λ l. At l actor (Some n)) free at) in
        absurd cc;
  };
}
  where
    no_link : (n : ℕ) (x : OwnLink) → At links.items n x → ⊥
    no_link n x at = nothing_at n x (subst (λ l. At l n x) none at)

pub start_shows : (alloc : Global) (workers sessions : ℕ) (ddl : List DdlNode) (ws : Vec OwnWorker Global) (ss : Vec OwnShard Global) (links : Vec OwnLink Global) (held : Vec (Option ℕ) Global) (us : Vec own.Units Global) (seats : Vec OwnSession Global)
    → ddl ≡ [] → ws.items ≡ replicate workers own_idle → length ss.items ≡ 64 → StandAtStart (shards_in ss.items) → AreEachSettled [] ss.items → links.items ≡ [] → held.items ≡ replicate (workers + 1) None → AreEmpty us.items
    → seats.items ≡ replicate sessions own_session.Free
    → Shows (record {
      alloc = alloc;
      worker_count = workers;
      session_count = sessions;
      received = 0;
      frontier = 0;
      query = 0;
      born = 0;
      workers = ws;
      shards = ss;
      ddl = ddl;
      flush = record { quiesce = own_quiesce.Idle; links = links; claimed = 0; done = 0; held = held };
      units = us;
      sessions = seats;
      ticket = 0;
    }) (opening workers sessions)
start_shows alloc workers sessions ddl ws ss links held us seats d_is w_is count start settled none free empty s_is = record {
  worker_count = sym (length-replicate workers idle_worker);
  session_count = sym (length-replicate sessions rules.Free);
  received = refl;
  fits = omega arith;
  frontier = refl;
  query = refl;
  born = refl;
  workers = subst (λ l. EachAt (ShowsWorker workers []) l (replicate workers idle_worker)) (sym w_is) (start_workers workers);
  shards = start_shards ss.items count start settled;
  ddl = d_is;
  flush = start_flush workers links held none free;
  units = start_units us.items empty;
  sessions = subst (λ l. EachAt (λ n. ShowsSession) l (replicate sessions rules.Free)) (sym s_is) (start_sessions sessions);
  ticket = refl;
}

-- one shard of units more
pub one_more_shard : (us : List own.Units) (u : own.Units) (n : ℕ) → length us ≡ n → u.number ≡ n → ((obj extent : ℕ) → own.unit_at u obj extent ≡ None)
    → ((m : ℕ) (s : own.Units) → At us m s → (s.number ≡ m) × ((obj extent : ℕ) → own.unit_at s obj extent ≡ None))
    → (m : ℕ) (s : own.Units) → At (us ++ u ∷ []) m s → (s.number ≡ m) × ((obj extent : ℕ) → own.unit_at s obj extent ≡ None)
one_more_shard us u n count number empty each m s at = by (cases_lt m (length us))
  where
    by : (m < length us) ⊎ (length us ≤ m) → (s.number ≡ m) × ((obj extent : ℕ) → own.unit_at s obj extent ≡ None)
    by (inl l) = each m s (at_append_within us (u ∷ []) m s l at)
    by (inr l) =
        let long : length (us ++ u ∷ []) ≡ length us + 1 = length-append us (u ∷ []) in
        let within : m < length (us ++ u ∷ []) = at_within (us ++ u ∷ []) m s at in
        let place : m ≡ length us = omega arith in
        let here : At (us ++ u ∷ []) (length us) u = last_at us u in
        let same : u ≡ s = at_same (us ++ u ∷ []) (length us) u s here (subst (λ k. At (us ++ u ∷ []) k s) place at) in
        (ap (λ (x : own.Units). x.number) (sym same) ∙ number ∙ sym count ∙ sym place, subst (λ (x : own.Units). (obj extent : ℕ) → own.unit_at x obj extent ≡ None) same empty)
      where
        last_at : (xs : List own.Units) (x : own.Units) → At (xs ++ x ∷ []) (length xs) x
        last_at [] x = refl
        last_at (y ∷ ys) x = last_at ys x
