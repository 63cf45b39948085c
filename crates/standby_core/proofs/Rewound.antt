-- A restart: what each part of the core shows then.
use Rattle.std.proofs.Common.{◌≡◌, ℕ, zero, suc, ◌+◌, ◌<◌, ◌≤◌, cond, List, [], ◌∷◌, map, length, Option, Some, None, inr, refl, sym, ap, ◌∙◌, subst, arith, Vec, Global, mod-lt}
use Rattle.std.specs.Prelude.{nat_lt, replicate, count_by}
use Rattle.std.specs.List.{range_with_len}
use Rattle.std.specs.Vec.{with_items}
use Rattle.std.specs.List.Sorted.{IsNonDecreasingBy}
use Rattle.std.proofs.lemmas.List.{length-replicate, length-map, with_items_is}
use Rattle.std.proofs.lemmas.List.FromFn.{length-map-range_with_len}
use Rattle.std.proofs.lemmas.List.Kept.{IsNonDecreasingBy-filter}
use Rattle.std.proofs.lemmas.Option.{get_or_from_slice_get}
use Rattle.adg_base.specs.Shard.{shard_of_unit, shard_of_vector}
use Rattle.adg_base.specs.declared.log.LogEntry.{LogEntry}
use Rattle.adg_base.specs.declared.node.DdlNode.{DdlNode}
use Rattle.adg_journal.specs.Area.{IsArea}
use Rattle.column_units.specs.Shard as own
use Rattle.restart_rules.specs.Rewind as own_place
use Rattle.core_rules.specs.Share.{share, first_above, is_shared_by}
use Rattle.core_rules.specs.State.{CoreState, Worker, Session, At, Units, no_units}
use Rattle.core_rules.specs.State as rules
use Rattle.core_rules.specs.Restarts.{rewound_workers, restarted}
use Rattle.core_rules.specs.Restarts as restarts
use Rattle.core_rules.specs.LogFacts.{LogFacts}
use Rattle.core_rules.specs.declared.event.Event.TheVariants as event
use Rattle.core_rules.specs.declared.event.CoreAnswer.TheVariants.{Moved}
use Rattle.core_rules.proofs.Lists.{at_exists, at_map_back, at_replicate}
use Rattle.core_rules.proofs.Whole.{log_has_facts}
use Rattle.standby_core.specs.declared.standby.Core.{Core}
use Rattle.standby_core.specs.declared.worker.Worker.{Worker as OwnWorker}
use Rattle.standby_core.specs.declared.session.Session.{Session as OwnSession}
use Rattle.standby_core.specs.declared.session.Session.TheVariants as seat
use Rattle.standby_core.specs.declared.link.Link.{Link as OwnLink}
use Rattle.standby_core.specs.declared.flush.Flush.{Flush}
use Rattle.standby_core.specs.declared.flush.Quiesce.TheVariants as keeper
use Rattle.standby_core.specs.Each.{EachAt}
use Rattle.standby_core.specs.Held.{SameHeld}
use Rattle.standby_core.specs.Links.{quiesce_shown, is_finished, ShowsFlush}
use Rattle.standby_core.specs.Parts.{ShowsWorker, ShowsAny, unit_in_shard, ShowsUnits, ShowsSession}
use Rattle.standby_core.specs.Restarting.{DoNotFall, GoesBack, IsEmptied}
use Rattle.standby_core.specs.Restarting as back
use Rattle.standby_core.specs.Shows.{IsState, HasStepped}
use Rattle.standby_core.proofs.Each.{each_left, each_right}
use Rattle.standby_core.proofs.Areas.{no_area, nothing_held}

-- both crates say alike where the first entry above an SCN stands
same_place : (scn : ℕ) (xs : List LogEntry) → own_place.first_above scn xs ≡ first_above scn xs
same_place scn [] = refl
same_place scn (x ∷ xs) = ap (λ n. cond (nat_lt scn x.scn) 0 (n + 1)) (same_place scn xs)

-- the SCNs of a share do not fall, as those of the log do not
log_rises : (log : List LogEntry) (frontier : ℕ) → LogFacts log frontier → IsNonDecreasingBy (λ (e : LogEntry). e.scn) log
log_rises log frontier facts i j d l within =
    let a = at_exists log i (omega arith) in
    let b = at_exists log j within in
    let rises : a.0.scn ≤ b.0.scn = facts.rises i j a.0 b.0 l a.1 b.1 in
    omega (arith, ap (λ (e : LogEntry). e.scn) (get_or_from_slice_get log i a.0 d a.1), ap (λ (e : LogEntry). e.scn) (get_or_from_slice_get log j b.0 d b.1))

shares_rise : (core : Core) (c : CoreState) → IsState core c → (n : ℕ) (x : OwnWorker) → At core.workers.items n x → DoNotFall x
shares_rise core c h n x at =
    let shown = each_right (ShowsWorker core.worker_count c.log) core.workers.items c.workers h.shows.workers n x at in
    subst (IsNonDecreasingBy (λ (e : LogEntry). e.scn)) (sym shown.2.share)
    (IsNonDecreasingBy-filter (λ (e : LogEntry). e.scn) (λ (e : LogEntry). is_shared_by core.worker_count n (shard_of_vector e.vector)) c.log
    (log_rises c.log c.frontier (log_has_facts c.log c.frontier h.invariant.log)))

-- the number at a place of a range
at_range : (n a i k : ℕ) → At (range_with_len a n) i k → k ≡ a + i
at_range zero a i k h = let e : None ≡ Some k = h in absurd cc
at_range (suc n) a zero k h = let e : Some a ≡ Some k = h in let same : a ≡ k = cc in omega arith
at_range (suc n) a (suc i) k h = let r = at_range n (a + 1) i k h in omega arith

workers_back : (core : Core) (c : CoreState) → IsState core c → (ws : List OwnWorker) → EachAt (λ n. GoesBack core.query) core.workers.items ws
    → EachAt (ShowsWorker core.worker_count c.log) ws (rewound_workers c.query c.log (length c.workers))
workers_back core c h ws gone = record {
  same_length = sym gone.same_length ∙ h.shows.workers.same_length ∙ sym (length-map-range_with_len (λ w. restarts.rewound c.query (share (length c.workers) w c.log)) 0 (length c.workers));
  each = each;
}
  where
    each : (n : ℕ) (x : OwnWorker) (w : Worker) → At ws n x → At (rewound_workers c.query c.log (length c.workers)) n w → ShowsWorker core.worker_count c.log n x w
    each n x w at_x at_w =
        let old = each_left (λ k. GoesBack core.query) core.workers.items ws gone n x at_x in
        let shown = each_right (ShowsWorker core.worker_count c.log) core.workers.items c.workers h.shows.workers n old.0 old.1 in
        let gone_back : x ≡ back.rewound core.query old.0 = old.2 (shares_rise core c h n old.0 old.1) in
        let number = at_map_back (λ k. restarts.rewound c.query (share (length c.workers) k c.log)) (range_with_len 0 (length c.workers)) n w at_w in
        let same : n ≡ number.0 = let e : number.0 ≡ 0 + n = at_range (length c.workers) 0 n number.0 number.1 in omega arith in
        let place : own_place.first_above core.query old.0.share ≡ first_above c.query (share (length c.workers) number.0 c.log) =
        same_place core.query old.0.share ∙ ap (λ q. first_above q old.0.share) h.shows.query ∙ ap (first_above c.query) shown.2.share
        ∙ ap (λ m. first_above c.query (share m n c.log)) h.shows.worker_count ∙ ap (λ m. first_above c.query (share (length c.workers) m c.log)) same in
        record {
          share = ap (λ (y : OwnWorker). y.share) gone_back ∙ shown.2.share;
          applied = ap (λ (y : OwnWorker). y.applied) gone_back ∙ place ∙ ap (λ (y : Worker). y.applied) number.2;
          mined = ap (λ (y : OwnWorker). y.mined) gone_back ∙ place ∙ ap (λ (y : Worker). y.mined) number.2;
          progress = ap (λ (y : OwnWorker). y.progress) gone_back ∙ h.shows.query ∙ ap (λ (y : Worker). y.progress) number.2;
          area = subst (λ l. SameHeld l w.area) (sym (ap (λ (y : OwnWorker). y.area) gone_back)) (subst (SameHeld []) (ap (λ (y : Worker). y.area) number.2) nothing_held);
          is_area = subst IsArea (sym (ap (λ (y : OwnWorker). y.area) gone_back)) no_area;
          ends = ap (λ (y : OwnWorker). y.ends) gone_back ∙ ap (λ (y : Worker). y.ends) number.2;
        }

-- no unit stands
units_gone : (us us' : List own.Units) (units : Units) → ShowsUnits us units → EachAt (λ n. IsEmptied) us us' → ShowsUnits us' no_units
units_gone us us' units h gone = record {
  count = sym gone.same_length ∙ h.count;
  numbers = λ n s at. let old = each_left (λ k. IsEmptied) us us' gone n s at in old.2.number ∙ h.numbers n old.0 old.1;
  each = λ obj extent.
      let small : shard_of_unit obj extent < 32 = mod-lt (obj + extent) {m = 32} (omega arith) in
      let count : length us' ≡ 32 = sym gone.same_length ∙ h.count in
      let s = at_exists us' (shard_of_unit obj extent) (omega arith) in
      let old = each_left (λ k. IsEmptied) us us' gone (shard_of_unit obj extent) s.0 s.1 in
      subst (λ o. ShowsAny (unit_in_shard o obj extent) None) (sym s.1) (subst (λ u. ShowsAny u None) (sym (old.2.empty obj extent)) tt);
}

-- no flush goes on
flush_gone : (workers : ℕ) (old f : Flush) → f.quiesce ≡ keeper.Idle → f.links.items ≡ [] → f.claimed ≡ 0 → f.done ≡ 0 → f.held.items ≡ map (λ (n : Option ℕ). None) old.held.items
    → length old.held.items ≡ workers + 1 → ShowsFlush workers f rules.Idle []
flush_gone workers old f quiesce links claimed done held actors = record {
  quiesce = ap quiesce_shown (sym quiesce);
  links = record { same_length = ap length links; each = λ n x l at_x at_l. absurd (none_there n x at_x) };
  numbers = record {
    claimed = λ n x at. absurd (none_there n x at);
    within = omega (arith, claimed);
    done = done ∙ ap (count_by (λ (x : OwnLink). is_finished x.stage)) (sym links);
    actors = ap length held ∙ length-map old.held.items (λ (n : Option ℕ). None) ∙ actors;
    held = λ actor n cursor x at stage. absurd (none_there n x at);
    holds = λ actor n at. absurd (none_held actor n at);
  };
}
  where
    none_there : (n : ℕ) (x : OwnLink) → At f.links.items n x → ⊥
    none_there n x at = let e : None ≡ Some x = subst (λ ls. At ls n x) links at in absurd cc

    none_held : (actor n : ℕ) → At f.held.items actor (Some n) → ⊥
    none_held actor n at =
        let was = at_map_back (λ (m : Option ℕ). None) old.held.items actor (Some n) (subst (λ l. At l actor (Some n)) held at) in
        let e : None ≡ Some n = was.2 in
        absurd cc

-- all sessions are free
all_free : (xs xs' : List OwnSession) (ss : List Session) → EachAt (λ n. ShowsSession) xs ss → xs' ≡ map (λ (s : OwnSession). seat.Free) xs → EachAt (λ n. ShowsSession) xs' (replicate (length ss) rules.Free)
all_free xs xs' ss h freed = record {
  same_length = ap length freed ∙ length-map xs (λ (s : OwnSession). seat.Free) ∙ h.same_length ∙ sym (length-replicate (length ss) rules.Free);
  each = λ n x s at_x at_s.
      let was = at_map_back (λ (y : OwnSession). seat.Free) xs n x (subst (λ l. At l n x) freed at_x) in
      subst (λ y. ShowsSession y s) was.2 (subst (ShowsSession seat.Free) (sym (at_replicate (length ss) n s rules.Free at_s)) tt);
}

restart_steps : (core : Core) (c : CoreState) → IsState core c → (ws : Vec OwnWorker Global) (ddl : List DdlNode) (f : Flush) (us : Vec own.Units Global) (seats : Vec OwnSession Global)
    → EachAt (λ n. GoesBack core.query) core.workers.items ws.items → ddl ≡ [] → f.quiesce ≡ keeper.Idle → f.links.items ≡ [] → f.claimed ≡ 0 → f.done ≡ 0
    → f.held.items ≡ map (λ (n : Option ℕ). None) core.flush.held.items → EachAt (λ n. IsEmptied) core.units.items us.items → seats.items ≡ map (λ (s : OwnSession). seat.Free) core.sessions.items
    → HasStepped (record core { born = core.query; workers = ws; ddl = ddl; flush = f; units = us; sessions = seats }) c event.Restart Moved
restart_steps core c h ws ddl f us seats gone none quiesce links claimed done held emptied freed = record {
  next = restarted c;
  steps = inr (refl, refl);
  shows = record {
    worker_count = h.shows.worker_count ∙ sym (length-map-range_with_len (λ w. restarts.rewound c.query (share (length c.workers) w c.log)) 0 (length c.workers));
    session_count = h.shows.session_count ∙ sym (length-replicate (length c.sessions) rules.Free);
    received = h.shows.received;
    fits = h.shows.fits;
    frontier = h.shows.frontier;
    query = h.shows.query;
    born = h.shows.query;
    workers = workers_back core c h ws.items gone;
    shards = h.shows.shards;
    ddl = none;
    flush = flush_gone core.worker_count core.flush f quiesce links claimed done held h.shows.flush.numbers.actors;
    units = units_gone core.units.items us.items c.units h.shows.units emptied;
    sessions = all_free core.sessions.items seats.items c.sessions h.shows.sessions freed;
    ticket = h.shows.ticket;
  };
}

-- the elements of a vector whose elements were written over
pub written : {X : Type 0} (v : Vec X Global) (xs : List X) → length v.items ≡ length xs → (with_items v xs).items ≡ xs
written v xs h = with_items_is v xs (sym h ∙ sym v.ok.0)

pub restart_moves : (core : Core) (c : CoreState) → IsState core c → (ddl : List DdlNode) (f : Flush) (ws : List OwnWorker) (us : List own.Units) (seats : List OwnSession)
    → EachAt (λ n. GoesBack core.query) core.workers.items ws → ddl ≡ [] → f.quiesce ≡ keeper.Idle → f.links.items ≡ [] → f.claimed ≡ 0 → f.done ≡ 0
    → f.held.items ≡ map (λ (n : Option ℕ). None) core.flush.held.items → EachAt (λ n. IsEmptied) core.units.items us → seats ≡ map (λ (s : OwnSession). seat.Free) core.sessions.items
    → HasStepped (record core { born = core.query; workers = with_items core.workers ws; ddl = ddl; flush = f; units = with_items core.units us; sessions = with_items core.sessions seats }) c event.Restart Moved
restart_moves core c h ddl f ws us seats gone none quiesce links claimed done held emptied freed =
    restart_steps core c h (with_items core.workers ws) ddl f (with_items core.units us) (with_items core.sessions seats)
    (subst (EachAt (λ n. GoesBack core.query) core.workers.items) (sym (written core.workers ws gone.same_length)) gone)
    none quiesce links claimed done held
    (subst (EachAt (λ n. IsEmptied) core.units.items) (sym (written core.units us emptied.same_length)) emptied)
    (written core.sessions seats (sym (ap length freed ∙ length-map core.sessions.items (λ (s : OwnSession). seat.Free))) ∙ freed)
