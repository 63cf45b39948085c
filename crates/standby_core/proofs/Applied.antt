-- A worker applies the next entry of its share.
use Rattle.std.proofs.Common.{◌≡◌, ℕ, ◌+◌, ◌<◌, ◌≤◌, ◌^◌, max, true, List, length, get_or, Some, None, ◌⊎◌, inl, inr, refl, sym, ap, ◌∙◌, subst, arith, true≢false, Vec, Global}
use Rattle.std.specs.Prelude.{slice_get, slice_set}
use Rattle.std.specs.List.{Contains}
use Rattle.std.specs.List.Sorted.{IsNonDecreasingBy}
use Rattle.std.proofs.lemmas.Option.{slice_get-get_or}
use Rattle.std.proofs.lemmas.Bool.{cases_lt}
use Rattle.std.proofs.lemmas.List.{length-set}
use Rattle.std.proofs.lemmas.List.Sums.{length-filter, count_by-le-length}
use Rattle.adg_base.specs.Shard.{shard_of_vector}
use Rattle.adg_base.specs.declared.log.LogEntry.{LogEntry}
use Rattle.row_blocks.specs.declared.shard.Shard.{Shard as OwnShard}
use Rattle.row_blocks.specs.Shard.{shown}
use Rattle.row_blocks.specs.Stands.{StandsFor, SameKept}
use Rattle.core_rules.specs.declared.event.Event.TheVariants as event
use Rattle.core_rules.specs.declared.event.CoreAnswer.TheVariants.{NotReady, Moved}
use Rattle.core_rules.specs.Share.{share, is_shared_by}
use Rattle.core_rules.specs.State.{CoreState, Worker, Shard, At, share_of}
use Rattle.core_rules.specs.Applying.{CanApply}
use Rattle.core_rules.proofs.Lists.{at_within, at_exists, at_contains, contains_at, at_same, filter_order}
use Rattle.core_rules.proofs.Shares.{share_log, share_own}
use Rattle.core_rules.proofs.FactsOrder.{positions, rises}
use Rattle.core_rules.proofs.Whole.{next_closes_shard}
use Rattle.standby_core.specs.declared.standby.Core.{Core}
use Rattle.standby_core.specs.declared.worker.Worker.{Worker as OwnWorker}
use Rattle.standby_core.specs.Each.{EachAt}
use Rattle.standby_core.specs.Entries.{TakesEntry}
use Rattle.standby_core.specs.Parts.{ShowsWorker, ShowsShard}
use Rattle.standby_core.specs.Shows.{Shows, IsState, HasStepped}
use Rattle.standby_core.proofs.Each.{each_left, each_right, each_set, set_same}
use Rattle.standby_core.proofs.Kept.{with_workers, with_shards}
use Rattle.row_blocks.proofs.Settling.{settled_same}
use Rattle.standby_core.proofs.Shards.{same_stands, known_same, next_entry}

module _ (core : Core) (c : CoreState) (h : IsState core c) where
  -- the worker of the state at a place
  pub worker_there : (worker : ℕ) (x : OwnWorker) → At core.workers.items worker x → (w : Worker) × At c.workers worker w × ShowsWorker core.worker_count c.log worker x w
  worker_there worker x at = each_right (ShowsWorker core.worker_count c.log) core.workers.items c.workers h.shows.workers worker x at

  pub worker_back : (worker : ℕ) (w : Worker) → At c.workers worker w → (x : OwnWorker) × At core.workers.items worker x × ShowsWorker core.worker_count c.log worker x w
  worker_back worker w at = each_left (ShowsWorker core.worker_count c.log) core.workers.items c.workers h.shows.workers worker w at

  pub no_worker : (worker : ℕ) (w : Worker) → slice_get core.workers.items worker ≡ None → At c.workers worker w → ⊥
  no_worker worker w none at =
      let r = worker_back worker w at in
      let k : None ≡ Some r.0 = sym none ∙ r.1 in
      absurd cc

  -- the share of a worker
  pub share_is : (worker : ℕ) (x : OwnWorker) (w : Worker) → ShowsWorker core.worker_count c.log worker x w → x.share ≡ share_of c worker
  share_is worker x w s = s.share ∙ ap (λ n. share n worker c.log) h.shows.worker_count

  -- so many workers
  pub workers_count : length core.workers.items ≡ core.worker_count
  workers_count = h.shows.workers.same_length ∙ sym h.shows.worker_count

  -- there are 64 shards
  pub shards_count : length core.shards.items ≡ 64
  shards_count =
      let count : length c.shards ≡ 64 = h.invariant.shards.count in
      let same : length core.shards.items ≡ length c.shards = h.shows.shards.same_length in
      omega arith

  -- the SCNs of a share do not fall
  pub share_rises : (worker : ℕ) (x : OwnWorker) → At core.workers.items worker x → IsNonDecreasingBy (λ (e : LogEntry). e.scn) x.share
  share_rises worker x at =
      let r = worker_there worker x at in
      subst (IsNonDecreasingBy (λ (e : LogEntry). e.scn)) (sym (share_is worker x r.0 r.2)) (rising (share_of c worker) (λ i j e f l at_e at_f.
      let o = filter_order (λ (z : LogEntry). is_shared_by (length c.workers) worker (shard_of_vector z.vector)) c.log i j e f l at_e at_f in
      let less : o.0 < o.1 = o.4 in
      rises c.log c.frontier h.invariant.log o.0 o.1 e f (omega arith) o.2 o.3))
    where
      rising : (es : List LogEntry) → ((i j : ℕ) (e f : LogEntry) → i < j → At es i e → At es j f → e.scn ≤ f.scn) → IsNonDecreasingBy (λ (e : LogEntry). e.scn) es
      rising es each i j d below within = by_order (cases_lt i j)
        where
          by_order : (i < j) ⊎ (j ≤ i) → (get_or es i d).scn ≤ (get_or es j d).scn
          by_order (inl l) = each i j (get_or es i d) (get_or es j d) l (slice_get-get_or es i d (omega arith)) (slice_get-get_or es j d within)
          by_order (inr l) = let same : i ≡ j = omega arith in subst (λ k. (get_or es i d).scn ≤ (get_or es k d).scn) same (omega arith)

  -- a shard has the number of its place
  pub shard_number : (n : ℕ) (s : OwnShard) → At core.shards.items n s → s.number ≡ n
  shard_number n s at = (each_right (ShowsShard c.log) core.shards.items c.shards h.shows.shards n s at).2.number

  -- an event that can't happen
  pub not_ready_apply : (worker : ℕ) → (CanApply c worker → ⊥) → HasStepped core c (event.Apply worker) NotReady
  not_ready_apply worker never = record { next = c; steps = inl (refl, never, refl); shows = h.shows }

  module _ (worker : ℕ) (x : OwnWorker) (at : At core.workers.items worker x) where
    pub none_left : slice_get x.share x.applied ≡ None → CanApply c worker → ⊥
    none_left none can =
        let r = worker_there worker x at in
        let same : r.0 ≡ can.was = at_same c.workers worker r.0 can.was r.1 can.found in
        let count : x.applied ≡ can.was.applied = r.2.applied ∙ ap (λ (w : Worker). w.applied) same in
        let share : x.share ≡ share_of c worker = share_is worker x r.0 r.2 in
        let more : can.was.applied < length (share_of c worker) = can.left in
        let long : length x.share ≡ length (share_of c worker) = ap length share in
        let e = at_exists x.share x.applied (omega arith) in
        let k : None ≡ Some e.0 = sym none ∙ e.1 in
        absurd cc

    module _ (e : LogEntry) (next : At x.share x.applied e) where
      pub in_share : At (share_of c worker) x.applied e
      in_share = let r = worker_there worker x at in subst (λ es. At es x.applied e) (share_is worker x r.0 r.2) next

      -- an entry of a share has a shard
      pub has_shard : shard_of_vector e.vector ≡ None → ⊥
      has_shard none =
          let own : is_shared_by (length c.workers) worker (shard_of_vector e.vector) ≡ true = share_own (length c.workers) worker c.log e (at_contains (share_of c worker) x.applied e in_share) in
          let never : is_shared_by (length c.workers) worker None ≡ true = subst (λ o. is_shared_by (length c.workers) worker o ≡ true) none own in
          absurd (true≢false (sym never))

      -- it is in the log, at a position that a number of 64 bits can follow
      pub entry_within : Contains c.log e
      entry_within = share_log (length c.workers) worker c.log e (at_contains (share_of c worker) x.applied e in_share)

      -- one more can be counted
      pub applied_fits : x.applied + 1 < 2 ^ 64
      applied_fits =
          let within : x.applied < length (share_of c worker) = at_within (share_of c worker) x.applied e in_share in
          let shorter : length (share_of c worker) ≤ length c.log =
          subst (λ n. n ≤ length c.log) (sym (length-filter (λ (z : LogEntry). is_shared_by (length c.workers) worker (shard_of_vector z.vector)) c.log))
          (count_by-le-length (λ (z : LogEntry). is_shared_by (length c.workers) worker (shard_of_vector z.vector)) c.log) in
          let few : length c.log < 2 ^ 64 = h.shows.fits in
          omega arith

      -- where the entry is applied the core shows the state that the event makes
      pub apply_moves : (number : ℕ) (s t : OwnShard) (ws : Vec OwnWorker Global) (ss : Vec OwnShard Global)
          → shard_of_vector e.vector ≡ Some number → At core.shards.items number s → TakesEntry s e t
          → ws.items ≡ slice_set core.workers.items worker (record x { applied = x.applied + 1 }) → ss.items ≡ slice_set core.shards.items number t
          → HasStepped (record core { workers = ws; shards = ss }) c (event.Apply worker) Moved
      apply_moves number s t ws ss own at_s takes ws_is ss_is = record {
        next = record c { workers = slice_set c.workers worker new_w; shards = slice_set c.shards number new_s };
        steps = inr (
          refl,
          record {
            was = r.0;
            found = r.1;
            entry = e;
            next = subst (λ n. At (share_of c worker) n e) r.2.applied in_share;
            place = number;
            own = own;
            shard = rs.0;
            at = rs.1;
            effect = refl;
          },
        );
        shows = with_shards (record core { workers = ws }) (record c { workers = slice_set c.workers worker new_w }) ss (slice_set c.shards number new_s)
            (with_workers core c ws (slice_set c.workers worker new_w) h.shows workers (length-set c.workers worker new_w)) shards;
      }
        where
          r : (w : Worker) × At c.workers worker w × ShowsWorker core.worker_count c.log worker x w
          r = worker_there worker x at

          rs : (y : Shard) × At c.shards number y × ShowsShard c.log number s y
          rs = each_right (ShowsShard c.log) core.shards.items c.shards h.shows.shards number s at_s

          new_w : Worker
          new_w = record r.0 { applied = r.0.applied + 1 }

          new_s : Shard
          new_s = record rs.0 { applied = max rs.0.applied (e.pos + 1) }

          workers : EachAt (ShowsWorker core.worker_count c.log) ws.items (slice_set c.workers worker new_w)
          workers = subst (λ l. EachAt (ShowsWorker core.worker_count c.log) l (slice_set c.workers worker new_w)) (sym ws_is)
              (each_set (ShowsWorker core.worker_count c.log) core.workers.items c.workers h.shows.workers worker (record x { applied = x.applied + 1 }) new_w
              (record { share = r.2.share; applied = ap (λ n. n + 1) r.2.applied; mined = r.2.mined; progress = r.2.progress; area = r.2.area; is_area = r.2.is_area; ends = r.2.ends }))

          bound : e.pos + 1 < 2 ^ 64
          bound =
              let i = contains_at c.log e entry_within in
              let p : e.pos ≡ i.0 = positions c.log c.frontier h.invariant.log i.0 e i.1 in
              let l : i.0 < length c.log = at_within c.log i.0 e i.1 in
              let k : length c.log < 2 ^ 64 = h.shows.fits in
              omega arith

          stands : (e.pos < s.applied) ⊎ (s.applied ≤ e.pos) → StandsFor (shown t) c.log rs.0.floor
          stands (inl l) = subst (λ y. StandsFor (shown y) c.log rs.0.floor) (sym (takes.already l)) rs.2.stands
          stands (inr l) =
              let own_number : shard_of_vector e.vector ≡ Some s.number = own ∙ ap Some (sym rs.2.number) in
              let closes = λ (z : LogEntry) (k : Contains c.log z) (o : shard_of_vector z.vector ≡ Some s.number) (m : z.pos < e.pos).
              let o' : shard_of_vector z.vector ≡ Some number = o ∙ ap Some rs.2.number in
              let b : z.pos < rs.0.applied = next_closes_shard c worker r.0 e z number rs.0 h.invariant r.1 (subst (λ n. At (share_of c worker) n e) r.2.applied in_share) own rs.1 k o' m in
              let a : s.applied ≡ rs.0.applied = rs.2.applied in
              let d : z.pos < s.applied = omega arith in
              d in
              (takes.stands l bound c.log c.frontier rs.0.floor h.invariant.log (next_entry (shown s) c.log c.frontier e h.invariant.log entry_within own_number l closes)).0 rs.2.stands

          shards : EachAt (ShowsShard c.log) ss.items (slice_set c.shards number new_s)
          shards = subst (λ l. EachAt (ShowsShard c.log) l (slice_set c.shards number new_s)) (sym ss_is)
              (each_set (ShowsShard c.log) core.shards.items c.shards h.shows.shards number t new_s
              (record { number = takes.number ∙ rs.2.number; applied = takes.applied bound ∙ ap (λ n. max n (e.pos + 1)) rs.2.applied; stands = stands (cases_lt e.pos s.applied); settled = takes.settled bound c.log rs.2.settled }))

-- where memory is wanting the shard keeps the same, and the core shows the same
pub apply_stays : (core : Core) (c : CoreState) (number : ℕ) (s t : OwnShard) (ss : Vec OwnShard Global) → IsState core c → At core.shards.items number s
    → SameKept (shown t) (shown s) → t.settled ≡ s.settled → ss.items ≡ slice_set core.shards.items number t → Shows (record core { shards = ss }) c
apply_stays core c number s t ss h at_s same known ss_is =
    subst (Shows (record core { shards = ss })) (same_state) (with_shards core c ss (slice_set c.shards number rs.0) h.shows shards)
  where
    rs : (y : Shard) × At c.shards number y × ShowsShard c.log number s y
    rs = each_right (ShowsShard c.log) core.shards.items c.shards h.shows.shards number s at_s

    same_state : record c { shards = slice_set c.shards number rs.0 } ≡ c
    same_state = ap (λ l. record c { shards = l }) (set_same c.shards number rs.0 rs.1)

    shards : EachAt (ShowsShard c.log) ss.items (slice_set c.shards number rs.0)
    shards = subst (λ l. EachAt (ShowsShard c.log) l (slice_set c.shards number rs.0)) (sym ss_is)
        (each_set (ShowsShard c.log) core.shards.items c.shards h.shows.shards number t rs.0
        (record { number = same.number ∙ rs.2.number; applied = same.applied ∙ rs.2.applied; stands = same_stands (shown s) (shown t) c.log rs.0.floor same rs.2.stands; settled = settled_same c.log s t same (known_same s t known) rs.2.settled }))
