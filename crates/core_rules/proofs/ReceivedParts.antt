-- What no part of the workers and of the flush sees of redo that is received: it lies above the old frontier.
use Rattle.std.proofs.Common.{◌≡◌, ℕ, ◌+◌, ◌<◌, ◌≤◌, Bool, true, false, List, ◌++◌, map, filter, length, take, drop, inl, inr, refl, sym, ap, ap₂, ◌∙◌, subst, arith}
use Rattle.std.specs.Prelude.{nat_lt, nat_le}
use Rattle.std.specs.List.{Contains, AllByRecursion, range_with_len}
use Rattle.std.proofs.lemmas.Bool.{leb-true, and_parts}
use Rattle.std.proofs.lemmas.List.{length-append, drop-append-le}
use Rattle.adg_base.specs.Address.{Place}
use Rattle.adg_base.specs.Shard.{shard_of_vector}
use Rattle.adg_base.specs.declared.log.LogEntry.{LogEntry}
use Rattle.adg_base.specs.declared.node.Node.{Node}
use Rattle.adg_base.specs.declared.node.DdlNode.{DdlNode}
use Rattle.adg_model.specs.Sound.{IsContinuation, IsLog}
use Rattle.adg_model.specs.Mined.{mined_of, node_item, ddl_item}
use Rattle.core_rules.specs.Share.{is_shared_by, share, shares, begun_above, node_of, ddl_of, NotedIn, EndedWithin}
use Rattle.core_rules.specs.State.{CoreState, Worker, At, share_of, limit, has_txn}
use Rattle.core_rules.specs.LogFacts.{LogFacts, LogHasFacts}
use Rattle.core_rules.specs.Parts.{CountsAre, AppliedAre, AreaIs, IsGone, PartitionIs, is_within, flush_nodes, flush_ddl, flush_items, NotedBelow, CollectedAre, AllCollected}
use Rattle.core_rules.specs.Invariant.{Invariant, WorkerIs, mined_of_all}
use Rattle.core_rules.proofs.Lists.{Has, has, has_filter_back, contains, contains_take, at_map_back, each_append, each_from_has}
use Rattle.core_rules.proofs.Shares.{share_log, share_own, share_contains, node_is, note_touches}
use Rattle.core_rules.proofs.Items.{items_end}
use Rattle.core_rules.proofs.MinedEntry.{ddl_scn}
use Rattle.core_rules.proofs.Continued.{log_continued, new_is_above, stays_within, was_within, mined_stays, share_grows, take_stays, mined_from_stays, kept_of_shares, touch_was, node_stays, nodes_stay}

-- nothing above an SCN lies within it
above_not_within : (low high scn : ℕ) → high < scn → is_within low high scn ≡ false
above_not_within low high scn l = by_test (is_within low high scn) refl
  where
    by_test : (b : Bool) → is_within low high scn ≡ b → b ≡ false
    by_test false e = refl
    by_test true e = let u : scn ≤ high = leb-true scn high (and_parts (nat_lt low scn) (nat_le scn high) e).1 in absurd (omega arith)

-- a state whose log is continued up to a frontier
abbrev pub with_log : CoreState → List LogEntry → ℕ → CoreState
with_log c entries frontier = record c { log = c.log ++ entries; frontier = frontier }

module _ (facts : LogHasFacts) (c : CoreState) (entries : List LogEntry) (frontier : ℕ) (more : IsContinuation c.log c.frontier entries frontier) (v : Invariant c) where
  abbrev whole : List LogEntry
  whole = c.log ++ entries

  pub whole_is : IsLog whole frontier
  whole_is = log_continued c.log entries c.frontier frontier v.log more

  pub whole_facts : LogFacts whole frontier
  whole_facts = facts whole frontier whole_is

  old_facts : LogFacts c.log c.frontier
  old_facts = facts c.log c.frontier v.log

  -- every part reads at or below the limit, which is not above the old frontier
  pub query_received : c.query ≤ c.frontier
  query_received =
      let upto : c.query ≤ limit c = v.numbers.published in
      let cut : limit c ≤ c.frontier = v.numbers.cut in
      omega arith

  pub within_old : (e : LogEntry) → Contains whole e → e.scn ≤ c.frontier → Contains c.log e
  within_old e h l = was_within c.log entries c.frontier frontier v.log more e h l

  pub within_new : (e : LogEntry) → Contains c.log e → Contains whole e
  within_new e h = stays_within c.log entries c.frontier frontier v.log more e h

  same_note : (e : LogEntry) → Contains c.log e → mined_of whole e ≡ mined_of c.log e
  same_note e h = mined_stays c.log entries c.frontier frontier v.log more e h

  -- a transaction is gone from an area where it was gone
  was_gone : (place t : ℕ) → IsGone whole c.born c.query c.links place t → IsGone c.log c.born c.query c.links place t
  was_gone place t (inl r) =
      let upto : r.entry.scn ≤ c.query = r.upto in
      let q : c.query ≤ c.frontier = query_received in
      inl (record { entry = r.entry; within = within_old r.entry r.within (omega arith); above = r.above; upto = r.upto; end = r.end })
  was_gone place t (inr r) = inr r

  is_gone : (place t : ℕ) → IsGone c.log c.born c.query c.links place t → IsGone whole c.born c.query c.links place t
  is_gone place t (inl r) = inl (record { entry = r.entry; within = within_new r.entry r.within; above = r.above; upto = r.upto; end = r.end })
  is_gone place t (inr r) = inr r

  -- of a worker
  module _ (worker : ℕ) (w : Worker) (found : At c.workers worker w) where
    was : WorkerIs c worker w
    was = v.workers worker w found

    mined_within : w.mined ≤ length (share_of c worker)
    mined_within =
        let behind : w.mined ≤ w.applied = was.counts.behind in
        let within : w.applied ≤ length (share_of c worker) = was.counts.within in
        omega arith

    abbrev mined_then : List LogEntry
    mined_then = take w.mined (share_of c worker)

    of_log : (e : LogEntry) → Contains mined_then e → Contains c.log e
    of_log e h = share_log (length c.workers) worker c.log e (contains_take w.mined (share_of c worker) e h)

    counts_then : CountsAre (share (length c.workers) worker whole) w.applied w.mined w.progress
    counts_then =
        let grows = share_grows c.log entries c.frontier frontier v.log more (length c.workers) worker in
        let upto : w.progress ≤ c.frontier = was.progress.received in
        let fresh : AllByRecursion (λ (e : LogEntry). w.progress < e.scn) (share (length c.workers) worker entries) = fresh_above (length c.workers) entries upto (new_is_above c.log entries c.frontier frontier v.log more) in
        let rest = each_append (λ (e : LogEntry). w.progress < e.scn) (drop w.mined (share_of c worker)) (share (length c.workers) worker entries) was.counts.above fresh in
        let all : drop w.mined (share (length c.workers) worker whole) ≡ drop w.mined (share_of c worker) ++ share (length c.workers) worker entries = ap (drop w.mined) grows ∙ drop-append-le w.mined (share_of c worker) (share (length c.workers) worker entries) mined_within in
        let longer : length (share (length c.workers) worker whole) ≡ length (share_of c worker) + length (share (length c.workers) worker entries) = ap length grows ∙ length-append (share_of c worker) (share (length c.workers) worker entries) in
        let within : w.applied ≤ length (share_of c worker) = was.counts.within in
        record {
          behind = was.counts.behind;
          within = omega arith;
          above = subst (AllByRecursion (λ (e : LogEntry). w.progress < e.scn)) (sym all) rest;
        }
      where
        fresh_above : (workers : ℕ) (xs : List LogEntry) → w.progress ≤ c.frontier → ((e : LogEntry) → Has xs e → c.frontier < e.scn)
            → AllByRecursion (λ (e : LogEntry). w.progress < e.scn) (share workers worker xs)
        fresh_above workers xs l h =
            each_from_has (λ (e : LogEntry). w.progress < e.scn) (share workers worker xs)
            (λ e k. let above : c.frontier < e.scn = h e (has_filter_back (λ (x : LogEntry). is_shared_by workers worker (shard_of_vector x.vector)) xs e k).0 in omega arith)

    area_then : AreaIs whole c.born c.query c.links worker mined_then w.area
    area_then = record {
      noted = λ t a h. noted_then t a (was.area.noted t a h);
      stays = λ t a h g. was.area.stays t a h (was_gone worker t g);
      holds = λ t a h g. was.area.holds t a (noted_was t a h) (λ k. g (is_gone worker t k));
      begun = was.area.begun;
      begin_stays = λ t h g. was.area.begin_stays t h (was_gone worker t g);
      holds_begin = λ t h g. was.area.holds_begin t h (λ k. g (is_gone worker t k));
    }
      where
        noted_then : (t : ℕ) (a : Place) → NotedIn c.log c.born mined_then t a → NotedIn whole c.born mined_then t a
        noted_then t a r = record { entry = r.entry; within = r.within; above = r.above; notes = same_note r.entry (of_log r.entry r.within) ∙ r.notes }

        noted_was : (t : ℕ) (a : Place) → NotedIn whole c.born mined_then t a → NotedIn c.log c.born mined_then t a
        noted_was t a r = record { entry = r.entry; within = r.within; above = r.above; notes = sym (same_note r.entry (of_log r.entry r.within)) ∙ r.notes }

    partition_then : PartitionIs whole c.born (limit c) mined_then w.ends
    partition_then =
        was.partition
        ∙ ap (filter (λ (n : Node). nat_lt (limit c) n.scn)) (sym (nodes_stay c.log entries c.frontier frontier v.log more whole_facts c.born mined_then (λ e h. has c.log e (of_log e (contains mined_then e h)))))

    pub worker_then : WorkerIs (with_log c entries frontier) worker w
    worker_then = record {
      counts = counts_then;
      progress = record {
        reached = was.progress.reached;
        received =
            let upto : w.progress ≤ c.frontier = was.progress.received in
            let forward : c.frontier ≤ frontier = more.forward in
            omega arith;
      };
      applied = subst (λ (es : List LogEntry). AppliedAre es c.shards) (sym (same w.applied was.counts.within)) was.applied;
      area = subst (λ (es : List LogEntry). AreaIs whole c.born c.query c.links worker es w.area) (sym (same w.mined mined_within)) area_then;
      partition = subst (λ (es : List LogEntry). PartitionIs whole c.born (limit c) es w.ends) (sym (same w.mined mined_within)) partition_then;
    }
      where
        same : (n : ℕ) → n ≤ length (share_of c worker) → take n (share (length c.workers) worker whole) ≡ take n (share_of c worker)
        same n l = take_stays c.log entries c.frontier frontier v.log more (length c.workers) worker n l

  -- of the changes of definitions
  pub same_mined_of_all : mined_of_all (with_log c entries frontier) ≡ mined_of_all c
  same_mined_of_all = mined_from_stays c.log entries c.frontier frontier v.log more (length c.workers) 0 (map (λ (w : Worker). w.mined) c.workers) (λ i n a. within i n (at_map_back (λ (w : Worker). w.mined) c.workers i n a))
    where
      within : (i n : ℕ) → (w : Worker) × At c.workers i w × (w.mined ≡ n) → n ≤ length (share (length c.workers) (0 + i) c.log)
      within i n r =
          let here : i ≡ 0 + i = omega arith in
          let upto : n ≤ length (share (length c.workers) i c.log) = subst (λ (m : ℕ). m ≤ length (share (length c.workers) i c.log)) r.2 (mined_within i r.0 r.1) in
          subst (λ (j : ℕ). n ≤ length (share (length c.workers) j c.log)) here upto

  -- of the flush
  pub same_items : flush_items whole c.born c.query (limit c) (shares (length c.workers) whole) ≡ flush_items c.log c.born c.query (limit c) (shares (length c.workers) c.log)
  same_items = ap₂ (λ (ns : List Node) (ds : List DdlNode). map node_item ns ++ map ddl_item ds) nodes changes
    where
      fresh : (e : LogEntry) (scn : ℕ) → Has entries e → scn ≡ e.scn → is_within c.query (limit c) scn ≡ false
      fresh e scn h same =
          let above : c.frontier < e.scn = new_is_above c.log entries c.frontier frontier v.log more e h in
          let cut : limit c ≤ c.frontier = v.numbers.cut in
          above_not_within c.query (limit c) scn (omega arith)

      nodes : flush_nodes whole c.born c.query (limit c) (shares (length c.workers) whole) ≡ flush_nodes c.log c.born c.query (limit c) (shares (length c.workers) c.log)
      nodes = kept_of_shares c.log entries c.frontier frontier v.log more (λ (n : Node). is_within c.query (limit c) n.scn) (node_of (begun_above whole c.born)) (node_of (begun_above c.log c.born))
          (node_stays c.log entries c.frontier frontier v.log more whole_facts c.born)
          (λ e n h k. fresh e n.scn h (node_is (begun_above whole c.born) e n k).scn)
          (length c.workers) (range_with_len 0 (length c.workers))

      changes : flush_ddl c.query (limit c) (shares (length c.workers) whole) ≡ flush_ddl c.query (limit c) (shares (length c.workers) c.log)
      changes = kept_of_shares c.log entries c.frontier frontier v.log more (λ (d : DdlNode). is_within c.query (limit c) d.scn) ddl_of ddl_of (λ e h. refl)
          (λ e d h k. fresh e d.scn h (ddl_scn e d k))
          (length c.workers) (range_with_len 0 (length c.workers))

  pub collected_then : AllCollected whole c.born (length c.workers) c.links
  collected_then n l actor cursor collected h stage = record {
    of = old.of;
    noted = λ t a k. noted_then t a (old.noted t a k);
    all = λ t a k r. old.all t a k (noted_was t a k r);
  }
    where
      old : CollectedAre c.log c.born (length c.workers) l.items cursor collected
      old = v.flush.collected n l actor cursor collected h stage

      noted_then : (t : ℕ) (a : Place) → NotedBelow c.log c.born (length c.workers) cursor t a → NotedBelow whole c.born (length c.workers) cursor t a
      noted_then t a r =
          let e = r.noted.entry in
          let there : Contains c.log e = share_log (length c.workers) r.worker c.log e r.noted.within in
          record {
            worker = r.worker;
            known = r.known;
            below = r.below;
            noted = record {
              entry = e;
              within = share_contains (length c.workers) r.worker whole e (within_new e there) (share_own (length c.workers) r.worker c.log e r.noted.within);
              above = r.noted.above;
              notes = same_note e there ∙ r.noted.notes;
            };
          }

      noted_was : (t : ℕ) (a : Place) → has_txn t l.items ≡ true → NotedBelow whole c.born (length c.workers) cursor t a → NotedBelow c.log c.born (length c.workers) cursor t a
      noted_was t a k r =
          let e = r.noted.entry in
          let ended : EndedWithin c.log c.query (limit c) t = items_end c v n l t h k in
          let inside : Contains whole e = share_log (length c.workers) r.worker whole e r.noted.within in
          let there : Contains c.log e = touch_was c.log entries c.frontier frontier v.log more whole_facts t a e ended.entry inside (note_touches whole e t a r.noted.notes) ended.within ended.end in
          record {
            worker = r.worker;
            known = r.known;
            below = r.below;
            noted = record {
              entry = e;
              within = share_contains (length c.workers) r.worker c.log e there (share_own (length c.workers) r.worker whole e r.noted.within);
              above = r.noted.above;
              notes = sym (same_note e there) ∙ r.noted.notes;
            };
          }
