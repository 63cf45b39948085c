-- The begin of a flush keeps the invariant, once the units are known to.
use Rattle.std.proofs.Common.{◌≡◌, ℕ, ◌+◌, ◌<◌, ◌≤◌, true, List, cond, [], ◌++◌, map, filter, length, take, drop, Some, None, ◌⊎◌, inl, inr, sym, ap, ◌∙◌, subst, arith, true≢false, IsPermutation}
use Rattle.std.specs.Prelude.{nat_lt, nat_le}
use Rattle.std.specs.List.{AllByRecursion, flat_map, count_by}
use Rattle.std.proofs.lemmas.Bool.{cases_order}
use Rattle.std.proofs.lemmas.List.{length-map}
use Rattle.std.proofs.lemmas.List.Sorted.{IsPermutation-trans, IsPermutation-map, IsPermutation-append_left, IsPermutation-append_right, sum_by-IsPermutation}
use Rattle.adg_base.specs.declared.log.LogEntry.{LogEntry}
use Rattle.adg_base.specs.declared.node.Node.{Node}
use Rattle.adg_base.specs.declared.node.DdlNode.{DdlNode}
use Rattle.adg_base.specs.declared.node.Item.{Item}
use Rattle.adg_model.specs.Mined.{node_item, ddl_item}
use Rattle.core_rules.specs.Share.{shares, nodes_of, ddl_in}
use Rattle.core_rules.specs.State.{CoreState, Worker, Idle, Flushing, Link, At, share_of, limit, cut_through, holders, is_past, is_item_of, has_txn}
use Rattle.core_rules.specs.Flush.{BeginsFlush, cut_worker, unclaimed}
use Rattle.core_rules.specs.Parts.{QuiesceIs, IsGone, PartitionIs, DdlIs, mined_from, flush_nodes, flush_ddl, flush_items, ItemsAre, items_of, ClaimsAre, stages_of, AllCollected}
use Rattle.core_rules.specs.Invariant.{Invariant, WorkerIs, AllUnits}
use Rattle.core_rules.proofs.Lists.{at_exists, at_map_back, each_at, each_weaker}
use Rattle.core_rules.proofs.Keeps.{Keeps, KeepsPart}
use Rattle.core_rules.proofs.Crew.{WorkerAt, worker_is}
use Rattle.core_rules.proofs.Permuted.{filter_permuted}
use Rattle.core_rules.proofs.Staged.{area_gone}
use Rattle.core_rules.proofs.Once.{two_counted}
use Rattle.core_rules.proofs.Begun.{filter_stronger, above_more, CutsRight, CutRight, nodes_cut, ddl_cut, one_item, kept_order, same_parts, same_mined, new_claims, none_new}

-- The state at the begin of a flush: nothing is cut beyond the QuerySCN, and nobody holds publication back.
pub record IsCalm (c : CoreState) : Type 0 where
  pub uncut : limit c ≡ c.query
  pub none_holds : holders c.sessions ≡ 0
  pub no_links : c.links ≡ []

calm : (c : CoreState) → Invariant c → c.quiesce ≡ Idle → IsCalm c
calm c v h =
    let q : QuiesceIs Idle c.query (holders c.sessions) c.links = subst (λ x. QuiesceIs x c.query (holders c.sessions) c.links) h v.quiesce in
    record { uncut = ap (cut_through c.query) h; none_holds = q.0; no_links = q.1 }

-- what is above the SCN of a flush
above_through : (low high : ℕ) (entries : List LogEntry) → high ≤ low → AllByRecursion (λ (e : LogEntry). low < e.scn) entries → AllByRecursion (λ (e : LogEntry). high < e.scn) entries
above_through low high entries l h = each_weaker (λ (e : LogEntry). low < e.scn) (λ (e : LogEntry). high < e.scn) entries (λ e k. omega arith) h

cuts_right : (c : CoreState) → Invariant c → (through : ℕ) → c.query < through → AllByRecursion (λ (w : Worker). through ≤ w.progress) c.workers → limit c ≡ c.query
    → CutRight c.log c.born c.query through (length c.workers) 0 c.workers
cuts_right c v through l reached uncut i w h =
    let is = v.workers i w h in
    let zero_more : i ≡ 0 + i = omega arith in
    subst (λ n. CutsRight c.log c.born c.query through (length c.workers) n w) zero_more (record {
      partition = subst (λ low. PartitionIs c.log c.born low (take w.mined (share_of c i)) w.ends) uncut is.partition;
      above = above_through w.progress through (drop w.mined (share_of c i)) (each_at (λ (x : Worker). through ≤ x.progress) c.workers i w reached h) is.counts.above;
    })

pub begin_flush_keeps : (through : ℕ) → KeepsPart AllUnits (λ c new. BeginsFlush c through new) → Keeps (λ c new. BeginsFlush c through new)
begin_flush_keeps through units facts c new r v = subst Invariant (sym r.effect) (record {
  log = v.log;
  numbers = record {
    restarted = v.numbers.restarted;
    published = let l : c.query < through = above in omega arith;
    cut =
        let progress : through ≤ first.0.progress = each_at (λ (x : Worker). through ≤ x.progress) c.workers 0 first.0 r.can.reached first.1 in
        let received : first.0.progress ≤ c.frontier = (v.workers 0 first.0 first.1).progress.received in
        omega arith;
  };
  quiesce = (idle.none_holds, above);
  shards = v.shards;
  manned = subst (λ n. 0 < n) (sym as_many) v.manned;
  workers = each_worker;
  ddl = ddl_is;
  flush = record {
    items = subst (λ n. ItemsAre c.log c.born c.query through (shares n c.log) (items_of links)) (sym as_many)
        (subst (λ ps. ItemsAre c.log c.born c.query through (shares (length c.workers) c.log) ps) (sym (same_parts r.parts)) items_are);
    claims = subst (λ n. ClaimsAre n (stages_of links)) (sym as_many) (new_claims (length c.workers) r.parts);
    collected = subst (λ n. AllCollected c.log c.born n links) (sym as_many) (none_new c.log c.born (length c.workers) r.parts);
  };
  units = subst AllUnits r.effect (units facts c new r v);
  populations = v.populations;
  tickets = v.tickets;
  tied = v.tied;
  scans = v.scans;
})
  where
    links : List Link
    links = map unclaimed r.parts

    workers : List Worker
    workers = map (cut_worker through) c.workers

    above : c.query < through
    above = r.can.above

    idle : IsCalm c
    idle = calm c v r.can.idle

    first : (w : Worker) × At c.workers 0 w
    first = at_exists c.workers 0 v.manned

    as_many : length workers ≡ length c.workers
    as_many = length-map c.workers (cut_worker through)

    cut : CutRight c.log c.born c.query through (length c.workers) 0 c.workers
    cut = cuts_right c v through above r.can.reached idle.uncut

    -- workers
    back : (place t : ℕ) → IsGone c.log c.born c.query links place t → IsGone c.log c.born c.query c.links place t
    back place t (inl e) = inl e
    back place t (inr p) =
        let m = at_map_back unclaimed r.parts p.number p.link p.found in
        absurd (true≢false (sym p.past ∙ sym (ap (λ (l : Link). is_past place l.stage) m.2)))

    on : (place t : ℕ) → IsGone c.log c.born c.query c.links place t → IsGone c.log c.born c.query links place t
    on place t (inl e) = inl e
    on place t (inr p) = let e : None ≡ Some p.link = subst (λ ls. At ls p.number p.link) idle.no_links p.found in absurd cc

    each_worker : (n : ℕ) (w : Worker) → At workers n w → WorkerIs (record c { workers = workers; ddl = filter (λ (d : DdlNode). nat_lt through d.scn) c.ddl; quiesce = Flushing through; links = links }) n w
    each_worker n w h = worker_is (record c { workers = workers; ddl = filter (λ (d : DdlNode). nat_lt through d.scn) c.ddl; quiesce = Flushing through; links = links }) (length c.workers) n w as_many
        (subst (λ x. WorkerAt (length c.workers) through c.frontier c.log c.born c.query links c.shards n x) was.2 (cut_is was.0 was.1))
      where
        was : (x : Worker) × At c.workers n x × (cut_worker through x ≡ w)
        was = at_map_back (cut_worker through) c.workers n w h

        cut_is : (x : Worker) → At c.workers n x → WorkerAt (length c.workers) through c.frontier c.log c.born c.query links c.shards n (cut_worker through x)
        cut_is x at =
            let is = v.workers n x at in
            record {
              counts = record { behind = is.counts.behind; within = is.counts.within; above = is.counts.above };
              progress = record { reached = each_at (λ (y : Worker). through ≤ y.progress) c.workers n x r.can.reached at; received = is.progress.received };
              applied = is.applied;
              area = area_gone c.log c.born c.query c.query c.links links n (take x.mined (share_of c n)) x.area (back n) (on n) is.area;
              partition =
                  ap (filter (λ (m : Node). nat_lt through m.scn)) (subst (λ low. PartitionIs c.log c.born low (take x.mined (share_of c n)) x.ends) idle.uncut is.partition)
                  ∙ filter_stronger (λ (m : Node). nat_lt c.query m.scn) (λ (m : Node). nat_lt through m.scn) (nodes_of c.log c.born (take x.mined (share_of c n)))
                  (λ m k. above_more c.query through m.scn above k);
            }

    -- changes of definitions
    mined : List LogEntry
    mined = mined_from (length c.workers) 0 c.log (map (λ (w : Worker). w.mined) c.workers)

    ddl_same : IsPermutation (filter (λ (d : DdlNode). nat_lt c.query d.scn) (ddl_in mined)) c.ddl
    ddl_same = subst (λ low. IsPermutation (filter (λ (d : DdlNode). nat_lt low d.scn) (ddl_in mined)) c.ddl) idle.uncut v.ddl.same

    ddl_is : DdlIs through (mined_from (length workers) 0 c.log (map (λ (w : Worker). w.mined) workers)) (filter (λ (d : DdlNode). nat_lt through d.scn) c.ddl)
    ddl_is = subst (λ n. DdlIs through (mined_from n 0 c.log (map (λ (w : Worker). w.mined) workers)) (filter (λ (d : DdlNode). nat_lt through d.scn) c.ddl)) (sym as_many)
        (subst (λ ns. DdlIs through (mined_from (length c.workers) 0 c.log ns) (filter (λ (d : DdlNode). nat_lt through d.scn) c.ddl)) (sym (same_mined through c.workers)) (record {
          same = subst (λ ds. IsPermutation ds (filter (λ (d : DdlNode). nat_lt through d.scn) c.ddl))
              (filter_stronger (λ (d : DdlNode). nat_lt c.query d.scn) (λ (d : DdlNode). nat_lt through d.scn) (ddl_in mined) (λ d k. above_more c.query through d.scn above k))
              (filter_permuted (λ (d : DdlNode). nat_lt through d.scn) (filter (λ (d : DdlNode). nat_lt c.query d.scn) (ddl_in mined)) c.ddl ddl_same);
          order = kept_order (λ (d : DdlNode). nat_lt through d.scn) c.ddl v.ddl.order;
        }))

    -- items
    entries : List LogEntry
    entries = shares (length c.workers) c.log

    flat : List Item
    flat = flat_map (λ (part : List Item). part) r.parts

    ddl : List DdlNode
    ddl = filter (λ (d : DdlNode). nat_le d.scn through) c.ddl

    nodes_same : IsPermutation (map node_item (flush_nodes c.log c.born c.query through entries)) (map node_item r.nodes)
    nodes_same = IsPermutation-map node_item (flush_nodes c.log c.born c.query through entries) r.nodes
        (subst (λ ns. IsPermutation ns r.nodes) (sym (nodes_cut c.log c.born c.query through (length c.workers) 0 c.workers cut)) r.same)

    ddls_same : IsPermutation (map ddl_item (flush_ddl c.query through entries)) (map ddl_item ddl)
    ddls_same = IsPermutation-map ddl_item (flush_ddl c.query through entries) ddl
        (subst (λ ds. IsPermutation ds ddl) (sym (ddl_cut c.log c.born c.query through (length c.workers) 0 c.workers cut))
        (filter_permuted (λ (d : DdlNode). nat_le d.scn through) (filter (λ (d : DdlNode). nat_lt c.query d.scn) (ddl_in mined)) c.ddl ddl_same))

    once : IsPermutation (flush_items c.log c.born c.query through entries) flat
    once = subst (λ items. IsPermutation (flush_items c.log c.born c.query through entries) items) (sym r.chopped.whole)
        (IsPermutation-trans (flush_items c.log c.born c.query through entries) (map node_item r.nodes ++ map ddl_item (flush_ddl c.query through entries)) (map node_item r.nodes ++ map ddl_item ddl)
        (IsPermutation-append_left (map ddl_item (flush_ddl c.query through entries)) (map node_item (flush_nodes c.log c.born c.query through entries)) (map node_item r.nodes) nodes_same)
        (IsPermutation-append_right (map node_item r.nodes) (map ddl_item (flush_ddl c.query through entries)) (map ddl_item ddl) ddls_same))

    few : (t : ℕ) → count_by (is_item_of t) flat ≤ 1
    few t =
        let same = sum_by-IsPermutation (λ i. cond (is_item_of t i) 1 0) (flush_items c.log c.born c.query through entries) flat once in
        let one = one_item c.log c.frontier c.born c.query through (length c.workers) t (facts c.log c.frontier v.log) v.manned in
        omega arith

    items_are : ItemsAre c.log c.born c.query through entries r.parts
    items_are = record { once = once; together = together }
      where
        together : (i j : ℕ) (x y : List Item) (t : ℕ) → At r.parts i x → At r.parts j y → has_txn t x ≡ true → has_txn t y ≡ true → i ≡ j
        together i j x y t h k u w = by_order (cases_order i j)
          where
            by_order : (i ≡ j) ⊎ ((i < j) ⊎ (j < i)) → i ≡ j
            by_order (inl e) = e
            by_order (inr (inl l)) =
                let two = two_counted (is_item_of t) r.parts i j x y l h k u w in
                let one = few t in
                absurd (omega arith)
            by_order (inr (inr l)) =
                let two = two_counted (is_item_of t) r.parts j i y x l k h w u in
                let one = few t in
                absurd (omega arith)
