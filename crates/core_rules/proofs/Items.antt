-- What the items of a flush tell of the log, and the log of them.
use Rattle.std.proofs.Common.{◌≡◌, ℕ, ◌<◌, ◌≤◌, Bool, true, false, List, map, length, take, drop, Some, ◌⊎◌, inl, inr, refl, sym, ap, ◌∙◌, subst, arith, true≢false}
use Rattle.std.specs.Prelude.{nat_lt, nat_le}
use Rattle.std.specs.List.{Contains, list_any, flat_map}
use Rattle.std.proofs.lemmas.Bool.{eqb-true, eq-eqb, ltb-true, lt-ltb, leb-true, le-leb, and_parts, and_from}
use Rattle.std.proofs.lemmas.List.Sorted.{Contains-permutation, IsPermutation-sym}
use Rattle.adg_base.specs.declared.vector.Vector.TheVariants.{Commit}
use Rattle.adg_base.specs.declared.log.LogEntry.{LogEntry}
use Rattle.adg_base.specs.declared.node.Node.{Node}
use Rattle.adg_base.specs.declared.node.NodeKind.{NodeKind}
use Rattle.adg_base.specs.declared.node.NodeKind.TheVariants as node
use Rattle.adg_base.specs.declared.node.DdlNode.{DdlNode}
use Rattle.adg_base.specs.declared.node.Item.{Item}
use Rattle.adg_model.specs.Mined.{end_item, node_item, ddl_item}
use Rattle.adg_base.specs.Shard.{shard_of_txn, shard_of_object}
use Rattle.core_rules.specs.Share.{shares, ends, begun_above, node_of, nodes_of, ddl_of, ddl_in, EndedWithin}
use Rattle.core_rules.specs.State.{CoreState, Link, At, share_of, limit, is_item_of, is_change_of, is_coarse, is_drop_of, has_change, has_coarse}
use Rattle.core_rules.specs.Parts.{is_within, flush_nodes, flush_ddl, flush_items, items_of}
use Rattle.core_rules.specs.Invariant.{Invariant}
use Rattle.core_rules.proofs.Lists.{Has, has, contains, has_at, at_has, at_map, at_map_back, has_append_left, has_append_right, has_append_cases, has_map, has_map_back, has_filter, has_filter_back, has_filter_map, has_filter_map_back, has_flat_map, has_flat_map_back, any_has, any_has_back, each_has, each_drop_at, contains_take_cases}
use Rattle.core_rules.proofs.Shares.{shares_has, shares_log, end_shard, redefine_shard, IsNodeOf, node_is, end_node, node_committed, node_kind, redefine_node}
use Rattle.core_rules.proofs.Keeps.{CutCommit, HasItem, ItemsEnd, ChangesCommit, CoarsesCommit, EndsHaveItems, CommitsHaveItems, RedefinitionsHaveItems, MinedBelow, NextIsAbove}

-- what the item of a node is
pub item_of_node : (t : ℕ) (n : Node) → is_item_of t (node_item n) ≡ true → n.txn ≡ t
item_of_node t n h = by_kind n.complete n.kind h
  where
    by_kind : (c : Bool) (k : NodeKind) → is_item_of t (end_item c n.txn k) ≡ true → n.txn ≡ t
    by_kind true (node.Committed true) u = eqb-true n.txn t u
    by_kind false (node.Committed true) u = eqb-true n.txn t u
    by_kind true (node.Committed false) u = eqb-true n.txn t u
    by_kind false (node.Committed false) u = eqb-true n.txn t u
    by_kind true node.Aborted u = eqb-true n.txn t u
    by_kind false node.Aborted u = eqb-true n.txn t u

node_has_item : (n : Node) → is_item_of n.txn (node_item n) ≡ true
node_has_item n = by_kind n.complete n.kind
  where
    by_kind : (c : Bool) (k : NodeKind) → is_item_of n.txn (end_item c n.txn k) ≡ true
    by_kind true (node.Committed true) = eq-eqb n.txn n.txn refl
    by_kind false (node.Committed true) = eq-eqb n.txn n.txn refl
    by_kind true (node.Committed false) = eq-eqb n.txn n.txn refl
    by_kind false (node.Committed false) = eq-eqb n.txn n.txn refl
    by_kind true node.Aborted = eq-eqb n.txn n.txn refl
    by_kind false node.Aborted = eq-eqb n.txn n.txn refl

change_of_node : (t : ℕ) (n : Node) → is_change_of t (node_item n) ≡ true → (n.txn ≡ t) × (n.complete ≡ true) × (n.kind ≡ node.Committed true)
change_of_node t n h = by_kind n.complete n.kind h
  where
    by_kind : (c : Bool) (k : NodeKind) → is_change_of t (end_item c n.txn k) ≡ true → (n.txn ≡ t) × (c ≡ true) × (k ≡ node.Committed true)
    by_kind true (node.Committed true) u = (eqb-true n.txn t u, refl, refl)
    by_kind false (node.Committed true) u = absurd (true≢false (sym u))
    by_kind true (node.Committed false) u = absurd (true≢false (sym u))
    by_kind false (node.Committed false) u = absurd (true≢false (sym u))
    by_kind true node.Aborted u = absurd (true≢false (sym u))
    by_kind false node.Aborted u = absurd (true≢false (sym u))

coarse_of_node : (n : Node) → is_coarse (node_item n) ≡ true → (n.complete ≡ false) × (n.kind ≡ node.Committed true)
coarse_of_node n h = by_kind n.complete n.kind h
  where
    by_kind : (c : Bool) (k : NodeKind) → is_coarse (end_item c n.txn k) ≡ true → (c ≡ false) × (k ≡ node.Committed true)
    by_kind true (node.Committed true) u = absurd (true≢false (sym u))
    by_kind false (node.Committed true) u = (refl, refl)
    by_kind true (node.Committed false) u = absurd (true≢false (sym u))
    by_kind false (node.Committed false) u = absurd (true≢false (sym u))
    by_kind true node.Aborted u = absurd (true≢false (sym u))
    by_kind false node.Aborted u = absurd (true≢false (sym u))

-- an item of a flush is that of an end or of a change of a definition
pub record IsOfNode (log : List LogEntry) (born low high : ℕ) (i : Item) : Type 0 where
  pub entry : LogEntry
  pub node : Node
  pub within : Contains log entry
  pub is : IsNodeOf (begun_above log born) entry node
  pub of : node_of (begun_above log born) entry ≡ Some node
  pub above : low < entry.scn
  pub upto : entry.scn ≤ high
  pub item : node_item node ≡ i

abbrev pub IsDdlItem : Item → Type 0
IsDdlItem i = (d : DdlNode) × (ddl_item d ≡ i)

scn_within : (low high scn : ℕ) → is_within low high scn ≡ true → (low < scn) × (scn ≤ high)
scn_within low high scn h = let p = and_parts (nat_lt low scn) (nat_le scn high) h in (ltb-true low scn p.0, leb-true scn high p.1)

within_scn : (low high scn : ℕ) → low < scn → scn ≤ high → is_within low high scn ≡ true
within_scn low high scn l h = and_from (nat_lt low scn) (nat_le scn high) (lt-ltb low scn l) (le-leb scn high h)

flush_item : (log : List LogEntry) (born low high workers : ℕ) (i : Item) → Has (flush_items log born low high (shares workers log)) i
    → IsOfNode log born low high i ⊎ IsDdlItem i
flush_item log born low high workers i h = either (has_append_cases (map node_item (flush_nodes log born low high (shares workers log))) (map ddl_item (flush_ddl low high (shares workers log))) i h)
  where
    either : Has (map node_item (flush_nodes log born low high (shares workers log))) i ⊎ Has (map ddl_item (flush_ddl low high (shares workers log))) i
        → IsOfNode log born low high i ⊎ IsDdlItem i
    either (inl k) =
        let m = has_map_back node_item (flush_nodes log born low high (shares workers log)) i k in
        let f = has_filter_back (λ (n : Node). is_within low high n.scn) (nodes_of log born (shares workers log)) m.0 m.1 in
        let g = has_filter_map_back (node_of (begun_above log born)) (shares workers log) m.0 f.0 in
        let is : IsNodeOf (begun_above log born) g.0 m.0 = node_is (begun_above log born) g.0 m.0 g.2 in
        let s = scn_within low high m.0.scn f.1 in
        inl (record { entry = g.0; node = m.0; within = shares_log workers log g.0 g.1; is = is; of = g.2; above = subst (λ n. low < n) is.scn s.0; upto = subst (λ n. n ≤ high) is.scn s.1; item = m.2 })
    either (inr k) = let m = has_map_back ddl_item (flush_ddl low high (shares workers log)) i k in inr (m.0, m.2)

-- an item of a worklink is an item of the flush, and one of the flush is in a worklink
link_item : (c : CoreState) → Invariant c → (n : ℕ) (l : Link) (i : Item) → At c.links n l → Has l.items i
    → Has (flush_items c.log c.born c.query (limit c) (shares (length c.workers) c.log)) i
link_item c v n l i h k =
    let parts = items_of c.links in
    let flat = flat_map (λ (part : List Item). part) parts in
    let all = flush_items c.log c.born c.query (limit c) (shares (length c.workers) c.log) in
    let at = at_map (λ (x : Link). x.items) c.links n l h in
    let there = has_flat_map (λ (part : List Item). part) parts l.items i (has_at parts n l.items at) k in
    has all i (Contains-permutation flat all i (IsPermutation-sym all flat v.flush.items.once) (contains flat i there))

item_link : (c : CoreState) → Invariant c → (test : Item → Bool) (i : Item) → Has (flush_items c.log c.born c.query (limit c) (shares (length c.workers) c.log)) i → test i ≡ true
    → HasItem c (λ items. list_any test items)
item_link c v test i h k =
    let parts = items_of c.links in
    let flat = flat_map (λ (part : List Item). part) parts in
    let all = flush_items c.log c.born c.query (limit c) (shares (length c.workers) c.log) in
    let there = has flat i (Contains-permutation all flat i v.flush.items.once (contains all i h)) in
    let part = has_flat_map_back (λ (p : List Item). p) parts i there in
    let at = at_has parts part.0 part.1 in
    let l = at_map_back (λ (x : Link). x.items) c.links at.0 part.0 at.1 in
    record { number = at.0; link = l.0; found = l.1; has = any_has test l.0.items i (subst (λ (items : List Item). Has items i) {y = l.0.items} (sym l.2) part.2) k }

pub items_end : ItemsEnd
items_end c v n l t h k =
    let a = any_has_back (is_item_of t) l.items k in
    either a.0 a.2 (flush_item c.log c.born c.query (limit c) (length c.workers) a.0 (link_item c v n l a.0 h a.1))
  where
    either : (i : Item) → is_item_of t i ≡ true → IsOfNode c.log c.born c.query (limit c) i ⊎ IsDdlItem i → EndedWithin c.log c.query (limit c) t
    either i u (inl r) =
        let same : r.node.txn ≡ t = item_of_node t r.node (subst (λ j. is_item_of t j ≡ true) (sym r.item) u) in
        record { entry = r.entry; within = r.within; above = r.above; upto = r.upto; end = subst (λ m. ends m r.entry.vector ≡ true) same r.is.end }
    either i u (inr d) = let w : is_item_of t (ddl_item d.0) ≡ true = subst (λ j. is_item_of t j ≡ true) (sym d.1) u in absurd (true≢false (sym w))

pub changes_commit : ChangesCommit
changes_commit c v n l t h k =
    let a = any_has_back (is_change_of t) l.items k in
    either a.0 a.2 (flush_item c.log c.born c.query (limit c) (length c.workers) a.0 (link_item c v n l a.0 h a.1))
  where
    either : (i : Item) → is_change_of t i ≡ true → IsOfNode c.log c.born c.query (limit c) i ⊎ IsDdlItem i → CutCommit c t true
    either i u (inl r) =
        let p = change_of_node t r.node (subst (λ j. is_change_of t j ≡ true) (sym r.item) u) in
        let commit = node_committed (begun_above c.log c.born) r.entry r.node true r.of p.2 in
        record {
          entry = r.entry;
          within = r.within;
          commits = subst (λ m. r.entry.vector ≡ Commit m true) p.0 commit;
          above = r.above;
          upto = r.upto;
          begun = subst (λ m. begun_above c.log c.born m ≡ true) p.0 (sym r.is.whole ∙ p.1);
        }
    either i u (inr d) = let w : is_change_of t (ddl_item d.0) ≡ true = subst (λ j. is_change_of t j ≡ true) (sym d.1) u in absurd (true≢false (sym w))

pub coarses_commit : CoarsesCommit
coarses_commit c v n l h k =
    let a = any_has_back is_coarse l.items k in
    either a.0 a.2 (flush_item c.log c.born c.query (limit c) (length c.workers) a.0 (link_item c v n l a.0 h a.1))
  where
    either : (i : Item) → is_coarse i ≡ true → IsOfNode c.log c.born c.query (limit c) i ⊎ IsDdlItem i → (t : ℕ) × CutCommit c t false
    either i u (inl r) =
        let p = coarse_of_node r.node (subst (λ j. is_coarse j ≡ true) (sym r.item) u) in (
          r.node.txn,
          record {
            entry = r.entry;
            within = r.within;
            commits = node_committed (begun_above c.log c.born) r.entry r.node true r.of p.1;
            above = r.above;
            upto = r.upto;
            begun = sym r.is.whole ∙ p.0;
          },
        )
    either i u (inr d) = let w : is_coarse (ddl_item d.0) ≡ true = subst (λ j. is_coarse j ≡ true) (sym d.1) u in absurd (true≢false (sym w))

-- the item of an entry that ends a transaction
end_in_flush : (c : CoreState) → Invariant c → (t : ℕ) (e : LogEntry) → Contains c.log e → ends t e.vector ≡ true → c.query < e.scn → e.scn ≤ limit c
    → (n : Node) × (node_of (begun_above c.log c.born) e ≡ Some n) × (n.txn ≡ t) × Has (flush_items c.log c.born c.query (limit c) (shares (length c.workers) c.log)) (node_item n)
end_in_flush c v t e h k l u =
    let entries = shares (length c.workers) c.log in
    let n = end_node (begun_above c.log c.born) t e k in
    let is : IsNodeOf (begun_above c.log c.born) e n.0 = node_is (begun_above c.log c.born) e n.0 n.1 in
    let there = shares_has (length c.workers) (shard_of_txn t) c.log e v.manned h (end_shard t e.vector k) in
    let in_nodes = has_filter_map (node_of (begun_above c.log c.born)) entries e n.0 there n.1 in
    let w : is_within c.query (limit c) n.0.scn ≡ true = subst (λ s. is_within c.query (limit c) s ≡ true) (sym is.scn) (within_scn c.query (limit c) e.scn l u) in
    let in_flush = has_filter (λ (m : Node). is_within c.query (limit c) m.scn) (nodes_of c.log c.born entries) n.0 in_nodes w in (
      n.0,
      n.1,
      n.2,
      has_append_left (map node_item (flush_nodes c.log c.born c.query (limit c) entries)) (map ddl_item (flush_ddl c.query (limit c) entries)) (node_item n.0)
          (has_map node_item (flush_nodes c.log c.born c.query (limit c) entries) n.0 in_flush),
    )

pub ends_have_items : EndsHaveItems
ends_have_items c v t r =
    let p = end_in_flush c v t r.entry r.within r.end r.above r.upto in
    item_link c v (is_item_of t) (node_item p.0) p.3 (subst (λ m. is_item_of m (node_item p.0) ≡ true) p.2 (node_has_item p.0))

pub redefinitions_have_items : RedefinitionsHaveItems
redefinitions_have_items c v obj e h k l u =
    let entries = shares (length c.workers) c.log in
    let d = redefine_node obj e k in
    let there = shares_has (length c.workers) (shard_of_object obj) c.log e v.manned h (redefine_shard obj e.vector k) in
    let in_ddl = has_filter_map ddl_of entries e d.0 there d.1 in
    let w : is_within c.query (limit c) d.0.scn ≡ true = subst (λ s. is_within c.query (limit c) s ≡ true) (sym d.2) (within_scn c.query (limit c) e.scn l u) in
    let in_flush = has_filter (λ (m : DdlNode). is_within c.query (limit c) m.scn) (ddl_in entries) d.0 in_ddl w in
    item_link c v (is_drop_of obj) (ddl_item d.0)
    (has_append_right (map node_item (flush_nodes c.log c.born c.query (limit c) entries)) (map ddl_item (flush_ddl c.query (limit c) entries)) (ddl_item d.0)
    (has_map ddl_item (flush_ddl c.query (limit c) entries) d.0 in_flush))
    (eq-eqb d.0.obj obj d.3)

-- the item of a commit with the flag
committed_item : (t : ℕ) (n : Node) → n.kind ≡ node.Committed true → n.txn ≡ t
    → ((n.complete ≡ true) × (is_change_of t (node_item n) ≡ true)) ⊎ ((n.complete ≡ false) × (is_coarse (node_item n) ≡ true))
committed_item t n k e = by_test n.complete refl
  where
    by_test : (b : Bool) → n.complete ≡ b → ((b ≡ true) × (is_change_of t (end_item n.complete n.txn n.kind) ≡ true)) ⊎ ((b ≡ false) × (is_coarse (end_item n.complete n.txn n.kind) ≡ true))
    by_test true u = inl (refl, rw (u, k) (eq-eqb n.txn t e))
    by_test false u = inr (refl, rw (u, k) refl)

pub commits_have_items : CommitsHaveItems
commits_have_items facts c v n l t e h k w commit =
    let a = any_has_back (is_item_of t) l.items k in
    either a.0 a.1 a.2 (flush_item c.log c.born c.query (limit c) (length c.workers) a.0 (link_item c v n l a.0 h a.1))
  where
    either : (i : Item) → Has l.items i → is_item_of t i ≡ true → IsOfNode c.log c.born c.query (limit c) i ⊎ IsDdlItem i
        → ((begun_above c.log c.born t ≡ true) × (has_change t l.items ≡ true)) ⊎ ((begun_above c.log c.born t ≡ false) × (has_coarse l.items ≡ true))
    either i there u (inr d) = let x : is_item_of t (ddl_item d.0) ≡ true = subst (λ j. is_item_of t j ≡ true) (sym d.1) u in absurd (true≢false (sym x))
    either i there u (inl r) = by_item (committed_item t r.node kind same)
      where
        same : r.node.txn ≡ t
        same = item_of_node t r.node (subst (λ j. is_item_of t j ≡ true) (sym r.item) u)

        ends_t : ends t r.entry.vector ≡ true
        ends_t = subst (λ m. ends m r.entry.vector ≡ true) same r.is.end

        e_ends : ends t e.vector ≡ true
        e_ends = subst (λ x. ends t x ≡ true) (sym commit) (eq-eqb t t refl)

        one : r.entry ≡ e
        one = (facts c.log c.frontier v.log).ended_once t r.entry e r.within w ends_t e_ends

        kind : r.node.kind ≡ node.Committed true
        kind = node_kind (begun_above c.log c.born) r.entry r.node t true r.of (ap (λ (x : LogEntry). x.vector) one ∙ commit)

        complete : r.node.complete ≡ begun_above c.log c.born t
        complete = subst (λ m. r.node.complete ≡ begun_above c.log c.born m) same r.is.whole

        by_item : ((r.node.complete ≡ true) × (is_change_of t (node_item r.node) ≡ true)) ⊎ ((r.node.complete ≡ false) × (is_coarse (node_item r.node) ≡ true))
            → ((begun_above c.log c.born t ≡ true) × (has_change t l.items ≡ true)) ⊎ ((begun_above c.log c.born t ≡ false) × (has_coarse l.items ≡ true))
        by_item (inl p) = inl (sym complete ∙ p.0, any_has (is_change_of t) l.items i there (subst (λ j. is_change_of t j ≡ true) r.item p.1))
        by_item (inr p) = inr (sym complete ∙ p.0, any_has is_coarse l.items i there (subst (λ j. is_coarse j ≡ true) r.item p.1))

pub mined_below : MinedBelow
mined_below c v worker w e h k l = either (contains_take_cases w.mined (share_of c worker) e k)
  where
    either : Contains (take w.mined (share_of c worker)) e ⊎ Contains (drop w.mined (share_of c worker)) e → Contains (take w.mined (share_of c worker)) e
    either (inl u) = u
    either (inr u) =
        let above : w.progress < e.scn = each_has (λ (x : LogEntry). w.progress < x.scn) (drop w.mined (share_of c worker)) e (v.workers worker w h).counts.above (has (drop w.mined (share_of c worker)) e u) in
        absurd (omega arith)

pub next_is_above : NextIsAbove
next_is_above c v worker w e h k =
    let i = v.workers worker w h in
    let l : w.mined ≤ w.mined = omega arith in
    let above : w.progress < e.scn = each_drop_at (λ (x : LogEntry). w.progress < x.scn) w.mined w.mined (share_of c worker) e i.counts.above l k in
    let reached : limit c ≤ w.progress = i.progress.reached in
    (above, omega arith)
