-- Lemmas on shares, and on what the entries of a share are mined as.
use Rattle.std.proofs.Common.{◌≡◌, ℕ, ◌+◌, ◌<◌, ◌%◌, Bool, true, false, cond, List, Some, None, refl, sym, ap, ◌∙◌, subst, arith, true≢false, mod-lt}
use Rattle.std.specs.Prelude.{◌==◌, ◌&&◌, nat_lt}
use Rattle.std.specs.List.{Contains, range_with_len}
use Rattle.std.proofs.lemmas.Bool.{eqb-true, eq-eqb, ltb-true, lt-ltb, and_parts, and_from}
use Rattle.adg_base.specs.Address.{Place, place}
use Rattle.adg_base.specs.Shard.{shard_of_block, shard_of_txn, shard_of_object, shard_of_vector}
use Rattle.adg_base.specs.declared.vector.Vector.{Vector}
use Rattle.adg_base.specs.declared.vector.Vector.TheVariants.{Begin, Put, Delete, Undo, Commit, Abort, Create, DropObject, AddColumn, NoInMemory, EndThread}
use Rattle.adg_base.specs.declared.log.LogEntry.{LogEntry}
use Rattle.adg_base.specs.declared.node.Node.{Node}
use Rattle.adg_base.specs.declared.node.NodeKind.TheVariants as node
use Rattle.adg_base.specs.declared.node.DdlNode.{DdlNode}
use Rattle.adg_model.specs.declared.mined.Mined.TheVariants as mined
use Rattle.adg_model.specs.Database.{is_in_memory, table_at, touched_by}
use Rattle.adg_model.specs.Mined.{mined_of, mined_by, mined_at}
use Rattle.core_rules.specs.Share.{is_shared_by, share, shares, begins, ends, redefines, begun_above, node_by, node_of, ddl_by, ddl_of}
use Rattle.core_rules.proofs.Lists.{Has, has, contains, contains_filter, contains_filter_back, has_flat_map, has_flat_map_back, has_range, any_contains, any_contains_back}

-- an entry of a share is one of the log, and one of a shard is in the share of the shard's worker
pub share_log : (workers w : ℕ) (log : List LogEntry) (e : LogEntry) → Contains (share workers w log) e → Contains log e
share_log workers w log e h = (contains_filter_back (λ x. is_shared_by workers w (shard_of_vector x.vector)) log e h).0

pub share_own : (workers w : ℕ) (log : List LogEntry) (e : LogEntry) → Contains (share workers w log) e → is_shared_by workers w (shard_of_vector e.vector) ≡ true
share_own workers w log e h = (contains_filter_back (λ x. is_shared_by workers w (shard_of_vector x.vector)) log e h).1

pub share_contains : (workers w : ℕ) (log : List LogEntry) (e : LogEntry) → Contains log e → is_shared_by workers w (shard_of_vector e.vector) ≡ true → Contains (share workers w log) e
share_contains workers w log e h k = contains_filter (λ x. is_shared_by workers w (shard_of_vector x.vector)) log e h k

-- two shards of one worker, and the worker of a shard
pub shared_by : (workers shard : ℕ) → is_shared_by workers (shard % workers) (Some shard) ≡ true
shared_by workers shard = eq-eqb (shard % workers) (shard % workers) refl

-- the worker in whose share an entry of a shard is
pub share_with : (workers shard : ℕ) (log : List LogEntry) (e : LogEntry) → 0 < workers → Contains log e → shard_of_vector e.vector ≡ Some shard
    → (w : ℕ) × (w < workers) × Contains (share workers w log) e
share_with workers shard log e m h k =
    (shard % workers, mod-lt shard m, share_contains workers (shard % workers) log e h (subst (λ o. is_shared_by workers (shard % workers) o ≡ true) (sym k) (shared_by workers shard)))

-- so an entry of a shard is in all shares together, and what is in these is in the log
pub shares_has : (workers shard : ℕ) (log : List LogEntry) (e : LogEntry) → 0 < workers → Contains log e → shard_of_vector e.vector ≡ Some shard → Has (shares workers log) e
shares_has workers shard log e m h k =
    let r = share_with workers shard log e m h k in
    let zero_more : 0 + r.0 ≡ r.0 = omega arith in
    let within : Has (range_with_len 0 workers) r.0 = subst (λ n. Has (range_with_len 0 workers) n) zero_more (has_range workers 0 r.0 r.1) in
    has_flat_map (λ w. share workers w log) (range_with_len 0 workers) r.0 e within (has (share workers r.0 log) e r.2)

pub shares_log : (workers : ℕ) (log : List LogEntry) (e : LogEntry) → Has (shares workers log) e → Contains log e
shares_log workers log e h =
    let r = has_flat_map_back (λ w. share workers w log) (range_with_len 0 workers) e h in
    share_log workers r.0 log e (contains (share workers r.0 log) e r.2)

-- the shards of what begins, ends, touches and redefines
pub begin_shard : (t : ℕ) (v : Vector) → begins t v ≡ true → shard_of_vector v ≡ Some (shard_of_txn t)
begin_shard t (Begin txn) h = ap (λ n. Some (shard_of_txn n)) (eqb-true txn t h)
begin_shard t (Put txn o b s row) h = absurd (true≢false (sym h))
begin_shard t (Delete txn o b s) h = absurd (true≢false (sym h))
begin_shard t (Undo txn o b s) h = absurd (true≢false (sym h))
begin_shard t (Commit txn flag) h = absurd (true≢false (sym h))
begin_shard t (Abort txn) h = absurd (true≢false (sym h))
begin_shard t (Create o e f columns) h = absurd (true≢false (sym h))
begin_shard t (DropObject o) h = absurd (true≢false (sym h))
begin_shard t (AddColumn o k) h = absurd (true≢false (sym h))
begin_shard t (NoInMemory o) h = absurd (true≢false (sym h))
begin_shard t EndThread h = absurd (true≢false (sym h))

pub end_shard : (t : ℕ) (v : Vector) → ends t v ≡ true → shard_of_vector v ≡ Some (shard_of_txn t)
end_shard t (Commit txn flag) h = ap (λ n. Some (shard_of_txn n)) (eqb-true txn t h)
end_shard t (Abort txn) h = ap (λ n. Some (shard_of_txn n)) (eqb-true txn t h)
end_shard t (Begin txn) h = absurd (true≢false (sym h))
end_shard t (Put txn o b s row) h = absurd (true≢false (sym h))
end_shard t (Delete txn o b s) h = absurd (true≢false (sym h))
end_shard t (Undo txn o b s) h = absurd (true≢false (sym h))
end_shard t (Create o e f columns) h = absurd (true≢false (sym h))
end_shard t (DropObject o) h = absurd (true≢false (sym h))
end_shard t (AddColumn o k) h = absurd (true≢false (sym h))
end_shard t (NoInMemory o) h = absurd (true≢false (sym h))
end_shard t EndThread h = absurd (true≢false (sym h))

pub redefine_shard : (o : ℕ) (v : Vector) → redefines o v ≡ true → shard_of_vector v ≡ Some (shard_of_object o)
redefine_shard o (DropObject obj) h = ap (λ n. Some (shard_of_object n)) (eqb-true obj o h)
redefine_shard o (AddColumn obj k) h = ap (λ n. Some (shard_of_object n)) (eqb-true obj o h)
redefine_shard o (NoInMemory obj) h = ap (λ n. Some (shard_of_object n)) (eqb-true obj o h)
redefine_shard o (Begin txn) h = absurd (true≢false (sym h))
redefine_shard o (Put txn obj b s row) h = absurd (true≢false (sym h))
redefine_shard o (Delete txn obj b s) h = absurd (true≢false (sym h))
redefine_shard o (Undo txn obj b s) h = absurd (true≢false (sym h))
redefine_shard o (Commit txn flag) h = absurd (true≢false (sym h))
redefine_shard o (Abort txn) h = absurd (true≢false (sym h))
redefine_shard o (Create obj e f columns) h = absurd (true≢false (sym h))
redefine_shard o EndThread h = absurd (true≢false (sym h))

-- what an entry notes of an address is what it touches
at_note : (log : List LogEntry) (scn txn t : ℕ) (a b : Place) → mined_at log scn txn a ≡ Some (mined.Note t b) → (txn ≡ t) × (a ≡ b)
at_note log scn txn t a b h = by_test (is_in_memory (table_at log scn a.obj)) h
  where
    by_test : (x : Bool) → cond x (Some (mined.Note txn a)) None ≡ Some (mined.Note t b) → (txn ≡ t) × (a ≡ b)
    by_test true k = (cc, cc)
    by_test false k = absurd cc

touch_same : (txn t : ℕ) (a b : Place) → txn ≡ t → a ≡ b → cond (txn == t) (Some a) None ≡ Some b
touch_same txn t a b h k = rw (eq-eqb txn t h) (ap Some k)

pub note_touches : (log : List LogEntry) (e : LogEntry) (t : ℕ) (a : Place) → mined_of log e ≡ Some (mined.Note t a) → touched_by t e.vector ≡ Some a
note_touches log e t a h = by_vector e.vector h
  where
    by_vector : (v : Vector) → mined_by log e.scn v ≡ Some (mined.Note t a) → touched_by t v ≡ Some a
    by_vector (Put txn o b s row) k = let r = at_note log e.scn txn t (place o b s) a k in touch_same txn t (place o b s) a r.0 r.1
    by_vector (Delete txn o b s) k = let r = at_note log e.scn txn t (place o b s) a k in touch_same txn t (place o b s) a r.0 r.1
    by_vector (Undo txn o b s) k = let r = at_note log e.scn txn t (place o b s) a k in touch_same txn t (place o b s) a r.0 r.1
    by_vector (Begin txn) k = absurd cc
    by_vector (Commit txn flag) k = absurd cc
    by_vector (Abort txn) k = absurd cc
    by_vector (Create o x f columns) k = let c : None ≡ Some (mined.Note t a) = k in absurd cc
    by_vector (DropObject o) k = absurd cc
    by_vector (AddColumn o x) k = absurd cc
    by_vector (NoInMemory o) k = absurd cc
    by_vector EndThread k = let c : None ≡ Some (mined.Note t a) = k in absurd cc

-- what touches belongs to the shard of the block
touch_of : (txn t : ℕ) (a b : Place) → cond (txn == t) (Some a) None ≡ Some b → a ≡ b
touch_of txn t a b h = by_test (txn == t) h
  where
    by_test : (x : Bool) → cond x (Some a) None ≡ Some b → a ≡ b
    by_test true k = cc
    by_test false k = let c : None ≡ Some b = k in absurd cc

pub touch_shard : (t : ℕ) (v : Vector) (a : Place) → touched_by t v ≡ Some a → shard_of_vector v ≡ Some (shard_of_block a.obj a.block)
touch_shard t (Put txn o b s row) a h = ap (λ (p : Place). Some (shard_of_block p.obj p.block)) (touch_of txn t (place o b s) a h)
touch_shard t (Delete txn o b s) a h = ap (λ (p : Place). Some (shard_of_block p.obj p.block)) (touch_of txn t (place o b s) a h)
touch_shard t (Undo txn o b s) a h = ap (λ (p : Place). Some (shard_of_block p.obj p.block)) (touch_of txn t (place o b s) a h)
touch_shard t (Begin txn) a h = let c : None ≡ Some a = h in absurd cc
touch_shard t (Commit txn flag) a h = let c : None ≡ Some a = h in absurd cc
touch_shard t (Abort txn) a h = let c : None ≡ Some a = h in absurd cc
touch_shard t (Create o e f columns) a h = let c : None ≡ Some a = h in absurd cc
touch_shard t (DropObject o) a h = let c : None ≡ Some a = h in absurd cc
touch_shard t (AddColumn o k) a h = let c : None ≡ Some a = h in absurd cc
touch_shard t (NoInMemory o) a h = let c : None ≡ Some a = h in absurd cc
touch_shard t EndThread a h = let c : None ≡ Some a = h in absurd cc

-- a node is of the entry that ends its transaction
pub record IsNodeOf (complete : ℕ → Bool) (e : LogEntry) (n : Node) : Type 0 where
  pub scn : n.scn ≡ e.scn
  pub pos : n.pos ≡ e.pos
  pub end : ends n.txn e.vector ≡ true
  pub whole : n.complete ≡ complete n.txn

node_parts : (complete : ℕ → Bool) (e : LogEntry) (v : Vector) (n : Node) → node_by complete e.scn e.pos v ≡ Some n
    → (n.scn ≡ e.scn) × (n.pos ≡ e.pos) × (ends n.txn v ≡ true) × (n.complete ≡ complete n.txn)
node_parts complete e (Commit txn flag) n h =
    let made : Node = record { scn = e.scn; pos = e.pos; txn = txn; complete = complete txn; kind = node.Committed flag } in
    let k : made ≡ n = cc in
    subst (λ (m : Node). (m.scn ≡ e.scn) × (m.pos ≡ e.pos) × (ends m.txn (Commit txn flag) ≡ true) × (m.complete ≡ complete m.txn)) k (refl, refl, eq-eqb txn txn refl, refl)
node_parts complete e (Abort txn) n h =
    let made : Node = record { scn = e.scn; pos = e.pos; txn = txn; complete = complete txn; kind = node.Aborted } in
    let k : made ≡ n = cc in
    subst (λ (m : Node). (m.scn ≡ e.scn) × (m.pos ≡ e.pos) × (ends m.txn (Abort txn) ≡ true) × (m.complete ≡ complete m.txn)) k (refl, refl, eq-eqb txn txn refl, refl)
node_parts complete e (Begin txn) n h = let c : None ≡ Some n = h in absurd cc
node_parts complete e (Put txn o b s row) n h = let c : None ≡ Some n = h in absurd cc
node_parts complete e (Delete txn o b s) n h = let c : None ≡ Some n = h in absurd cc
node_parts complete e (Undo txn o b s) n h = let c : None ≡ Some n = h in absurd cc
node_parts complete e (Create o x f columns) n h = let c : None ≡ Some n = h in absurd cc
node_parts complete e (DropObject o) n h = let c : None ≡ Some n = h in absurd cc
node_parts complete e (AddColumn o k) n h = let c : None ≡ Some n = h in absurd cc
node_parts complete e (NoInMemory o) n h = let c : None ≡ Some n = h in absurd cc
node_parts complete e EndThread n h = let c : None ≡ Some n = h in absurd cc

pub node_is : (complete : ℕ → Bool) (e : LogEntry) (n : Node) → node_of complete e ≡ Some n → IsNodeOf complete e n
node_is complete e n h = let r = node_parts complete e e.vector n h in record { scn = r.0; pos = r.1; end = r.2; whole = r.3 }

-- an entry that ends a transaction has a node
pub end_node : (complete : ℕ → Bool) (t : ℕ) (e : LogEntry) → ends t e.vector ≡ true → (n : Node) × (node_of complete e ≡ Some n) × (n.txn ≡ t)
end_node complete t e h = by_vector e.vector h
  where
    by_vector : (v : Vector) → ends t v ≡ true → (n : Node) × (node_by complete e.scn e.pos v ≡ Some n) × (n.txn ≡ t)
    by_vector (Commit txn flag) k = (record { scn = e.scn; pos = e.pos; txn = txn; complete = complete txn; kind = node.Committed flag }, refl, eqb-true txn t k)
    by_vector (Abort txn) k = (record { scn = e.scn; pos = e.pos; txn = txn; complete = complete txn; kind = node.Aborted }, refl, eqb-true txn t k)
    by_vector (Begin txn) k = absurd (true≢false (sym k))
    by_vector (Put txn o b s row) k = absurd (true≢false (sym k))
    by_vector (Delete txn o b s) k = absurd (true≢false (sym k))
    by_vector (Undo txn o b s) k = absurd (true≢false (sym k))
    by_vector (Create o x f columns) k = absurd (true≢false (sym k))
    by_vector (DropObject o) k = absurd (true≢false (sym k))
    by_vector (AddColumn o x) k = absurd (true≢false (sym k))
    by_vector (NoInMemory o) k = absurd (true≢false (sym k))
    by_vector EndThread k = absurd (true≢false (sym k))

-- the kind of a node tells its vector
pub node_committed : (complete : ℕ → Bool) (e : LogEntry) (n : Node) (flag : Bool) → node_of complete e ≡ Some n → n.kind ≡ node.Committed flag → e.vector ≡ Commit n.txn flag
node_committed complete e n flag h k = by_vector e.vector h
  where
    by_vector : (v : Vector) → node_by complete e.scn e.pos v ≡ Some n → v ≡ Commit n.txn flag
    by_vector (Commit txn f) u =
        let made : Node = record { scn = e.scn; pos = e.pos; txn = txn; complete = complete txn; kind = node.Committed f } in
        let m : made ≡ n = cc in
        let same : txn ≡ n.txn = ap (λ (x : Node). x.txn) m in
        let kinds : node.Committed f ≡ node.Committed flag = ap (λ (x : Node). x.kind) m ∙ k in
        let flags : f ≡ flag = cc in
        cc
    by_vector (Abort txn) u =
        let made : Node = record { scn = e.scn; pos = e.pos; txn = txn; complete = complete txn; kind = node.Aborted } in
        let m : made ≡ n = cc in
        let kinds : node.Aborted ≡ node.Committed flag = ap (λ (x : Node). x.kind) m ∙ k in
        absurd cc
    by_vector (Begin txn) u = let c : None ≡ Some n = u in absurd cc
    by_vector (Put txn o b s row) u = let c : None ≡ Some n = u in absurd cc
    by_vector (Delete txn o b s) u = let c : None ≡ Some n = u in absurd cc
    by_vector (Undo txn o b s) u = let c : None ≡ Some n = u in absurd cc
    by_vector (Create o x f columns) u = let c : None ≡ Some n = u in absurd cc
    by_vector (DropObject o) u = let c : None ≡ Some n = u in absurd cc
    by_vector (AddColumn o x) u = let c : None ≡ Some n = u in absurd cc
    by_vector (NoInMemory o) u = let c : None ≡ Some n = u in absurd cc
    by_vector EndThread u = let c : None ≡ Some n = u in absurd cc

pub node_kind : (complete : ℕ → Bool) (e : LogEntry) (n : Node) (t : ℕ) (flag : Bool) → node_of complete e ≡ Some n → e.vector ≡ Commit t flag → n.kind ≡ node.Committed flag
node_kind complete e n t flag h k =
    let made : Node = record { scn = e.scn; pos = e.pos; txn = t; complete = complete t; kind = node.Committed flag } in
    let u : Some made ≡ Some n = subst (λ v. node_by complete e.scn e.pos v ≡ Some n) k h in
    let m : made ≡ n = cc in
    sym (ap (λ (x : Node). x.kind) m)

-- an entry that changes a definition has a node
pub redefine_node : (o : ℕ) (e : LogEntry) → redefines o e.vector ≡ true → (d : DdlNode) × (ddl_of e ≡ Some d) × (d.scn ≡ e.scn) × (d.obj ≡ o)
redefine_node o e h = by_vector e.vector h
  where
    by_vector : (v : Vector) → redefines o v ≡ true → (d : DdlNode) × (ddl_by e.scn v ≡ Some d) × (d.scn ≡ e.scn) × (d.obj ≡ o)
    by_vector (DropObject obj) k = (record { scn = e.scn; obj = obj }, refl, refl, eqb-true obj o k)
    by_vector (AddColumn obj x) k = (record { scn = e.scn; obj = obj }, refl, refl, eqb-true obj o k)
    by_vector (NoInMemory obj) k = (record { scn = e.scn; obj = obj }, refl, refl, eqb-true obj o k)
    by_vector (Begin txn) k = absurd (true≢false (sym k))
    by_vector (Put txn obj b s row) k = absurd (true≢false (sym k))
    by_vector (Delete txn obj b s) k = absurd (true≢false (sym k))
    by_vector (Undo txn obj b s) k = absurd (true≢false (sym k))
    by_vector (Commit txn flag) k = absurd (true≢false (sym k))
    by_vector (Abort txn) k = absurd (true≢false (sym k))
    by_vector (Create obj x f columns) k = absurd (true≢false (sym k))
    by_vector EndThread k = absurd (true≢false (sym k))

-- where a transaction began
pub begun_entry : (log : List LogEntry) (scn t : ℕ) → begun_above log scn t ≡ true → (e : LogEntry) × Contains log e × (begins t e.vector ≡ true) × (scn < e.scn)
begun_entry log scn t h =
    let r = any_contains_back (λ (e : LogEntry). begins t e.vector && nat_lt scn e.scn) log h in
    let p = and_parts (begins t r.0.vector) (nat_lt scn r.0.scn) r.2 in
    (r.0, r.1, p.0, ltb-true scn r.0.scn p.1)

pub entry_begun : (log : List LogEntry) (scn t : ℕ) (e : LogEntry) → Contains log e → begins t e.vector ≡ true → scn < e.scn → begun_above log scn t ≡ true
entry_begun log scn t e h b l =
    any_contains (λ (x : LogEntry). begins t x.vector && nat_lt scn x.scn) log e h (and_from (begins t e.vector) (nat_lt scn e.scn) b (lt-ltb scn e.scn l))
