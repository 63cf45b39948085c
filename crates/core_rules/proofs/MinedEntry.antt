-- Mine keeps the invariant.
use Rattle.std.proofs.Common.{◌≡◌, ℕ, ◌+◌, ◌<◌, ◌≤◌, Bool, true, false, cond, ◌&&◌, List, [], ◌∷◌, ◌++◌, map, filter, length, take, Option, Some, None, ◌⊎◌, inl, inr, refl, sym, ap, ap₂, ◌∙◌, subst, arith, true≢false}
use Rattle.std.specs.Prelude.{◌==◌, nat_lt, option_to_list}
use Rattle.std.specs.List.{Contains, cons_option}
use Rattle.std.proofs.lemmas.Bool.{eqb-true, eq-eqb, lt-ltb, and_parts, and_from, cases_order}
use Rattle.std.proofs.lemmas.List.Elements.{filter-append, filter_map-append}
use Rattle.adg_base.specs.Address.{Place, place}
use Rattle.adg_base.specs.Area.{Held, HoldsPlace, HoldsBegin}
use Rattle.adg_base.specs.Shard.{shard_of_vector}
use Rattle.adg_base.specs.declared.vector.Vector.{Vector}
use Rattle.adg_base.specs.declared.vector.Vector.TheVariants.{Begin, Put, Delete, Undo, Commit, Abort, Create, DropObject, AddColumn, NoInMemory, EndThread}
use Rattle.adg_base.specs.declared.log.LogEntry.{LogEntry}
use Rattle.adg_base.specs.declared.node.Node.{Node}
use Rattle.adg_base.specs.declared.node.NodeKind.TheVariants as node
use Rattle.adg_base.specs.declared.node.DdlNode.{DdlNode}
use Rattle.adg_model.specs.declared.mined.Mined.{Mined}
use Rattle.adg_model.specs.declared.mined.Mined.TheVariants as mined
use Rattle.adg_model.specs.Database.{is_in_memory, table_at, touched_by}
use Rattle.adg_model.specs.Mined.{mined_of, mined_by, mined_at}
use Rattle.core_rules.specs.Share.{is_shared_by, share, begins, ends, begun_above, node_by, node_of, nodes_of, ddl_by, ddl_of, NotedIn, BegunIn}
use Rattle.core_rules.specs.State.{CoreState, Worker, At, share_of, limit, holds_begin}
use Rattle.core_rules.specs.Applying.{Mines, AreaTakes, mined_node, mined_ddl, entered_if}
use Rattle.core_rules.specs.LogFacts.{LogFacts, LogHasFacts}
use Rattle.core_rules.specs.Parts.{AreaIs, IsGone, PartitionIs, DdlIs, mined_from}
use Rattle.core_rules.specs.Invariant.{Invariant, Precise, WorkerIs}
use Rattle.core_rules.proofs.Lists.{Has, has, contains, has_append_left, has_append_right, has_append_cases, at_same, at_contains, contains_at, at_map, at_take, take_next, map_set, each_drop_next, any_contains, any_contains_back, filter_order, contains_take}
use Rattle.core_rules.proofs.Shares.{share_log, share_own, share_contains, begin_shard, end_shard, note_touches, node_is, begun_entry, entry_begun}
use Rattle.core_rules.proofs.Keeps.{Keeps, KeepsPrecise}
use Rattle.core_rules.proofs.Items.{items_end, next_is_above}
use Rattle.core_rules.proofs.Crew.{IsIn, hold_same, counts_with, crew_keeps}
use Rattle.core_rules.proofs.MinedLists.{SplitsMined, splits_mined, mined_ddl_keeps}

-- what is mined as a beginning begins, and the other way round
begin_note : (log : List LogEntry) (e : LogEntry) (t : ℕ) → mined_of log e ≡ Some (mined.Begin t) → begins t e.vector ≡ true
begin_note log e t h = by_vector e.vector h
  where
    no_begin : (a : Place) (txn : ℕ) → mined_at log e.scn txn a ≡ Some (mined.Begin t) → ⊥
    no_begin a txn k = by_test (is_in_memory (table_at log e.scn a.obj)) k
      where
        by_test : (x : Bool) → cond x (Some (mined.Note txn a)) None ≡ Some (mined.Begin t) → ⊥
        by_test true u = absurd cc
        by_test false u = absurd cc

    by_vector : (v : Vector) → mined_by log e.scn v ≡ Some (mined.Begin t) → begins t v ≡ true
    by_vector (Begin txn) k = eq-eqb txn t cc
    by_vector (Put txn o b s row) k = absurd (no_begin (place o b s) txn k)
    by_vector (Delete txn o b s) k = absurd (no_begin (place o b s) txn k)
    by_vector (Undo txn o b s) k = absurd (no_begin (place o b s) txn k)
    by_vector (Commit txn flag) k = absurd cc
    by_vector (Abort txn) k = absurd cc
    by_vector (Create o x f columns) k = let c : None ≡ Some (mined.Begin t) = k in absurd cc
    by_vector (DropObject o) k = absurd cc
    by_vector (AddColumn o x) k = absurd cc
    by_vector (NoInMemory o) k = absurd cc
    by_vector EndThread k = let c : None ≡ Some (mined.Begin t) = k in absurd cc

begin_mined : (log : List LogEntry) (e : LogEntry) (t : ℕ) → begins t e.vector ≡ true → mined_of log e ≡ Some (mined.Begin t)
begin_mined log e t h = by_vector e.vector h
  where
    by_vector : (v : Vector) → begins t v ≡ true → mined_by log e.scn v ≡ Some (mined.Begin t)
    by_vector (Begin txn) k = ap (λ n. Some (mined.Begin n)) (eqb-true txn t k)
    by_vector (Put txn o b s row) k = absurd (true≢false (sym k))
    by_vector (Delete txn o b s) k = absurd (true≢false (sym k))
    by_vector (Undo txn o b s) k = absurd (true≢false (sym k))
    by_vector (Commit txn flag) k = absurd (true≢false (sym k))
    by_vector (Abort txn) k = absurd (true≢false (sym k))
    by_vector (Create o x f columns) k = absurd (true≢false (sym k))
    by_vector (DropObject o) k = absurd (true≢false (sym k))
    by_vector (AddColumn o x) k = absurd (true≢false (sym k))
    by_vector (NoInMemory o) k = absurd (true≢false (sym k))
    by_vector EndThread k = absurd (true≢false (sym k))

-- the mark of an area by its test
begin_held : (area : List Held) (t : ℕ) → holds_begin area t ≡ true → HoldsBegin area t
begin_held area t h =
    let r = any_contains_back (λ (x : Held). (x.txn == t) && x.begun) area h in
    let p = and_parts (r.0.txn == t) r.0.begun r.2 in
    record { held = r.0; within = r.1; of = eqb-true r.0.txn t p.0; noted = p.1 }

held_begin : (area : List Held) (t : ℕ) → HoldsBegin area t → holds_begin area t ≡ true
held_begin area t h = any_contains (λ (x : Held). (x.txn == t) && x.begun) area h.held h.within (and_from (h.held.txn == t) h.held.begun (eq-eqb h.held.txn t h.of) h.noted)

same_tests : (a b : Bool) → (a ≡ true → b ≡ true) → (b ≡ true → a ≡ true) → a ≡ b
same_tests true b h k = sym (h refl)
same_tests false true h k = k refl
same_tests false false h k = refl

-- The node and the change of a definition that are mined are those of the entry's vector.
same_node : (log : List LogEntry) (e : LogEntry) (area : List Held) (complete : ℕ → Bool) → ((t : ℕ) → ends t e.vector ≡ true → holds_begin area t ≡ complete t)
    → mined_node e area (mined_of log e) ≡ node_of complete e
same_node log e area complete same = by_vector e.vector same
  where
    none : (scn txn : ℕ) (a : Place) → mined_node e area (mined_at log scn txn a) ≡ None
    none scn txn a = by_test (is_in_memory (table_at log scn a.obj))
      where
        by_test : (x : Bool) → mined_node e area (cond x (Some (mined.Note txn a)) None) ≡ None
        by_test true = refl
        by_test false = refl

    by_vector : (v : Vector) → ((t : ℕ) → ends t v ≡ true → holds_begin area t ≡ complete t) → mined_node e area (mined_by log e.scn v) ≡ node_by complete e.scn e.pos v
    by_vector (Begin txn) k = refl
    by_vector (Put txn o b s row) k = none e.scn txn (place o b s)
    by_vector (Delete txn o b s) k = none e.scn txn (place o b s)
    by_vector (Undo txn o b s) k = none e.scn txn (place o b s)
    by_vector (Commit txn flag) k = ap (λ b. Some (record { scn = e.scn; pos = e.pos; txn = txn; complete = b; kind = node.Committed flag })) (k txn (eq-eqb txn txn refl))
    by_vector (Abort txn) k = ap (λ b. Some (record { scn = e.scn; pos = e.pos; txn = txn; complete = b; kind = node.Aborted })) (k txn (eq-eqb txn txn refl))
    by_vector (Create o x f columns) k = refl
    by_vector (DropObject o) k = refl
    by_vector (AddColumn o x) k = refl
    by_vector (NoInMemory o) k = refl
    by_vector EndThread k = refl

same_ddl : (log : List LogEntry) (e : LogEntry) → mined_ddl e (mined_of log e) ≡ ddl_of e
same_ddl log e = by_vector e.vector
  where
    none : (scn txn : ℕ) (a : Place) → mined_ddl e (mined_at log scn txn a) ≡ None
    none scn txn a = by_test (is_in_memory (table_at log scn a.obj))
      where
        by_test : (x : Bool) → mined_ddl e (cond x (Some (mined.Note txn a)) None) ≡ None
        by_test true = refl
        by_test false = refl

    by_vector : (v : Vector) → mined_ddl e (mined_by log e.scn v) ≡ ddl_by e.scn v
    by_vector (Begin txn) = refl
    by_vector (Put txn o b s row) = none e.scn txn (place o b s)
    by_vector (Delete txn o b s) = none e.scn txn (place o b s)
    by_vector (Undo txn o b s) = none e.scn txn (place o b s)
    by_vector (Commit txn flag) = refl
    by_vector (Abort txn) = refl
    by_vector (Create o x f columns) = refl
    by_vector (DropObject o) = refl
    by_vector (AddColumn o x) = refl
    by_vector (NoInMemory o) = refl
    by_vector EndThread = refl

pub ddl_scn : (e : LogEntry) (d : DdlNode) → ddl_of e ≡ Some d → d.scn ≡ e.scn
ddl_scn e d h = by_vector e.vector h
  where
    made : (o : ℕ) → Some (record { scn = e.scn; obj = o }) ≡ Some d → d.scn ≡ e.scn
    made o k = let m : DdlNode = record { scn = e.scn; obj = o } in let u : m ≡ d = cc in sym (ap (λ (x : DdlNode). x.scn) u)

    by_vector : (v : Vector) → ddl_by e.scn v ≡ Some d → d.scn ≡ e.scn
    by_vector (DropObject o) k = made o k
    by_vector (AddColumn o x) k = made o k
    by_vector (NoInMemory o) k = made o k
    by_vector (Begin txn) k = let c : None ≡ Some d = k in absurd cc
    by_vector (Put txn o b s row) k = let c : None ≡ Some d = k in absurd cc
    by_vector (Delete txn o b s) k = let c : None ≡ Some d = k in absurd cc
    by_vector (Undo txn o b s) k = let c : None ≡ Some d = k in absurd cc
    by_vector (Commit txn flag) k = let c : None ≡ Some d = k in absurd cc
    by_vector (Abort txn) k = let c : None ≡ Some d = k in absurd cc
    by_vector (Create o x f columns) k = let c : None ≡ Some d = k in absurd cc
    by_vector EndThread k = let c : None ≡ Some d = k in absurd cc

-- What is mined next: an entry of the share, above all that is cut.
pub record IsNextMined (c : CoreState) (worker : ℕ) (w : Worker) (e : LogEntry) : Type 0 where
  pub found : At c.workers worker w
  pub next : At (share_of c worker) w.mined e
  pub within : Contains c.log e
  pub own : is_shared_by (length c.workers) worker (shard_of_vector e.vector) ≡ true
  pub above : limit c < e.scn

pub next_mined : (c : CoreState) → Invariant c → (worker : ℕ) (w : Worker) (e : LogEntry) → At c.workers worker w → At (share_of c worker) w.mined e → IsNextMined c worker w e
next_mined c v worker w e h k =
    let there = at_contains (share_of c worker) w.mined e k in
    record {
      found = h;
      next = k;
      within = share_log (length c.workers) worker c.log e there;
      own = share_own (length c.workers) worker c.log e there;
      above = (next_is_above c v worker w e h k).1;
    }

-- A transaction that is gone from an area ended at or below the limit.
gone_end : (c : CoreState) → Invariant c → (place t : ℕ) → IsGone c.log c.born c.query c.links place t → (f : LogEntry) × Contains c.log f × (ends t f.vector ≡ true) × (f.scn ≤ limit c)
gone_end c v place t (inl r) =
    let upto : r.entry.scn ≤ c.query = r.upto in
    let published : c.query ≤ limit c = v.numbers.published in
    (r.entry, r.within, r.end, omega arith)
gone_end c v place t (inr p) = let r = items_end c v p.number p.link t p.found p.of in (r.entry, r.within, r.end, r.upto)

-- So the next entry neither begins nor touches nor ends one that is gone.
touch_not_gone : (c : CoreState) → LogHasFacts → Invariant c → (worker : ℕ) (w : Worker) (e : LogEntry) → IsNextMined c worker w e → (place t : ℕ) (a : Place)
    → touched_by t e.vector ≡ Some a → IsGone c.log c.born c.query c.links place t → ⊥
touch_not_gone c facts v worker w e n place t a h g =
    let f = gone_end c v place t g in
    let order = (facts c.log c.frontier v.log).touched_to_end t a e f.0 n.within f.1 h f.2 in
    let above : limit c < e.scn = n.above in
    omega arith

begin_not_gone : (c : CoreState) → LogHasFacts → Invariant c → (worker : ℕ) (w : Worker) (e : LogEntry) → IsNextMined c worker w e → (place t : ℕ)
    → begins t e.vector ≡ true → IsGone c.log c.born c.query c.links place t → ⊥
begin_not_gone c facts v worker w e n place t h g =
    let f = gone_end c v place t g in
    let log = facts c.log c.frontier v.log in
    let b = log.begun_to_end t f.0 f.1 f.2 in
    let same : b.0 ≡ e = log.begun_once t b.0 e b.1 n.within b.2 h in
    let scns : b.0.scn ≡ e.scn = ap (λ (x : LogEntry). x.scn) same in
    let above : limit c < e.scn = n.above in
    omega arith

end_not_gone : (c : CoreState) → LogHasFacts → Invariant c → (worker : ℕ) (w : Worker) (e : LogEntry) → IsNextMined c worker w e → (place t : ℕ)
    → ends t e.vector ≡ true → IsGone c.log c.born c.query c.links place t → ⊥
end_not_gone c facts v worker w e n place t h g =
    let f = gone_end c v place t g in
    let same : f.0 ≡ e = (facts c.log c.frontier v.log).ended_once t f.0 e f.1 n.within f.2 h in
    let scns : f.0.scn ≡ e.scn = ap (λ (x : LogEntry). x.scn) same in
    let above : limit c < e.scn = n.above in
    omega arith

-- The beginning of a transaction that the next entry ends is mined, in the same share.
begin_is_mined : (c : CoreState) → LogHasFacts → Invariant c → (worker : ℕ) (w : Worker) (e : LogEntry) → IsNextMined c worker w e → (t : ℕ) (b : LogEntry)
    → ends t e.vector ≡ true → Contains c.log b → begins t b.vector ≡ true → Contains (take w.mined (share_of c worker)) b
begin_is_mined c facts v worker w e n t b h k u = by_place (cases_order at.0 w.mined)
  where
    log : LogFacts c.log c.frontier
    log = facts c.log c.frontier v.log

    own : is_shared_by (length c.workers) worker (shard_of_vector b.vector) ≡ true
    own = subst (λ o. is_shared_by (length c.workers) worker o ≡ true) (end_shard t e.vector h ∙ sym (begin_shard t b.vector u)) n.own

    at : (i : ℕ) × At (share_of c worker) i b
    at = contains_at (share_of c worker) b (share_contains (length c.workers) worker c.log b k own)

    earlier : b.pos < e.pos
    earlier = pos_of (log.begun_to_end t e n.within h)
      where
        pos_of : (x : LogEntry) × Contains c.log x × (begins t x.vector ≡ true) × (x.pos < e.pos) × (x.scn ≤ e.scn) → b.pos < e.pos
        pos_of r =
            let same : r.0 ≡ b = log.begun_once t r.0 b r.1 k r.2 u in
            let poses : r.0.pos ≡ b.pos = ap (λ (x : LogEntry). x.pos) same in
            let before : r.0.pos < e.pos = r.3 in
            omega arith

    not_later : w.mined < at.0 → ⊥
    not_later l =
        let r = filter_order (λ (x : LogEntry). is_shared_by (length c.workers) worker (shard_of_vector x.vector)) c.log w.mined at.0 e b l n.next at.1 in
        let e_pos : e.pos ≡ r.0 = log.positions r.0 e r.2 in
        let b_pos : b.pos ≡ r.1 = log.positions r.1 b r.3 in
        let less : r.0 < r.1 = r.4 in
        let before : b.pos < e.pos = earlier in
        omega arith

    by_place : (at.0 ≡ w.mined) ⊎ ((at.0 < w.mined) ⊎ (w.mined < at.0)) → Contains (take w.mined (share_of c worker)) b
    by_place (inl same) =
        let b_at : At (share_of c worker) w.mined b = subst (λ i. At (share_of c worker) i b) same at.1 in
        let one : b ≡ e = at_same (share_of c worker) w.mined b e b_at n.next in
        let poses : b.pos ≡ e.pos = ap (λ (x : LogEntry). x.pos) one in
        let before : b.pos < e.pos = earlier in
        absurd (omega arith)
    by_place (inr (inl l)) = at_contains (take w.mined (share_of c worker)) at.0 b (at_take (share_of c worker) w.mined at.0 b l at.1)
    by_place (inr (inr l)) = absurd (not_later l)

-- So the mark of the area tells whether all changes of a transaction that ends next were noted.
pub mark_tells : (c : CoreState) → LogHasFacts → Invariant c → (worker : ℕ) (w : Worker) (e : LogEntry) → IsNextMined c worker w e → (t : ℕ)
    → ends t e.vector ≡ true → holds_begin w.area t ≡ begun_above c.log c.born t
mark_tells c facts v worker w e n t h = same_tests (holds_begin w.area t) (begun_above c.log c.born t) noted begun
  where
    area : AreaIs c.log c.born c.query c.links worker (take w.mined (share_of c worker)) w.area
    area = (v.workers worker w n.found).area

    noted : holds_begin w.area t ≡ true → begun_above c.log c.born t ≡ true
    noted k =
        let r = area.begun t (begin_held w.area t k) in
        let there = share_log (length c.workers) worker c.log r.entry (contains_take w.mined (share_of c worker) r.entry r.within) in
        entry_begun c.log c.born t r.entry there r.begin r.above

    begun : begun_above c.log c.born t ≡ true → holds_begin w.area t ≡ true
    begun k =
        let b = begun_entry c.log c.born t k in
        let in_mined = begin_is_mined c facts v worker w e n t b.0 h b.1 b.2 in
        held_begin w.area t (area.holds_begin t (record { entry = b.0; within = in_mined; above = b.3; begin = b.2 }) (end_not_gone c facts v worker w e n worker t h))

-- the entries mined with the next one
one_more_cases : (xs : List LogEntry) (n : ℕ) (e x : LogEntry) → At xs n e → Contains (take (n + 1) xs) x → Contains (take n xs) x ⊎ (x ≡ e)
one_more_cases xs n e x h k = either (has_append_cases (take n xs) (e ∷ []) x (subst (λ es. Has es x) (take_next xs n e h) (has (take (n + 1) xs) x k)))
  where
    either : Has (take n xs) x ⊎ Has (e ∷ []) x → Contains (take n xs) x ⊎ (x ≡ e)
    either (inl u) = inl (contains (take n xs) x u)
    either (inr (inl u)) = inr (sym u)
    either (inr (inr u)) = absurd u

one_more_old : (xs : List LogEntry) (n : ℕ) (e x : LogEntry) → At xs n e → Contains (take n xs) x → Contains (take (n + 1) xs) x
one_more_old xs n e x h k = contains (take (n + 1) xs) x (subst (λ es. Has es x) (sym (take_next xs n e h)) (has_append_left (take n xs) (e ∷ []) x (has (take n xs) x k)))

one_more_new : (xs : List LogEntry) (n : ℕ) (e : LogEntry) → At xs n e → Contains (take (n + 1) xs) e
one_more_new xs n e h = contains (take (n + 1) xs) e (subst (λ es. Has es e) (sym (take_next xs n e h)) (has_append_right (take n xs) (e ∷ []) e (inl refl)))

-- the area with what the next entry notes
mined_area : (c : CoreState) → LogHasFacts → Invariant c → (worker : ℕ) (w : Worker) (e : LogEntry) → IsNextMined c worker w e → (area : List Held)
    → AreaTakes (mined_of c.log e) w.area area → AreaIs c.log c.born c.query c.links worker (take (w.mined + 1) (share_of c worker)) area
mined_area c facts v worker w e n area takes = record {
  noted = λ t a h. noted t a (takes.places_only t a h);
  stays = λ t a h. stays t a (takes.places_only t a h);
  holds = holds;
  begun = λ t h. begun t (takes.begins_only t h);
  begin_stays = λ t h. begin_stays t (takes.begins_only t h);
  holds_begin = holds_begin_new;
}
  where
    entries : List LogEntry
    entries = share_of c worker

    old : AreaIs c.log c.born c.query c.links worker (take w.mined entries) w.area
    old = (v.workers worker w n.found).area

    above : c.born < e.scn
    above =
        let l : limit c < e.scn = n.above in
        let p : c.query ≤ limit c = v.numbers.published in
        let r : c.born ≤ c.query = v.numbers.restarted in
        omega arith

    noted : (t : ℕ) (a : Place) → HoldsPlace w.area t a ⊎ (mined_of c.log e ≡ Some (mined.Note t a)) → NotedIn c.log c.born (take (w.mined + 1) entries) t a
    noted t a (inl h) = let r = old.noted t a h in record { entry = r.entry; within = one_more_old entries w.mined e r.entry n.next r.within; above = r.above; notes = r.notes }
    noted t a (inr h) = record { entry = e; within = one_more_new entries w.mined e n.next; above = above; notes = h }

    stays : (t : ℕ) (a : Place) → HoldsPlace w.area t a ⊎ (mined_of c.log e ≡ Some (mined.Note t a)) → IsGone c.log c.born c.query c.links worker t → ⊥
    stays t a (inl h) g = old.stays t a h g
    stays t a (inr h) g = touch_not_gone c facts v worker w e n worker t a (note_touches c.log e t a h) g

    holds : (t : ℕ) (a : Place) → NotedIn c.log c.born (take (w.mined + 1) entries) t a → (IsGone c.log c.born c.query c.links worker t → ⊥) → HoldsPlace area t a
    holds t a r g = either (one_more_cases entries w.mined e r.entry n.next r.within)
      where
        either : Contains (take w.mined entries) r.entry ⊎ (r.entry ≡ e) → HoldsPlace area t a
        either (inl k) = takes.places_kept t a (old.holds t a (record { entry = r.entry; within = k; above = r.above; notes = r.notes }) g)
        either (inr k) = takes.places_new t a (subst (λ x. mined_of c.log x ≡ Some (mined.Note t a)) k r.notes)

    begun : (t : ℕ) → HoldsBegin w.area t ⊎ (mined_of c.log e ≡ Some (mined.Begin t)) → BegunIn c.born (take (w.mined + 1) entries) t
    begun t (inl h) = let r = old.begun t h in record { entry = r.entry; within = one_more_old entries w.mined e r.entry n.next r.within; above = r.above; begin = r.begin }
    begun t (inr h) = record { entry = e; within = one_more_new entries w.mined e n.next; above = above; begin = begin_note c.log e t h }

    begin_stays : (t : ℕ) → HoldsBegin w.area t ⊎ (mined_of c.log e ≡ Some (mined.Begin t)) → IsGone c.log c.born c.query c.links worker t → ⊥
    begin_stays t (inl h) g = old.begin_stays t h g
    begin_stays t (inr h) g = begin_not_gone c facts v worker w e n worker t (begin_note c.log e t h) g

    holds_begin_new : (t : ℕ) → BegunIn c.born (take (w.mined + 1) entries) t → (IsGone c.log c.born c.query c.links worker t → ⊥) → HoldsBegin area t
    holds_begin_new t r g = either (one_more_cases entries w.mined e r.entry n.next r.within)
      where
        either : Contains (take w.mined entries) r.entry ⊎ (r.entry ≡ e) → HoldsBegin area t
        either (inl k) = takes.begins_kept t (old.holds_begin t (record { entry = r.entry; within = k; above = r.above; begin = r.begin }) g)
        either (inr k) = takes.begins_new t (begin_mined c.log e t (subst (λ x. begins t x.vector ≡ true) k r.begin))

-- the partition with the node of the next entry
kept_node : (limit : ℕ) (e : LogEntry) (o : Option Node) → ((n : Node) → o ≡ Some n → limit < n.scn) → filter (λ (n : Node). nat_lt limit n.scn) (cons_option o []) ≡ option_to_list o
kept_node limit e None h = refl
kept_node limit e (Some n) h = ap (λ b. cond b (n ∷ []) []) (lt-ltb limit n.scn (h n refl))

mined_partition : (c : CoreState) → LogHasFacts → Invariant c → (worker : ℕ) (w : Worker) (e : LogEntry) → IsNextMined c worker w e
    → PartitionIs c.log c.born (limit c) (take (w.mined + 1) (share_of c worker)) (w.ends ++ option_to_list (mined_node e w.area (mined_of c.log e)))
mined_partition c facts v worker w e n = sym all
  where
    complete : ℕ → Bool
    complete = begun_above c.log c.born

    entries : List LogEntry
    entries = take w.mined (share_of c worker)

    above : (m : Node) → node_of complete e ≡ Some m → limit c < m.scn
    above m h =
        let is : m.scn ≡ e.scn = (node_is complete e m h).scn in
        let l : limit c < e.scn = n.above in
        omega arith

    old : filter (λ (x : Node). nat_lt (limit c) x.scn) (nodes_of c.log c.born entries) ≡ w.ends
    old = sym (v.workers worker w n.found).partition

    last : filter (λ (x : Node). nat_lt (limit c) x.scn) (nodes_of c.log c.born (e ∷ [])) ≡ option_to_list (mined_node e w.area (mined_of c.log e))
    last = kept_node (limit c) e (node_of complete e) above ∙ ap option_to_list (sym (same_node c.log e w.area complete (mark_tells c facts v worker w e n)))

    all : filter (λ (x : Node). nat_lt (limit c) x.scn) (nodes_of c.log c.born (take (w.mined + 1) (share_of c worker))) ≡ w.ends ++ option_to_list (mined_node e w.area (mined_of c.log e))
    all =
        ap (λ es. filter (λ (x : Node). nat_lt (limit c) x.scn) (nodes_of c.log c.born es)) (take_next (share_of c worker) w.mined e n.next)
        ∙ ap (filter (λ (x : Node). nat_lt (limit c) x.scn)) (filter_map-append (node_of complete) entries (e ∷ []))
        ∙ filter-append (λ (x : Node). nat_lt (limit c) x.scn) (nodes_of c.log c.born entries) (nodes_of c.log c.born (e ∷ []))
        ∙ ap₂ (λ xs ys. xs ++ ys) old last

pub mine_keeps : (worker : ℕ) → Keeps (λ c new. Mines c worker new)
mine_keeps worker facts c new r v = subst Invariant (sym r.effect) (crew_keeps c worker x c.shards ddl v v.shards (hold_same c.shards) is ddl_is)
  where
    what : Option Mined
    what = mined_of c.log r.entry

    x : Worker
    x = record r.was { mined = r.was.mined + 1; area = r.area; ends = r.was.ends ++ option_to_list (mined_node r.entry r.was.area what) }

    ddl : List DdlNode
    ddl = entered_if (mined_ddl r.entry what) c.ddl

    was_is : WorkerIs c worker r.was
    was_is = v.workers worker r.was r.found

    n : IsNextMined c worker r.was r.entry
    n = next_mined c v worker r.was r.entry r.found r.next

    is : IsIn c (length c.workers) c.shards worker x
    is = record {
      counts = record {
        behind = let b : r.was.mined < r.was.applied = r.behind in omega arith;
        within = was_is.counts.within;
        above = each_drop_next (λ (e : LogEntry). r.was.progress < e.scn) r.was.mined (share_of c worker) was_is.counts.above;
      };
      progress = was_is.progress;
      applied = was_is.applied;
      area = mined_area c facts v worker r.was r.entry n r.area r.noted;
      partition = mined_partition c facts v worker r.was r.entry n;
    }

    counts : List ℕ
    counts = map (λ (w : Worker). w.mined) c.workers

    zero_more : worker ≡ 0 + worker
    zero_more = omega arith

    parts : SplitsMined (length c.workers) 0 worker c.log counts r.was.mined r.entry
    parts = splits_mined (length c.workers) 0 worker c.log counts r.was.mined r.entry (at_map (λ (w : Worker). w.mined) c.workers worker r.was r.found)
        (subst (λ i. At (share (length c.workers) i c.log) r.was.mined r.entry) zero_more r.next)

    ddl_is : DdlIs (limit c) (mined_from (length c.workers) 0 c.log (counts_with c worker x)) ddl
    ddl_is = subst (λ es. DdlIs (limit c) es ddl) (sym (ap (mined_from (length c.workers) 0 c.log) (map_set (λ (w : Worker). w.mined) c.workers worker x) ∙ parts.is))
        (mined_ddl_keeps (limit c) parts.before parts.later r.entry c.ddl (mined_ddl r.entry what) (sym (same_ddl c.log r.entry)) above
        (subst (λ es. DdlIs (limit c) es c.ddl) parts.was v.ddl))
      where
        above : (d : DdlNode) → mined_ddl r.entry what ≡ Some d → limit c < d.scn
        above d h =
            let scns : d.scn ≡ r.entry.scn = ddl_scn r.entry d (sym (same_ddl c.log r.entry) ∙ h) in
            let l : limit c < r.entry.scn = n.above in
            omega arith

pub mine_precise : (worker : ℕ) → KeepsPrecise (λ c new. Mines c worker new)
mine_precise worker facts c new r v p = subst Precise (sym r.effect) p
