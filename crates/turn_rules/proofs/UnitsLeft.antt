-- What the coordinator and the workers leave of the column units.
use Rattle.std.proofs.Common.{◌≡◌, ℕ, ◌<◌, ◌≤◌, Bool, true, false, List, map, length, Option, Some, None, ◌⊎◌, inl, inr, refl, sym, ap, ◌∙◌, subst, arith, true≢false}
use Rattle.std.specs.Prelude.{nat_lt, nat_le}
use Rattle.std.specs.List.{Contains, flat_map}
use Rattle.std.proofs.lemmas.Bool.{eqb-true, eq-eqb, ltb-true, leb-true, and_parts, cases_eq}
use Rattle.std.proofs.lemmas.List.Sorted.{Contains-permutation, IsPermutation-sym}
use Rattle.adg_base.specs.Shard.{shard_of_unit}
use Rattle.adg_base.specs.declared.vector.Vector.{Vector}
use Rattle.adg_base.specs.declared.vector.Vector.TheVariants.{Begin, Put, Delete, Undo, Commit, Abort, Create, DropObject, AddColumn, NoInMemory, EndThread}
use Rattle.adg_base.specs.declared.log.LogEntry.{LogEntry}
use Rattle.adg_base.specs.declared.node.Node.{Node}
use Rattle.adg_base.specs.declared.node.NodeKind.{NodeKind}
use Rattle.adg_base.specs.declared.node.NodeKind.TheVariants as node
use Rattle.adg_base.specs.declared.node.DdlNode.{DdlNode}
use Rattle.adg_base.specs.declared.node.Item.{Item}
use Rattle.adg_model.specs.Mined.{end_item, node_item, ddl_item}
use Rattle.core_rules.specs.declared.event.Event.{Event}
use Rattle.core_rules.specs.declared.event.Event.TheVariants as event
use Rattle.core_rules.specs.declared.event.CoreAnswer.TheVariants.{Moved}
use Rattle.core_rules.specs.Share.{shares, redefines, ddl_by, ddl_of, ddl_in, NotRedefined}
use Rattle.core_rules.specs.State.{CoreState, ColumnUnit, Units, Collected, Link, At, limit, is_drop_of, has_drop}
use Rattle.core_rules.specs.Flush.{Touches, IsTouched}
use Rattle.core_rules.specs.Parts.{is_within, flush_nodes, flush_ddl, flush_items, items_of}
use Rattle.core_rules.specs.Step.{Happens}
use Rattle.core_rules.specs.Invariant.{Invariant}
use Rattle.core_rules.specs.ColumnUse.{HasNoUnits}
use Rattle.core_rules.proofs.Lists.{Has, has, contains, has_at, at_map, has_append_cases, has_map_back, has_filter_back, has_filter_map_back, has_flat_map, any_has_back}
use Rattle.core_rules.proofs.Shares.{shares_log}
use Rattle.turn_rules.proofs.View.{IsOfCrew}
use Rattle.turn_rules.proofs.Use.{IsSameUnit, UnitsStay, CrewLeaves, CrewLeavesUnits}
use Rattle.turn_rules.proofs.CrewKept.{crew_keeps}

-- an entry that changes the definition of an object, above one SCN and at most at another
pub record RedefinedWithin (c : CoreState) (obj low high : ℕ) : Type 0 where
  pub entry : LogEntry
  pub within : Contains c.log entry
  pub changes : redefines obj entry.vector ≡ true
  pub above : low < entry.scn
  pub upto : entry.scn ≤ high

no_drop : (obj : ℕ) (n : Node) → is_drop_of obj (node_item n) ≡ true → ⊥
no_drop obj n h = by_kind n.complete n.kind h
  where
    by_kind : (c : Bool) (k : NodeKind) → is_drop_of obj (end_item c n.txn k) ≡ true → ⊥
    by_kind true (node.Committed true) u = true≢false (sym u)
    by_kind false (node.Committed true) u = true≢false (sym u)
    by_kind true (node.Committed false) u = true≢false (sym u)
    by_kind false (node.Committed false) u = true≢false (sym u)
    by_kind true node.Aborted u = true≢false (sym u)
    by_kind false node.Aborted u = true≢false (sym u)

abbrev RedefinesAs : Vector → (scn : ℕ) → DdlNode → Type 0
RedefinesAs v scn d = (redefines d.obj v ≡ true) × (scn ≡ d.scn)

of_node : (scn o : ℕ) (v : Vector) (d : DdlNode) → redefines o v ≡ true → record { scn = scn; obj = o } ≡ d → RedefinesAs v scn d
of_node scn o v d r e = subst (RedefinesAs v scn) e (r, refl)

some_same : (a b : DdlNode) → Some a ≡ Some b → a ≡ b
some_same a b h = cc

ddl_entry : (scn : ℕ) (v : Vector) (d : DdlNode) → ddl_by scn v ≡ Some d → RedefinesAs v scn d
ddl_entry scn (DropObject o) d h = of_node scn o (DropObject o) d (eq-eqb o o refl) (some_same _ d h)
ddl_entry scn (AddColumn o k) d h = of_node scn o (AddColumn o k) d (eq-eqb o o refl) (some_same _ d h)
ddl_entry scn (NoInMemory o) d h = of_node scn o (NoInMemory o) d (eq-eqb o o refl) (some_same _ d h)
ddl_entry scn (Begin t) d h = let e : None ≡ Some d = h in absurd cc
ddl_entry scn (Put t o b s row) d h = let e : None ≡ Some d = h in absurd cc
ddl_entry scn (Delete t o b s) d h = let e : None ≡ Some d = h in absurd cc
ddl_entry scn (Undo t o b s) d h = let e : None ≡ Some d = h in absurd cc
ddl_entry scn (Commit t flag) d h = let e : None ≡ Some d = h in absurd cc
ddl_entry scn (Abort t) d h = let e : None ≡ Some d = h in absurd cc
ddl_entry scn (Create o e f columns) d h = let k : None ≡ Some d = h in absurd cc
ddl_entry scn EndThread d h = let e : None ≡ Some d = h in absurd cc

-- An item that drops an object's units is of such an entry.
drop_entry : (c : CoreState) → Invariant c → (n : ℕ) (l : Link) (obj : ℕ) → At c.links n l → has_drop obj l.items ≡ true → RedefinedWithin c obj c.query (limit c)
drop_entry c v n l obj h k = by_sort (has_append_cases (map node_item (flush_nodes c.log c.born c.query (limit c) entries)) (map ddl_item (flush_ddl c.query (limit c) entries)) item.0 in_flush)
  where
    entries : List LogEntry
    entries = shares (length c.workers) c.log

    item : (i : Item) × Has l.items i × (is_drop_of obj i ≡ true)
    item = any_has_back (is_drop_of obj) l.items k

    in_flush : Has (flush_items c.log c.born c.query (limit c) (shares (length c.workers) c.log)) item.0
    in_flush =
        let parts = items_of c.links in
        let flat = flat_map (λ (part : List Item). part) parts in
        let all = flush_items c.log c.born c.query (limit c) (shares (length c.workers) c.log) in
        let there = has_flat_map (λ (part : List Item). part) parts l.items item.0 (has_at parts n l.items (at_map (λ (x : Link). x.items) c.links n l h)) item.1 in
        has all item.0 (Contains-permutation flat all item.0 (IsPermutation-sym all flat v.flush.items.once) (contains flat item.0 there))

    by_sort : Has (map node_item (flush_nodes c.log c.born c.query (limit c) (shares (length c.workers) c.log))) item.0 ⊎ Has (map ddl_item (flush_ddl c.query (limit c) (shares (length c.workers) c.log))) item.0
        → RedefinedWithin c obj c.query (limit c)
    by_sort (inl m) =
        let b = has_map_back node_item (flush_nodes c.log c.born c.query (limit c) (shares (length c.workers) c.log)) item.0 m in
        absurd (no_drop obj b.0 (subst (λ i. is_drop_of obj i ≡ true) (sym b.2) item.2))
    by_sort (inr m) =
        let b = has_map_back ddl_item (flush_ddl c.query (limit c) (shares (length c.workers) c.log)) item.0 m in
        let f = has_filter_back (λ (d : DdlNode). is_within c.query (limit c) d.scn) (ddl_in (shares (length c.workers) c.log)) b.0 b.1 in
        let g = has_filter_map_back ddl_of (shares (length c.workers) c.log) b.0 f.0 in
        let r = ddl_entry g.0.scn g.0.vector b.0 g.2 in
        let own : b.0.obj ≡ obj = eqb-true b.0.obj obj (subst (λ i. is_drop_of obj i ≡ true) (sym b.2) item.2) in
        let w = and_parts (nat_lt c.query b.0.scn) (nat_le b.0.scn (limit c)) f.1 in
        let low : c.query < b.0.scn = ltb-true c.query b.0.scn w.0 in
        let high : b.0.scn ≤ limit c = leb-true b.0.scn (limit c) w.1 in
        let same : g.0.scn ≡ b.0.scn = r.1 in
        record {
          entry = g.0;
          within = shares_log (length c.workers) c.log g.0 g.1;
          changes = subst (λ o. redefines o g.0.vector ≡ true) own r.0;
          above = omega arith;
          upto = omega arith;
        }

-- units that are as they were
same_unit : (o : Option ColumnUnit) → IsSameUnit o o
same_unit None = tt
same_unit (Some u) = (refl, refl, refl)

units_same : (old new : Units) (obj : ℕ) → new ≡ old → UnitsStay old new obj
units_same old new obj e extent = subst (λ (us : Units). IsSameUnit (old obj extent) (us obj extent)) (sym e) (same_unit (old obj extent))

none_same : (old new : Units) (obj : ℕ) → new ≡ old → HasNoUnits old obj → HasNoUnits new obj
none_same old new obj e h = subst (λ (us : Units). HasNoUnits us obj) (sym e) h

-- Touch
touched_unit : (items : List Item) (collected : List Collected) (obj extent : ℕ) (old new : Option ColumnUnit) → (has_drop obj items ≡ true → ⊥) → IsTouched items collected obj extent old new → IsSameUnit old new
touched_unit items collected obj extent None new d h = subst (IsSameUnit None) (sym h) tt
touched_unit items collected obj extent (Some u) new d (inl p) = absurd (d p.0)
touched_unit items collected obj extent (Some u) new d (inr k) = subst (IsSameUnit (Some u)) (sym k.stands)
    (ap (λ (x : ColumnUnit). x.snapshot) k.marked.same, ap (λ (x : ColumnUnit). x.ticket) k.marked.same, ap (λ (x : ColumnUnit). x.columns) k.marked.same)

touched_none : (items : List Item) (collected : List Collected) (obj extent : ℕ) (old new : Option ColumnUnit) → old ≡ None → IsTouched items collected obj extent old new → new ≡ None
touched_none items collected obj extent None new e h = h
touched_none items collected obj extent (Some u) new e h = let k : Some u ≡ None = e in absurd cc

module _ (c new : CoreState) (v : Invariant c) (actor : ℕ) (r : Touches c actor new) where
  units_are : new.units ≡ r.units
  units_are = ap (λ (x : CoreState). x.units) r.effect

  touch_stays : (obj low : ℕ) → low ≤ c.query → NotRedefined c.log obj low c.frontier → UnitsStay c.units new.units obj
  touch_stays obj low l n extent = subst (λ (us : Units). IsSameUnit (c.units obj extent) (us obj extent)) (sym units_are) (by_shard (cases_eq (shard_of_unit obj extent) r.shard))
    where
      no_drops : has_drop obj r.link.items ≡ true → ⊥
      no_drops h =
          let d = drop_entry c v r.number r.link obj r.has.found h in
          let above : c.query < d.entry.scn = d.above in
          let upto : d.entry.scn ≤ limit c = d.upto in
          let cut : limit c ≤ c.frontier = v.numbers.cut in
          n d.entry d.within d.changes (omega arith) (omega arith)

      by_shard : (shard_of_unit obj extent ≡ r.shard) ⊎ (shard_of_unit obj extent ≡ r.shard → ⊥) → IsSameUnit (c.units obj extent) (r.units obj extent)
      by_shard (inl e) = touched_unit r.link.items r.collected obj extent (c.units obj extent) (r.units obj extent) no_drops (r.touched obj extent e)
      by_shard (inr d) = subst (IsSameUnit (c.units obj extent)) (sym (r.others obj extent d)) (same_unit (c.units obj extent))

  touch_none : (obj : ℕ) → HasNoUnits c.units obj → HasNoUnits new.units obj
  touch_none obj h extent = ap (λ (us : Units). us obj extent) units_are ∙ by_shard (cases_eq (shard_of_unit obj extent) r.shard)
    where
      by_shard : (shard_of_unit obj extent ≡ r.shard) ⊎ (shard_of_unit obj extent ≡ r.shard → ⊥) → r.units obj extent ≡ None
      by_shard (inl e) = touched_none r.link.items r.collected obj extent (c.units obj extent) (r.units obj extent) (h extent) (r.touched obj extent e)
      by_shard (inr d) = r.others obj extent d ∙ h extent

-- an event that leaves the units
leaves : (c : CoreState) → Invariant c → (e : Event) (new : CoreState) → IsOfCrew e → Happens c e Moved new → new.units ≡ c.units → CrewLeaves c new
leaves c v e new i h same =
    let k = crew_keeps c v e new i h in
    record {
      sessions = k.sessions;
      log = k.log;
      frontier = k.frontier;
      born = k.born;
      query = k.query;
      units = λ obj low l n. units_same c.units new.units obj same;
      none = λ obj n. none_same c.units new.units obj same n;
    }

touch_leaves : (c : CoreState) → Invariant c → (actor : ℕ) (new : CoreState) → Happens c (event.Touch actor) Moved new → CrewLeaves c new
touch_leaves c v actor new h =
    let k = crew_keeps c v (event.Touch actor) new tt h in
    record {
      sessions = k.sessions;
      log = k.log;
      frontier = k.frontier;
      born = k.born;
      query = k.query;
      units = λ obj low l n. touch_stays c new v actor h.1 obj low l n;
      none = λ obj n. touch_none c new v actor h.1 obj n;
    }

pub crew_leaves_units : CrewLeavesUnits
crew_leaves_units c (event.Apply worker) new v i h = leaves c v (event.Apply worker) new i h (ap (λ (x : CoreState). x.units) h.1.effect)
crew_leaves_units c (event.Mine worker) new v i h = leaves c v (event.Mine worker) new i h (ap (λ (x : CoreState). x.units) h.1.effect)
crew_leaves_units c (event.Raise worker through) new v i h = leaves c v (event.Raise worker through) new i h (ap (λ (x : CoreState). x.units) h.1.effect)
crew_leaves_units c (event.BeginFlush through) new v i h = leaves c v (event.BeginFlush through) new i h (ap (λ (x : CoreState). x.units) h.1.effect)
crew_leaves_units c (event.Claim actor) new v i h = leaves c v (event.Claim actor) new i h (ap (λ (x : CoreState). x.units) h.1.effect)
crew_leaves_units c (event.Collect actor) new v i h = leaves c v (event.Collect actor) new i h (ap (λ (x : CoreState). x.units) h.1.effect)
crew_leaves_units c (event.Touch actor) new v i h = touch_leaves c v actor new h
crew_leaves_units c (event.Done actor) new v i h = leaves c v (event.Done actor) new i h (ap (λ (x : CoreState). x.units) h.1.effect)
crew_leaves_units c event.Publish new v i h = leaves c v event.Publish new i h (ap (λ (x : CoreState). x.units) h.1.effect)
crew_leaves_units c (event.PopBegin session obj) new v i h = absurd i
crew_leaves_units c (event.PopRegister session) new v i h = absurd i
crew_leaves_units c (event.PopRelease session) new v i h = absurd i
crew_leaves_units c (event.PopRead session) new v i h = absurd i
crew_leaves_units c (event.PopEnd session) new v i h = absurd i
crew_leaves_units c (event.ScanBegin session select) new v i h = absurd i
crew_leaves_units c (event.ScanExtent session) new v i h = absurd i
crew_leaves_units c (event.ScanEnd session) new v i h = absurd i
crew_leaves_units c event.Restart new v i h = absurd i
