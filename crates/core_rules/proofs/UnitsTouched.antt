-- A Touch keeps what holds of the units: all that a transaction of the worklink touched in an extent of the shard at
-- the cursor was collected, and is marked, or the unit is marked wholly.
use Rattle.std.proofs.Common.{◌≡◌, ℕ, ◌+◌, ◌%◌, ◌<◌, ◌≤◌, Bool, true, false, ◌&&◌, List, length, Option, Some, None, ◌⊎◌, inl, inr, refl, sym, ap, ◌∙◌, subst, arith, true≢false}
use Rattle.std.specs.Prelude.{nat_eq, nat_lt}
use Rattle.std.specs.List.{Contains}
use Rattle.std.proofs.lemmas.Bool.{ltb-true, ltb-false, eqb-true, eqb-false, eq-eqb, and_parts, or_left, or_right}
use Rattle.std.proofs.lemmas.Nat.{mod_below}
use Rattle.adg_base.specs.Address.{Place}
use Rattle.adg_base.specs.Shard.{shard_of_unit, shard_of_vector, shard_of_block}
use Rattle.adg_base.specs.declared.vector.Vector.{Vector}
use Rattle.adg_base.specs.declared.vector.Vector.TheVariants.{Begin, Put, Delete, Undo, Commit, Abort, Create, DropObject, AddColumn, NoInMemory, EndThread}
use Rattle.adg_base.specs.declared.log.LogEntry.{LogEntry}
use Rattle.adg_base.specs.declared.node.Item.{Item}
use Rattle.adg_model.specs.Database.{touched_by}
use Rattle.core_rules.specs.Share.{is_shared_by, share, begins, ends, begun_above, CommitsAt, NotRedefined}
use Rattle.core_rules.specs.Extents.{IsInExtent}
use Rattle.core_rules.specs.State.{CoreState, Stage, Claimed, Collected, Link, ColumnUnit, is_past, has_txn, has_change, has_coarse, has_drop, PassesTxn, PassesDrop}
use Rattle.core_rules.specs.Flush.{Touches, IsMarked, IsTouched}
use Rattle.core_rules.specs.LogFacts.{LogFacts, LogHasFacts, IsInMemory}
use Rattle.core_rules.specs.Parts.{NotedBelow}
use Rattle.core_rules.specs.UnitParts.{Counts, IsCovered, UnitIs, UnitIsBuilt}
use Rattle.core_rules.specs.Invariant.{Invariant, unit_place, AllUnits}
use Rattle.core_rules.proofs.Keeps.{KeepsPart, CommitsHaveItems}
use Rattle.core_rules.proofs.Lists.{contains_filter, contains_filter_map_back, any_contains_back, is_true}
use Rattle.core_rules.proofs.UnitsPassed.{staged, txn_passes, drop_passes, unit_staged}

-- the shard of a vector that touches an address
touch_shard : (t : ℕ) (a : Place) (v : Vector) → touched_by t v ≡ Some a → (shard : ℕ) × (shard_of_vector v ≡ Some shard)
touch_shard t a (Put txn o b s row) h = (shard_of_block o b, refl)
touch_shard t a (Delete txn o b s) h = (shard_of_block o b, refl)
touch_shard t a (Undo txn o b s) h = (shard_of_block o b, refl)
touch_shard t a (Begin txn) h = let e : None ≡ Some a = h in absurd cc
touch_shard t a (Commit txn flag) h = let e : None ≡ Some a = h in absurd cc
touch_shard t a (Abort txn) h = let e : None ≡ Some a = h in absurd cc
touch_shard t a (Create o n f columns) h = let e : None ≡ Some a = h in absurd cc
touch_shard t a (DropObject o) h = let e : None ≡ Some a = h in absurd cc
touch_shard t a (AddColumn o k) h = let e : None ≡ Some a = h in absurd cc
touch_shard t a (NoInMemory o) h = let e : None ≡ Some a = h in absurd cc
touch_shard t a EndThread h = let e : None ≡ Some a = h in absurd cc

-- An entry of a shard lies in the share of one of the workers.
entry_shared : (workers shard : ℕ) (log : List LogEntry) (e : LogEntry) → 0 < workers → Contains log e → shard_of_vector e.vector ≡ Some shard
    → (shard % workers < workers) × Contains (share workers (shard % workers) log) e
entry_shared workers shard log e manned within of = (
  mod_below shard workers manned,
  contains_filter (λ (x : LogEntry). is_shared_by workers (shard % workers) (shard_of_vector x.vector)) log e within
      (ap (is_shared_by workers (shard % workers)) of ∙ eq-eqb (shard % workers) (shard % workers) refl),
)

-- The entries of a transaction that began above an SCN lie above it.
touch_above : (c : CoreState) (t : ℕ) (a : Place) (e : LogEntry) → LogFacts c.log c.frontier → begun_above c.log c.born t ≡ true → Contains c.log e
    → touched_by t e.vector ≡ Some a → c.born < e.scn
touch_above c t a e facts begun within touches =
    let b = any_contains_back (λ (x : LogEntry). begins t x.vector && nat_lt c.born x.scn) c.log begun in
    let tests = and_parts (begins t (b.0).vector) (nat_lt c.born (b.0).scn) b.2 in
    let first = facts.begun_to_touch t a e within touches in
    let same : b.0 ≡ first.0 = facts.begun_once t b.0 first.0 b.1 first.1 tests.0 first.2 in
    let above : c.born < (b.0).scn = ltb-true c.born (b.0).scn tests.1 in
    let above' : c.born < (first.0).scn = subst (λ (x : LogEntry). c.born < x.scn) same above in
    let upto : (first.0).scn ≤ e.scn = first.4 in
    omega arith

-- What a transaction touched in an object that stays in-memory was noted in the share of one of the workers.
pub touch_noted : (c : CoreState) (t : ℕ) (a : Place) (e : LogEntry) (low high cursor : ℕ) → Invariant c → LogFacts c.log c.frontier
    → begun_above c.log c.born t ≡ true → Contains c.log e → touched_by t e.vector ≡ Some a → e.scn ≤ high
    → IsInMemory c.log a.obj low → NotRedefined c.log a.obj low high → length c.workers ≤ cursor
    → NotedBelow c.log c.born (length c.workers) cursor t a
touch_noted c t a e low high cursor i facts begun within touches upto in_memory same behind =
    let of = touch_shard t a e.vector touches in
    let shared = entry_shared (length c.workers) of.0 c.log e i.manned within of.1 in
    let known : of.0 % length c.workers < length c.workers = shared.0 in
    record {
      worker = of.0 % length c.workers;
      known = known;
      below = omega arith;
      noted = record {
        entry = e;
        within = shared.1;
        above = touch_above c t a e facts begun within touches;
        notes = facts.noted t a e low high within touches upto in_memory same;
      };
    }

-- A unit that stands after a Touch of its shard stood before, is not dropped, and has the marks of the worklink.
pub touched_stood : (items : List Item) (collected : List Collected) (obj extent : ℕ) (old new : Option ColumnUnit) (u : ColumnUnit)
    → IsTouched items collected obj extent old new → new ≡ Some u
    → (w : ColumnUnit) × (old ≡ Some w) × (has_drop obj items ≡ false) × IsMarked items collected obj extent w u
touched_stood items collected obj extent None new u h e = let k : None ≡ Some u = sym h ∙ e in absurd cc
touched_stood items collected obj extent (Some old) new u (inl h) e = let k : None ≡ Some u = sym h.1 ∙ e in absurd cc
touched_stood items collected obj extent (Some old) new u (inr h) e =
    let k : Some h.unit ≡ Some u = sym h.stands ∙ e in
    let same : h.unit ≡ u = cc in
    (old, refl, h.kept, subst (λ (x : ColumnUnit). IsMarked items collected obj extent old x) same h.marked)

-- The entry of a commit ends its transaction.
pub commit_is_end : (t : ℕ) (flag : Bool) (v : Vector) → v ≡ Commit t flag → ends t v ≡ true
commit_is_end t flag v h = ap (ends t) h ∙ eq-eqb t t refl

-- the worklinks after a Touch
abbrev links_after : (c : CoreState) (actor : ℕ) (new : CoreState) → Touches c actor new → List Link
links_after c actor new r = staged c.links r.number r.link (Claimed actor (r.cursor + 1) r.collected)

-- Of a Touch at the shard of a unit: the unit before it and after it.
module _ (have : CommitsHaveItems) (every : LogHasFacts) (c : CoreState) (actor : ℕ) (new : CoreState) (r : Touches c actor new) (i : Invariant c)
    (obj extent : ℕ) (w u : ColumnUnit) (is : UnitIs c.log c.query c.ticket c.links (unit_place c obj extent) obj extent w)
    (marked : IsMarked r.link.items r.collected obj extent w u) where
  facts : LogFacts c.log c.frontier
  facts = every c.log c.frontier i.log

  -- What was covered stays so.
  covered_more : (t : ℕ) → IsCovered c.log t obj extent w → IsCovered c.log t obj extent u
  covered_more t (inl whole) = inl (marked.all ∙ or_left w.all (has_coarse r.link.items) whole)
  covered_more t (inr each) = inr (λ a touches within. marked.kept a (each a touches within))

  -- An address of the extent is one of the unit's object.
  in_memory : (a : Place) → IsInExtent obj extent a → IsInMemory c.log a.obj w.snapshot
  in_memory a within = subst (λ (o : ℕ). IsInMemory c.log o w.snapshot) (sym within.object)
      (record { table = is.built.table; defined = is.built.defined; flag = is.built.in_memory })

  unchanged : (a : Place) (high : ℕ) → IsInExtent obj extent a → NotRedefined c.log obj w.snapshot high → NotRedefined c.log a.obj w.snapshot high
  unchanged a high within same = subst (λ (o : ℕ). NotRedefined c.log o w.snapshot high) (sym within.object) same

  -- A commit of the worklink is covered: without the flag, nothing in the extent was touched; with it, there is a
  -- Change or a Coarse.
  commit_plain : (t : ℕ) (f : LogEntry) → Contains c.log f → f.vector ≡ Commit t false → NotRedefined c.log obj w.snapshot f.scn → IsCovered c.log t obj extent u
  commit_plain t f there commits same = inr (λ a touches within.
      let e = contains_filter_map_back (λ (x : LogEntry). touched_by t x.vector) c.log a touches in
      absurd (true≢false (sym (facts.flagged t a e.0 f false w.snapshot e.1 there e.2 commits (in_memory a within) (unchanged a f.scn within same)))))

  commit_changed : (t : ℕ) (f : LogEntry) → Contains c.log f → f.vector ≡ Commit t true → NotRedefined c.log obj w.snapshot f.scn → has_txn t r.link.items ≡ true
      → begun_above c.log c.born t ≡ true → has_change t r.link.items ≡ true → IsCovered c.log t obj extent u
  commit_changed t f there commits same of begun change = inr (λ a touches within.
      let e = contains_filter_map_back (λ (x : LogEntry). touched_by t x.vector) c.log a touches in
      let upto = facts.touched_to_end t a e.0 f e.1 there e.2 (commit_is_end t true f.vector commits) in
      let all = i.flush.collected r.number r.link actor r.cursor r.collected r.has.found r.has.stage in
      let at : r.cursor ≡ length c.workers + r.shard = r.at in
      let behind : length c.workers ≤ r.cursor = omega arith in
      let below = touch_noted c t a e.0 w.snapshot f.scn r.cursor i facts begun e.1 e.2 upto.1 (in_memory a within) (unchanged a f.scn within same) behind in
      marked.gained a (record { txn = t; change = change; noted = all.all t a of below; within = within }))

  commit_covered : (t : ℕ) (f : LogEntry) (flag : Bool) → Contains c.log f → f.vector ≡ Commit t flag → NotRedefined c.log obj w.snapshot f.scn
      → has_txn t r.link.items ≡ true → IsCovered c.log t obj extent u
  commit_covered t f false there commits same of = commit_plain t f there commits same
  commit_covered t f true there commits same of = either (have every c i r.number r.link t f r.has.found of there commits)
    where
      either : ((begun_above c.log c.born t ≡ true) × (has_change t r.link.items ≡ true)) ⊎ ((begun_above c.log c.born t ≡ false) × (has_coarse r.link.items ≡ true))
          → IsCovered c.log t obj extent u
      either (inl p) = commit_changed t f there commits same of p.0 p.1
      either (inr p) = inl (marked.all ∙ or_right w.all (has_coarse r.link.items) p.1)

  -- The snapshot and the columns stay.
  as_before : u.snapshot ≡ w.snapshot
  as_before = ap (λ (x : ColumnUnit). x.snapshot) marked.same

  built : UnitIsBuilt c.log obj extent u
  built = subst (λ (x : ColumnUnit). UnitIsBuilt c.log obj extent x) (sym marked.same)
      (record { table = is.built.table; defined = is.built.defined; in_memory = is.built.in_memory; within = is.built.within; columns = is.built.columns })

  -- What counts counted before, or is of the worklink.
  covered : (t scn : ℕ) → CommitsAt c.log t scn → u.snapshot < scn → Counts c.query (links_after c actor new r) (unit_place c obj extent) t scn
      → NotRedefined c.log obj u.snapshot scn → IsCovered c.log t obj extent u
  covered t scn commit above counts same = by_count counts
    where
      above_before : w.snapshot < scn
      above_before = subst (λ (n : ℕ). n < scn) as_before above

      same_before : NotRedefined c.log obj w.snapshot scn
      same_before = subst (λ (n : ℕ). NotRedefined c.log obj n scn) as_before same

      by_pass : PassesTxn c.links (unit_place c obj extent) t
          ⊎ ((is_past (unit_place c obj extent) (Claimed actor (r.cursor + 1) r.collected) ≡ true) × (has_txn t r.link.items ≡ true)) → IsCovered c.log t obj extent u
      by_pass (inl q) = covered_more t (is.covered t scn commit above_before (inr q) same_before)
      by_pass (inr q) = commit_covered t commit.entry commit.flag commit.within commit.commits
          (subst (λ (n : ℕ). NotRedefined c.log obj w.snapshot n) (sym commit.at) same_before) q.1

      by_count : Counts c.query (links_after c actor new r) (unit_place c obj extent) t scn → IsCovered c.log t obj extent u
      by_count (inl l) = covered_more t (is.covered t scn commit above_before (inl l) same_before)
      by_count (inr p) =
          by_pass (txn_passes c.links r.number r.link (Claimed actor (r.cursor + 1) r.collected) (unit_place c obj extent) t p)

  -- The worklink does not drop the object's units.
  not_dropped : has_drop obj r.link.items ≡ false → PassesDrop (links_after c actor new r) (unit_place c obj extent) obj → ⊥
  not_dropped kept p = either (drop_passes c.links r.number r.link (Claimed actor (r.cursor + 1) r.collected) (unit_place c obj extent) obj p)
    where
      either : PassesDrop c.links (unit_place c obj extent) obj
          ⊎ ((is_past (unit_place c obj extent) (Claimed actor (r.cursor + 1) r.collected) ≡ true) × (has_drop obj r.link.items ≡ true)) → ⊥
      either (inl q) = is.stands.kept q
      either (inr q) = true≢false (sym q.1 ∙ kept)

  unit_touched : has_drop obj r.link.items ≡ false → UnitIs c.log c.query c.ticket (links_after c actor new r) (unit_place c obj extent) obj extent u
  unit_touched kept = record {
    snapshot = subst (λ (n : ℕ). n ≤ c.query) (sym as_before) is.snapshot;
    ticket = subst (λ (n : ℕ). n < c.ticket) (sym (ap (λ (x : ColumnUnit). x.ticket) marked.same)) is.ticket;
    built = built;
    covered = covered;
    stands = record { same = subst (λ (n : ℕ). NotRedefined c.log obj n c.query) (sym as_before) is.stands.same; kept = not_dropped kept };
  }

-- A cursor at a unit shard that goes on passes the place of this shard alone.
passed_before : (workers shard here cursor : ℕ) → cursor ≡ workers + here → (shard ≡ here → ⊥) → nat_lt (workers + shard) (cursor + 1) ≡ true
    → nat_lt (workers + shard) cursor ≡ true
passed_before workers shard here cursor at apart past =
    let l : workers + shard < cursor + 1 = ltb-true (workers + shard) (cursor + 1) past in
    by_order (is_true (nat_lt (workers + shard) cursor)) l
  where
    by_order : (nat_lt (workers + shard) cursor ≡ true) ⊎ (nat_lt (workers + shard) cursor ≡ false) → workers + shard < cursor + 1 → nat_lt (workers + shard) cursor ≡ true
    by_order (inl e) l = e
    by_order (inr e) l =
        let k : cursor ≤ workers + shard = ltb-false (workers + shard) cursor e in
        let same : shard ≡ here = omega arith in
        absurd (apart same)

pub touch_units : CommitsHaveItems → (actor : ℕ) → KeepsPart AllUnits (λ c new. Touches c actor new)
touch_units have actor every c new r i = subst AllUnits (sym r.effect)
    (λ obj extent u h. by_shard obj extent u h (is_true (nat_eq (shard_of_unit obj extent) r.shard)))
  where
    by_shard : (obj extent : ℕ) (u : ColumnUnit) → r.units obj extent ≡ Some u
        → (nat_eq (shard_of_unit obj extent) r.shard ≡ true) ⊎ (nat_eq (shard_of_unit obj extent) r.shard ≡ false)
        → UnitIs c.log c.query c.ticket (links_after c actor new r) (unit_place c obj extent) obj extent u
    by_shard obj extent u h (inl e) =
        let was = touched_stood r.link.items r.collected obj extent (c.units obj extent) (r.units obj extent) u
        (r.touched obj extent (eqb-true (shard_of_unit obj extent) r.shard e)) h in
        unit_touched have every c actor new r i obj extent was.0 u (i.units obj extent was.0 was.1) was.3 was.2
    by_shard obj extent u h (inr e) =
        let apart = eqb-false (shard_of_unit obj extent) r.shard e in
        unit_staged c r.number r.link (Claimed actor (r.cursor + 1) r.collected) obj extent (unit_place c obj extent) u r.has.found
        (λ past. subst (λ (s : Stage). is_past (unit_place c obj extent) s ≡ true) (sym r.has.stage)
        (passed_before (length c.workers) (shard_of_unit obj extent) r.shard r.cursor r.at apart past))
        (i.units obj extent u (sym (r.others obj extent apart) ∙ h))
