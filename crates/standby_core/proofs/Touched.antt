-- A worklink touches the units of the shard at its cursor.
use Rattle.std.proofs.Common.{◌≡◌, ℕ, ◌+◌, ◌*◌, ◌/◌, ◌<◌, ◌≤◌, Bool, true, false, cond, ◌==◌, ◌||◌, List, [], length, Option, Some, None, ◌⊎◌, inl, inr, refl, sym, ap, ◌∙◌, subst, arith, Vec, Global}
use Rattle.std.specs.Prelude.{slice_get, slice_set}
use Rattle.std.specs.List.{AllByRecursion}
use Rattle.std.specs.List.Sorted.{IsNonDecreasingBy}
use Rattle.std.specs.Map.{lookup}
use Rattle.std.proofs.lemmas.Bool.{eqb-true, eq-eqb, cases_eq}
use Rattle.std.proofs.lemmas.List.{length-set}
use Rattle.adg_base.specs.Address.{Place}
use Rattle.adg_base.specs.Shard.{shard_of_unit}
use Rattle.adg_base.specs.declared.node.Item.{Item}
use Rattle.worklinks.specs.declared.collected.Collected.{Collected as Gathered}
use Rattle.column_units.specs.declared.unit.Unit.{Unit as OwnUnit}
use Rattle.column_units.specs.Unit.{is_marked}
use Rattle.column_units.specs.Shard as shards
use Rattle.core_rules.specs.declared.event.Event.TheVariants as event
use Rattle.core_rules.specs.declared.event.CoreAnswer.TheVariants.{NotReady, Moved}
use Rattle.core_rules.specs.Extents.{IsInExtent}
use Rattle.core_rules.specs.State.{CoreState, Collected, ColumnUnit, Units, Link, At, has_change, has_coarse, has_drop, HasCollected}
use Rattle.core_rules.specs.State as rules
use Rattle.core_rules.specs.Flush.{CanTouch, Marks, IsMarked, IsTouched}
use Rattle.core_rules.proofs.Lists.{each_contains, each_weaker, at_within, at_exists, at_set_cases, at_set_same, at_set_other}
use Rattle.standby_core.specs.declared.standby.Core.{Core}
use Rattle.standby_core.specs.declared.link.Stage.TheVariants.{Claimed}
use Rattle.standby_core.specs.declared.link.Link.{Link as OwnLink}
use Rattle.standby_core.specs.Links.{AreFew, HasGathered, IsReadyList, ShowsLink, shard_of_place}
use Rattle.standby_core.specs.Parts.{rows_shown, ShowsUnit, ShowsAny, unit_in, unit_in_shard, ShowsUnits}
use Rattle.standby_core.specs.Shows.{IsState, HasStepped}
use Rattle.standby_core.specs.Touching.{IsOfExtent, GainsMarks, IsListed, TouchesAny, TouchesUnits}
use Rattle.standby_core.proofs.Cursor.{none_held, shown_link, own_stage, has_link, only_link, flush_goes_on, flush_stays}
use Rattle.standby_core.proofs.Kept.{with_units, with_flush}

-- lists that are ready are in the order of unit shards
pub lists_ordered : (items : List Item) (lists : List Gathered) → AllByRecursion (IsReadyList items) lists → AllByRecursion (λ (list : Gathered). IsNonDecreasingBy shard_of_place list.addrs) lists
lists_ordered items lists h = each_weaker (IsReadyList items) (λ (list : Gathered). IsNonDecreasingBy shard_of_place list.addrs) lists (λ x r. r.order) h

-- one shard of units is another one
pub units_set : (ss : List shards.Units) (units new : Units) (shard : ℕ) (s t : shards.Units) → ShowsUnits ss units → At ss shard s → t.number ≡ s.number
    → ((obj extent : ℕ) → shard_of_unit obj extent ≡ shard → ShowsAny (shards.unit_at t obj extent) (new obj extent))
    → ((obj extent : ℕ) → (shard_of_unit obj extent ≡ shard → ⊥) → new obj extent ≡ units obj extent) → ShowsUnits (slice_set ss shard t) new
units_set ss units new shard s t h at number here others = record {
  count = length-set ss shard t ∙ h.count;
  numbers = λ n x k. numbers n x (at_set_cases ss shard n x t k);
  each = λ o e. each o e (cases_eq (shard_of_unit o e) shard);
}
  where
    numbers : (n : ℕ) (x : shards.Units) → ((n ≡ shard) × (x ≡ t)) ⊎ ((n ≡ shard → ⊥) × At ss n x) → x.number ≡ n
    numbers n x (inl e) = ap (λ (y : shards.Units). y.number) e.1 ∙ number ∙ h.numbers shard s at ∙ sym e.0
    numbers n x (inr e) = h.numbers n x e.1

    each : (o e : ℕ) → (shard_of_unit o e ≡ shard) ⊎ (shard_of_unit o e ≡ shard → ⊥) → ShowsAny (unit_in (slice_set ss shard t) o e) (new o e)
    each o e (inl k) =
        let set : slice_get (slice_set ss shard t) (shard_of_unit o e) ≡ Some t = ap (slice_get (slice_set ss shard t)) k ∙ at_set_same ss shard t (at_within ss shard s at) in
        subst (λ (x : Option shards.Units). ShowsAny (unit_in_shard x o e) (new o e)) (sym set) (here o e k)
    each o e (inr d) =
        let kept : slice_get (slice_set ss shard t) (shard_of_unit o e) ≡ slice_get ss (shard_of_unit o e) = at_set_other ss shard (shard_of_unit o e) t d in
        subst (λ (x : Option shards.Units). ShowsAny (unit_in_shard x o e) (new o e)) (sym kept) (subst (ShowsAny (unit_in ss o e)) (sym (others o e d)) (h.each o e))

-- a unit of the state with the marks of one of the core
abbrev pub marked_as : OwnUnit → ColumnUnit → ColumnUnit
marked_as y u = record u { marked = λ a. is_marked y a; all = y.all }

abbrev pub marked_any : Option OwnUnit → Option ColumnUnit → Option ColumnUnit
marked_any y None = None
marked_any None (Some u) = None
marked_any (Some y) (Some u) = Some (marked_as y u)

-- an address of an extent, told both ways
in_extent : (obj extent : ℕ) (a : Place) → IsOfExtent obj extent a → IsInExtent obj extent a
in_extent obj extent a w =
    let e : a.block / 16 ≡ extent = w.extent_is in
    record { object = w.object; from = omega arith; below = omega arith }

of_extent : (obj extent : ℕ) (a : Place) → IsInExtent obj extent a → IsOfExtent obj extent a
of_extent obj extent a w =
    let l : 16 * extent ≤ a.block = w.from in
    let m : a.block < 16 * extent + 16 = w.below in
    record { object = w.object; extent_is = omega arith }

module _ (workers : ℕ) (x : OwnLink) (l : Link) (s : ShowsLink workers x l) (shard : ℕ) where
  -- what is listed is to be marked, and what is to be marked is listed
  listed_marks : (obj extent : ℕ) (a : Place) → IsListed x.collected.lists shard a → IsOfExtent obj extent a → Marks l.items s.collected obj extent a
  listed_marks obj extent a h w = record {
    txn = h.list.txn;
    change = subst (λ i. has_change h.list.txn i ≡ true) s.items (each_contains (IsReadyList x.items) x.collected.lists h.list s.lists h.within).change;
    noted = s.only h.list.txn a (record { entry = h.list; within = h.within; of = refl; noted = h.there.noted });
    within = in_extent obj extent a w;
  }

  marks_listed : (obj extent : ℕ) (a : Place) → shard_of_unit obj extent ≡ shard → Marks l.items s.collected obj extent a → IsListed x.collected.lists shard a
  marks_listed obj extent a own h =
      let w : IsOfExtent obj extent a = of_extent obj extent a h.within in
      let g : HasGathered x.collected.lists h.txn a = s.gathered h.txn a (subst (λ i. has_change h.txn i ≡ true) (sym s.items) h.change) h.noted in
      record {
        list = g.entry;
        within = g.within;
        there = record { noted = g.noted; of = ap (λ n. shard_of_unit n (a.block / 16)) w.object ∙ ap (shard_of_unit obj) w.extent_is ∙ own };
      }

  -- a unit that gains the marks shows one that does
  unit_shown : (obj extent : ℕ) (old new : OwnUnit) (u : ColumnUnit) → ShowsUnit old u → GainsMarks (IsListed x.collected.lists shard) (has_coarse x.items) obj extent old new → ShowsUnit new (marked_as new u)
  unit_shown obj extent old new u h g = record {
    snapshot = g.snapshot ∙ h.snapshot;
    ticket = g.ticket ∙ h.ticket;
    columns = ap rows_shown g.state ∙ h.columns;
    marked = λ a. refl;
    all = refl;
  }

  unit_marked : (obj extent : ℕ) (old new : OwnUnit) (u : ColumnUnit) → shard_of_unit obj extent ≡ shard → ShowsUnit old u → GainsMarks (IsListed x.collected.lists shard) (has_coarse x.items) obj extent old new
      → IsMarked l.items s.collected obj extent u (marked_as new u)
  unit_marked obj extent old new u own h g = record {
    same = refl;
    all = g.all ∙ ap (λ b. b || has_coarse x.items) h.all ∙ ap (λ i. u.all || has_coarse i) s.items;
    kept = λ a m. g.kept a (h.marked a ∙ m);
    gained = λ a m. g.gained a (marks_listed obj extent a own m) (of_extent obj extent a m.within);
    only = λ a m. only a (g.only a m);
  }
    where
      only : (a : Place) → (is_marked old a ≡ true) ⊎ (IsListed x.collected.lists shard a × IsOfExtent obj extent a) → (u.marked a ≡ true) ⊎ Marks l.items s.collected obj extent a
      only a (inl m) = inl (sym (h.marked a) ∙ m)
      only a (inr m) = inr (listed_marks obj extent a m.0 m.1)

  any_shown : (obj extent : ℕ) (old new : Option OwnUnit) (u : Option ColumnUnit) → ShowsAny old u → TouchesAny x.items (IsListed x.collected.lists shard) obj extent old new → ShowsAny new (marked_any new u)
  any_shown obj extent None new None h t = subst (λ (y : Option OwnUnit). ShowsAny y None) (sym t) tt
  any_shown obj extent None new (Some u) h t = absurd h
  any_shown obj extent (Some old) new None h t = absurd h
  any_shown obj extent (Some old) new (Some u) h (inl t) = subst (λ (y : Option OwnUnit). ShowsAny y (marked_any y (Some u))) (sym t.1) tt
  any_shown obj extent (Some old) new (Some u) h (inr t) = subst (λ (y : Option OwnUnit). ShowsAny y (marked_any y (Some u))) (sym t.stands) (unit_shown obj extent old t.unit u h t.marks)

  any_touched : (obj extent : ℕ) (old new : Option OwnUnit) (u : Option ColumnUnit) → shard_of_unit obj extent ≡ shard → ShowsAny old u → TouchesAny x.items (IsListed x.collected.lists shard) obj extent old new
      → IsTouched l.items s.collected obj extent u (marked_any new u)
  any_touched obj extent old new None own h t = refl
  any_touched obj extent None new (Some u) own h t = absurd h
  any_touched obj extent (Some old) new (Some u) own h (inl t) =
      inl (subst (λ i. has_drop obj i ≡ true) s.items t.0, ap (λ (y : Option OwnUnit). marked_any y (Some u)) t.1)
  any_touched obj extent (Some old) new (Some u) own h (inr t) = inr (record {
    kept = subst (λ i. has_drop obj i ≡ false) s.items t.kept;
    unit = marked_as t.unit u;
    stands = ap (λ (y : Option OwnUnit). marked_any y (Some u)) t.stands;
    marked = unit_marked obj extent old t.unit u own h t.marks;
  })

-- a worklink at another cursor shows the same
link_moved : (workers actor cursor : ℕ) (x : OwnLink) (l : Link) → (s : ShowsLink workers x l) → x.stage ≡ Claimed actor cursor
    → ShowsLink workers (record x { stage = Claimed actor (cursor + 1) }) (record l { stage = rules.Claimed actor (cursor + 1) s.collected })
link_moved workers actor cursor x l s is = record {
  items = s.items;
  collected = s.collected;
  stage = refl;
  gathered = s.gathered;
  only = s.only;
  lists = s.lists;
  room = s.room;
  few =
      let was : length x.collected.lists ≤ cursor * length x.items = subst (λ st. AreFew st (length x.collected.lists) (length x.items)) is s.few in
      omega arith;
}

module _ (core : Core) (c : CoreState) (h : IsState core c) (actor : ℕ) where
  pub not_ready_touch : (CanTouch c actor → ⊥) → HasStepped core c (event.Touch actor) NotReady
  not_ready_touch never = record { next = c; steps = inl (refl, never, refl); shows = h.shows }

  pub none_to_touch : ((n : ℕ) → At core.flush.held.items actor (Some n) → ⊥) → CanTouch c actor → ⊥
  none_to_touch none can = none_held core c h actor none can.number can.link can.cursor can.collected can.has

  module _ (number : ℕ) (held : At core.flush.held.items actor (Some number)) (own : OwnLink) (at : At core.flush.links.items number own) (a cursor : ℕ) (stage : own.stage ≡ Claimed a cursor) where
    -- an event that can't happen leaves the worklink
    pub touch_bars : (CanTouch c actor → ⊥) → (ls : Vec OwnLink Global) → ls.items ≡ slice_set core.flush.links.items number own → HasStepped (record core { flush = record core.flush { links = ls } }) c (event.Touch actor) NotReady
    touch_bars never ls ls_is = record {
      next = c;
      steps = inl (refl, never, refl);
      shows = with_flush core c (record core.flush { links = ls }) c.quiesce c.links h.shows (flush_stays core c h actor number held own at a cursor stage ls ls_is);
    }

    pub not_behind_areas : cursor < length core.workers.items → CanTouch c actor → ⊥
    not_behind_areas l can =
        let k : can.cursor ≡ cursor = only_link core c h actor number held own at a cursor stage can.number can.link can.cursor can.collected can.has in
        let n : length core.workers.items ≡ length c.workers = h.shows.workers.same_length in
        let f : length c.workers ≤ can.cursor = can.from in
        absurd (omega arith)

    pub no_shard : (shard : ℕ) → cursor ≡ length core.workers.items + shard → slice_get core.units.items shard ≡ None → CanTouch c actor → ⊥
    no_shard shard is none can =
        let k : can.cursor ≡ cursor = only_link core c h actor number held own at a cursor stage can.number can.link can.cursor can.collected can.has in
        let n : length core.workers.items ≡ length c.workers = h.shows.workers.same_length in
        let b : can.cursor < length c.workers + 32 = can.below in
        let u : length core.units.items ≡ 32 = h.shows.units.count in
        let r = at_exists core.units.items shard (omega arith) in
        let e : None ≡ Some r.0 = sym none ∙ r.1 in
        absurd cc

    -- what the call asks
    pub touch_lists : AllByRecursion (IsReadyList own.items) own.collected.lists
    touch_lists = (shown_link core c h actor number held own at).2.lists

    pub touch_moves : (shard : ℕ) (t u : shards.Units) (ls : Vec OwnLink Global) (us : Vec shards.Units Global) → cursor ≡ length core.workers.items + shard → At core.units.items shard t
        → TouchesUnits own.items own.collected.lists t u → ls.items ≡ slice_set core.flush.links.items number (record own { stage = Claimed actor (cursor + 1) }) → us.items ≡ slice_set core.units.items shard u
        → HasStepped (record core { units = us; flush = record core.flush { links = ls } }) c (event.Touch actor) Moved
    touch_moves shard t u ls us cursor_is at_t touches ls_is us_is = record {
      next = record c { links = slice_set c.links number new_l; units = units };
      steps = inr (
        refl,
        record {
          number = number;
          link = l.0;
          cursor = cursor;
          collected = l.2.collected;
          has = has_link core c h actor number held own at a cursor stage;
          shard = shard;
          at = let n : length core.workers.items ≡ length c.workers = h.shows.workers.same_length in omega arith;
          is_shard = let w : shard < length core.units.items = at_within core.units.items shard t at_t in let k : length core.units.items ≡ 32 = h.shows.units.count in omega arith;
          units = units;
          touched = touched;
          others = others;
          effect = refl;
        },
      );
      shows = with_flush (record core { units = us }) (record c { units = units }) (record core.flush { links = ls }) c.quiesce (slice_set c.links number new_l)
          (with_units core c us units h.shows shown)
          (flush_goes_on core.worker_count core.flush c.quiesce c.links number actor cursor (cursor + 1) own (record own { stage = Claimed actor (cursor + 1) }) new_l ls h.shows.flush at is refl ls_is
          (link_moved core.worker_count actor cursor own l.0 l.2 is));
    }
      where
        l : (l : Link) × At c.links number l × ShowsLink core.worker_count own l
        l = shown_link core c h actor number held own at

        is : own.stage ≡ Claimed actor cursor
        is = own_stage core c h actor number held own at a cursor stage

        new_l : Link
        new_l = record l.0 { stage = rules.Claimed actor (cursor + 1) l.2.collected }

        units : Units
        units = λ obj extent. cond (shard_of_unit obj extent == shard) (marked_any (shards.unit_at u obj extent) (c.units obj extent)) (c.units obj extent)

        number_is : t.number ≡ shard
        number_is = h.shows.units.numbers shard t at_t

        touch_at : (obj extent : ℕ) → TouchesAny own.items (IsListed own.collected.lists shard) obj extent (shards.unit_at t obj extent) (shards.unit_at u obj extent)
        touch_at obj extent = subst (λ n. TouchesAny own.items (IsListed own.collected.lists n) obj extent (shards.unit_at t obj extent) (shards.unit_at u obj extent)) number_is (touches.units obj extent)

        was : (obj extent : ℕ) → shard_of_unit obj extent ≡ shard → ShowsAny (shards.unit_at t obj extent) (c.units obj extent)
        was obj extent e =
            subst (λ (o : Option shards.Units). ShowsAny (unit_in_shard o obj extent) (c.units obj extent)) (ap (slice_get core.units.items) e ∙ at_t) (h.shows.units.each obj extent)

        same : (obj extent : ℕ) → shard_of_unit obj extent ≡ shard → units obj extent ≡ marked_any (shards.unit_at u obj extent) (c.units obj extent)
        same obj extent e = ap (λ (b : Bool). cond b (marked_any (shards.unit_at u obj extent) (c.units obj extent)) (c.units obj extent)) (eq-eqb (shard_of_unit obj extent) shard e)

        touched : (obj extent : ℕ) → shard_of_unit obj extent ≡ shard → IsTouched l.0.items l.2.collected obj extent (c.units obj extent) (units obj extent)
        touched obj extent e = subst (IsTouched l.0.items l.2.collected obj extent (c.units obj extent)) (sym (same obj extent e))
            (any_touched core.worker_count own l.0 l.2 shard obj extent (shards.unit_at t obj extent) (shards.unit_at u obj extent) (c.units obj extent) e (was obj extent e) (touch_at obj extent))

        others : (obj extent : ℕ) → (shard_of_unit obj extent ≡ shard → ⊥) → units obj extent ≡ c.units obj extent
        others obj extent d = by (shard_of_unit obj extent == shard) refl
          where
            by : (b : Bool) → (shard_of_unit obj extent == shard) ≡ b → cond b (marked_any (shards.unit_at u obj extent) (c.units obj extent)) (c.units obj extent) ≡ c.units obj extent
            by false e = refl
            by true e = absurd (d (eqb-true (shard_of_unit obj extent) shard e))

        shown : ShowsUnits us.items units
        shown = subst (λ k. ShowsUnits k units) (sym us_is)
            (units_set core.units.items c.units units shard t u h.shows.units at_t touches.number
            (λ obj extent e. subst (ShowsAny (shards.unit_at u obj extent)) (sym (same obj extent e))
            (any_shown core.worker_count own l.0 l.2 shard obj extent (shards.unit_at t obj extent) (shards.unit_at u obj extent) (c.units obj extent) (was obj extent e) (touch_at obj extent)))
            others)

-- where no unit stands nothing is touched
pub touches_none : (items : List Item) (lists : List Gathered) (units : shards.Units) → units.entries ≡ [] → TouchesUnits items lists units units
touches_none items lists units h = record { number = refl; units = λ obj extent. by_unit obj extent (shards.unit_at units obj extent) (none obj extent) }
  where
    none : (obj extent : ℕ) → shards.unit_at units obj extent ≡ None
    none obj extent = ap (λ (entries : List ((ℕ × ℕ) × OwnUnit)). lookup (shards.same_key (obj, extent)) entries) h

    by_unit : (obj extent : ℕ) (o : Option OwnUnit) → o ≡ None → TouchesAny items (IsListed lists units.number) obj extent o o
    by_unit obj extent None e = refl
    by_unit obj extent (Some u) e = absurd cc
