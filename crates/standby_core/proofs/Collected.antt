-- A worklink collects from the area at its cursor.
use Rattle.std.proofs.Common.{◌≡◌, ℕ, ◌+◌, ◌*◌, ◌<◌, ◌≤◌, true, false, List, ◌++◌, filter, length, Some, None, ◌⊎◌, inl, inr, refl, sym, ap, ◌∙◌, subst, arith, Vec, Global}
use Rattle.std.specs.Prelude.{slice_get, slice_set}
use Rattle.std.specs.List.{Contains, AllByRecursion, list_any}
use Rattle.std.proofs.lemmas.Bool.{or_left}
use Rattle.std.proofs.lemmas.List.{length-set}
use Rattle.std.proofs.Math.Nat.{mul-le-mul_left}
use Rattle.adg_base.specs.Address.{Place}
use Rattle.adg_base.specs.Area.{Held, HoldsPlace, HoldsBegin}
use Rattle.adg_base.specs.declared.node.Item.{Item}
use Rattle.adg_journal.specs.Area.{begun_in, places_of, is_begun, IsArea}
use Rattle.adg_journal.proofs.Membership.{place_is_held, begin_is_held}
use Rattle.core_rules.specs.declared.event.Event.TheVariants as event
use Rattle.core_rules.specs.declared.event.CoreAnswer.TheVariants.{NotReady, Moved}
use Rattle.core_rules.specs.State.{CoreState, Worker, Collected, Link, At, has_txn, has_change, is_change_of, HasCollected}
use Rattle.core_rules.specs.State as rules
use Rattle.core_rules.specs.Flush.{CanCollect, AreaGives, Gains}
use Rattle.core_rules.proofs.ExactFlush.{given}
use Rattle.core_rules.proofs.Lists.{Has, has, contains, at_within, at_exists, has_filter, has_filter_back, has_map, has_map_back, has_append_left, has_append_right, has_append_cases, is_true}
use Rattle.standby_core.specs.declared.standby.Core.{Core}
use Rattle.standby_core.specs.declared.worker.Worker.{Worker as OwnWorker}
use Rattle.standby_core.specs.declared.link.Stage.TheVariants.{Claimed}
use Rattle.standby_core.specs.declared.link.Link.{Link as OwnLink}
use Rattle.standby_core.specs.Collecting.{is_let_go_by, GivesOut, TakesArea}
use Rattle.standby_core.specs.Each.{EachAt}
use Rattle.standby_core.specs.Held.{SameHeld}
use Rattle.standby_core.specs.Links.{AreFew, HasGathered, IsReadyList, ShowsLink}
use Rattle.standby_core.specs.Parts.{ShowsWorker}
use Rattle.standby_core.specs.Shows.{IsState, HasStepped}
use Rattle.standby_core.proofs.Cursor.{none_held, shown_link, own_stage, has_link, only_link, flush_goes_on, flush_stays}
use Rattle.standby_core.proofs.Each.{each_right, each_set}
use Rattle.standby_core.proofs.Gathering.{txn_either, gone_held, kept_held, gone_places, kept_places}
use Rattle.standby_core.proofs.Kept.{with_workers, with_flush}

-- an area that gives out by transaction gives out by membership, also to one that held the same
gives_area : (items : List Item) (xs ws new : List Held) → IsArea xs → IsArea new → SameHeld xs ws → GivesOut (λ t. has_txn t items) xs new → AreaGives items ws new
gives_area items xs ws new is is' same h = record {
  places_kept = λ t a p e.
      (place_is_held new t a is').1 (subst (λ (l : List Place). Contains l a) (sym (kept_places (λ t. has_txn t items) xs new t h e)) ((place_is_held xs t a is).0 (same.places_back t a p)));
  places_only = λ t a p. places_only t a (is_true (has_txn t items)) ((place_is_held new t a is').0 p);
  begins_kept = λ t p e.
      (begin_is_held new t is').1 (ap begun_in (kept_held (λ t. has_txn t items) xs new t h e) ∙ (begin_is_held xs t is).0 (same.begins_back t p));
  begins_only = λ t p. begins_only t (is_true (has_txn t items)) ((begin_is_held new t is').0 p);
}
  where
    places_only : (t : ℕ) (a : Place) → (has_txn t items ≡ true) ⊎ (has_txn t items ≡ false) → Contains (places_of new t) a → HoldsPlace ws t a × (has_txn t items ≡ false)
    places_only t a (inl y) k = absurd (gone_places (λ t. has_txn t items) xs new t a h y k)
    places_only t a (inr n) k =
        (same.places t a ((place_is_held xs t a is).1 (subst (λ (l : List Place). Contains l a) (kept_places (λ t. has_txn t items) xs new t h n) k)), n)

    begins_only : (t : ℕ) → (has_txn t items ≡ true) ⊎ (has_txn t items ≡ false) → is_begun new t ≡ true → HoldsBegin ws t × (has_txn t items ≡ false)
    begins_only t (inl y) k = let e : false ≡ true = sym (ap begun_in (gone_held (λ t. has_txn t items) xs new t h y)) ∙ k in absurd cc
    begins_only t (inr n) k = (same.begins t ((begin_is_held xs t is).1 (sym (ap begun_in (kept_held (λ t. has_txn t items) xs new t h n)) ∙ k)), n)

-- what is collected with what an area holds of the transactions of some items
pub gains_given : (items : List Item) (area : List Held) (old : List Collected) → Gains items area old (old ++ given items area)
gains_given items area old = record {
  kept = λ t a h. record { entry = h.entry; within = contains (old ++ given items area) h.entry (has_append_left old (given items area) h.entry (has old h.entry h.within)); of = h.of; noted = h.noted };
  gained = gained;
  only = λ t a h. only t a h (has_append_cases old (given items area) h.entry (has (old ++ given items area) h.entry h.within));
}
  where
    gained : (t : ℕ) (a : Place) → HoldsPlace area t a → has_txn t items ≡ true → HasCollected (old ++ given items area) t a
    gained t a h k = record {
      entry = record { txn = h.held.txn; places = h.held.places };
      within = contains (old ++ given items area) (record { txn = h.held.txn; places = h.held.places })
          (has_append_right old (given items area) (record { txn = h.held.txn; places = h.held.places })
          (has_map (λ (x : Held). record { txn = x.txn; places = x.places }) (filter (λ (x : Held). has_txn x.txn items) area) h.held
          (has_filter (λ (x : Held). has_txn x.txn items) area h.held (has area h.held h.within) (ap (λ n. has_txn n items) h.of ∙ k))));
      of = h.of;
      noted = h.noted;
    }

    only : (t : ℕ) (a : Place) → (h : HasCollected (old ++ given items area) t a) → Has old h.entry ⊎ Has (given items area) h.entry → HasCollected old t a ⊎ (HoldsPlace area t a × (has_txn t items ≡ true))
    only t a h (inl k) = inl (record { entry = h.entry; within = contains old h.entry k; of = h.of; noted = h.noted })
    only t a h (inr k) =
        let m = has_map_back (λ (x : Held). record { txn = x.txn; places = x.places }) (filter (λ (x : Held). has_txn x.txn items) area) h.entry k in
        let f = has_filter_back (λ (x : Held). has_txn x.txn items) area m.0 m.1 in
        let of : m.0.txn ≡ t = ap (λ (x : Collected). x.txn) m.2 ∙ h.of in
        inr (record { held = m.0; within = contains area m.0 f.0; of = of; noted = subst (λ (x : Collected). Contains x.places a) (sym m.2) h.noted }, ap (λ n. has_txn n items) (sym of) ∙ f.1)

-- a worklink shows what it shows of more
link_collected : (workers actor cursor : ℕ) (own new : OwnLink) (link : Link) (area area' held : List Held) (more : List Collected) → (s : ShowsLink workers own link)
    → own.stage ≡ Claimed actor cursor → IsArea area → SameHeld area held → TakesArea area area' own new → Gains link.items held s.collected more
    → ShowsLink workers (record new { stage = Claimed actor (cursor + 1) }) (record link { stage = rules.Claimed actor (cursor + 1) more })
link_collected workers actor cursor own new link area area' held more s own_is is same takes g = record {
  items = takes.items ∙ s.items;
  collected = more;
  stage = refl;
  gathered = λ t a e x. gathered t a (subst (λ l. has_change t l ≡ true) takes.items e) (g.only t a x);
  only = λ t a x. only t a (takes.gathers.only t a x);
  lists = subst (λ l. AllByRecursion (IsReadyList l) new.collected.lists) (sym takes.items) (takes.lists s.lists);
  room = takes.room ∙ s.room ∙ ap (λ (l : List Item). length l * workers) (sym takes.items);
  few =
      let was : length own.collected.lists ≤ cursor * length own.items = subst (λ st. AreFew st (length own.collected.lists) (length own.items)) own_is s.few in
      let now : length new.collected.lists ≤ length own.collected.lists + length own.items = takes.few in
      let n : length new.items ≡ length own.items = ap length takes.items in
      let k : length new.collected.lists ≤ (cursor + 1) * length own.items = omega arith in
      subst (λ m. length new.collected.lists ≤ (cursor + 1) * m) (sym n) k;
}
  where
    gathered : (t : ℕ) (a : Place) → has_change t own.items ≡ true → HasCollected s.collected t a ⊎ (HoldsPlace held t a × (has_txn t link.items ≡ true)) → HasGathered new.collected.lists t a
    gathered t a e (inl x) = takes.gathers.kept t a (s.gathered t a e x)
    gathered t a e (inr x) = takes.gathers.gained t a e ((place_is_held area t a is).0 (same.places_back t a x.0))

    only : (t : ℕ) (a : Place) → HasGathered own.collected.lists t a ⊎ ((has_change t own.items ≡ true) × Contains (places_of area t) a) → HasCollected more t a
    only t a (inl x) = g.kept t a (s.only t a x)
    only t a (inr x) =
        let of : has_txn t own.items ≡ true = txn_either t own.items ∙ or_left (has_change t own.items) (list_any (is_let_go_by t) own.items) x.0 in
        g.gained t a (same.places t a ((place_is_held area t a is).1 x.1)) (subst (λ l. has_txn t l ≡ true) s.items of)

-- there is room for a list of each item
pub room_for : (workers cursor lists items room : ℕ) → lists ≤ cursor * items → cursor < workers → room ≡ items * workers → lists + items ≤ room
room_for workers cursor lists items room few within is =
    let more : items * (cursor + 1) ≤ items * workers = mul-le-mul_left items (omega arith) in
    omega arith

module _ (core : Core) (c : CoreState) (h : IsState core c) (actor : ℕ) where
  pub not_ready_collect : (CanCollect c actor → ⊥) → HasStepped core c (event.Collect actor) NotReady
  not_ready_collect never = record { next = c; steps = inl (refl, never, refl); shows = h.shows }

  pub none_to_collect : ((n : ℕ) → At core.flush.held.items actor (Some n) → ⊥) → CanCollect c actor → ⊥
  none_to_collect none can = none_held core c h actor none can.number can.link can.cursor can.collected can.has

  module _ (number : ℕ) (held : At core.flush.held.items actor (Some number)) (own : OwnLink) (at : At core.flush.links.items number own) (a cursor : ℕ) (stage : own.stage ≡ Claimed a cursor) where
    -- an event that can't happen leaves the worklink
    pub collect_bars : (CanCollect c actor → ⊥) → (ls : Vec OwnLink Global) → ls.items ≡ slice_set core.flush.links.items number own → HasStepped (record core { flush = record core.flush { links = ls } }) c (event.Collect actor) NotReady
    collect_bars never ls ls_is = record {
      next = c;
      steps = inl (refl, never, refl);
      shows = with_flush core c (record core.flush { links = ls }) c.quiesce c.links h.shows (flush_stays core c h actor number held own at a cursor stage ls ls_is);
    }

    pub no_area : slice_get core.workers.items cursor ≡ None → CanCollect c actor → ⊥
    no_area none can =
        let k : can.cursor ≡ cursor = only_link core c h actor number held own at a cursor stage can.number can.link can.cursor can.collected can.has in
        let l : length core.workers.items ≡ length c.workers = h.shows.workers.same_length in
        let w : can.cursor < length c.workers = can.area in
        let r = at_exists core.workers.items cursor (omega arith) in
        let e : None ≡ Some r.0 = sym none ∙ r.1 in
        absurd cc

    module _ (x : OwnWorker) (at_x : At core.workers.items cursor x) where
      shown_worker : (w : Worker) × At c.workers cursor w × ShowsWorker core.worker_count c.log cursor x w
      shown_worker = each_right (ShowsWorker core.worker_count c.log) core.workers.items c.workers h.shows.workers cursor x at_x

      -- what the call asks
      pub collect_area : IsArea x.area
      collect_area = shown_worker.2.is_area

      pub collect_room : length own.collected.lists + length own.items ≤ own.collected.room
      collect_room =
          let s = (shown_link core c h actor number held own at).2 in
          let few : length own.collected.lists ≤ cursor * length own.items = subst (λ st. AreFew st (length own.collected.lists) (length own.items)) stage s.few in
          let w : cursor < length c.workers = at_within c.workers cursor shown_worker.0 shown_worker.1 in
          let n : core.worker_count ≡ length c.workers = h.shows.worker_count in
          room_for core.worker_count cursor (length own.collected.lists) (length own.items) own.collected.room few (omega arith) s.room

      pub collect_moves : (new : OwnLink) (area : List Held) (ls : Vec OwnLink Global) (ws : Vec OwnWorker Global) → TakesArea x.area area own new
          → ls.items ≡ slice_set core.flush.links.items number (record new { stage = Claimed actor (cursor + 1) }) → ws.items ≡ slice_set core.workers.items cursor (record x { area = area })
          → HasStepped (record core { workers = ws; flush = record core.flush { links = ls } }) c (event.Collect actor) Moved
      collect_moves new area ls ws takes ls_is ws_is = record {
        next = record c { workers = slice_set c.workers cursor new_w; links = slice_set c.links number new_l };
        steps = inr (
          refl,
          record {
            number = number;
            link = l.0;
            cursor = cursor;
            collected = l.2.collected;
            has = has_link core c h actor number held own at a cursor stage;
            was = w.0;
            at = w.1;
            area = area;
            gives = subst (λ i. AreaGives i w.0.area area) l.2.items (gives_area own.items x.area w.0.area area w.2.is_area takes.is_area w.2.area takes.gives);
            more = more;
            gains = gains_given l.0.items w.0.area l.2.collected;
            effect = refl;
          },
        );
        shows = with_flush (record core { workers = ws }) (record c { workers = slice_set c.workers cursor new_w }) (record core.flush { links = ls }) c.quiesce (slice_set c.links number new_l)
            (with_workers core c ws (slice_set c.workers cursor new_w) h.shows workers (length-set c.workers cursor new_w))
            (flush_goes_on core.worker_count core.flush c.quiesce c.links number actor cursor (cursor + 1) own (record new { stage = Claimed actor (cursor + 1) }) new_l ls h.shows.flush at is refl ls_is link);
      }
        where
          l : (l : Link) × At c.links number l × ShowsLink core.worker_count own l
          l = shown_link core c h actor number held own at

          w : (w : Worker) × At c.workers cursor w × ShowsWorker core.worker_count c.log cursor x w
          w = shown_worker

          is : own.stage ≡ Claimed actor cursor
          is = own_stage core c h actor number held own at a cursor stage

          more : List Collected
          more = l.2.collected ++ given l.0.items w.0.area

          new_w : Worker
          new_w = record w.0 { area = area }

          new_l : Link
          new_l = record l.0 { stage = rules.Claimed actor (cursor + 1) more }

          link : ShowsLink core.worker_count (record new { stage = Claimed actor (cursor + 1) }) new_l
          link = link_collected core.worker_count actor cursor own new l.0 x.area area w.0.area more l.2 is w.2.is_area w.2.area takes (gains_given l.0.items w.0.area l.2.collected)

          workers : EachAt (ShowsWorker core.worker_count c.log) ws.items (slice_set c.workers cursor new_w)
          workers = subst (λ k. EachAt (ShowsWorker core.worker_count c.log) k (slice_set c.workers cursor new_w)) (sym ws_is)
              (each_set (ShowsWorker core.worker_count c.log) core.workers.items c.workers h.shows.workers cursor (record x { area = area }) new_w
              (record {
                share = w.2.share;
                applied = w.2.applied;
                mined = w.2.mined;
                progress = w.2.progress;
                area = record { places = λ t p y. y; places_back = λ t p y. y; begins = λ t y. y; begins_back = λ t y. y };
                is_area = takes.is_area;
                ends = w.2.ends;
              }))
