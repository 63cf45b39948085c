-- Collect keeps the invariant, once the units are known to.
use Rattle.std.proofs.Common.{◌≡◌, ℕ, ◌+◌, ◌<◌, ◌≤◌, Bool, true, false, List, length, take, ◌⊎◌, inl, inr, refl, sym, ap, ◌∙◌, subst, arith, length-set}
use Rattle.std.specs.Prelude.{nat_lt, slice_set}
use Rattle.std.specs.List.{Contains}
use Rattle.std.proofs.lemmas.Bool.{lt-ltb, ltb-true, cases_eq, cases_order}
use Rattle.adg_base.specs.Address.{Place}
use Rattle.adg_base.specs.Area.{HoldsPlace, HoldsBegin}
use Rattle.adg_base.specs.declared.log.LogEntry.{LogEntry}
use Rattle.core_rules.specs.Share.{NotedIn, BegunIn, EndedWithin}
use Rattle.core_rules.specs.State.{CoreState, Worker, Stage, Claimed, Link, At, share_of, limit, is_past, has_txn, HasCollected, PassesTxn}
use Rattle.core_rules.specs.Flush.{Collects}
use Rattle.core_rules.specs.LogFacts.{LogFacts, LogHasFacts}
use Rattle.core_rules.specs.Parts.{AreaIs, IsGone, CollectedAre, NotedBelow}
use Rattle.core_rules.specs.Invariant.{Invariant, WorkerIs, AllUnits}
use Rattle.core_rules.proofs.Lists.{at_within, at_same, at_set_cases, at_set_same, at_map, map_set_same, contains_take, is_true, not_both}
use Rattle.core_rules.proofs.Shares.{share_log, note_touches}
use Rattle.core_rules.proofs.Keeps.{Keeps, KeepsPart}
use Rattle.core_rules.proofs.Items.{items_end, mined_below}
use Rattle.core_rules.proofs.Crew.{WorkerAt, worker_at}
use Rattle.core_rules.proofs.UnitsPassed.{staged, txn_passes}
use Rattle.core_rules.proofs.Staged.{StagedIs, staged_keeps, area_staged, held_fits, passes_on}

-- at a place that is not the cursor the next cursor is past where the cursor was
step_past : (place cursor : ℕ) → (place ≡ cursor → ⊥) → nat_lt place (cursor + 1) ≡ nat_lt place cursor
step_past place cursor d = by_order (cases_order place cursor)
  where
    no : (n m : ℕ) → m ≤ n → nat_lt n m ≡ false
    no n m l = by_test (nat_lt n m) refl
      where
        by_test : (b : Bool) → nat_lt n m ≡ b → b ≡ false
        by_test false e = refl
        by_test true e = let k : n < m = ltb-true n m e in absurd (omega arith)

    by_order : (place ≡ cursor) ⊎ ((place < cursor) ⊎ (cursor < place)) → nat_lt place (cursor + 1) ≡ nat_lt place cursor
    by_order (inl e) = absurd (d e)
    by_order (inr (inl l)) = lt-ltb place (cursor + 1) (omega arith) ∙ sym (lt-ltb place cursor l)
    by_order (inr (inr l)) = no place (cursor + 1) (omega arith) ∙ sym (no place cursor (omega arith))

not_past : (n : ℕ) → nat_lt n n ≡ true → ⊥
not_past n h = let l : n < n = ltb-true n n h in absurd (omega arith)

-- Of the worklink's transactions all that was noted in the share of the cursor's worker is mined, and none of it
-- is gone from the area.
noted_is_held : (c : CoreState) (actor : ℕ) (new : CoreState) → LogHasFacts → Invariant c → (r : Collects c actor new) → (t : ℕ) (a : Place)
    → has_txn t r.link.items ≡ true → NotedIn c.log c.born (share_of c r.cursor) t a → HoldsPlace r.was.area t a
noted_is_held c actor new facts v r t a h n = area.holds t a (record { entry = n.entry; within = mined; above = n.above; notes = n.notes }) stays
  where
    log : LogFacts c.log c.frontier
    log = facts c.log c.frontier v.log

    is : WorkerIs c r.cursor r.was
    is = v.workers r.cursor r.was r.at

    area : AreaIs c.log c.born c.query c.links r.cursor (take r.was.mined (share_of c r.cursor)) r.was.area
    area = is.area

    end : EndedWithin c.log c.query (limit c) t
    end = items_end c v r.number r.link t r.has.found h

    there : Contains c.log n.entry
    there = share_log (length c.workers) r.cursor c.log n.entry n.within

    mined : Contains (take r.was.mined (share_of c r.cursor)) n.entry
    mined =
        let order = log.touched_to_end t a n.entry end.entry there end.within (note_touches c.log n.entry t a n.notes) end.end in
        let before : n.entry.scn ≤ end.entry.scn = order.1 in
        let upto : end.entry.scn ≤ limit c = end.upto in
        let reached : limit c ≤ r.was.progress = is.progress.reached in
        mined_below c v r.cursor r.was n.entry r.at n.within (omega arith)

    stays : IsGone c.log c.born c.query c.links r.cursor t → ⊥
    stays (inl e) =
        let one : e.entry ≡ end.entry = log.ended_once t e.entry end.entry e.within end.within e.end end.end in
        let scns : e.entry.scn ≡ end.entry.scn = ap (λ (x : LogEntry). x.scn) one in
        let low : e.entry.scn ≤ c.query = e.upto in
        let high : c.query < end.entry.scn = end.above in
        absurd (omega arith)
    stays (inr p) =
        let mine = at_map (λ (l : Link). l.items) c.links r.number r.link r.has.found in
        let its = at_map (λ (l : Link). l.items) c.links p.number p.link p.found in
        let one : p.number ≡ r.number = v.flush.items.together p.number r.number p.link.items r.link.items t its mine p.of h in
        let same : p.link ≡ r.link = at_same c.links r.number p.link r.link (subst (λ i. At c.links i p.link) one p.found) r.has.found in
        let stage : p.link.stage ≡ Claimed actor r.cursor r.collected = ap (λ (l : Link). l.stage) same ∙ r.has.stage in
        not_past r.cursor (sym (ap (is_past r.cursor) stage) ∙ p.past)

pub collect_keeps : (actor : ℕ) → KeepsPart AllUnits (λ c new. Collects c actor new) → Keeps (λ c new. Collects c actor new)
collect_keeps actor units facts c new r v =
    subst Invariant (sym r.effect) (staged_keeps c r.number r.link stage workers c.units v staged_is (subst AllUnits r.effect (units facts c new r v)))
  where
    stage : Stage
    stage = Claimed actor (r.cursor + 1) r.more

    x : Worker
    x = record r.was { area = r.area }

    workers : List Worker
    workers = slice_set c.workers r.cursor x

    links : List Link
    links = staged c.links r.number r.link stage

    entries : List LogEntry
    entries = take r.was.mined (share_of c r.cursor)

    is : WorkerIs c r.cursor r.was
    is = v.workers r.cursor r.was r.at

    old : AreaIs c.log c.born c.query c.links r.cursor entries r.was.area
    old = is.area

    known : r.cursor < length c.workers
    known = at_within c.workers r.cursor r.was r.at

    had : CollectedAre c.log c.born (length c.workers) r.link.items r.cursor r.collected
    had = v.flush.collected r.number r.link actor r.cursor r.collected r.has.found r.has.stage

    -- gone is what was gone, and what the worklink has
    gone_back : (t : ℕ) → IsGone c.log c.born c.query links r.cursor t → IsGone c.log c.born c.query c.links r.cursor t ⊎ (has_txn t r.link.items ≡ true)
    gone_back t (inl e) = inl (inl e)
    gone_back t (inr p) = either (txn_passes c.links r.number r.link stage r.cursor t p)
      where
        either : PassesTxn c.links r.cursor t ⊎ ((is_past r.cursor stage ≡ true) × (has_txn t r.link.items ≡ true)) → IsGone c.log c.born c.query c.links r.cursor t ⊎ (has_txn t r.link.items ≡ true)
        either (inl q) = inl (inr q)
        either (inr q) = inr q.1

    gone_on : (t : ℕ) → IsGone c.log c.born c.query c.links r.cursor t → IsGone c.log c.born c.query links r.cursor t
    gone_on t (inl e) = inl e
    gone_on t (inr p) = inr (passes_on c.links r.number r.link stage r.cursor t r.has.found (λ h. absurd (not_past r.cursor (sym (ap (is_past r.cursor) r.has.stage) ∙ h))) p)

    gone_now : (t : ℕ) → has_txn t r.link.items ≡ true → IsGone c.log c.born c.query links r.cursor t
    gone_now t h = inr (record {
      number = r.number;
      link = record r.link { stage = stage };
      found = at_set_same c.links r.number (record r.link { stage = stage }) (at_within c.links r.number r.link r.has.found);
      past = lt-ltb r.cursor (r.cursor + 1) (omega arith);
      of = h;
    })

    area_is : AreaIs c.log c.born c.query links r.cursor entries r.area
    area_is = record {
      noted = λ t a h. old.noted t a (r.gives.places_only t a h).0;
      stays = λ t a h g. stays t a (r.gives.places_only t a h) (gone_back t g);
      holds = λ t a n g. holds t a n g (is_true (has_txn t r.link.items));
      begun = λ t h. old.begun t (r.gives.begins_only t h).0;
      begin_stays = λ t h g. begin_stays t (r.gives.begins_only t h) (gone_back t g);
      holds_begin = λ t b g. holds_begin t b g (is_true (has_txn t r.link.items));
    }
      where
        stays : (t : ℕ) (a : Place) → HoldsPlace r.was.area t a × (has_txn t r.link.items ≡ false) → IsGone c.log c.born c.query c.links r.cursor t ⊎ (has_txn t r.link.items ≡ true) → ⊥
        stays t a h (inl g) = old.stays t a h.0 g
        stays t a h (inr k) = not_both (has_txn t r.link.items) k h.1

        holds : (t : ℕ) (a : Place) → NotedIn c.log c.born entries t a → (IsGone c.log c.born c.query links r.cursor t → ⊥) → (has_txn t r.link.items ≡ true) ⊎ (has_txn t r.link.items ≡ false) → HoldsPlace r.area t a
        holds t a n g (inl k) = absurd (g (gone_now t k))
        holds t a n g (inr k) = r.gives.places_kept t a (old.holds t a n (λ h. g (gone_on t h))) k

        begin_stays : (t : ℕ) → HoldsBegin r.was.area t × (has_txn t r.link.items ≡ false) → IsGone c.log c.born c.query c.links r.cursor t ⊎ (has_txn t r.link.items ≡ true) → ⊥
        begin_stays t h (inl g) = old.begin_stays t h.0 g
        begin_stays t h (inr k) = not_both (has_txn t r.link.items) k h.1

        holds_begin : (t : ℕ) → BegunIn c.born entries t → (IsGone c.log c.born c.query links r.cursor t → ⊥) → (has_txn t r.link.items ≡ true) ⊎ (has_txn t r.link.items ≡ false) → HoldsBegin r.area t
        holds_begin t b g (inl k) = absurd (g (gone_now t k))
        holds_begin t b g (inr k) = r.gives.begins_kept t (old.holds_begin t b (λ h. g (gone_on t h))) k

    each : (n : ℕ) (w : Worker) → At workers n w → WorkerAt (length c.workers) (limit c) c.frontier c.log c.born c.query links c.shards n w
    each n w h = either (at_set_cases c.workers r.cursor n w x h)
      where
        either : ((n ≡ r.cursor) × (w ≡ x)) ⊎ ((n ≡ r.cursor → ⊥) × At c.workers n w) → WorkerAt (length c.workers) (limit c) c.frontier c.log c.born c.query links c.shards n w
        either (inl p) =
            subst (λ m. WorkerAt (length c.workers) (limit c) c.frontier c.log c.born c.query links c.shards m w) (sym p.0)
            (subst (λ y. WorkerAt (length c.workers) (limit c) c.frontier c.log c.born c.query links c.shards r.cursor y) (sym p.1)
            (record { counts = is.counts; progress = is.progress; applied = is.applied; area = area_is; partition = is.partition }))
        either (inr p) =
            let k = worker_at c n w (v.workers n w p.1) in
            record {
              counts = k.counts;
              progress = k.progress;
              applied = k.applied;
              area = area_staged c.log c.born c.query c.links r.number r.link stage n _ w.area r.has.found (step_past n r.cursor p.0 ∙ sym (ap (is_past n) r.has.stage)) k.area;
              partition = k.partition;
            }

    later : CollectedAre c.log c.born (length c.workers) r.link.items (r.cursor + 1) r.more
    later = record {
      of = λ t a h. of t a (r.gains.only t a h);
      noted = λ t a h. noted t a (r.gains.only t a h);
      all = all;
    }
      where
        of : (t : ℕ) (a : Place) → HasCollected r.collected t a ⊎ (HoldsPlace r.was.area t a × (has_txn t r.link.items ≡ true)) → has_txn t r.link.items ≡ true
        of t a (inl h) = had.of t a h
        of t a (inr h) = h.1

        noted : (t : ℕ) (a : Place) → HasCollected r.collected t a ⊎ (HoldsPlace r.was.area t a × (has_txn t r.link.items ≡ true)) → NotedBelow c.log c.born (length c.workers) (r.cursor + 1) t a
        noted t a (inl h) = let n = had.noted t a h in let l : n.worker < r.cursor = n.below in record { worker = n.worker; known = n.known; below = omega arith; noted = n.noted }
        noted t a (inr h) =
            let n = old.noted t a h.0 in
            record {
              worker = r.cursor;
              known = known;
              below = omega arith;
              noted = record { entry = n.entry; within = contains_take r.was.mined (share_of c r.cursor) n.entry n.within; above = n.above; notes = n.notes };
            }

        all : (t : ℕ) (a : Place) → has_txn t r.link.items ≡ true → NotedBelow c.log c.born (length c.workers) (r.cursor + 1) t a → HasCollected r.more t a
        all t a h n = either (cases_eq n.worker r.cursor)
          where
            either : (n.worker ≡ r.cursor) ⊎ (n.worker ≡ r.cursor → ⊥) → HasCollected r.more t a
            either (inl e) = r.gains.gained t a (noted_is_held c actor new facts v r t a h (subst (λ w. NotedIn c.log c.born (share_of c w) t a) e n.noted)) h
            either (inr d) =
                let l : n.worker < r.cursor + 1 = n.below in
                r.gains.kept t a (had.all t a h (record { worker = n.worker; known = n.known; below = omega (arith, d); noted = n.noted }))

    within : r.cursor + 1 ≤ length c.workers + 32
    within = let l : r.cursor < length c.workers = known in omega arith

    staged_is : StagedIs c r.number r.link stage workers c.units
    staged_is = record {
      found = r.has.found;
      fits = held_fits c v r.number r.link actor r.cursor (r.cursor + 1) r.collected r.more r.has.found r.has.stage within;
      collected = λ a k xs e.
          let cursors : r.cursor + 1 ≡ k = cc in
          let lists : r.more ≡ xs = cc in
          subst (λ n. CollectedAre c.log c.born (length c.workers) r.link.items n xs) cursors
          (subst (λ ys. CollectedAre c.log c.born (length c.workers) r.link.items (r.cursor + 1) ys) lists later);
      as_many = length-set c.workers r.cursor x;
      mined = map_set_same (λ (w : Worker). w.mined) c.workers r.cursor r.was x r.at refl;
      each = each;
      tied = v.tied;
    }
