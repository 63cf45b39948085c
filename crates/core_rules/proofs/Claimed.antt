-- Claim, Touch and Done keep the invariant, once the units are known to.
use Rattle.std.proofs.Common.{◌≡◌, ℕ, ◌+◌, ◌<◌, ◌≤◌, Bool, true, false, List, [], length, Option, Some, None, ◌⊎◌, inl, inr, refl, sym, ap, ◌∙◌, subst, arith, true≢false}
use Rattle.std.specs.Prelude.{nat_lt}
use Rattle.std.proofs.lemmas.Bool.{lt-ltb, ltb-true, eqb-true, cases_eq}
use Rattle.adg_base.specs.Shard.{shard_of_unit}
use Rattle.core_rules.specs.State.{CoreState, Worker, Collected, Stage, Claimed, Finished, Link, ColumnUnit, Population, Populating, At, limit, is_unclaimed, is_held_by, is_past}
use Rattle.core_rules.specs.Flush.{Claims, Touches, IsTouched, Finishes}
use Rattle.core_rules.specs.Parts.{CollectedAre, stages_of}
use Rattle.core_rules.specs.UnitParts.{HasItsUnits}
use Rattle.core_rules.specs.Invariant.{Invariant, AllUnits}
use Rattle.core_rules.proofs.Lists.{at_within, at_contains, at_map, at_map_back, any_false, not_both, has}
use Rattle.core_rules.proofs.Keeps.{Keeps, KeepsPart}
use Rattle.core_rules.proofs.Crew.{WorkerAt, worker_at}
use Rattle.core_rules.proofs.UnitsPassed.{staged}
use Rattle.core_rules.proofs.Staged.{StageFits, StagedIs, staged_keeps, area_staged, held_fits, none_earlier}

-- the workers under a worklink that is past the areas where it was
workers_staged : (c : CoreState) → Invariant c → (number : ℕ) (link : Link) (stage : Stage) → At c.links number link
    → ((place : ℕ) → place < length c.workers → is_past place stage ≡ is_past place link.stage)
    → (n : ℕ) (w : Worker) → At c.workers n w → WorkerAt (length c.workers) (limit c) c.frontier c.log c.born c.query (staged c.links number link stage) c.shards n w
workers_staged c v number link stage found same n w h =
    let is = worker_at c n w (v.workers n w h) in
    record {
      counts = is.counts;
      progress = is.progress;
      applied = is.applied;
      area = area_staged c.log c.born c.query c.links number link stage n _ w.area found (same n (at_within c.workers n w h)) is.area;
      partition = is.partition;
    }

pub claim_keeps : (actor : ℕ) → KeepsPart AllUnits (λ c new. Claims c actor new) → Keeps (λ c new. Claims c actor new)
claim_keeps actor units facts c new r v =
    subst Invariant (sym r.effect) (staged_keeps c r.number r.link stage c.workers c.units v is (subst AllUnits r.effect (units facts c new r v)))
  where
    stage : Stage
    stage = Claimed actor 0 []

    at : At (stages_of c.links) r.number r.link.stage
    at = at_map (λ (l : Link). l.stage) c.links r.number r.link r.first.found

    fits : StageFits (length c.workers) (stages_of c.links) r.number stage
    fits = record {
      alone = alone;
      claimed = refl;
      earlier = earlier;
      bounds = λ a k xs e.
          let actors : actor ≡ a = cc in
          let cursors : 0 ≡ k = cc in
          let known : actor ≤ length c.workers = r.can.known in
          (omega arith, omega arith);
    }
      where
        alone : (a j : ℕ) (y : Stage) → is_held_by a stage ≡ true → (j ≡ r.number → ⊥) → At (stages_of c.links) j y → is_held_by a y ≡ true → ⊥
        alone a j y h d k u =
            let back = at_map_back (λ (l : Link). l.stage) c.links j y k in
            let same : actor ≡ a = eqb-true actor a h in
            let held : is_held_by actor back.0.stage ≡ true = subst (λ b. is_held_by b back.0.stage ≡ true) (sym same) (subst (λ s. is_held_by a s ≡ true) (sym back.2) u) in
            any_false (λ (l : Link). is_held_by actor l.stage) c.links back.0 r.can.free (at_contains c.links j back.0 back.1) held

        earlier : (i : ℕ) (x : Stage) → i < r.number → At (stages_of c.links) i x → is_unclaimed x ≡ true → ⊥
        earlier i x l h u =
            let back = at_map_back (λ (y : Link). y.stage) c.links i x h in
            not_both (is_unclaimed back.0.stage) (subst (λ s. is_unclaimed s ≡ true) (sym back.2) u) (r.first.first i back.0 l back.1)

    never : (place : ℕ) → nat_lt place 0 ≡ false
    never place = by_test (nat_lt place 0) refl
      where
        by_test : (b : Bool) → nat_lt place 0 ≡ b → b ≡ false
        by_test false e = refl
        by_test true e = let l : place < 0 = ltb-true place 0 e in absurd (omega arith)

    is : StagedIs c r.number r.link stage c.workers c.units
    is = record {
      found = r.first.found;
      fits = fits;
      collected = λ a k xs e. none a k xs e;
      as_many = refl;
      mined = refl;
      each = workers_staged c v r.number r.link stage r.first.found (λ place l. never place ∙ sym (ap (is_past place) r.first.is));
      tied = v.tied;
    }
      where
        none : (a k : ℕ) (xs : List Collected) → stage ≡ Claimed a k xs → CollectedAre c.log c.born (length c.workers) r.link.items k xs
        none a k xs e =
            let cursors : 0 ≡ k = cc in
            let lists : [] ≡ xs = cc in
            subst (λ n. CollectedAre c.log c.born (length c.workers) r.link.items n xs) cursors
            (subst (λ ys. CollectedAre c.log c.born (length c.workers) r.link.items 0 ys) lists nothing)
          where
            nothing : CollectedAre c.log c.born (length c.workers) r.link.items 0 []
            nothing = record {
              of = λ t p h. absurd (has [] h.entry h.within);
              noted = λ t p h. absurd (has [] h.entry h.within);
              all = λ t p h n. let l : n.worker < 0 = n.below in absurd (omega arith);
            }

-- an equation between tests of places
same_past : (place cursor later : ℕ) → place < cursor → place < later → nat_lt place later ≡ nat_lt place cursor
same_past place cursor later h k = lt-ltb place later k ∙ sym (lt-ltb place cursor h)

-- a unit that was touched keeps its snapshot and its ticket
touched_same : (c : CoreState) (actor : ℕ) (new : CoreState) (r : Touches c actor new) → Invariant c → (place : ℕ) (p : Population) → At c.sessions place (Populating p) → HasItsUnits r.units p
touched_same c actor new r v place p at obj extent u stands ticket = by_shard (cases_eq (shard_of_unit obj extent) r.shard)
  where
    old : (w : ColumnUnit) → c.units obj extent ≡ Some w → w.ticket ≡ u.ticket → w.snapshot ≡ u.snapshot → (obj ≡ p.obj) × (u.snapshot ≡ p.snapshot)
    old w h tickets snapshots = let t = v.tied place p at obj extent w h (tickets ∙ ticket) in (t.0, sym snapshots ∙ t.1)

    by_unit : (o : Option ColumnUnit) → c.units obj extent ≡ o → IsTouched r.link.items r.collected obj extent o (r.units obj extent) → (obj ≡ p.obj) × (u.snapshot ≡ p.snapshot)
    by_unit None e t = let none : None ≡ Some u = sym t ∙ stands in absurd cc
    by_unit (Some w) e (inl t) = let none : None ≡ Some u = sym t.1 ∙ stands in absurd cc
    by_unit (Some w) e (inr t) =
        let one : Some t.unit ≡ Some u = sym t.stands ∙ stands in
        let same : t.unit ≡ u = cc in
        old w e (sym (ap (λ (x : ColumnUnit). x.ticket) t.marked.same) ∙ ap (λ (x : ColumnUnit). x.ticket) same)
        (sym (ap (λ (x : ColumnUnit). x.snapshot) t.marked.same) ∙ ap (λ (x : ColumnUnit). x.snapshot) same)

    by_shard : (shard_of_unit obj extent ≡ r.shard) ⊎ (shard_of_unit obj extent ≡ r.shard → ⊥) → (obj ≡ p.obj) × (u.snapshot ≡ p.snapshot)
    by_shard (inl e) = by_unit (c.units obj extent) refl (r.touched obj extent e)
    by_shard (inr d) = old u (sym (r.others obj extent d) ∙ stands) refl refl

pub touch_keeps : (actor : ℕ) → KeepsPart AllUnits (λ c new. Touches c actor new) → Keeps (λ c new. Touches c actor new)
touch_keeps actor units facts c new r v =
    subst Invariant (sym r.effect) (staged_keeps c r.number r.link stage c.workers r.units v is (subst AllUnits r.effect (units facts c new r v)))
  where
    stage : Stage
    stage = Claimed actor (r.cursor + 1) r.collected

    old : CollectedAre c.log c.born (length c.workers) r.link.items r.cursor r.collected
    old = v.flush.collected r.number r.link actor r.cursor r.collected r.has.found r.has.stage

    behind : length c.workers ≤ r.cursor
    behind = let e : r.cursor ≡ length c.workers + r.shard = r.at in omega arith

    within : r.cursor + 1 ≤ length c.workers + 32
    within = let e : r.cursor ≡ length c.workers + r.shard = r.at in let l : r.shard < 32 = r.is_shard in omega arith

    later : CollectedAre c.log c.born (length c.workers) r.link.items (r.cursor + 1) r.collected
    later = record {
      of = old.of;
      noted = λ t a h. let n = old.noted t a h in let l : n.worker < r.cursor = n.below in record { worker = n.worker; known = n.known; below = omega arith; noted = n.noted };
      all = λ t a h n. old.all t a h (record { worker = n.worker; known = n.known; below = let l : n.worker < length c.workers = n.known in let b : length c.workers ≤ r.cursor = behind in omega arith; noted = n.noted });
    }

    is : StagedIs c r.number r.link stage c.workers r.units
    is = record {
      found = r.has.found;
      fits = held_fits c v r.number r.link actor r.cursor (r.cursor + 1) r.collected r.collected r.has.found r.has.stage within;
      collected = λ a k xs e.
          let cursors : r.cursor + 1 ≡ k = cc in
          let lists : r.collected ≡ xs = cc in
          subst (λ n. CollectedAre c.log c.born (length c.workers) r.link.items n xs) cursors
          (subst (λ ys. CollectedAre c.log c.born (length c.workers) r.link.items (r.cursor + 1) ys) lists later);
      as_many = refl;
      mined = refl;
      each = workers_staged c v r.number r.link stage r.has.found
          (λ place l. let b : length c.workers ≤ r.cursor = behind in same_past place r.cursor (r.cursor + 1) (omega arith) (omega arith) ∙ sym (ap (is_past place) r.has.stage));
      tied = touched_same c actor new r v;
    }

pub finish_keeps : (actor : ℕ) → KeepsPart AllUnits (λ c new. Finishes c actor new) → Keeps (λ c new. Finishes c actor new)
finish_keeps actor units facts c new r v =
    subst Invariant (sym r.effect) (staged_keeps c r.number r.link Finished c.workers c.units v is (subst AllUnits r.effect (units facts c new r v)))
  where
    is : StagedIs c r.number r.link Finished c.workers c.units
    is = record {
      found = r.has.found;
      fits = record {
        alone = λ a j y h d k u. true≢false (sym h);
        claimed = refl;
        earlier = none_earlier c v r.number r.link r.has.found (ap is_unclaimed r.has.stage);
        bounds = λ a k xs e. absurd cc;
      };
      collected = λ a k xs e. absurd cc;
      as_many = refl;
      mined = refl;
      each = workers_staged c v r.number r.link Finished r.has.found
          (λ place l. let e : r.cursor ≡ length c.workers + 32 = r.end in sym (lt-ltb place r.cursor (omega arith)) ∙ sym (ap (is_past place) r.has.stage));
      tied = v.tied;
    }
