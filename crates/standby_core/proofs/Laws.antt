-- The laws of the core, from those of its rules.
use Rattle.std.proofs.Common.{◌≡◌, ℕ, suc, cond, ◌+◌, ◌-◌, ◌*◌, ◌<◌, ◌≤◌, Bool, true, List, [], ◌∷◌, length, Option, Some, None, ◌⊎◌, inl, inr, refl, sym, ap, ◌∙◌, subst, arith}
use Rattle.std.specs.Prelude.{count_by, nat_le}
use Rattle.std.specs.List.{Contains}
use Rattle.adg_base.specs.Address.{Place}
use Rattle.adg_base.specs.declared.log.LogEntry.{LogEntry}
use Rattle.adg_model.specs.declared.mined.Mined.TheVariants as mined
use Rattle.adg_model.specs.Mined.{mined_of}
use Rattle.column_units.specs.declared.unit.Unit.{Unit as OwnUnit}
use Rattle.column_units.specs.Unit.{is_marked}
use Rattle.core_rules.specs.Extents.{IsInExtent}
use Rattle.core_rules.specs.State.{CoreState, Worker, ColumnUnit, Link, Stage, Collected, At}
use Rattle.core_rules.specs.State as state
use Rattle.core_rules.specs.Laws.{EndsFlush}
use Rattle.core_rules.specs.Laws.{IsFlushed as RulesFlushed}
use Rattle.core_rules.proofs.Lists.{each_from, contains_at}
use Rattle.std.proofs.lemmas.Bool.{le-leb, lt-leb, cases_lt}
use Rattle.std.proofs.lemmas.List.Sums.{sum_by-cons}
use Rattle.core_rules.proofs.Whole as rules
use Rattle.standby_core.specs.declared.worker.Worker.{Worker as OwnWorker}
use Rattle.standby_core.specs.Parts.{ShowsWorker, ShowsUnit, ShowsAny, unit_in}
use Rattle.standby_core.specs.declared.link.Link.{Link as OwnLink}
use Rattle.standby_core.specs.declared.link.Stage.{Stage as OwnStage}
use Rattle.standby_core.specs.declared.link.Stage.TheVariants.{Unclaimed, Claimed, Finished}
use Rattle.standby_core.specs.Links.{stage_with, is_unclaimed, quiesce_shown, ShowsLink}
use Rattle.standby_core.specs.Laws.{FlushBeforePublish, FlushEnds}
use Rattle.standby_core.proofs.Each.{each_left, each_right}

-- the unit that a unit of the code shows
shown_unit : (x : OwnUnit) (o : Option ColumnUnit) → ShowsAny (Some x) o → (u : ColumnUnit) × (o ≡ Some u) × ShowsUnit x u
shown_unit x None h = absurd h
shown_unit x (Some u) h = (u, refl, h)

pub flush_before_publish : FlushBeforePublish
flush_before_publish core new c next t scn h publishes shows commits above upto = record {
  marked = marked;
  no_places = λ worker x a at held. let w = there worker x at in flushed.no_places worker w.0 a w.1 (w.2.area.places t a held);
  no_begins = λ worker x at held. let w = there worker x at in flushed.no_begins worker w.0 w.1 (w.2.area.begins t held);
}
  where
    flushed : RulesFlushed c next t
    flushed =
        let q : core.query ≡ c.query = h.shows.query in
        let r : new.query ≡ next.query = shows.query in
        rules.flush_before_publish c next t scn h.invariant publishes commits (omega arith) (omega arith)

    there : (worker : ℕ) (x : OwnWorker) → At new.workers.items worker x → (w : Worker) × At next.workers worker w × ShowsWorker new.worker_count next.log worker x w
    there worker x at = each_right (ShowsWorker new.worker_count next.log) new.workers.items next.workers shows.workers worker x at

    marked : (a : Place) (e : LogEntry) (extent : ℕ) (u : OwnUnit) → Contains c.log e → mined_of c.log e ≡ Some (mined.Note t a)
        → unit_in new.units.items a.obj extent ≡ Some u → IsInExtent a.obj extent a → (u.all ≡ true) ⊎ (is_marked u a ≡ true)
    marked a e extent u within notes stands inside = by (flushed.marked a e extent s.0 within notes s.1 inside)
      where
        s : (v : ColumnUnit) × (next.units a.obj extent ≡ Some v) × ShowsUnit u v
        s = shown_unit u (next.units a.obj extent) (subst (λ o. ShowsAny o (next.units a.obj extent)) stands (shows.units.each a.obj extent))

        by : (s.0.all ≡ true) ⊎ (s.0.marked a ≡ true) → (u.all ≡ true) ⊎ (is_marked u a ≡ true)
        by (inl k) = inl (s.2.all ∙ k)
        by (inr k) = inr (s.2.marked a ∙ k)

-- one for what passes a test, else none
abbrev bit : Bool → ℕ
bit b = cond b 1 0

-- of a list whose elements from a place on pass a test, and no others, so many pass it
count_from : {X : Type 0} (p : X → Bool) (from at : ℕ) (xs : List X) → ((n : ℕ) (x : X) → At xs n x → p x ≡ nat_le from (n + at)) → from ≤ at + length xs
    → count_by p xs + (from - at) ≡ length xs
count_from p from at [] h l = omega arith
count_from {X = X} p from at (x ∷ xs) h l = by_place (cases_lt at from) (λ k. count_from p from (at + 1) xs later k)
  where
    first : p x ≡ nat_le from at
    first = let e : 0 + at ≡ at = omega arith in subst (λ n. p x ≡ nat_le from n) e (h 0 x refl)

    later : (n : ℕ) (y : X) → At xs n y → p y ≡ nat_le from (n + (at + 1))
    later n y k = let e : suc n + at ≡ n + (at + 1) = omega arith in subst (λ m. p y ≡ nat_le from m) e (h (suc n) y k)

    counted : count_by p (x ∷ xs) ≡ bit (p x) + count_by p xs
    counted = sum_by-cons (λ (y : X). cond (p y) 1 0) x xs

    by_place : (at < from) ⊎ (from ≤ at) → (from ≤ at + 1 + length xs → count_by p xs + (from - (at + 1)) ≡ length xs) → count_by p (x ∷ xs) + (from - at) ≡ length (x ∷ xs)
    by_place (inl b) ih =
        let nil : bit (p x) ≡ 0 = ap bit (first ∙ lt-leb from at b) in
        let long : from ≤ at + suc (length xs) = l in
        let rest = ih (omega arith) in
        omega (arith, counted, nil)
    by_place (inr b) ih =
        let unit : bit (p x) ≡ 1 = ap bit (first ∙ le-leb from at b) in
        let long : from ≤ at + suc (length xs) = l in
        let rest = ih (omega arith) in
        omega (arith, counted, unit)

-- a stage that is not claimed
free_stage : (x : OwnStage) (l : Stage) (collected : List Collected) → l ≡ stage_with collected x → ((actor cursor : ℕ) → x ≡ Claimed actor cursor → ⊥) → (state.is_unclaimed l ≡ true) ⊎ (state.is_finished l ≡ true)
free_stage Unclaimed l collected e never = inl (ap state.is_unclaimed e)
free_stage (Claimed actor cursor) l collected e never = absurd (never actor cursor refl)
free_stage Finished l collected e never = inr (ap state.is_finished e)

same_unclaimed : (x : OwnStage) (l : Stage) (collected : List Collected) → l ≡ stage_with collected x → state.is_unclaimed l ≡ is_unclaimed x
same_unclaimed Unclaimed l collected e = ap state.is_unclaimed e
same_unclaimed (Claimed actor cursor) l collected e = ap state.is_unclaimed e
same_unclaimed Finished l collected e = ap state.is_unclaimed e

pub flush_ends : FlushEnds
flush_ends core c through h flushing free =
    subst (EndsFlush c through) count (rules.flush_ends c through h.invariant (h.shows.flush.quiesce ∙ ap quiesce_shown flushing)
    (each_from (λ (l : Link). (state.is_unclaimed l.stage ≡ true) ⊎ (state.is_finished l.stage ≡ true)) c.links each))
  where
    there : (n : ℕ) (l : Link) → At c.links n l → (x : OwnLink) × At core.flush.links.items n x × ShowsLink core.worker_count x l
    there n l at = each_left (λ n. ShowsLink core.worker_count) core.flush.links.items c.links h.shows.flush.links n l at

    each : (l : Link) → Contains c.links l → (state.is_unclaimed l.stage ≡ true) ⊎ (state.is_finished l.stage ≡ true)
    each l k =
        let at = contains_at c.links l k in
        let x = there at.0 l at.1 in
        free_stage x.0.stage l.stage x.2.collected x.2.stage (λ actor cursor e. free actor at.0 (h.shows.flush.numbers.held actor at.0 cursor x.0 x.1 e))

    tests : (n : ℕ) (l : Link) → At c.links n l → state.is_unclaimed l.stage ≡ nat_le core.flush.claimed (n + 0)
    tests n l at =
        let x = there n l at in
        let e : n ≡ n + 0 = omega arith in
        subst (λ m. state.is_unclaimed l.stage ≡ nat_le core.flush.claimed m) e (same_unclaimed x.0.stage l.stage x.2.collected x.2.stage ∙ h.shows.flush.numbers.claimed n x.0 x.1)

    count : count_by (λ (l : Link). state.is_unclaimed l.stage) c.links * (length c.workers + 34) + 1 ≡ (length core.flush.links.items - core.flush.claimed) * (core.worker_count + 34) + 1
    count =
        let same : length core.flush.links.items ≡ length c.links = h.shows.flush.links.same_length in
        let within : core.flush.claimed ≤ length core.flush.links.items = h.shows.flush.numbers.within in
        let counted = count_from (λ (l : Link). state.is_unclaimed l.stage) core.flush.claimed 0 c.links tests (omega arith) in
        let left : count_by (λ (l : Link). state.is_unclaimed l.stage) c.links ≡ length core.flush.links.items - core.flush.claimed = omega arith in
        ap (λ n. n * (length c.workers + 34) + 1) left ∙ ap (λ w. (length core.flush.links.items - core.flush.claimed) * (w + 34) + 1) (sym h.shows.worker_count)
