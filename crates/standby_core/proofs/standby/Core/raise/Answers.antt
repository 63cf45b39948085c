use Rattle.std.proofs.Common.{◌≡◌, ◌<◌, ◌≤◌, drop, Some, rules, sym, ap, ◌∙◌, subst}
use Rattle.std.specs.Prelude.{slice_set, MatchBool}
use Rattle.std.specs.Vec.{with_item}
use Rattle.std.specs.List.{AllByRecursion}
use Rattle.std.proofs.lemmas.Option.{slice_get-get_or}
use Rattle.adg_base.specs.declared.log.LogEntry.{LogEntry}
use Rattle.core_rules.specs.declared.event.Event.TheVariants as event
use Rattle.core_rules.specs.declared.event.CoreAnswer.TheVariants.{NotReady, Moved}
use Rattle.core_rules.specs.State.{At}
use Rattle.core_rules.proofs.Lists.{at_same, at_within}
use Rattle.standby_core.specs.declared.worker.Worker.{Worker}
use Rattle.standby_core.specs.Shows.{HasStepped}
use Rattle.standby_core.proofs.Applied.{share_rises}
use Rattle.standby_core.proofs.Mined.{not_ready_raise, not_above, not_mined, raise_moves}
use Rattle.standby_core.proofs.Exits.{lent_at}
use Rattle.standby_core.proofs.standby.Core.raise.Goals as goal

pub returns : goal.returns
returns c c' h =
    let core = c.args.self.now in
    let i = c.from-index.result in
    let x = c.in-Some.own.now in
    let y = c.index_mut.result.now in
    let through = c.args.through in
    let at : At core.workers.items i x = lent_at c.deref.result.now core.workers.items i x c.deref.ensures.value c.in-Some.ensures.lookup.0 c.in-Some.ensures.lookup.1 in
    let at_y : At core.workers.items i y = slice_get-get_or core.workers.items i y (at_within core.workers.items i x at) ∙ ap Some (sym c.index_mut.ensures.value) in
    let same : y ≡ x = at_same core.workers.items i y x at_y at in
    let above : x.progress < through = search rules in
    let received : through ≤ core.frontier = search rules in
    let mined : AllByRecursion (λ (e : LogEntry). through < e.scn) (drop x.mined x.share) =
    subst (λ b. MatchBool b (AllByRecursion (λ (e : LogEntry). through < e.scn) (drop x.mined x.share)) (AllByRecursion (λ (e : LogEntry). through < e.scn) (drop x.mined x.share) → ⊥))
    c.if-not-has_mined.false (c.has_mined.ensures (share_rises core c' h i x at)) in
    subst (λ w. HasStepped (record core { workers = with_item core.workers i (record y { progress = through }) }) c' (event.Raise w through) Moved) c.from-index.ensures
    (raise_moves core c' h i x at through (with_item core.workers i (record y { progress = through })) above received mined
    (ap (λ (w : Worker). slice_set core.workers.items i (record w { progress = through })) same))

pub returns-then-le : goal.returns-then-le
returns-then-le c c' h =
    let core = c.args.self.now in
    let i = c.from-index.result in
    let x = c.in-Some.own.now in
    let at : At core.workers.items i x = lent_at c.deref.result.now core.workers.items i x c.deref.ensures.value c.in-Some.ensures.lookup.0 c.in-Some.ensures.lookup.1 in
    let low : c.args.through ≤ x.progress = search rules in
    subst (λ w. HasStepped core c' (event.Raise w c.args.through) NotReady) c.from-index.ensures (not_ready_raise core c' h i c.args.through (not_above core c' h i x at c.args.through low))

pub returns-then-not-has_mined : goal.returns-then-not-has_mined
returns-then-not-has_mined c c' h =
    let core = c.args.self.now in
    let i = c.from-index.result in
    let x = c.in-Some.own.now in
    let through = c.args.through in
    let at : At core.workers.items i x = lent_at c.deref.result.now core.workers.items i x c.deref.ensures.value c.in-Some.ensures.lookup.0 c.in-Some.ensures.lookup.1 in
    let left : AllByRecursion (λ (e : LogEntry). through < e.scn) (drop x.mined x.share) → ⊥ =
    subst (λ b. MatchBool b (AllByRecursion (λ (e : LogEntry). through < e.scn) (drop x.mined x.share)) (AllByRecursion (λ (e : LogEntry). through < e.scn) (drop x.mined x.share) → ⊥))
    c.if-not-has_mined.true (c.has_mined.ensures (share_rises core c' h i x at)) in
    subst (λ w. HasStepped core c' (event.Raise w through) NotReady) c.from-index.ensures (not_ready_raise core c' h i through (not_mined core c' h i x at through left))
