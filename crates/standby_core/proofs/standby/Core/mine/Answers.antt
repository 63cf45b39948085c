use Rattle.std.proofs.Common.{◌≡◌, ◌<◌, Some, refl, sym, ap, ◌∙◌, subst}
use Rattle.std.specs.Vec.{with_item}
use Rattle.std.proofs.lemmas.Option.{slice_get-get_or}
use Rattle.core_rules.specs.declared.event.Event.TheVariants as event
use Rattle.core_rules.specs.declared.event.CoreAnswer.TheVariants.{NotReady, Moved}
use Rattle.core_rules.specs.State.{At}
use Rattle.core_rules.proofs.Lists.{at_same, at_within, at_exists}
use Rattle.standby_core.specs.declared.worker.Worker.{Worker}
use Rattle.standby_core.specs.Shows.{Shows, HasStepped}
use Rattle.standby_core.proofs.Mined.{not_ready_mine, not_behind, mined_left, own_area, behind, mined_within, mine_moves, mine_stays}
use Rattle.standby_core.proofs.Exits.{at_err, lent_at}
use Rattle.standby_core.proofs.standby.Core.mine.Goals as goal

pub mine-requires-clause-left : goal.mine-requires-clause-left
mine-requires-clause-left c =
    let core = c.args.self.now in
    let i = c.from-index.result in
    let x = c.in-Some.own.now in
    let y = c.index_mut.result.now in
    let at : At core.workers.items i x = lent_at c.deref.result.now core.workers.items i x c.deref.ensures.value c.in-Some.ensures.lookup.0 c.in-Some.ensures.lookup.1 in
    let at_y : At core.workers.items i y = slice_get-get_or core.workers.items i y (at_within core.workers.items i x at) ∙ ap Some (sym c.index_mut.ensures.value) in
    let same : x ≡ y = at_same core.workers.items i x y at at_y in
    mined_left core c.requires.state c.requires.is i y at_y (subst (λ (w : Worker). w.mined < w.applied) same c.if-own.false)

pub mine-requires-clause-area : goal.mine-requires-clause-area
mine-requires-clause-area c =
    let core = c.args.self.now in
    let i = c.from-index.result in
    let x = c.in-Some.own.now in
    let y = c.index_mut.result.now in
    let at : At core.workers.items i x = lent_at c.deref.result.now core.workers.items i x c.deref.ensures.value c.in-Some.ensures.lookup.0 c.in-Some.ensures.lookup.1 in
    let at_y : At core.workers.items i y = slice_get-get_or core.workers.items i y (at_within core.workers.items i x at) ∙ ap Some (sym c.index_mut.ensures.value) in
    own_area core c.requires.state c.requires.is i y at_y

pub mine-requires-clause-behind : goal.mine-requires-clause-behind
mine-requires-clause-behind c e next =
    let core = c.args.self.now in
    let i = c.from-index.result in
    let x = c.in-Some.own.now in
    let y = c.index_mut.result.now in
    let at : At core.workers.items i x = lent_at c.deref.result.now core.workers.items i x c.deref.ensures.value c.in-Some.ensures.lookup.0 c.in-Some.ensures.lookup.1 in
    let at_y : At core.workers.items i y = slice_get-get_or core.workers.items i y (at_within core.workers.items i x at) ∙ ap Some (sym c.index_mut.ensures.value) in
    behind core c.requires.state c.requires.is i y at_y e next

pub returns-in_err-mine-clause-err : goal.returns-in_err-mine-clause-err
returns-in_err-mine-clause-err c =
    let core = c.args.self.now in
    let i = c.from-index.result in
    let x = c.in-Some.own.now in
    let y = c.index_mut.result.now in
    let at : At core.workers.items i x = lent_at c.deref.result.now core.workers.items i x c.deref.ensures.value c.in-Some.ensures.lookup.0 c.in-Some.ensures.lookup.1 in
    let at_y : At core.workers.items i y = slice_get-get_or core.workers.items i y (at_within core.workers.items i x at) ∙ ap Some (sym c.index_mut.ensures.value) in
    at_err c.from_residual.result (λ c' h.
    subst (λ d. Shows (record core { workers = with_item core.workers i c.mine.new.self; ddl = d }) c') (sym c.in_err-mine.ensures.err.1)
    (mine_stays core c' h i y at_y c.mine.new.self (with_item core.workers i c.mine.new.self) c.in_err-mine.ensures.err.0 refl))

pub returns-clause-ok : goal.returns-clause-ok
returns-clause-ok c c' h stands =
    let core = c.args.self.now in
    let i = c.from-index.result in
    let x = c.in-Some.own.now in
    let y = c.index_mut.result.now in
    let at : At core.workers.items i x = lent_at c.deref.result.now core.workers.items i x c.deref.ensures.value c.in-Some.ensures.lookup.0 c.in-Some.ensures.lookup.1 in
    let at_y : At core.workers.items i y = slice_get-get_or core.workers.items i y (at_within core.workers.items i x at) ∙ ap Some (sym c.index_mut.ensures.value) in
    let same : x ≡ y = at_same core.workers.items i x y at at_y in
    let left : y.mined < y.applied = subst (λ (w : Worker). w.mined < w.applied) same c.if-own.false in
    let e = at_exists y.share y.mined (mined_left core c' h i y at_y left) in
    subst (λ w. HasStepped (record core { workers = with_item core.workers i c.mine.new.self; ddl = c.mine.new.ddl }) c' (event.Mine w) Moved) c.from-index.ensures
    (mine_moves core c' h i y at_y e.0 e.1 c.mine.new.self c.mine.new.ddl (with_item core.workers i c.mine.new.self) left
    (c.in_ok-mine.ensures.ok c'.log e.0 stands (mined_within core c' h i y at_y e.0 e.1) e.1) refl)

pub returns-then-own-clause-ok : goal.returns-then-own-clause-ok
returns-then-own-clause-ok c c' h stands =
    let core = c.args.self.now in
    let i = c.from-index.result in
    let x = c.in-Some.own.now in
    let at : At core.workers.items i x = lent_at c.deref.result.now core.workers.items i x c.deref.ensures.value c.in-Some.ensures.lookup.0 c.in-Some.ensures.lookup.1 in
    subst (λ w. HasStepped core c' (event.Mine w) NotReady) c.from-index.ensures (not_ready_mine core c' h i (not_behind core c' h i x at c.if-own.true))
