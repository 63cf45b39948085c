use Rattle.std.proofs.Common.{◌≤◌, map, Some, rules, sym, ap, ◌∙◌, subst}
use Rattle.std.proofs.lemmas.Option.{slice_get-get_or}
use Rattle.core_rules.specs.State.{At}
use Rattle.standby_core.specs.declared.worker.Worker.{Worker}
use Rattle.standby_core.proofs.Ahead.{none_above, one_not_above}
use Rattle.standby_core.proofs.duties.least_above.Goals as goal

pub returns-then-le-clause-none : goal.returns-then-le-clause-none
returns-then-le-clause-none c none =
    let l : c.args.frontier ≤ c.args.query = search rules in
    none_above c.args.frontier c.args.query (map (λ (x : Worker). x.progress) c.args.workers.now) l

pub returns-then-le-2-clause-none : goal.returns-then-le-2-clause-none
returns-then-le-2-clause-none c none =
    let xs = c.args.workers.now in
    let i = c.loop-worker.worker-index in
    let x = c.worker-item.result in
    let at : At xs i x = slice_get-get_or xs i x c.loop-worker-test.true ∙ ap Some (sym c.worker-item.is) in
    let l : x.progress ≤ c.args.query = search rules in
    subst (λ n. n ≤ c.args.query) c.loop-worker.invariant.0 (one_not_above c.loop-worker.least c.args.query i xs x at l)
