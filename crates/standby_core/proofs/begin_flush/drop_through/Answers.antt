use Rattle.std.proofs.Common.{List, set, get_or, ap, sym, ◌∙◌}
use Rattle.std.proofs.lemmas.List.Edits.{map_over_more}
use Rattle.adg_base.specs.declared.node.Node.{Node}
use Rattle.standby_core.specs.declared.worker.Worker.{Worker}
use Rattle.standby_core.specs.Begin.{without_ends}
use Rattle.standby_core.proofs.begin_flush.drop_through.Goals as goal

pub loop-worker-preserved : goal.loop-worker-preserved
loop-worker-preserved c =
    let i = c.loop-worker.worker-index in
    ap (λ (ends : List Node). set c.loop-worker.workers i (record (get_or c.loop-worker.workers i c.worker-item.result) { ends = ends })) c.drop_through.ensures
    ∙ ap (λ (w : Worker). set c.loop-worker.workers i (without_ends c.args.through w)) (sym c.worker-item.is)
    ∙ map_over_more (without_ends c.args.through) c.args.workers.now c.loop-worker.workers i c.worker-item.result c.loop-worker-test.true c.loop-worker.invariant c.worker-item.is
