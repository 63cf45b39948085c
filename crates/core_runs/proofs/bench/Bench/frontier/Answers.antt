use Rattle.std.proofs.Common.{◌∙◌, sym}
use Rattle.core_runs.proofs.bench.Bench.frontier.Goals as goal

pub returns : goal.returns
returns c is = c.frontier.ensures 1 is.deliveries is.taken ∙ sym is.frontier
