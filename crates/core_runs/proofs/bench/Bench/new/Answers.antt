use Rattle.std.proofs.Common.{refl}
use Rattle.core_runs.proofs.Benches.{begun}
use Rattle.core_runs.proofs.bench.Bench.new.Goals as goal

pub returns : goal.returns
returns c =
    let started = c.in_ok-start.ensures in
    begun _ c.args.workers c.args.sessions c.in_ok-new.ensures.taken c.in_ok-new.ensures.number refl started.shows (started.invariant c.requires) (started.precise c.requires)
