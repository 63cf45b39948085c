use Rattle.core_runs.specs.InStep.{IsInStep}
use Rattle.core_runs.proofs.tests.play.work.Given as goal

abbrev pub invariant-loop-worker : goal.invariant-loop-worker
invariant-loop-worker g l = IsInStep l.bench
