use Rattle.core_runs.specs.InStep.{IsInStep}
use Rattle.core_runs.proofs.tests.play.play.Given as goal

abbrev pub invariant-loop-number : goal.invariant-loop-number
invariant-loop-number g l = IsInStep l.bench
