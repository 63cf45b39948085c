use Rattle.core_runs.specs.InStep.{IsInStep}
use Rattle.core_runs.proofs.tests.play.flush.Given as goal

abbrev pub invariant-loop : goal.invariant-loop
invariant-loop g l = IsInStep l.bench
