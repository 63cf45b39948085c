use Rattle.core_runs.specs.InStep.{IsInStep}
use Rattle.core_runs.proofs.tests.play.ask_times.Given as goal

abbrev pub invariant-loop : goal.invariant-loop
invariant-loop g l = IsInStep l.bench
