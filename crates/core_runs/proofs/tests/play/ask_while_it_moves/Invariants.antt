use Rattle.core_runs.specs.InStep.{IsInStep}
use Rattle.core_runs.proofs.tests.play.ask_while_it_moves.Given as goal

abbrev pub invariant-loop : goal.invariant-loop
invariant-loop l = IsInStep l.bench
