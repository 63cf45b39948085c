use Rattle.std.proofs.Common.{◌≡◌, length}
use Rattle.soak_run.specs.Telling.{behind_equals}
use Rattle.soak_run.proofs.tally.behind_equals.Given as goal

abbrev pub invariant-loop-rest : goal.invariant-loop-rest
invariant-loop-rest l = behind_equals l.rest ≡ behind_equals l.line

abbrev pub decreases-loop-rest : goal.decreases-loop-rest
decreases-loop-rest l = length l.rest
