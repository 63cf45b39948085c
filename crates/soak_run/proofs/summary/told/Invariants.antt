use Rattle.std.proofs.Common.{◌≡◌, map}
use Rattle.soak_run.specs.Telling.{nothing_told, after_lines}
use Rattle.soak_run.proofs.summary.told.Given as goal

abbrev pub invariant-loop-line : goal.invariant-loop-line
invariant-loop-line l = l.tally ≡ after_lines nothing_told (map (λ x. x.now) l.yielded)
