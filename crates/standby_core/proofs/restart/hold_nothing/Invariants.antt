use Rattle.std.proofs.Common.{◌≡◌, ◌++◌, map, take, drop, None}
use Rattle.standby_core.proofs.restart.hold_nothing.Given as goal

abbrev pub invariant-loop-number : goal.invariant-loop-number
invariant-loop-number l = l.held ≡ map (λ n. None) (take l.number-index l.initial.held) ++ drop l.number-index l.initial.held
