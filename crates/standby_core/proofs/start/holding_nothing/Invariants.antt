use Rattle.std.proofs.Common.{◌≡◌, None, replicate}
use Rattle.standby_core.proofs.start.holding_nothing.Given as goal

abbrev pub invariant-loop : goal.invariant-loop
invariant-loop l = l.held.items ≡ replicate l.counter None
