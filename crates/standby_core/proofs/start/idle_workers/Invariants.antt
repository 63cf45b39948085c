use Rattle.std.proofs.Common.{◌≡◌, [], replicate}
use Rattle.standby_core.proofs.start.idle_workers.Given as goal

abbrev pub invariant-loop : goal.invariant-loop
invariant-loop l = l.workers.items ≡ replicate l.counter (record { share = []; applied = 0; mined = 0; progress = 0; area = []; ends = [] })
