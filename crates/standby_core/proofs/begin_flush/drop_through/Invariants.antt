use Rattle.std.proofs.Common.{◌≡◌, ◌++◌, map, take, drop}
use Rattle.standby_core.specs.Begin.{without_ends}
use Rattle.standby_core.proofs.begin_flush.drop_through.Given as goal

abbrev pub invariant-loop-worker : goal.invariant-loop-worker
invariant-loop-worker l = l.workers ≡ map (without_ends l.through) (take l.worker-index l.initial.workers) ++ drop l.worker-index l.initial.workers
