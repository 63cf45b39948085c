use Rattle.std.proofs.Common.{◌≡◌, length, map, take}
use Rattle.standby_core.specs.declared.worker.Worker.{Worker}
use Rattle.standby_core.proofs.receive.counts_of.Given as goal

abbrev pub invariant-loop-worker : goal.invariant-loop-worker
invariant-loop-worker l = l.counts.items ≡ map (λ (w : Worker). length w.share) (take l.worker-index l.workers)
