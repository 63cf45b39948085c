use Rattle.std.proofs.Common.{◌≡◌, ◌<◌, drop, map}
use Rattle.standby_core.specs.declared.worker.Worker.{Worker}
use Rattle.standby_core.specs.Duty.{lowest}
use Rattle.standby_core.proofs.duties.least_above.Given as goal

abbrev pub invariant-loop-worker : goal.invariant-loop-worker
invariant-loop-worker l = (lowest l.least (map (λ (x : Worker). x.progress) (drop l.worker-index l.workers)) ≡ lowest l.fn.frontier (map (λ (x : Worker). x.progress) l.workers)) × (l.query < l.least)
