use Rattle.std.proofs.Common.{◌≡◌, take}
use Rattle.std.specs.List.{flat_map}
use Rattle.standby_core.specs.Begin.{ends_upto}
use Rattle.standby_core.proofs.begin_flush.nodes_upto.Given as goal

abbrev pub invariant-loop-worker : goal.invariant-loop-worker
invariant-loop-worker l = l.nodes.items ≡ flat_map (ends_upto l.through) (take l.worker-index l.workers)
