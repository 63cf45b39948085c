use Rattle.std.proofs.Common.{◌≡◌, ◌≤◌, vec_len, vec_capacity}
use Rattle.std.specs.List.{AllZip}
use Rattle.log_merger.specs.Merge.{AreQueues, KeepsRest}
use Rattle.log_merger.proofs.Queues.{Giving}
use Rattle.log_merger.proofs.merge.merge.Given as goal

abbrev pub invariant-loop-place : goal.invariant-loop-place
invariant-loop-place l = record {
  rest : AllZip KeepsRest l.fn.threads l.threads;
  len : vec_len l.entries ≡ l.place;
  room : l.count ≤ vec_capacity l.entries;
  giving : AreQueues 1 l.fn.threads → Giving l.fn.through l.fn.first l.fn.threads l.threads l.entries.items;
}
