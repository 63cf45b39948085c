use Rattle.std.proofs.Common.{◌≡◌, ◌≤◌, ◌+◌, ◌-◌, drop}
use Rattle.std.specs.VecDeque.{deque_len}
use Rattle.log_merger.specs.Merge.{count_upto}
use Rattle.log_merger.proofs.thread.RedoThread.count_upto.Given as goal

abbrev pub invariant-loop-entry : goal.invariant-loop-entry
invariant-loop-entry l = record {
  within : l.count ≤ deque_len l.self-inside.waiting;
  count : l.count + count_upto l.through (drop l.count l.self-inside.waiting.items) ≡ count_upto l.through l.self-inside.waiting.items;
}

abbrev pub decreases-loop-entry : goal.decreases-loop-entry
decreases-loop-entry l = deque_len l.self-inside.waiting - l.count
