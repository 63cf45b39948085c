use Rattle.std.proofs.Common.{◌≡◌, ◌≤◌, ◌+◌, ◌++◌, length}
use Rattle.std.specs.Vec.Iter.{into_iter_items}
use Rattle.std.specs.VecDeque.{deque_len, deque_capacity}
use Rattle.adg_model.specs.Log.{record_entries}
use Rattle.log_merger.proofs.thread.push_entries.Given as goal

abbrev pub invariant-loop-vector : goal.invariant-loop-vector
invariant-loop-vector l = record {
  split : l.yielded ++ into_iter_items l.vector-iterator ≡ l.fn.vectors;
  index : l.index ≡ length l.yielded;
  room : deque_len l.waiting + length (into_iter_items l.vector-iterator) ≤ deque_capacity l.waiting;
  entries : l.waiting.items ≡ l.fn.waiting.items ++ record_entries l.fn.thread l.fn.number l.fn.scn 1 l.yielded;
}
