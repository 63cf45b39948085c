use Rattle.std.proofs.Common.{◌≡◌, ◌≤◌, length}
use Rattle.std.specs.VecDeque.{deque_capacity}
use Rattle.redo_frames.specs.Assembly.{next_number}
use Rattle.log_merger.proofs.ThreadLaws.{Taking}
use Rattle.log_merger.proofs.thread.take_all.Given as goal

abbrev pub invariant-loop-record : goal.invariant-loop-record
invariant-loop-record l = record {
  taking : Taking l.fn.assembler l.assembler l.fn.mark l.mark l.fn.unread.items l.unread.items;
  capacity : deque_capacity l.fn.unread ≤ deque_capacity l.unread;
  number : next_number l.assembler ≡ next_number l.fn.assembler;
}

abbrev pub decreases-loop-record : goal.decreases-loop-record
decreases-loop-record l = length l.assembler.held
