use Rattle.std.proofs.Common.{length}
use Rattle.log_merger.specs.Thread.{ReadsOn}
use Rattle.log_merger.proofs.thread.RedoThread.read.Given as goal

abbrev pub invariant-loop : goal.invariant-loop
invariant-loop l = ReadsOn l.fn.self l.self

abbrev pub decreases-loop : goal.decreases-loop
decreases-loop l = length l.self.unread
