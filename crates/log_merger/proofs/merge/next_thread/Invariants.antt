use Rattle.log_merger.specs.Merge.{first_scns}
use Rattle.log_merger.proofs.Queues.{Searching}
use Rattle.log_merger.proofs.merge.next_thread.Given as goal

abbrev pub invariant-loop-index : goal.invariant-loop-index
invariant-loop-index l = Searching l.none (first_scns l.none l.threads) l.index l.least l.next
