use Rattle.log_merger.proofs.Readings.{Reading}
use Rattle.log_merger.proofs.merger.read_all.Given as goal

abbrev pub invariant-loop-index : goal.invariant-loop-index
invariant-loop-index l = Reading l.fn.threads l.threads l.index
