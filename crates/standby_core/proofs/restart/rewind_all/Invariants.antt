use Rattle.standby_core.specs.Restarting.{GoesBack}
use Rattle.standby_core.proofs.Walked.{WalkedTo}
use Rattle.standby_core.proofs.restart.rewind_all.Given as goal

abbrev pub invariant-loop-worker : goal.invariant-loop-worker
invariant-loop-worker l = WalkedTo (GoesBack l.query) l.worker-index l.initial.workers l.workers
