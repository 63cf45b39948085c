use Rattle.standby_core.proofs.Deals.{AreCutUpto}
use Rattle.standby_core.proofs.receive.cut_back.Given as goal

-- the shares so far are cut back
abbrev pub invariant-loop-index : goal.invariant-loop-index
invariant-loop-index l = AreCutUpto l.counts l.index l.initial.workers l.workers
