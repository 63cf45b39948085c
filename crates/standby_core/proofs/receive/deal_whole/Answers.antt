use Rattle.std.proofs.Common.{subst}
use Rattle.standby_core.specs.Received.{AreCutBack}
use Rattle.standby_core.proofs.Deals.{cut_restores}
use Rattle.standby_core.proofs.receive.deal_whole.Goals as goal

pub returns-clause-err : goal.returns-clause-err
returns-clause-err c =
    cut_restores c.args.workers.now c.deal.new.workers c.cut_back.new.workers c.in_ok-counts.counts.items c.in-Err.ensures.err c.in_ok-counts.ensures
    (subst (λ k. AreCutBack k c.deal.new.workers c.cut_back.new.workers) c.as_slice.ensures.value c.cut_back.ensures)
