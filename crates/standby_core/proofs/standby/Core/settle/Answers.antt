use Rattle.standby_core.proofs.Settles.{settle_left}
use Rattle.standby_core.proofs.standby.Core.settle.Goals as goal

pub returns : goal.returns
returns c c' h =
    settle_left c.args.self.now c' c.deref_mut.result.now c.settle_in.new.shards h c.deref_mut.ensures.value c.settle_in.ensures.count c.settle_in.ensures.same c.settle_in.ensures.settled
