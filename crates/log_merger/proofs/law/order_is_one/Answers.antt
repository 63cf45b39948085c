use Rattle.log_merger.proofs.OneOrder.{order_is_one}
use Rattle.log_merger.proofs.law.order_is_one.Goals as goal

pub returns : goal.returns
returns c = order_is_one
