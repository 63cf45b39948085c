use Rattle.adg_model.proofs.FeedFaultLaws.{one_feed_fault}
use Rattle.adg_model.proofs.laws.one_feed_fault.Goals as goal

pub returns : goal.returns
returns c = one_feed_fault
