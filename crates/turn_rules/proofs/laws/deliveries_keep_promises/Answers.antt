use Rattle.turn_rules.proofs.Whole.{deliveries_keep_promises}
use Rattle.turn_rules.proofs.laws.deliveries_keep_promises.Goals as goal

pub returns : goal.returns
returns c = deliveries_keep_promises
