use Rattle.turn_rules.proofs.Whole.{deliveries_tell_on}
use Rattle.turn_rules.proofs.laws.deliveries_tell_on.Goals as goal

pub returns : goal.returns
returns c = deliveries_tell_on
