use Rattle.turn_rules.proofs.Whole.{use_is_met}
use Rattle.turn_rules.proofs.laws.use_is_met.Goals as goal

pub returns : goal.returns
returns c = use_is_met
