use Rattle.turn_rules.proofs.Falls.{acts_lower_measure}
use Rattle.turn_rules.proofs.laws.acts_lower_measure.Goals as goal

pub returns : goal.returns
returns c = acts_lower_measure
