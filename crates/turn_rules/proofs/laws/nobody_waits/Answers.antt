use Rattle.turn_rules.proofs.Waits.{nobody_waits}
use Rattle.turn_rules.proofs.laws.nobody_waits.Goals as goal

pub returns : goal.returns
returns c = nobody_waits
