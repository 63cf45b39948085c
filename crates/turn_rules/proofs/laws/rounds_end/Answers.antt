use Rattle.turn_rules.proofs.Whole.{rounds_end}
use Rattle.turn_rules.proofs.laws.rounds_end.Goals as goal

pub returns : goal.returns
returns c = rounds_end
