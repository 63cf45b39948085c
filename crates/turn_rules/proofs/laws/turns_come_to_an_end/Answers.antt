use Rattle.turn_rules.proofs.Whole.{turns_come_to_an_end}
use Rattle.turn_rules.proofs.laws.turns_come_to_an_end.Goals as goal

pub returns : goal.returns
returns c = turns_come_to_an_end
