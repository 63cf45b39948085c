use Rattle.turn_rules.proofs.Whole.{lines_are_legal}
use Rattle.turn_rules.proofs.laws.lines_are_legal.Goals as goal

pub returns : goal.returns
returns c = lines_are_legal
