use Rattle.turn_rules.proofs.Whole.{units_are_stated}
use Rattle.turn_rules.proofs.laws.units_are_stated.Goals as goal

pub returns : goal.returns
returns c = units_are_stated
