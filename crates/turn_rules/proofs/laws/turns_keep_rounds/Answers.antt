use Rattle.turn_rules.proofs.Kept.{turns_keep_rounds}
use Rattle.turn_rules.proofs.laws.turns_keep_rounds.Goals as goal

pub returns : goal.returns
returns c = turns_keep_rounds
