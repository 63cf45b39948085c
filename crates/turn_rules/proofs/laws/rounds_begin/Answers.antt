use Rattle.turn_rules.proofs.Kept.{rounds_begin}
use Rattle.turn_rules.proofs.laws.rounds_begin.Goals as goal

pub returns : goal.returns
returns c = rounds_begin
