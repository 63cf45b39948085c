use Rattle.turn_rules.proofs.Kept.{rounds_are_runs}
use Rattle.turn_rules.proofs.laws.rounds_are_runs.Goals as goal

pub returns : goal.returns
returns c = rounds_are_runs
