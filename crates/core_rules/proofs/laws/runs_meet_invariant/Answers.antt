use Rattle.core_rules.proofs.Whole.{runs_meet_invariant}
use Rattle.core_rules.proofs.laws.runs_meet_invariant.Goals as goal

pub returns : goal.returns
returns c = runs_meet_invariant
