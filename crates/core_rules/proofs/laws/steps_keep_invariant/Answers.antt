use Rattle.core_rules.proofs.Whole.{steps_keep_invariant}
use Rattle.core_rules.proofs.laws.steps_keep_invariant.Goals as goal

pub returns : goal.returns
returns c = steps_keep_invariant
