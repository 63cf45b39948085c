use Rattle.core_rules.proofs.Whole.{steps_keep_precision}
use Rattle.core_rules.proofs.laws.steps_keep_precision.Goals as goal

pub returns : goal.returns
returns c = steps_keep_precision
