use Rattle.core_rules.proofs.Whole.{receiving_keeps_precision}
use Rattle.core_rules.proofs.laws.receiving_keeps_precision.Goals as goal

pub returns : goal.returns
returns c = receiving_keeps_precision
