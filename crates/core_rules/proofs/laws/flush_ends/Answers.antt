use Rattle.core_rules.proofs.Whole.{flush_ends}
use Rattle.core_rules.proofs.laws.flush_ends.Goals as goal

pub returns : goal.returns
returns c = flush_ends
