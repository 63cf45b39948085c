use Rattle.core_rules.proofs.Whole.{flush_before_publish}
use Rattle.core_rules.proofs.laws.flush_before_publish.Goals as goal

pub returns : goal.returns
returns c = flush_before_publish
