use Rattle.core_rules.proofs.Whole.{log_has_facts}
use Rattle.core_rules.proofs.laws.log_has_facts.Goals as goal

pub returns : goal.returns
returns c = log_has_facts
