use Rattle.core_rules.proofs.Whole.{next_mined_is_open}
use Rattle.core_rules.proofs.laws.next_mined_is_open.Goals as goal

pub returns : goal.returns
returns c = next_mined_is_open
