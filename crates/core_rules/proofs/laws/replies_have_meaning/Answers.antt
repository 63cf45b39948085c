use Rattle.core_rules.proofs.Whole.{replies_have_meaning}
use Rattle.core_rules.proofs.laws.replies_have_meaning.Goals as goal

pub returns : goal.returns
returns c = replies_have_meaning
