use Rattle.core_rules.proofs.CodeLaws.{cut_is_applied}
use Rattle.core_rules.proofs.laws.cut_is_applied.Goals as goal

pub returns : goal.returns
returns c = cut_is_applied
