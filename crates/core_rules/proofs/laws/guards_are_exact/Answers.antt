use Rattle.core_rules.proofs.Whole.{guards_are_exact}
use Rattle.core_rules.proofs.laws.guards_are_exact.Goals as goal

pub returns : goal.returns
returns c = guards_are_exact
