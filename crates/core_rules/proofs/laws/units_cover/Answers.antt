use Rattle.core_rules.proofs.FlushLaw.{units_cover}
use Rattle.core_rules.proofs.laws.units_cover.Goals as goal

pub returns : goal.returns
returns c = units_cover
