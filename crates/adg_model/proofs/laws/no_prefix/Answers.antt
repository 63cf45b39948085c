use Rattle.adg_model.proofs.DeliveryLaws.{no_prefix}
use Rattle.adg_model.proofs.laws.no_prefix.Goals as goal

pub returns : goal.returns
returns c = no_prefix
