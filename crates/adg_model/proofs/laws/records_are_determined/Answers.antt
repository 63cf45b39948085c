use Rattle.adg_model.proofs.DeliveryLaws.{records_are_determined}
use Rattle.adg_model.proofs.laws.records_are_determined.Goals as goal

pub returns : goal.returns
returns c = records_are_determined
