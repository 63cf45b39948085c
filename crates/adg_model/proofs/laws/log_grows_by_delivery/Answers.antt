use Rattle.adg_model.proofs.DeliveryLaws.{log_grows_by_delivery}
use Rattle.adg_model.proofs.laws.log_grows_by_delivery.Goals as goal

pub returns : goal.returns
returns c = log_grows_by_delivery
