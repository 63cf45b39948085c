use Rattle.adg_model.proofs.LogLaws.{log_grows}
use Rattle.adg_model.proofs.laws.log_grows.Goals as goal

pub returns : goal.returns
returns c = log_grows
