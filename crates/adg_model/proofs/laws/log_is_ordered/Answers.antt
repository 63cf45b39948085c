use Rattle.adg_model.proofs.LogLaws.{log_is_ordered}
use Rattle.adg_model.proofs.laws.log_is_ordered.Goals as goal

pub returns : goal.returns
returns c = log_is_ordered
