use Rattle.adg_model.proofs.ContinuationLaws.{log_continues}
use Rattle.adg_model.proofs.laws.log_continues.Goals as goal

pub returns : goal.returns
returns c = log_continues
