use Rattle.adg_model.proofs.CommitLaws.{committed_once}
use Rattle.adg_model.proofs.laws.committed_once.Goals as goal

pub returns : goal.returns
returns c = committed_once
