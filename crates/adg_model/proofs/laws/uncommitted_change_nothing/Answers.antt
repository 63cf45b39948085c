use Rattle.adg_model.proofs.RowLaws.{uncommitted_change_nothing}
use Rattle.adg_model.proofs.laws.uncommitted_change_nothing.Goals as goal

pub returns : goal.returns
returns c = uncommitted_change_nothing
