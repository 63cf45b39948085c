use Rattle.adg_model.proofs.RedoFaultLaws.{one_redo_fault}
use Rattle.adg_model.proofs.laws.one_redo_fault.Goals as goal

pub returns : goal.returns
returns c = one_redo_fault
