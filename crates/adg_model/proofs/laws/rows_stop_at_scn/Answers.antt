use Rattle.adg_model.proofs.RowLaws.{rows_stop_at_scn}
use Rattle.adg_model.proofs.laws.rows_stop_at_scn.Goals as goal

pub returns : goal.returns
returns c = rows_stop_at_scn
