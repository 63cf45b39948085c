use Rattle.adg_model.proofs.CommandLaws.{one_command}
use Rattle.adg_model.proofs.laws.one_command.Goals as goal

pub returns : goal.returns
returns c = one_command
