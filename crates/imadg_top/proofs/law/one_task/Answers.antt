use Rattle.imadg_top.proofs.HeadlineLaws.{ask_once}
use Rattle.imadg_top.proofs.law.one_task.Goals as goal

pub returns : goal.returns
returns c = ask_once
