use Rattle.adg_model.proofs.ReplyLaws.{one_reply}
use Rattle.adg_model.proofs.laws.one_reply.Goals as goal

pub returns : goal.returns
returns c = one_reply
