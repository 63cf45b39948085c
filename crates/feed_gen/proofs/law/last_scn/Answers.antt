use Rattle.feed_gen.proofs.Lawful.{last_scn}
use Rattle.feed_gen.proofs.law.last_scn.Goals as goal

pub returns : goal.returns
returns c = last_scn
