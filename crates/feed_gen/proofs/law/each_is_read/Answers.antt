use Rattle.feed_gen.proofs.Lawful.{each_is_read}
use Rattle.feed_gen.proofs.law.each_is_read.Goals as goal

pub returns : goal.returns
returns c = each_is_read
