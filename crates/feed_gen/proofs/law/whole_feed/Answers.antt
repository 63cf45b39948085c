use Rattle.feed_gen.proofs.Lawful.{whole_feed}
use Rattle.feed_gen.proofs.law.whole_feed.Goals as goal

pub returns : goal.returns
returns c = whole_feed
