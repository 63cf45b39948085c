use Rattle.feed_gen.proofs.Lawful.{last_frontier}
use Rattle.feed_gen.proofs.law.last_frontier.Goals as goal

pub returns : goal.returns
returns c = last_frontier
