use Rattle.std.proofs.Common.{length}
use Rattle.feed_text.proofs.AssembleLaws.{Assembled}
use Rattle.feed_text.proofs.assemble.assemble.Given as goal

abbrev pub invariant-loop-reason : goal.invariant-loop-reason
invariant-loop-reason l = Assembled l.text l.feed.items l.rest l.before

abbrev pub decreases-loop-reason : goal.decreases-loop-reason
decreases-loop-reason l = length l.rest
