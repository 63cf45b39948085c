use Rattle.std.proofs.Common.{length}
use Rattle.query_text.proofs.Aggregates.{HasAsked}
use Rattle.query_text.proofs.aggregate.aggregates_of.Given as goal

abbrev pub invariant-loop-aggregates : goal.invariant-loop-aggregates
invariant-loop-aggregates l = HasAsked l.bytes l.aggregates.items l.rest

abbrev pub decreases-loop-aggregates : goal.decreases-loop-aggregates
decreases-loop-aggregates l = length l.rest
