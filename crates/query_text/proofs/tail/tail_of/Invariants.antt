use Rattle.std.proofs.Common.{length}
use Rattle.query_text.proofs.Tails.{HasTests}
use Rattle.query_text.proofs.tail.tail_of.Given as goal

abbrev pub invariant-loop-test : goal.invariant-loop-test
invariant-loop-test l = HasTests l.grouped l.bytes l.conditions.items l.test l.rest

abbrev pub decreases-loop-test : goal.decreases-loop-test
decreases-loop-test l = length l.rest
