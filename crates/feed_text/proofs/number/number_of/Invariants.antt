use Rattle.std.proofs.Common.{length}
use Rattle.feed_text.proofs.NumberLaws.{Digits}
use Rattle.feed_text.proofs.number.number_of.Given as goal

abbrev pub invariant-loop-digit : goal.invariant-loop-digit
invariant-loop-digit l = Digits l.limit l.text l.rest l.number

abbrev pub decreases-loop-digit : goal.decreases-loop-digit
decreases-loop-digit l = length l.rest
