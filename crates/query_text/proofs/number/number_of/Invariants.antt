use Rattle.std.proofs.Common.{length}
use Rattle.query_text.proofs.Numbers.{HasDigits}
use Rattle.query_text.proofs.number.number_of.Given as goal

abbrev pub invariant-loop-digit : goal.invariant-loop-digit
invariant-loop-digit l = HasDigits l.limit l.bytes l.number l.rest

abbrev pub decreases-loop-digit : goal.decreases-loop-digit
decreases-loop-digit l = length l.rest
