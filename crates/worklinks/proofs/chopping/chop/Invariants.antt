use Rattle.std.proofs.Common.{length}
use Rattle.worklinks.proofs.Parts.{SoFar}
use Rattle.worklinks.proofs.chopping.chop.Given as goal

abbrev pub invariant-loop-rest : goal.invariant-loop-rest
invariant-loop-rest l = SoFar l.workers l.links l.rest l.initial.rest

abbrev pub decreases-loop-rest : goal.decreases-loop-rest
decreases-loop-rest l = length l.rest
