use Rattle.change_vectors.proofs.Bodies.{HasRead}
use Rattle.change_vectors.proofs.read.read_vectors.Given as goal

abbrev pub invariant-loop-before : goal.invariant-loop-before
invariant-loop-before l = HasRead l.count l.before l.body l.vectors.items l.rest
