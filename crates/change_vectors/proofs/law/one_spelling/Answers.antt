use Rattle.change_vectors.proofs.Bodies.{vector_apart, vectors_apart}
use Rattle.change_vectors.proofs.law.one_spelling.Goals as goal

pub returns-clause-vector : goal.returns-clause-vector
returns-clause-vector c = vector_apart

pub returns-clause-vectors : goal.returns-clause-vectors
returns-clause-vectors c = vectors_apart
