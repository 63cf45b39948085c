use Rattle.std.proofs.Common.{refl, length}
use Rattle.adg_model.specs.Spelling.{vector_bytes}
use Rattle.change_vectors.proofs.Sizes.{too_small}
use Rattle.change_vectors.proofs.size.room_after_vectors.Goals as goal

pub returns-in_err-left : goal.returns-in_err-left
returns-in_err-left c = rw c.from_residual.ensures (too_small vector_bytes c.args.vectors.now c.loop-vector.vector-index c.args.room c.loop-vector.left (length (vector_bytes c.vector-item.result)) c.vector-item.result c.loop-vector-test.true c.vector-item.is c.loop-vector.invariant refl c.in_err-left.ensures)
