use Rattle.adg_model.specs.Spelling.{value_bytes}
use Rattle.change_vectors.proofs.Sizes.{too_small}
use Rattle.change_vectors.proofs.size.room_after_values.Goals as goal

pub returns-in_err-left : goal.returns-in_err-left
returns-in_err-left c = rw c.from_residual.ensures (too_small value_bytes c.args.values.now c.loop-value.value-index c.args.room c.loop-value.left c.value_len.result c.value-item.result c.loop-value-test.true c.value-item.is c.loop-value.invariant c.value_len.ensures c.in_err-left.ensures)
