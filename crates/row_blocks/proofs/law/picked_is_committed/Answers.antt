use Rattle.row_blocks.proofs.PickedLaw.{picked_is_committed}
use Rattle.row_blocks.proofs.law.picked_is_committed.Goals as goal

pub returns : goal.returns
returns c = picked_is_committed
