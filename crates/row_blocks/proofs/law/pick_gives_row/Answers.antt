use Rattle.row_blocks.proofs.Together.{pick_gives_row}
use Rattle.row_blocks.proofs.law.pick_gives_row.Goals as goal

pub returns : goal.returns
returns c = pick_gives_row
