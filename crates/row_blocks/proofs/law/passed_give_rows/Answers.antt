use Rattle.row_blocks.proofs.Together.{passed_give_rows}
use Rattle.row_blocks.proofs.law.passed_give_rows.Goals as goal

pub returns : goal.returns
returns c = passed_give_rows
