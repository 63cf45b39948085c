use Rattle.row_blocks.proofs.Together.{shards_give_rows}
use Rattle.row_blocks.proofs.law.shards_give_rows.Goals as goal

pub returns : goal.returns
returns c = shards_give_rows
