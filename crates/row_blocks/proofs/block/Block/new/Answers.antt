use Rattle.std.proofs.Common.{replicate}
use Rattle.row_blocks.proofs.Held.{empty_block}
use Rattle.row_blocks.proofs.block.Block.new.Goals as goal

pub returns : goal.returns
returns c slot = empty_block c.new.result.items (replicate 64 64) slot c.new.ensures.items
