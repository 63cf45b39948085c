use Rattle.std.proofs.Common.{◌≡◌, ◌+◌, length}
use Rattle.row_blocks.specs.Shards.{shards_in, commits_in}
use Rattle.hybrid_scan.specs.Reader.{placed, picked_in}
use Rattle.hybrid_scan.proofs.Blocks.{slots_of}
use Rattle.hybrid_scan.proofs.shard_reader.rows_in.Given as goal

-- the rows of the slots so far, and a step for each
abbrev pub invariant-loop-slot : goal.invariant-loop-slot
invariant-loop-slot g l = record {
  rows : l.rows.items ≡ placed (picked_in (commits_in (shards_in l.shards) l.q) l.found) (slots_of l.obj l.block l.slot);
  cost : l.steps ≡ l.initial.steps + length l.rows.items;
}
