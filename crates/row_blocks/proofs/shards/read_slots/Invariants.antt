use Rattle.std.proofs.Common.{◌≡◌, ◌+◌, ◌++◌, length}
use Rattle.row_blocks.specs.Shards.{shards_in, commits_in}
use Rattle.row_blocks.specs.Lent.{lent, rows_in_slots}
use Rattle.row_blocks.proofs.shards.read_slots.Given as goal

-- the rows of the slots so far were added, and a step was counted for each
abbrev pub invariant-loop-slot : goal.invariant-loop-slot
invariant-loop-slot g l = record {
  rows : lent l.rows.items ≡ lent l.initial.rows.items ++ rows_in_slots (commits_in (shards_in l.shards) l.q) l.found l.slot;
  cost : l.steps + length l.initial.rows.items ≡ l.initial.steps + length l.rows.items;
}
