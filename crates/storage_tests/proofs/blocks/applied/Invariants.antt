use Rattle.std.proofs.Common.{◌≡◌, length}
use Rattle.row_blocks.specs.Shards.{AreNumbered, shards_in}
use Rattle.storage_tests.proofs.blocks.applied.Given as goal

abbrev pub invariant-loop-entry : goal.invariant-loop-entry
invariant-loop-entry l = record { count : length l.shards.items ≡ 64; numbers : AreNumbered (shards_in l.shards.items) }
