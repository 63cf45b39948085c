use Rattle.std.proofs.Common.{◌≡◌, length}
use Rattle.row_blocks.specs.Shards.{AreNumbered, shards_in}
use Rattle.storage_tests.proofs.scans.applied.Given as goal

abbrev pub invariant-loop-scn : goal.invariant-loop-scn
invariant-loop-scn l = record { count : length l.shards.items ≡ 64; numbers : AreNumbered (shards_in l.shards.items) }
