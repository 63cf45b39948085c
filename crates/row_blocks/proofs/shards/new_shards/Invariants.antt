use Rattle.std.proofs.Common.{◌≡◌, ℕ, ◌<◌, List, length}
use Rattle.row_blocks.specs.Stands.{SameKept, none_kept}
use Rattle.adg_base.specs.declared.log.LogEntry.{LogEntry}
use Rattle.row_blocks.specs.Shards.{shards_in}
use Rattle.row_blocks.specs.Settled.{AreEachSettled}
use Rattle.row_blocks.proofs.shards.new_shards.Given as goal

abbrev pub invariant-loop-number : goal.invariant-loop-number
invariant-loop-number l = record {
  count : length l.shards.items ≡ l.number;
  empty : (n : ℕ) → n < l.number → SameKept (shards_in l.shards.items n) (none_kept n);
  settled : (log : List LogEntry) → AreEachSettled log l.shards.items;
}
