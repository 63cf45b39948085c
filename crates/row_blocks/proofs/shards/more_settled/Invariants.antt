use Rattle.std.proofs.Common.{◌≡◌, List}
use Rattle.adg_base.specs.declared.log.LogEntry.{LogEntry as Entry}
use Rattle.row_blocks.specs.Versions.{end_of as log_end}
use Rattle.row_blocks.specs.Shards.{shards_in}
use Rattle.row_blocks.specs.Settled.{AreEnded, AreEndsOf}
use Rattle.row_blocks.proofs.shards.more_settled.Given as goal

abbrev pub invariant-loop-index : goal.invariant-loop-index
invariant-loop-index l = record {
  count : l.settled.count ≡ l.index;
  ended : (log : List Entry) → AreEndsOf log (shards_in l.shards) → AreEnded (log_end log) l.versions l.initial.settled → AreEnded (log_end log) l.versions l.settled;
}
