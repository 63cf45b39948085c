use Rattle.standby_core.specs.Restarting.{IsEmptied}
use Rattle.standby_core.proofs.Walked.{WalkedTo}
use Rattle.standby_core.proofs.restart.drop_units.Given as goal

abbrev pub invariant-loop-shard : goal.invariant-loop-shard
invariant-loop-shard l = WalkedTo IsEmptied l.shard-index l.initial.shards l.shards
