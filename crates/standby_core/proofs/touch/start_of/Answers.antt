use Rattle.std.proofs.Common.{ltb, rules}
use Rattle.std.proofs.lemmas.List.Sorted.{IsPartitionPoint-from_clause, IsPartitionedBy-ltb}
use Rattle.adg_base.specs.Address.{Place}
use Rattle.standby_core.specs.Links.{shard_of_place}
use Rattle.standby_core.proofs.touch.start_of.Goals as goal

pub returns-clause-start : goal.returns-clause-start
returns-clause-start c =
    let xs = c.args.addrs.now in
    let shard = c.args.shard in
    IsPartitionPoint-from_clause (λ (x : Place). ltb (shard_of_place x) shard) xs c.partition_point.result c.partition_point.ensures.partitioned (IsPartitionedBy-ltb shard_of_place xs shard c.requires) (λ a r q k. search rules)
