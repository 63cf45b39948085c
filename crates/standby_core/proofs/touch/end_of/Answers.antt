use Rattle.std.proofs.Common.{leb, rules, ap, ◌∙◌}
use Rattle.std.proofs.lemmas.List.{get_or_default}
use Rattle.std.proofs.lemmas.List.Sorted.{IsPartitionPoint-from_clause, IsPartitionedBy-leb}
use Rattle.adg_base.specs.Address.{Place}
use Rattle.standby_core.specs.Links.{shard_of_place}
use Rattle.standby_core.proofs.ShardPart.{ends_at_once}
use Rattle.standby_core.proofs.touch.end_of.Goals as goal

pub returns-in-Some-clause-end : goal.returns-in-Some-clause-end
returns-in-Some-clause-end c =
    let xs = c.args.addrs.now in
    let shard = c.args.shard in
    IsPartitionPoint-from_clause (λ (x : Place). leb (shard_of_place x) shard) xs c.partition_point.result c.partition_point.ensures.partitioned (IsPartitionedBy-leb shard_of_place xs shard c.requires.order) (λ a r q k. search rules)

pub returns-in_default-clause-end : goal.returns-in_default-clause-end
returns-in_default-clause-end c =
    let xs = c.args.addrs.now in
    ends_at_once c.args.shard c.args.from xs c.requires.order c.requires.start (λ l a e.
    c.if-shard_of_addr-shard.false (c.shard_of_addr.ensures.value ∙ ap shard_of_place (c.in-Some.ensures.lookup.1 ∙ get_or_default xs c.args.from c.in-Some.first.now a l) ∙ e))
