use Rattle.std.proofs.Common.{◌≤◌, leb, length, rules, subst}
use Rattle.std.proofs.lemmas.List.Sorted.{IsPartitionPoint-from_clause, IsPartitionedBy-leb}
use Rattle.scn_queue.specs.Queue.{IsPartedAt}
use Rattle.scn_queue.proofs.Parted.{parted_from_point}
use Rattle.scn_queue.proofs.queue.ScnQueue.count_upto.Goals as goal

pub returns : goal.returns
returns g c =
    let scn = g.T.HasScn.scn_of in
    let xs = c.self.inside.entries.items in
    let parted = IsPartitionedBy-leb scn xs c.args.through c.self.invariant in
    let point = IsPartitionPoint-from_clause (λ x. leb (scn x) c.args.through) _ _ c.partition_point.ensures.partitioned parted (λ a r q k. search rules) in
    let within : c.partition_point.result ≤ length xs = search rules in
    subst (λ l. IsPartedAt scn c.args.through l c.partition_point.result) c.self.view_is (parted_from_point scn c.args.through _ _ within point)
