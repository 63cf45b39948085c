use Rattle.std.proofs.Common.{rules}
use Rattle.std.specs.Prelude.{nat_le}
use Rattle.std.proofs.lemmas.List.Sorted.{IsPartitionPoint-from_clause, IsPartitionedBy-leb}
use Rattle.adg_base.specs.declared.log.LogEntry.{LogEntry}
use Rattle.restart_rules.proofs.Rewound.{found_first}
use Rattle.restart_rules.proofs.rewinding.rewind.Goals as goal

pub returns : goal.returns
returns c sorted =
    let xs = c.args.entries.now in
    let point = IsPartitionPoint-from_clause (λ (e : LogEntry). nat_le e.scn c.args.q) xs c.partition_point.result c.partition_point.ensures.partitioned
    (IsPartitionedBy-leb (λ (e : LogEntry). e.scn) xs c.args.q sorted) (λ a r f t. search rules) in
    found_first c.args.q xs c.partition_point.result c.partition_point.ensures.bound point
