use Rattle.std.proofs.Common.{◌<◌}
use Rattle.std.specs.List.{AllByRecursion}
use Rattle.adg_base.specs.declared.node.Node.{Node}
use Rattle.flush_tests.proofs.commits.partition.Given as goal

-- the nodes so far are those of the ends before this one
abbrev pub invariant-loop-index : goal.invariant-loop-index
invariant-loop-index l = AllByRecursion (λ (n : Node). n.pos < l.index) l.partition
