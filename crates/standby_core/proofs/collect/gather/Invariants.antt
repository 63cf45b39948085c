use Rattle.std.proofs.Common.{take}
use Rattle.core_rules.specs.State.{has_change}
use Rattle.standby_core.specs.Collecting.{Takes}
use Rattle.standby_core.proofs.collect.gather.Given as goal

abbrev pub invariant-loop-item : goal.invariant-loop-item
invariant-loop-item l = Takes (λ t. has_change t (take l.item-index l.items)) l.item-index l.initial.area l.area l.initial.collected l.collected
