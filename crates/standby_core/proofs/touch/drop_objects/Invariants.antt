use Rattle.std.proofs.Common.{take, None, if◌then◌else◌}
use Rattle.column_units.specs.Shard.{MakesEach}
use Rattle.core_rules.specs.State.{has_drop}
use Rattle.standby_core.proofs.touch.drop_objects.Given as goal

abbrev pub invariant-loop-item : goal.invariant-loop-item
invariant-loop-item l = MakesEach (λ o unit. if has_drop o (take l.item-index l.items) then None else unit) l.initial.units l.units
