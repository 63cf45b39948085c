use Rattle.std.proofs.Common.{take, false}
use Rattle.standby_core.specs.Touching.{MarksUnits, IsListed}
use Rattle.standby_core.proofs.touch.mark_lists.Given as goal

abbrev pub invariant-loop-list : goal.invariant-loop-list
invariant-loop-list l = MarksUnits (IsListed (take l.list-index l.lists) l.initial.units.number) false l.initial.units l.units
