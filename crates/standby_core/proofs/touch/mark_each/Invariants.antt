use Rattle.std.proofs.Common.{take, false}
use Rattle.std.specs.List.{Contains}
use Rattle.standby_core.specs.Touching.{MarksUnits}
use Rattle.standby_core.proofs.touch.mark_each.Given as goal

abbrev pub invariant-loop-addr : goal.invariant-loop-addr
invariant-loop-addr l = MarksUnits (Contains (take l.addr-index l.addrs)) false l.initial.units l.units
