use Rattle.standby_core.proofs.Marking.{marks_more}
use Rattle.standby_core.proofs.touch.mark_each.Goals as goal

pub loop-addr-preserved : goal.loop-addr-preserved
loop-addr-preserved c =
    marks_more c.args.addrs.now c.loop-addr.addr-index c.addr-item.result c.args.units.now c.loop-addr.units c.mark.new.self c.loop-addr-test.true c.addr-item.is c.loop-addr.invariant c.mark.ensures.unit c.mark.ensures.others
