use Rattle.core_standby.proofs.OneDelivery.{answered_none}
use Rattle.core_standby.proofs.standby.CoreStandbyStandby.begin.Goals as goal

pub returns : goal.returns
returns c =
    answered_none c.in_ok-new.field-0 c.in_ok-start.field-0 c.get.result c.args.workers c.args.threads c.args.sessions c.get.ensures.value c.get.ensures.least c.in_ok-new.ensures.taken
    c.in_ok-start.ensures.shows c.in_ok-start.ensures.invariant c.in_ok-start.ensures.precise
