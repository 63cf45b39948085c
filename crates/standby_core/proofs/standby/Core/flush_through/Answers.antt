use Rattle.standby_core.proofs.Ahead.{not_above, flush_can, if_both}
use Rattle.standby_core.proofs.standby.Core.flush_through.Goals as goal

pub returns-in-Idle-clause-none : goal.returns-in-Idle-clause-none
returns-in-Idle-clause-none c none c' h idle = not_above c.args.self.now c' h idle c.deref.result.now c.deref.ensures.value (c.least_above.ensures.none none)

pub returns-in-Idle-clause-some : goal.returns-in-Idle-clause-some
returns-in-Idle-clause-some c =
    if_both _ _ _ c.least_above.result (λ through is above c' h. flush_can c.args.self.now c' h c.in-Idle.is c.deref.result.now c.deref.ensures.value through is above) c.least_above.ensures.some c.least_above.ensures.above
