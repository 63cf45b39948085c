use Rattle.standby_core.proofs.Ahead.{not_ahead, is_ahead, if_both}
use Rattle.standby_core.proofs.Applied.{no_worker}
use Rattle.standby_core.proofs.standby.Core.ahead.Goals as goal

pub returns-in-Some-clause-none : goal.returns-in-Some-clause-none
returns-in-Some-clause-none c none c' w h found = not_ahead c.args.self.now c' h c.args.worker c.in-Some.own.now w c.in-Some.ensures found (c.ahead.ensures.none none)

pub returns-in-Some-clause-some : goal.returns-in-Some-clause-some
returns-in-Some-clause-some c =
    if_both _ _ _ c.ahead.result (λ through is above c' w h found. is_ahead c.args.self.now c' h c.args.worker c.in-Some.own.now w c.in-Some.ensures found through is above) c.ahead.ensures.some c.ahead.ensures.above

pub returns-in-None-clause-none : goal.returns-in-None-clause-none
returns-in-None-clause-none c none c' w h found = absurd (no_worker c.args.self.now c' h c.args.worker w c.in-None.ensures found)
