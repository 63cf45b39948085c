use Rattle.std.proofs.Common.{◌∙◌}
use Rattle.standby_core.proofs.Ahead.{duty_is, no_session}
use Rattle.standby_core.proofs.standby.Core.duty.Goals as goal

pub returns-in-Some : goal.returns-in-Some
returns-in-Some c c' place s h number found = c.duty.ensures ∙ duty_is c.args.self.now c' h place c.in-Some.own.now s (c.in-Some.ensures place number) found

pub returns-in-None : goal.returns-in-None
returns-in-None c c' place s h number found = absurd (no_session c.args.self.now c' h place s (c.in-None.ensures place number) found)
