use Rattle.std.proofs.Common.{nat_lt, ap, ◌∙◌}
use Rattle.standby_core.proofs.Ahead.{to_apply}
use Rattle.standby_core.proofs.Applied.{no_worker}
use Rattle.standby_core.proofs.standby.Core.has_to_apply.Goals as goal

pub returns-in-Some : goal.returns-in-Some
returns-in-Some c c' w h found = ap (nat_lt c.in-Some.own.now.applied) c.len.ensures ∙ to_apply c.args.self.now c' h c.args.worker c.in-Some.own.now w c.in-Some.ensures found

pub returns-in-None : goal.returns-in-None
returns-in-None c c' w h found = absurd (no_worker c.args.self.now c' h c.args.worker w c.in-None.ensures found)
