use Rattle.std.proofs.Common.{nat_lt, ap, ◌∙◌}
use Rattle.standby_core.proofs.Ahead.{unclaimed_is}
use Rattle.standby_core.proofs.standby.Core.has_unclaimed.Goals as goal

pub returns : goal.returns
returns c c' h = ap (nat_lt c.args.self.now.flush.claimed) (c.len.ensures ∙ c.args.self.now.flush.links.ok.0) ∙ unclaimed_is c.args.self.now c' h
