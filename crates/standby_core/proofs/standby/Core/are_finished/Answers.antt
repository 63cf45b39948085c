use Rattle.std.proofs.Common.{nat_eq, ap, ◌∙◌}
use Rattle.standby_core.proofs.Ahead.{finished_is}
use Rattle.standby_core.proofs.standby.Core.are_finished.Goals as goal

pub returns : goal.returns
returns c c' h = ap (nat_eq c.args.self.now.flush.done) (c.len.ensures ∙ c.args.self.now.flush.links.ok.0) ∙ finished_is c.args.self.now c' h
