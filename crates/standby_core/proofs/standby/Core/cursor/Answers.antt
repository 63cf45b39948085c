use Rattle.std.proofs.Common.{sym, ◌∙◌}
use Rattle.standby_core.proofs.Ahead.{cursor_some, holds_none, if_is}
use Rattle.standby_core.proofs.standby.Core.cursor.Goals as goal

pub returns-in-Some-clause-some : goal.returns-in-Some-clause-some
returns-in-Some-clause-some c =
    let k = c.in-Some.ensures in
    if_is _ c.cursor.result (λ cursor is c' h. cursor_some c.args.self.now c' h c.args.actor k.number cursor c.in-Some.link.now k.held k.at (sym c.cursor.ensures ∙ is))

pub returns-in-None-clause-none : goal.returns-in-None-clause-none
returns-in-None-clause-none c none c' h = holds_none c.args.self.now c' h c.args.actor c.in-None.ensures
