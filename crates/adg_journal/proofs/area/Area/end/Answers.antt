use Rattle.std.proofs.Common.{Some, None, sym}
use Rattle.adg_journal.proofs.Areas.{begun_known}
use Rattle.adg_journal.proofs.area.Area.end.Goals as goal

pub returns-in-Some : goal.returns-in-Some
returns-in-Some c = begun_known c.args.self.now c.self.inside.transactions.entries c.args.txn (Some c.in-Some.noted.now) c.self.view_is (sym c.in-Some.ensures.value)

pub returns-in-None : goal.returns-in-None
returns-in-None c = begun_known c.args.self.now c.self.inside.transactions.entries c.args.txn None c.self.view_is (sym c.in-None.ensures.value)
