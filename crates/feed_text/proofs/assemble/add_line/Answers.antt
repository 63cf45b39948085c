use Rattle.std.proofs.Common.{Err, ap}
use Rattle.feed_text.proofs.AssembleLaws.{line_adds, line_breaks}
use Rattle.feed_text.proofs.assemble.add_line.Goals as goal

pub returns-in-Ok : goal.returns-in-Ok
returns-in-Ok c = line_adds c.args.text.now c.args.out.now.items c.put_line.new.out.items c.in_ok-line.line c.in_ok-line.ensures c.in-Ok.ensures.written c.in-Ok.ensures.good

pub returns-in-Err-Bad : goal.returns-in-Err-Bad
returns-in-Err-Bad c = line_breaks c.args.text.now c.in_ok-line.line c.in_ok-line.ensures (c.in-Err-Bad.ensures.bad (ap Err c.in-Err-Bad.field-0-is))
