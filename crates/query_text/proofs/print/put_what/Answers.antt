use Rattle.query_text.proofs.Printed.{aggregates_written}
use Rattle.query_text.proofs.print.put_what.Goals as goal

pub returns-in_ok-put_aggregates-in-Aggregates-clause-written : goal.returns-in_ok-put_aggregates-in-Aggregates-clause-written
returns-in_ok-put_aggregates-in-Aggregates-clause-written c = rw c.in-Aggregates.is (aggregates_written c.put_aggregates.new.out.items c.args.out.now.items c.in-Aggregates.aggregates c.as_slice.result.now c.as_slice.ensures c.in_ok-put_aggregates-in-Aggregates.ensures.written)
