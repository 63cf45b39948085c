use Rattle.query_text.proofs.Printed.{select_written}
use Rattle.query_text.proofs.print.put_command.Goals as goal

pub returns-in_ok-put_query-in-Select-clause-written : goal.returns-in_ok-put_query-in-Select-clause-written
returns-in_ok-put_query-in-Select-clause-written c = rw c.in-Select.is (select_written c.put_query.new.out.items c.extend_from_slice.new.self.items c.args.out.now.items c.in-Select.select c.in_ok-extend_from_slice-in-Select.ensures.items c.in_ok-put_query-in-Select.ensures.written)
