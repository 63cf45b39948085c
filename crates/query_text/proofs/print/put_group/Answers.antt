use Rattle.query_text.proofs.Printed.{group_written}
use Rattle.query_text.proofs.print.put_group.Goals as goal

pub returns-clause-written : goal.returns-clause-written
returns-clause-written c = rw c.in-Some.is (group_written c.put_column.new.out.items c.extend_from_slice.new.self.items c.args.out.now.items c.in-Some.column c.in_ok-extend_from_slice.ensures.items c.in_ok-put_column.ensures.written)
