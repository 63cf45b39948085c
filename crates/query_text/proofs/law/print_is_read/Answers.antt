use Rattle.query_text.proofs.Printed.{print_of_one}
use Rattle.query_text.proofs.law.print_is_read.Goals as goal

pub returns-clause-only : goal.returns-clause-only
returns-clause-only c = print_of_one
