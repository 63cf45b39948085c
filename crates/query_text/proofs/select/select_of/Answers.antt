use Rattle.query_text.proofs.Selects.{rows_reads, sums_reads}
use Rattle.query_text.proofs.select.select_of.Goals as goal

pub returns-in-Some : goal.returns-in-Some
returns-in-Some c = rows_reads (λ s. s) c.args.bytes.now c.in-Some.field-0.now c.rows_of.result c.in-Some.ensures c.rows_of.ensures

pub returns-in-None : goal.returns-in-None
returns-in-None c = sums_reads (λ s. s) c.args.bytes.now c.sums_of.result c.in-None.ensures c.sums_of.ensures
