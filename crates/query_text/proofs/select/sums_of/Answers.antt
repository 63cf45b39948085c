use Rattle.std.proofs.lemmas.Result.{err_from_is_err_and}
use Rattle.query_text.proofs.Selects.{asked_refused, sums_table_refused}
use Rattle.query_text.proofs.select.sums_of.Goals as goal

pub returns-in_err-aggregates : goal.returns-in_err-aggregates
returns-in_err-aggregates c =
    let p = err_from_is_err_and c.from_residual.result c.from_residual.ensures.1 in
    rw (p.1, p.2) (asked_refused c.args.bytes.now c.in_err-aggregates.field-0.0 c.in_err-aggregates.ensures)

pub returns-in_err-table : goal.returns-in_err-table
returns-in_err-table c =
    let p = err_from_is_err_and c.from_residual-in_err-table.result c.from_residual-in_err-table.ensures.1 in
    rw (p.1, p.2) (sums_table_refused c.args.bytes.now c.in_ok-aggregates.rest.now c.in_ok-aggregates.aggregates.items c.in_err-table.field-0.0 c.in_ok-aggregates.ensures c.in_err-table.ensures)
