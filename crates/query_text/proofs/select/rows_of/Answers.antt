use Rattle.std.proofs.lemmas.Result.{err_from_is_err_and}
use Rattle.query_text.proofs.Selects.{star_refused, rows_table_refused}
use Rattle.query_text.proofs.select.rows_of.Goals as goal

pub returns-in_err-rest : goal.returns-in_err-rest
returns-in_err-rest c =
    let p = err_from_is_err_and c.from_residual.result c.from_residual.ensures.1 in
    rw (p.1, p.2) (star_refused c.args.bytes.now c.in_err-rest.field-0.0 c.in_err-rest.ensures)

pub returns-in_err-table : goal.returns-in_err-table
returns-in_err-table c =
    let p = err_from_is_err_and c.from_residual-in_err-table.result c.from_residual-in_err-table.ensures.1 in
    rw (p.1, p.2) (rows_table_refused c.args.bytes.now c.in_ok-rest.rest.now c.in_err-table.field-0.0 c.in_ok-rest.ensures c.in_err-table.ensures)
