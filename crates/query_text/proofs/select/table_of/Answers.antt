use Rattle.std.proofs.lemmas.Result.{err_from_is_err_and}
use Rattle.query_text.proofs.Selects.{number_table_refused, tail_table_refused}
use Rattle.query_text.proofs.select.table_of.Goals as goal

pub returns-in_err-obj : goal.returns-in_err-obj
returns-in_err-obj c =
    let p = err_from_is_err_and c.from_residual.result c.from_residual.ensures.1 in
    rw (p.1, p.2) (number_table_refused c.args.grouped c.args.bytes.now c.in_err-obj.field-0.0 c.in_err-obj.ensures)

pub returns-in_err-conditions : goal.returns-in_err-conditions
returns-in_err-conditions c =
    let p = err_from_is_err_and c.from_residual-in_err-conditions.result c.from_residual-in_err-conditions.ensures.1 in
    rw (p.1, p.2) (tail_table_refused c.args.grouped c.args.bytes.now c.in_ok-obj.rest.now c.in_ok-obj.obj c.in_err-conditions.field-0.0 c.in_ok-obj.ensures c.in_err-conditions.ensures)
