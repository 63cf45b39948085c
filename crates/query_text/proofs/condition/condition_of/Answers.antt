use Rattle.std.proofs.lemmas.Result.{err_from_is_err_and}
use Rattle.query_text.proofs.Conditions.{column_refused, op_refused, literal_refused}
use Rattle.query_text.proofs.condition.condition_of.Goals as goal

pub returns-in_err-column : goal.returns-in_err-column
returns-in_err-column c =
    let p = err_from_is_err_and c.from_residual.result c.from_residual.ensures.1 in
    rw (p.1, p.2) (column_refused c.args.bytes.now c.in_err-column.field-0.0 c.in_err-column.ensures)

pub returns-in_err-op : goal.returns-in_err-op
returns-in_err-op c =
    let p = err_from_is_err_and c.from_residual-in_err-op.result c.from_residual-in_err-op.ensures.1 in
    rw (p.1, p.2) (op_refused c.args.bytes.now c.in_ok-column.rest.now c.in_ok-column.column c.in_err-op.field-0.0 c.in_ok-column.ensures c.in_err-op.ensures)

pub returns-in_err-literal : goal.returns-in_err-literal
returns-in_err-literal c =
    let p = err_from_is_err_and c.from_residual-in_err-literal.result c.from_residual-in_err-literal.ensures.1 in
    rw (p.1, p.2) (literal_refused c.args.bytes.now c.in_ok-column.rest.now c.in_ok-op.rest.now c.in_ok-column.column c.in_ok-op.op c.in_err-literal.field-0.0 c.in_ok-column.ensures c.in_ok-op.ensures c.in_err-literal.ensures)
