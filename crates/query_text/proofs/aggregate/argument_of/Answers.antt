use Rattle.std.proofs.lemmas.Result.{err_from_is_err_and}
use Rattle.query_text.proofs.Aggregates.{argument_column_refused, bracket_refused}
use Rattle.query_text.proofs.aggregate.argument_of.Goals as goal

pub returns-in_err-column : goal.returns-in_err-column
returns-in_err-column c =
    let p = err_from_is_err_and c.from_residual.result c.from_residual.ensures.1 in
    rw (p.1, p.2) (argument_column_refused c.args.bytes.now c.in_err-column.field-0.0 c.in_err-column.ensures)

pub returns-in_err-rest : goal.returns-in_err-rest
returns-in_err-rest c =
    let p = err_from_is_err_and c.from_residual-in_err-rest.result c.from_residual-in_err-rest.ensures.1 in
    rw (p.1, p.2) (bracket_refused c.args.bytes.now c.in_ok-column.rest.now c.in_ok-column.column c.in_err-rest.field-0.0 c.in_ok-column.ensures c.in_err-rest.ensures)
