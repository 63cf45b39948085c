use Rattle.query_text.specs.declared.aggregate.Function.TheVariants.{Sum, Min, Max}
use Rattle.std.proofs.lemmas.Result.{err_from_is_err_and}
use Rattle.query_text.proofs.Aggregates.{function_refused, argument_refused}
use Rattle.query_text.proofs.aggregate.aggregate_of.Goals as goal

pub returns-in_err-function : goal.returns-in_err-function
returns-in_err-function c =
    let p = err_from_is_err_and c.from_residual.result c.from_residual.ensures.1 in
    rw (p.1, p.2) (function_refused c.args.bytes.now c.in_err-function.field-0.0 c.in_err-function.ensures)

pub returns-in_err-column-in-Sum : goal.returns-in_err-column-in-Sum
returns-in_err-column-in-Sum c =
    let p = err_from_is_err_and c.from_residual-in_err-column-in-Sum.result c.from_residual-in_err-column-in-Sum.ensures.1 in
    rw (p.1, p.2) (argument_refused Sum c.args.bytes.now c.in_ok-function.rest.now c.in_err-column-in-Sum.field-0.0 tt (rw c.in-Sum.is at c.in_ok-function.ensures) c.in_err-column-in-Sum.ensures)

pub returns-in_err-column-in-Min : goal.returns-in_err-column-in-Min
returns-in_err-column-in-Min c =
    let p = err_from_is_err_and c.from_residual-in_err-column-in-Min.result c.from_residual-in_err-column-in-Min.ensures.1 in
    rw (p.1, p.2) (argument_refused Min c.args.bytes.now c.in_ok-function.rest.now c.in_err-column-in-Min.field-0.0 tt (rw c.in-Min.is at c.in_ok-function.ensures) c.in_err-column-in-Min.ensures)

pub returns-in_err-column-in-Max : goal.returns-in_err-column-in-Max
returns-in_err-column-in-Max c =
    let p = err_from_is_err_and c.from_residual-in_err-column-in-Max.result c.from_residual-in_err-column-in-Max.ensures.1 in
    rw (p.1, p.2) (argument_refused Max c.args.bytes.now c.in_ok-function.rest.now c.in_err-column-in-Max.field-0.0 tt (rw c.in-Max.is at c.in_ok-function.ensures) c.in_err-column-in-Max.ensures)
