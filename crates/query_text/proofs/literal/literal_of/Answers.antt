use Rattle.std.proofs.lemmas.Result.{err_from_is_err_and}
use Rattle.query_text.proofs.Literals.{text_literal_refused, int_literal_refused}
use Rattle.query_text.proofs.literal.literal_of.Goals as goal

pub returns-in-Err : goal.returns-in-Err
returns-in-Err c = text_literal_refused c.args.bytes.now c.in-Some.text.now c.in-Err.fault c.in-Some.ensures c.in-Err.ensures

pub returns-in_err-number : goal.returns-in_err-number
returns-in_err-number c =
    let p = err_from_is_err_and c.from_residual.result c.from_residual.ensures.1 in
    rw (p.1, p.2) (int_literal_refused c.args.bytes.now c.in_err-number.field-0.0 c.in_default.ensures c.in_err-number.ensures)
