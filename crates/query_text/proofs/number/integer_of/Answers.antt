use Rattle.std.proofs.lemmas.Result.{err_from_is_err_and}
use Rattle.query_text.proofs.Numbers.{minus_refused, plain_refused, zero_reads}
use Rattle.query_text.proofs.number.integer_of.Goals as goal

pub returns-in_err-size : goal.returns-in_err-size
returns-in_err-size c =
    let p = err_from_is_err_and c.from_residual.result c.from_residual.ensures.1 in
    rw (p.1, p.2) (minus_refused c.args.bytes.now c.in-Some.digits.now c.in_err-size.field-0.0 c.in-Some.ensures c.in_err-size.ensures)

pub returns-in-Some-behind_byte : goal.returns-in-Some-behind_byte
returns-in-Some-behind_byte c = zero_reads (λ x. x.0) (λ x. x.1.now) c.args.bytes.now c.in-Some-behind_byte.behind.now c.zero_of.result c.in-Some-behind_byte.ensures c.zero_of.ensures

pub returns-in_err-size-2 : goal.returns-in_err-size-2
returns-in_err-size-2 c =
    let p = err_from_is_err_and c.from_residual-in_err-size-2.result c.from_residual-in_err-size-2.ensures.1 in
    rw (p.1, p.2) (plain_refused c.args.bytes.now c.in_err-size-2.field-0.0 c.in_default.ensures c.in_default-behind_byte.ensures c.in_err-size-2.ensures)
