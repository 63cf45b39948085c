use Rattle.std.proofs.lemmas.Result.{err_from_is_err_and}
use Rattle.query_text.proofs.Numbers.{obj_refused}
use Rattle.query_text.proofs.number.object_of.Goals as goal

pub returns-in_err-obj : goal.returns-in_err-obj
returns-in_err-obj c =
    let p = err_from_is_err_and c.from_residual.result c.from_residual.ensures.1 in
    rw (p.1, p.2) (obj_refused c.args.bytes.now c.in_err-obj.field-0.0 c.in_err-obj.ensures)
