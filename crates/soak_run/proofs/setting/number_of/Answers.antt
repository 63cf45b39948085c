use Rattle.std.proofs.Common.{sym, ap, ◌∙◌}
use Rattle.soak_run.specs.Words.{is_padded}
use Rattle.soak_run.proofs.Numbers.{padded_none, parsed, unparsed}
use Rattle.soak_run.proofs.setting.number_of.Goals as goal

pub returns-then-is_padded : goal.returns-then-is_padded
returns-then-is_padded c n small is = padded_none c.args.digits.now n (ap is_padded (sym c.as_bytes.ensures.value) ∙ sym c.if-is_padded.ensures) small is

pub returns-in-Ok : goal.returns-in-Ok
returns-in-Ok c = parsed c.args.digits.now c.in-Ok.number c.parse.result (ap is_padded (sym c.as_bytes.ensures.value) ∙ sym c.if-is_padded.ensures) c.parse.ensures.value.0 c.in-Ok.is

pub returns-in-Err : goal.returns-in-Err
returns-in-Err c n small is = unparsed c.args.digits.now n c.parse.result c.in-Err.field-0 c.parse.ensures.value.0 c.in-Err.is small is
