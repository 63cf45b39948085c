use Rattle.std.proofs.Common.{◌+◌, ap, arith, ℕ}
use Rattle.std.proofs.lemmas.Result.{err_from_is_err_and}
use Rattle.core_standby.proofs.OneDelivery.{may_answer, answered_more, unanswered_so}
use Rattle.core_standby.proofs.standby.CoreStandbyStandby.deliver.Goals as goal

pub returns-in_err-lines : goal.returns-in_err-lines
returns-in_err-lines c next =
    let p = err_from_is_err_and c.from_residual.result c.from_residual.ensures.1 in
    rw p.1 (rw p.2 (unanswered_so c.args.self.now c.args.delivery next c.answer.new.self c.in_err-lines.field-0.0 (c.in_err-lines.ensures.runs next)))

pub overflow_add-self : goal.overflow_add-self
overflow_add-self c = let m = (may_answer c.args.self.now c.args.delivery c.requires).delivered in omega (arith, m, c.in_ok-lines.ensures.delivered)

pub returns : goal.returns
returns c next =
    answered_more c.args.self.now c.args.delivery next _ c.in_ok-lines.lines c.in_ok-text.text (c.in_ok-lines.ensures.runs next) (ap (λ (n : ℕ). n + 1) c.in_ok-lines.ensures.delivered) c.in_ok-text.ensures
