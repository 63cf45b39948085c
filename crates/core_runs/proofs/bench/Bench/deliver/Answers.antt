use Rattle.std.proofs.Common.{◌≡◌, ◌+◌, ◌≤◌, ◌++◌, ◌∷◌, [], Err, length, ap, sym, subst, ◌∙◌, arith, rules}
use Rattle.std.proofs.lemmas.Result.{err_from_is_err_and}
use Rattle.adg_model.specs.declared.delivery.RawDelivery.{RawDelivery}
use Rattle.redo_intake.specs.declared.refused.IntakeRefused.{IntakeRefused}
use Rattle.redo_intake.specs.declared.refused.IntakeRefused.TheVariants.{Redo}
use Rattle.redo_intake.specs.Intake.{Checks, TakesOne, bytes_of}
use Rattle.log_merger.specs.Merger.{highest_number}
use Rattle.core_runs.specs.InStep.{delivery_of}
use Rattle.core_runs.proofs.Benches.{can_receive, continues, received, bytes_delivered}
use Rattle.core_runs.proofs.bench.Bench.deliver.Goals as goal

pub returns-in_err-checked-clause-refused : goal.returns-in_err-checked-clause-refused
returns-in_err-checked-clause-refused c fault is before =
    let p = err_from_is_err_and c.from_residual-in_err-checked.result c.from_residual-in_err-checked.ensures.1 in
    let whole : c.from_residual-in_err-checked.result ≡ Err c.in_err-checked.field-0.0 = p.1 ∙ ap Err p.2 in
    let same : c.in_err-checked.field-0.0 ≡ Redo fault = let e : Err c.in_err-checked.field-0.0 ≡ Err (Redo fault) = sym whole ∙ is in cc in
    let takes = subst (λ (d : RawDelivery). TakesOne before.taken c.take.new.self d (Err c.in_err-checked.field-0.0)) c.in_ok-delivery.ensures (c.in_err-checked.ensures.takes 1 before.deliveries before.taken) in
    subst (λ (e : IntakeRefused). TakesOne before.taken c.take.new.self (delivery_of c.args.redo) (Err e)) same takes

pub receive-requires : goal.receive-requires
receive-requires c =
    let is = c.requires in
    let checked = c.in_ok-checked.checked in
    let checks = subst (λ (d : RawDelivery). Checks is.taken c.take.new.self d checked) c.in_ok-delivery.ensures (c.in_ok-checked.ensures.takes 1 is.deliveries is.taken) in
    can_receive c.args.self.now is c.take.new.self c.args.redo checked checks

pub returns-clause-ok : goal.returns-clause-ok
returns-clause-ok c before =
    let checked = c.in_ok-checked.checked in
    let checks = subst (λ (d : RawDelivery). Checks before.taken c.take.new.self d checked) c.in_ok-delivery.ensures (c.in_ok-checked.ensures.takes 1 before.deliveries before.taken) in
    let has = c.in_ok-receive.ensures.ok before.state before.is (continues c.args.self.now before c.take.new.self c.args.redo checked checks) in
    let long = ap (λ (d : RawDelivery). length (bytes_of d.pieces)) c.in_ok-delivery.ensures ∙ bytes_delivered c.args.redo in
    let sum : c.in-Some.delivered ≡ c.args.self.now.delivered + length c.args.redo = search rules in
    let numbers : highest_number c.take.new.self.merger ≤ c.in-Some.delivered + 1 = omega (arith, c.in_ok-checked.ensures.number, long, before.numbers, sum) in
    received c.args.self.now before c.take.new.self c.receive.new.self c.in-Some.delivered c.args.redo checked checks has numbers

pub returns-clause-in_step : goal.returns-clause-in_step
returns-clause-in_step c = (returns-clause-ok c c.requires).after
