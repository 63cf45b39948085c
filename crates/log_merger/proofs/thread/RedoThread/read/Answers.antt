use Rattle.std.proofs.Common.{◌≡◌, Bool, Ok, Err, subst}
use Rattle.std.proofs.lemmas.Result.{err_from_is_err_and}
use Rattle.log_merger.specs.declared.refused.MergeRefused.{MergeRefused}
use Rattle.log_merger.specs.declared.refused.MergeRefused.TheVariants.{Redo}
use Rattle.log_merger.specs.Thread.{ReadsNext}
use Rattle.log_merger.proofs.ThreadLaws.{reads_next, bad_next, fault_before}
use Rattle.log_merger.proofs.thread.RedoThread.read.Goals as goal

pub loop-preserved : goal.loop-preserved
loop-preserved c =
    reads_next c.args.self.now c.loop.self c.read_next.new.self c.loop.invariant
    (subst (λ (b : Bool). ReadsNext c.loop.self c.read_next.new.self (Ok b)) c.if-branch.true c.in_ok-read_next.ensures)

pub returns-in_err-read_next-clause-bad : goal.returns-in_err-read_next-clause-bad
returns-in_err-read_next-clause-bad c fault e =
    let p = err_from_is_err_and c.from_residual.result c.from_residual.ensures.1 in
    let q = p.2 in
    let same : c.in_err-read_next.field-0.0 ≡ Redo fault = cc (p.1, q, e) in
    let bad = subst (λ (x : MergeRefused). ReadsNext c.loop.self c.read_next.new.self (Err x)) same c.in_err-read_next.ensures in
    fault_before c.args.self.now c.loop.self fault c.loop.invariant (bad_next c.loop.self fault bad.1)
