use Rattle.std.proofs.Common.{◌++◌, take, subst}
use Rattle.std.proofs.lemmas.Result.{err_from_is_err_and}
use Rattle.dictionary.specs.Standing.{StandsFor}
use Rattle.redo_intake.proofs.UnsoundLaws.{one_more, follow_one, unsound_one}
use Rattle.redo_intake.proofs.intake.check_all.Goals as goal

pub returns-in_err-check-clause-bad : goal.returns-in_err-check-clause-bad
returns-in_err-check-clause-bad c fault e log s follow =
    let p = err_from_is_err_and c.from_residual.result c.from_residual.ensures.1 in
    let q = p.2 in
    let es = c.args.entries.now in
    let i = c.loop-entry.entry-index in
    let bad = c.in_err-check.ensures.bad fault (cc (p.1, q, e)) in
    unsound_one log es i c.entry-item.result c.loop-entry-test.true c.entry-item.is fault (bad (log ++ take i es) (c.loop-entry.invariant log s follow))

pub loop-entry-preserved : goal.loop-entry-preserved
loop-entry-preserved c log s follow =
    let es = c.args.entries.now in
    let i = c.loop-entry.entry-index in
    let x = c.entry-item.result in
    subst (StandsFor c.check.new.dictionary) (one_more log es i x c.loop-entry-test.true c.entry-item.is)
    (c.in_ok-check.ensures.ok (log ++ take i es) (c.loop-entry.invariant log s follow) (follow_one log es i x c.loop-entry-test.true c.entry-item.is follow))
