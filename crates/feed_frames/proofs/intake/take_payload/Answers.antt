use Rattle.std.proofs.Common.{arith}
use Rattle.std.proofs.lemmas.Result.{err_from_is_err_and}
use Rattle.feed_frames.proofs.IntakeLaws.{misses_after}
use Rattle.feed_frames.proofs.intake.take_payload.Goals as goal

pub returns-in_err-take_onto-clause-took : goal.returns-in_err-take_onto-clause-took
returns-in_err-take_onto-clause-took g c =
    let p = err_from_is_err_and c.from_residual.result c.from_residual.ensures.1 in
    rw (p.1, p.2) (misses_after _ _ _ _ _ _ _ _ _ _ _ _ c.loop-missing.invariant.took c.in_err-take_onto.ensures.took (omega arith))
