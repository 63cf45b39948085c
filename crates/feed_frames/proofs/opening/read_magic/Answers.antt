use Rattle.std.proofs.lemmas.Result.{err_from_is_err_and}
use Rattle.feed_frames.proofs.OpeningLaws.{magic_missing}
use Rattle.feed_frames.proofs.opening.read_magic.Goals as goal

pub returns-in_err-take_piece-clause-magic : goal.returns-in_err-take_piece-clause-magic
returns-in_err-take_piece-clause-magic g c =
    let p = err_from_is_err_and c.from_residual.result c.from_residual.ensures.1 in
    rw (p.1, p.2) (magic_missing c.in_err-take_piece.ensures.took)
