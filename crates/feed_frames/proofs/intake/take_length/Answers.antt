use Rattle.std.proofs.Common.{◌≡◌, subst, sym, arith}
use Rattle.std.specs.Int.{w32, to_be_bytes, from_be_bytes}
use Rattle.std.proofs.lemmas.Nat.{be_bytes_4}
use Rattle.feed_frames.specs.Intake.{Took}
use Rattle.feed_frames.proofs.intake.take_length.Goals as goal

pub returns-clause-took : goal.returns-clause-took
returns-clause-took g c =
    let number : c.read_u32.result ≡ from_be_bytes w32 c.take_piece.new.piece = omega (arith, c.read_u32.ensures) in
    let spelled : to_be_bytes w32 c.read_u32.result ≡ c.take_piece.new.piece = be_bytes_4 _ _ c.take_piece.auto.piece c.in_ok-take_piece.ensures.bytes number in
    subst (Took (g.R.Source.left c.args.source.now) (g.R.Source.left c.take_piece.new.source) c.args.taken.now c.take_piece.new.taken) (sym spelled) c.in_ok-take_piece.ensures.took
