use Rattle.std.proofs.Common.{rules}
use Rattle.adg_io.proofs.Pieces.{written_on}
use Rattle.adg_io.proofs.transfer.write_whole.Goals as goal

pub loop-count-preserved : goal.loop-count-preserved
loop-count-preserved g c =
    let was = c.loop-count.invariant in
    let written = c.in-Ok.ensures in
    record {
      inside = search rules;
      bytes = written_on _ _ _ c.args.piece.now c.loop-count.count c.in-Ok.taken was.bytes written.bytes;
      honest = search rules;
      empty = search rules;
    }
