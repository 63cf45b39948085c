use Rattle.std.proofs.Common.{rules}
use Rattle.adg_io.proofs.Pieces.{filled_on}
use Rattle.adg_io.proofs.transfer.fill.Goals as goal

pub loop-count-preserved : goal.loop-count-preserved
loop-count-preserved g c =
    let was = c.loop-count.invariant in
    let read = c.in-Ok.ensures in
    record {
      inside = search rules;
      bytes = filled_on _ _ _ c.loop-count.into c.read.new.into c.loop-count.count c.in-Ok.given _ was.inside read.bound.0 was.bytes read.bytes.0;
      honest = search rules;
      empty = search rules;
    }
