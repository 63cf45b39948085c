use Rattle.std.proofs.Common.{take, drop, take-append-drop, refl, inr}
use Rattle.feed_text.proofs.RunLaws.{not_whole}
use Rattle.feed_text.proofs.top.write_and_end.Goals as goal

pub returns-else-wrote : goal.returns-else-wrote
returns-else-wrote g c =
    let n = c.write_whole-wrote.result.count in
    let piece = c.args.piece.now in
    inr (
      refl,
      record {
        front = take n piece;
        cut = drop n piece;
        joined = take-append-drop n piece;
        some = not_whole n piece c.write_whole-wrote.result.whole c.write_whole-wrote.ensures.count c.if-wrote.false c.write_whole-wrote.ensures.whole.1;
        written = c.write_whole-wrote.ensures.bytes;
        failed = c.write_whole-wrote.ensures.failed c.if-wrote.false;
      },
    )
