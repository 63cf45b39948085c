use Rattle.std.proofs.Common.{take, drop, take-append-drop}
use Rattle.std.proofs.lemmas.List.{length-take-le}
use Rattle.feed_run.proofs.ProgressLaws.{count_more, not_whole}
use Rattle.feed_run.proofs.telling.put.Goals as goal

pub returns-else-wrote : goal.returns-else-wrote
returns-else-wrote g c =
    let n = c.write_whole-wrote.result.count in
    let piece = c.args.piece.now in
    record {
      front = take n piece;
      cut = drop n piece;
      split = take-append-drop n piece;
      some = not_whole n piece c.write_whole-wrote.result.whole c.write_whole-wrote.ensures.count c.if-wrote.false c.write_whole-wrote.ensures.whole.1;
      wrote = c.write_whole-wrote.ensures.bytes;
      count = λ output e. count_more c.args.written.now n _ output (take n piece) (length-take-le n piece c.write_whole-wrote.ensures.count) c.saturating_add.ensures e;
      fault = c.write_whole-wrote.ensures.failed c.if-wrote.false;
    }
