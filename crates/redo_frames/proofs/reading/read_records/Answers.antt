use Rattle.redo_frames.proofs.ReadingLaws.{Reads_next}
use Rattle.redo_frames.proofs.reading.read_records.Goals as goal

pub loop-stop-preserved : goal.loop-stop-preserved
loop-stop-preserved c =
    let next = Reads_next c.args.held.now.items c.loop-stop.held.items c.push_back.new.self.items c.args.mark c.loop-stop.mark c.after-mark.result c.in_ok-next.next c.args.bytes.now c.loop-stop.used c.in-Whole.len c.loop-stop.invariant.inside c.in-Whole.ensures.0 c.in-Whole.ensures.1 c.in_ok-next.ensures c.in_ok-push_back.ensures.items c.after-mark.ensures c.loop-stop.invariant.reads in
    record { inside = next.0; reads = next.1 }
