use Rattle.feed_text.proofs.ShownLaws.{front_none, front_more}
use Rattle.feed_text.proofs.show.put_frames.Goals as goal

pub loop-frame-init : goal.loop-frame-init
loop-frame-init c = front_none c.args.out.now.items c.args.bytes.now

pub loop-frame-preserved : goal.loop-frame-preserved
loop-frame-preserved c = front_more c.args.out.now.items c.loop-frame.out.items c.put_piece.new.out.items c.args.bytes.now c.in-Some.frame.now c.loop-frame.rest.now c.in-Some.behind.now c.loop-frame.invariant c.in-Some.ensures.0 c.in_ok-put_piece.ensures
