use Rattle.feed_text.proofs.ShownLaws.{front_after, split_parts}
use Rattle.feed_text.proofs.show.put_front.Goals as goal

pub returns : goal.returns
returns c =
    front_after c.args.out.now.items c.put_piece.new.out.items c.put_frames.new.out.items c.args.bytes.now c.split_at.result.0.now c.split_at.result.1.now c.in_ok-rest.rest.now c.in_ok-put_piece.ensures
    (split_parts 15 c.args.bytes.now c.split_at.result.0.now c.split_at.result.1.now c.split_at.ensures.front c.split_at.ensures.back) c.in_ok-rest.ensures
