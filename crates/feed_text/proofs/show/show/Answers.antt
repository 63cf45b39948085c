use Rattle.feed_text.proofs.ShownLaws.{shown_whole, split_parts}
use Rattle.feed_text.proofs.show.show.Goals as goal

pub returns : goal.returns
returns c =
    shown_whole c.new-out.result.items c.put_front.new.out.items c.put_note.new.out.items c.put_rest.new.out.items c.put_rest-2.new.out.items c.args.feed.now c.split_at.result.0.now c.split_at.result.1.now c.in_ok-rest.rest.now
    c.new-out.ensures.items c.in_ok-rest.ensures c.in_ok-put_note.ensures c.in_ok-put_rest.ensures c.in_ok-put_rest-2.ensures
    (split_parts c.in_ok-extent.extent.len c.args.feed.now c.split_at.result.0.now c.split_at.result.1.now c.split_at.ensures.front c.split_at.ensures.back)
