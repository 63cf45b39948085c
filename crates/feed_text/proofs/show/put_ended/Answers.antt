use Rattle.feed_text.proofs.ShownLaws.{one_line, added_line}
use Rattle.feed_text.proofs.show.put_ended.Goals as goal

pub returns : goal.returns
returns c = λ bytes adds. one_line c.args.out.now.items c.push.new.self.items c.args.line.now bytes c.requires adds (added_line c.args.out.now.items c.extend_from_slice.new.self.items c.push.new.self.items c.args.line.now c.in_ok-extend_from_slice.ensures.items c.in_ok-push.ensures.items)
