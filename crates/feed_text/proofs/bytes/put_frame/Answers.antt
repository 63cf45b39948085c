use Rattle.std.proofs.Common.{List, ℕ, ◌++◌, ap, ◌∙◌, arith}
use Rattle.feed_text.proofs.Framed.{framed}
use Rattle.feed_text.proofs.bytes.put_frame.Goals as goal

pub returns-clause-written : goal.returns-clause-written
returns-clause-written c =
    framed c.args.out.now.items c.push.new.self.items c.extend_from_slice.new.self.items c.extend_from_slice-2.new.self.items c.extend_from_slice-3.new.self.items c.args.front.now c.args.payload.now c.args.tag c.in-Ok.len
    c.in_ok-push.ensures.items
    (c.in_ok-extend_from_slice.ensures.items ∙ ap (λ (l : List ℕ). c.push.new.self.items ++ l) c.to_be_bytes.ensures)
    c.in_ok-extend_from_slice-2.ensures.items
    c.in_ok-extend_from_slice-3.ensures.items
    (omega arith)
