use Rattle.std.proofs.Common.{◌≡◌, ◌++◌, length}
use Rattle.std.specs.Vec.Iter.{into_iter_items}
use Rattle.turn_rules.specs.Telling.{session_lines}
use Rattle.step_driver.proofs.delivery.tell_session.Given as goal

-- the lines of the replies so far are there
abbrev pub invariant-loop-reply : goal.invariant-loop-reply
invariant-loop-reply l = record {
  split : l.yielded ++ into_iter_items l.reply-iterator ≡ l.fn.replies.items;
  number : l.number ≡ length l.yielded;
  lines : l.lines ≡ l.fn.lines ++ session_lines l.fn.session 1 l.yielded;
}
