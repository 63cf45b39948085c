use Rattle.std.proofs.Common.{◌≡◌, ◌+◌, ◌-◌, ◌≤◌, ◌++◌, length}
use Rattle.std.specs.Prelude.{replicate}
use Rattle.adg_base.specs.declared.answer.Reply.TheVariants.{Down}
use Rattle.step_driver.proofs.seat.Seat.into_replies.Given as goal

-- Down was added so often
abbrev pub invariant-loop : goal.invariant-loop
invariant-loop l = record {
  added : l.replies.items ≡ l.fn.self.replies.items ++ replicate (l.counter - length l.fn.self.replies.items) Down;
  counter : l.counter ≤ length l.fn.self.replies.items + (length l.fn.self.requests.items - length l.fn.self.replies.items);
}
