use Rattle.std.proofs.Common.{◌≡◌, ℕ, [], length}
use Rattle.core_rules.specs.State.{At}
use Rattle.step_driver.specs.declared.seat.Seat.{Seat}
use Rattle.step_driver.proofs.seats.empty_seats.Given as goal

-- so many seats, each without a request
abbrev pub invariant-loop : goal.invariant-loop
invariant-loop l = record {
  count : length l.seats.items ≡ l.counter;
  empty : (n : ℕ) (x : Seat) → At l.seats.items n x → (x.requests.items ≡ []) × (x.replies.items ≡ []);
}
