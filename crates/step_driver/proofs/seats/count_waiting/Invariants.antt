use Rattle.std.proofs.Common.{◌≡◌, ◌≤◌, take}
use Rattle.std.specs.Prelude.{count_by}
use Rattle.step_driver.specs.Seating.{seat_shown, is_waiting}
use Rattle.step_driver.proofs.seats.count_waiting.Given as goal

abbrev pub invariant-loop-seat : goal.invariant-loop-seat
invariant-loop-seat l = record {
  count : l.waiting ≡ count_by (λ x. is_waiting (seat_shown x)) (take l.seat-index l.seats);
  few : l.waiting ≤ l.seat-index;
}
