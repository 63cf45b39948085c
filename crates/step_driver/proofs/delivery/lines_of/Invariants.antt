use Rattle.std.proofs.Common.{◌≡◌, ◌++◌, length, map}
use Rattle.std.specs.Vec.Iter.{into_iter_items}
use Rattle.turn_rules.specs.Telling.{seats_lines}
use Rattle.step_driver.specs.Seating.{seat_shown}
use Rattle.step_driver.proofs.delivery.lines_of.Given as goal

-- the lines of the seats so far are there
abbrev pub invariant-loop-seat : goal.invariant-loop-seat
invariant-loop-seat l = record {
  split : l.yielded ++ into_iter_items l.seat-iterator ≡ l.fn.seats.items;
  session : l.session ≡ length l.yielded;
  lines : l.lines ≡ seats_lines 1 (map seat_shown l.yielded);
}
