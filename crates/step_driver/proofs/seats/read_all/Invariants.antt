use Rattle.std.proofs.Common.{◌≡◌, length, take}
use Rattle.step_driver.specs.Seating.{AreRead}
use Rattle.step_driver.proofs.seats.read_all.Given as goal

-- the commands so far are read
abbrev pub invariant-loop-command : goal.invariant-loop-command
invariant-loop-command l = record {
  count : length l.seats.items ≡ l.sessions;
  read : AreRead (take l.command-index l.commands) l.seats.items;
}
