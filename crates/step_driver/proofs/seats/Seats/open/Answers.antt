use Rattle.step_driver.proofs.Seated.{seats_read}
use Rattle.step_driver.proofs.seats.Seats.open.Goals as goal

pub returns-clause-seats : goal.returns-clause-seats
returns-clause-seats c = seats_read c.args.sessions c.args.commands.now c.in_ok-list.list.items c.in_ok-list.ensures.count c.in_ok-list.ensures.read
