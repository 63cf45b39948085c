use Rattle.query_text.proofs.Numbers.{zero_stops, zero_takes}
use Rattle.query_text.proofs.number.zero_of.Goals as goal

pub returns-in-Some : goal.returns-in-Some
returns-in-Some c = zero_stops c.args.behind.now c.in-Some.field-0.1.now c.in-Some.field-0.0 c.in-Some.ensures.0 c.in-Some.ensures.1

pub returns-in-None : goal.returns-in-None
returns-in-None c = zero_takes c.args.behind.now c.in-None.ensures
