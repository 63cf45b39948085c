use Rattle.query_text.proofs.Numbers.{more_digits, digit_stops, no_digits}
use Rattle.query_text.proofs.number.number_of.Goals as goal

pub returns-in-None : goal.returns-in-None
returns-in-None c = digit_stops c.args.limit c.args.bytes.now c.loop-digit.rest.now c.in-Some.others.now c.loop-digit.number c.in-Some.digit c.requires c.ranges.limit.fits c.in-Some.ensures.0 c.in-Some.ensures.1 c.in-None.ensures c.loop-digit.invariant

pub loop-digit-preserved : goal.loop-digit-preserved
loop-digit-preserved c = more_digits c.args.limit c.args.bytes.now c.loop-digit.rest.now c.in-Some.others.now c.loop-digit.number c.in-Some.digit c.in-Some-with_digit.more c.ranges.limit.fits c.in-Some.ensures.0 c.in-Some.ensures.1 c.in-Some-with_digit.ensures.0 c.in-Some-with_digit.ensures.1 c.loop-digit.invariant

pub returns-then-number-eq0 : goal.returns-then-number-eq0
returns-then-number-eq0 c = no_digits c.args.limit c.args.bytes.now c.loop-digit.rest.now c.requires c.ranges.limit.fits c.in_default.ensures c.loop-digit.number c.if-number-eq0.true c.loop-digit.invariant
