use Rattle.feed_text.proofs.NumberLaws.{none_at, first_at, next_at, over_at, found_at}
use Rattle.feed_text.proofs.number.number_of.Goals as goal

pub loop-digit-init : goal.loop-digit-init
loop-digit-init c = first_at c.args.limit c.in-Some.first c.args.text.now c.in-Some.after.now c.requires c.in-Some.ensures.0 c.in-Some.ensures.1

pub returns-in_default-clause-read : goal.returns-in_default-clause-read
returns-in_default-clause-read c = none_at c.args.limit c.args.text.now c.in_default.ensures

pub loop-digit-preserved : goal.loop-digit-preserved
loop-digit-preserved c = next_at c.args.limit c.in-Some-digit_of.digit c.loop-digit.number c.in-Some-with_digit.more c.args.text.now c.loop-digit.rest.now c.in-Some-digit_of.others.now c.in-Some-digit_of.ensures.0 c.in-Some-digit_of.ensures.1 c.in-Some-with_digit.ensures.0 c.in-Some-with_digit.ensures.1 c.loop-digit.invariant

pub returns-in-None-clause-read : goal.returns-in-None-clause-read
returns-in-None-clause-read c = over_at c.args.limit c.in-Some-digit_of.digit c.loop-digit.number c.args.text.now c.loop-digit.rest.now c.in-Some-digit_of.others.now c.in-Some-digit_of.ensures.0 c.in-Some-digit_of.ensures.1 c.in-None.ensures c.loop-digit.invariant

pub returns-clause-read : goal.returns-clause-read
returns-clause-read c = found_at c.args.limit c.loop-digit.number c.args.text.now c.loop-digit.rest.now c.in_default-digit_of.ensures c.loop-digit.invariant
