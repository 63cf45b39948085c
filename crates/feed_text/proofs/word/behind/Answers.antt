use Rattle.feed_text.proofs.Behind.{behind_short}
use Rattle.feed_text.proofs.word.behind.Goals as goal

pub returns-in_default : goal.returns-in_default
returns-in_default c = behind_short c.args.word.now c.loop-expected.rest.now c.loop-expected.expected-index _ c.loop-expected-test.true c.in_default.len_below c.loop-expected.invariant
