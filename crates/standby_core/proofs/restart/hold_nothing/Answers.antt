use Rattle.std.proofs.Common.{None}
use Rattle.standby_core.proofs.Walked.{walk_sets}
use Rattle.standby_core.proofs.restart.hold_nothing.Goals as goal

-- src/restart.rt:82:5
pub loop-number-preserved : goal.loop-number-preserved
loop-number-preserved c = walk_sets None c.loop-number.number-index c.args.held.now c.loop-number.held c.loop-number-test.true c.loop-number.invariant
