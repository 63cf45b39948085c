use Rattle.standby_core.specs.declared.session.Session.TheVariants.{Free}
use Rattle.standby_core.proofs.Walked.{walk_sets}
use Rattle.standby_core.proofs.restart.free_all.Goals as goal

-- src/restart.rt:98:5
pub loop-session-preserved : goal.loop-session-preserved
loop-session-preserved c = walk_sets Free c.loop-session.session-index c.args.sessions.now c.loop-session.sessions c.loop-session-test.true c.loop-session.invariant
