use Rattle.std.proofs.Common.{ap}
use Rattle.standby_core.specs.Crew.{event_of}
use Rattle.standby_core.proofs.Stepped.{asked, unasked, answered}
use Rattle.standby_core.proofs.standby.Core.take_crew.Goals as goal

pub returns-in-Apply-clause-steps : goal.returns-in-Apply-clause-steps
returns-in-Apply-clause-steps c = unasked c.args.self.now c.apply.new.self c.args.dictionary.now (event_of c.args.event) c.apply.result (ap event_of c.in-Apply.is) c.apply.ensures.ok

pub returns-in-Mine-clause-steps : goal.returns-in-Mine-clause-steps
returns-in-Mine-clause-steps c = asked c.args.self.now c.mine.new.self c.args.dictionary.now (event_of c.args.event) c.mine.result (ap event_of c.in-Mine.is) c.mine.ensures.ok

pub returns-in-Raise-clause-steps : goal.returns-in-Raise-clause-steps
returns-in-Raise-clause-steps c = answered c.args.self.now c.raise.new.self c.args.dictionary.now (event_of c.args.event) c.raise.result (ap event_of c.in-Raise.is) c.raise.ensures

pub returns-in-BeginFlush-clause-steps : goal.returns-in-BeginFlush-clause-steps
returns-in-BeginFlush-clause-steps c = unasked c.args.self.now c.begin_flush.new.self c.args.dictionary.now (event_of c.args.event) c.begin_flush.result (ap event_of c.in-BeginFlush.is) c.begin_flush.ensures.ok

pub returns-in-Claim-clause-steps : goal.returns-in-Claim-clause-steps
returns-in-Claim-clause-steps c = answered c.args.self.now c.claim.new.self c.args.dictionary.now (event_of c.args.event) c.claim.result (ap event_of c.in-Claim.is) c.claim.ensures

pub returns-in-Collect-clause-steps : goal.returns-in-Collect-clause-steps
returns-in-Collect-clause-steps c = answered c.args.self.now c.collect.new.self c.args.dictionary.now (event_of c.args.event) c.collect.result (ap event_of c.in-Collect.is) c.collect.ensures

pub returns-in-Touch-clause-steps : goal.returns-in-Touch-clause-steps
returns-in-Touch-clause-steps c = answered c.args.self.now c.touch.new.self c.args.dictionary.now (event_of c.args.event) c.touch.result (ap event_of c.in-Touch.is) c.touch.ensures

pub returns-in-Done-clause-steps : goal.returns-in-Done-clause-steps
returns-in-Done-clause-steps c = answered c.args.self.now c.done.new.self c.args.dictionary.now (event_of c.args.event) c.done.result (ap event_of c.in-Done.is) c.done.ensures

pub returns-in-Publish-clause-steps : goal.returns-in-Publish-clause-steps
returns-in-Publish-clause-steps c = answered c.args.self.now c.publish.new.self c.args.dictionary.now (event_of c.args.event) c.publish.result (ap event_of c.in-Publish.is) c.publish.ensures
