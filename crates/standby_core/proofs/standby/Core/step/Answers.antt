use Rattle.standby_core.specs.declared.crew.CrewEvent.TheVariants as crew
use Rattle.standby_core.proofs.Stepped.{asked, unasked, answered, of_crew}
use Rattle.standby_core.proofs.standby.Core.step.Goals as goal

pub returns-in-Apply-clause-steps : goal.returns-in-Apply-clause-steps
returns-in-Apply-clause-steps c = of_crew c.args.self.now c.answer_crew.new.self c.args.dictionary.now c.args.event (crew.Apply c.in-Apply.worker) c.answer_crew.result c.in-Apply.is c.answer_crew.ensures.steps

pub returns-in-Mine-clause-steps : goal.returns-in-Mine-clause-steps
returns-in-Mine-clause-steps c = of_crew c.args.self.now c.answer_crew-in-Mine.new.self c.args.dictionary.now c.args.event (crew.Mine c.in-Mine.worker) c.answer_crew-in-Mine.result c.in-Mine.is c.answer_crew-in-Mine.ensures.steps

pub returns-in-Raise-clause-steps : goal.returns-in-Raise-clause-steps
returns-in-Raise-clause-steps c = of_crew c.args.self.now c.answer_crew-in-Raise.new.self c.args.dictionary.now c.args.event (crew.Raise c.in-Raise.worker c.in-Raise.through) c.answer_crew-in-Raise.result c.in-Raise.is c.answer_crew-in-Raise.ensures.steps

pub returns-in-BeginFlush-clause-steps : goal.returns-in-BeginFlush-clause-steps
returns-in-BeginFlush-clause-steps c = of_crew c.args.self.now c.answer_crew-in-BeginFlush.new.self c.args.dictionary.now c.args.event (crew.BeginFlush c.in-BeginFlush.through) c.answer_crew-in-BeginFlush.result c.in-BeginFlush.is c.answer_crew-in-BeginFlush.ensures.steps

pub returns-in-Claim-clause-steps : goal.returns-in-Claim-clause-steps
returns-in-Claim-clause-steps c = of_crew c.args.self.now c.answer_crew-in-Claim.new.self c.args.dictionary.now c.args.event (crew.Claim c.in-Claim.actor) c.answer_crew-in-Claim.result c.in-Claim.is c.answer_crew-in-Claim.ensures.steps

pub returns-in-Collect-clause-steps : goal.returns-in-Collect-clause-steps
returns-in-Collect-clause-steps c = of_crew c.args.self.now c.answer_crew-in-Collect.new.self c.args.dictionary.now c.args.event (crew.Collect c.in-Collect.actor) c.answer_crew-in-Collect.result c.in-Collect.is c.answer_crew-in-Collect.ensures.steps

pub returns-in-Touch-clause-steps : goal.returns-in-Touch-clause-steps
returns-in-Touch-clause-steps c = of_crew c.args.self.now c.answer_crew-in-Touch.new.self c.args.dictionary.now c.args.event (crew.Touch c.in-Touch.actor) c.answer_crew-in-Touch.result c.in-Touch.is c.answer_crew-in-Touch.ensures.steps

pub returns-in-Done-clause-steps : goal.returns-in-Done-clause-steps
returns-in-Done-clause-steps c = of_crew c.args.self.now c.answer_crew-in-Done.new.self c.args.dictionary.now c.args.event (crew.Done c.in-Done.actor) c.answer_crew-in-Done.result c.in-Done.is c.answer_crew-in-Done.ensures.steps

pub returns-in-Publish-clause-steps : goal.returns-in-Publish-clause-steps
returns-in-Publish-clause-steps c = of_crew c.args.self.now c.answer_crew-in-Publish.new.self c.args.dictionary.now c.args.event crew.Publish c.answer_crew-in-Publish.result c.in-Publish.is c.answer_crew-in-Publish.ensures.steps

pub returns-in-Restart-clause-steps : goal.returns-in-Restart-clause-steps
returns-in-Restart-clause-steps c = answered c.args.self.now c.restart.new.self c.args.dictionary.now c.args.event c.restart.result c.in-Restart.is c.restart.ensures

pub returns-in-PopBegin-clause-steps : goal.returns-in-PopBegin-clause-steps
returns-in-PopBegin-clause-steps c = asked c.args.self.now c.pop_begin.new.self c.args.dictionary.now c.args.event c.pop_begin.result c.in-PopBegin.is c.pop_begin.ensures.ok

pub returns-in-PopRegister-clause-steps : goal.returns-in-PopRegister-clause-steps
returns-in-PopRegister-clause-steps c = unasked c.args.self.now c.pop_register.new.self c.args.dictionary.now c.args.event c.pop_register.result c.in-PopRegister.is c.pop_register.ensures.ok

pub returns-in-PopRelease-clause-steps : goal.returns-in-PopRelease-clause-steps
returns-in-PopRelease-clause-steps c = answered c.args.self.now c.pop_release.new.self c.args.dictionary.now c.args.event c.pop_release.result c.in-PopRelease.is c.pop_release.ensures

pub returns-in-PopRead-clause-steps : goal.returns-in-PopRead-clause-steps
returns-in-PopRead-clause-steps c = unasked c.args.self.now c.pop_read.new.self c.args.dictionary.now c.args.event c.pop_read.result c.in-PopRead.is c.pop_read.ensures.ok

pub returns-in-PopEnd-clause-steps : goal.returns-in-PopEnd-clause-steps
returns-in-PopEnd-clause-steps c = unasked c.args.self.now c.pop_end.new.self c.args.dictionary.now c.args.event c.pop_end.result c.in-PopEnd.is c.pop_end.ensures.ok

pub returns-in-ScanBegin-clause-steps : goal.returns-in-ScanBegin-clause-steps
returns-in-ScanBegin-clause-steps c = asked c.args.self.now c.scan_begin.new.self c.args.dictionary.now c.args.event c.scan_begin.result c.in-ScanBegin.is c.scan_begin.ensures.ok

pub returns-in-ScanExtent-clause-steps : goal.returns-in-ScanExtent-clause-steps
returns-in-ScanExtent-clause-steps c = unasked c.args.self.now c.scan_extent.new.self c.args.dictionary.now c.args.event c.scan_extent.result c.in-ScanExtent.is c.scan_extent.ensures.ok

pub returns-in-ScanEnd-clause-steps : goal.returns-in-ScanEnd-clause-steps
returns-in-ScanEnd-clause-steps c = unasked c.args.self.now c.scan_end.new.self c.args.dictionary.now c.args.event c.scan_end.result c.in-ScanEnd.is c.scan_end.ensures.ok
