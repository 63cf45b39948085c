use Rattle.feed_frames.proofs.FirstFaults.{feed_or_fault, no_feed_has_fault}
use Rattle.feed_frames.proofs.law.feed_or_fault.Goals as goal

pub returns-clause-either : goal.returns-clause-either
returns-clause-either c = feed_or_fault

pub returns-clause-fault : goal.returns-clause-fault
returns-clause-fault c = no_feed_has_fault
