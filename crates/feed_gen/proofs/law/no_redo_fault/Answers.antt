use Rattle.feed_gen.proofs.Lawful.{no_redo_fault}
use Rattle.feed_gen.proofs.law.no_redo_fault.Goals as goal

pub returns : goal.returns
returns c = no_redo_fault
