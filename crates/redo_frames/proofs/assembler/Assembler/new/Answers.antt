use Rattle.std.proofs.Common.{rules}
use Rattle.redo_frames.proofs.AssemblyLaws.{Holds_where_empty}
use Rattle.redo_frames.proofs.assembler.Assembler.new.Goals as goal

pub returns-clause-holds : goal.returns-clause-holds
returns-clause-holds c = Holds_where_empty _ (search rules)
