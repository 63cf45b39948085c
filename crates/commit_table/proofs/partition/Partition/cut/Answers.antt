use Rattle.commit_table.proofs.Order.{cut_keeps, found_in_order}
use Rattle.commit_table.proofs.partition.Partition.cut.Goals as goal

pub invariant_of-self : goal.invariant_of-self
invariant_of-self c = cut_keeps c.cut.result c.args.through c.self.inside.nodes c.cut.new.self c.cut.ensures.left c.cut.ensures.err c.self.invariant

pub returns-clause-order : goal.returns-clause-order
returns-clause-order c = found_in_order c.cut.result c.args.through c.self.inside.nodes c.cut.ensures.ok c.self.invariant
