use Rattle.commit_table.proofs.Order.{found_in_order}
use Rattle.commit_table.proofs.partition.Partition.upto.Goals as goal

pub returns-clause-order : goal.returns-clause-order
returns-clause-order c = found_in_order c.upto.result c.args.through c.self.inside.nodes c.upto.ensures.found c.self.invariant
