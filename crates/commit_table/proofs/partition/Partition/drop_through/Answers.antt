use Rattle.std.proofs.Common.{ltb, sym, subst}
use Rattle.commit_table.specs.Order.{IsInOrder}
use Rattle.commit_table.proofs.Order.{kept_in_order}
use Rattle.commit_table.proofs.partition.Partition.drop_through.Goals as goal

pub invariant_of-self : goal.invariant_of-self
invariant_of-self c = subst IsInOrder (sym c.drop_through.ensures) (kept_in_order (λ n. ltb c.args.through n.scn) c.self.inside.nodes c.self.invariant)
