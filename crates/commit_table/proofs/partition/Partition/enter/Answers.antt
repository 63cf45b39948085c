use Rattle.std.proofs.Common.{◌≡◌, OnOk, sym, subst}
use Rattle.adg_base.specs.declared.node.Node.{Node}
use Rattle.scn_queue.specs.Queue.{entered}
use Rattle.commit_table.specs.Order.{IsBehindAll}
use Rattle.commit_table.proofs.Order.{enter_keeps, entered_as_last}
use Rattle.commit_table.proofs.partition.Partition.enter.Goals as goal

pub invariant_of-self : goal.invariant_of-self
invariant_of-self c =
    enter_keeps c.enter.result c.args.node c.self.inside.nodes c.enter.new.self c.enter.ensures.ok c.enter.ensures.err
    (subst (IsBehindAll c.args.node) (sym c.self.view_is) c.requires) c.self.invariant

pub returns-clause-last : goal.returns-clause-last
returns-clause-last c = entered_as_last c.enter.result c.args.node c.args.self.now c.enter.new.self (subst (λ l. OnOk c.enter.result (c.enter.new.self ≡ entered (λ (n : Node). n.scn) c.args.node l)) c.self.view_is c.enter.ensures.ok)
