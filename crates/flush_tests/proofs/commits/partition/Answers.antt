use Rattle.std.proofs.Common.{◌≡◌, ◌+◌, ◌<◌, List, ap, sym, subst}
use Rattle.std.specs.List.{AllByRecursion}
use Rattle.adg_base.specs.declared.node.Node.{Node}
use Rattle.commit_table.proofs.Order.{entered_below}
use Rattle.flush_tests.proofs.commits.partition.Goals as goal

pub loop-index-preserved : goal.loop-index-preserved
loop-index-preserved c =
    let before = c.loop-index.partition in
    let node : Node = c.in_ok-node.field-0 in
    let pos : node.pos ≡ c.loop-index.index = c.in_ok-node.ensures in
    let behind = subst (λ p. AllByRecursion (λ (n : Node). n.pos < p) before) (sym pos) c.loop-index.invariant in
    let below = subst (AllByRecursion (λ (n : Node). n.pos < node.pos + 1)) (sym c.in_ok-enter.ensures.ok) (entered_below node before behind) in
    subst (λ p. AllByRecursion (λ (n : Node). n.pos < p) c.enter.new.self) (ap (λ p. p + 1) pos) below
