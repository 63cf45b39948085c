use Rattle.std.proofs.Common.{false, subst}
use Rattle.standby_core.specs.Touching.{MarksUnits, IsInShard}
use Rattle.standby_core.proofs.Marking.{lists_more}
use Rattle.standby_core.proofs.touch.mark_lists.Goals as goal

pub loop-list-preserved : goal.loop-list-preserved
loop-list-preserved c =
    let lists = c.args.lists.now in
    let i = c.loop-list.list-index in
    let list = c.list-item.result in
    let s0 = c.args.units.now in
    let s1 = c.loop-list.units in
    let s2 = c.mark_list.new.units in
    lists_more lists i s0.number list s0 s1 s2 c.loop-list-test.true c.list-item.is c.loop-list.invariant
    (subst (λ n. MarksUnits (IsInShard list.addrs n) false s1 s2) c.loop-list.invariant.number (subst (λ l. MarksUnits (IsInShard l s1.number) false s1 s2) c.as_slice.ensures c.mark_list.ensures))
