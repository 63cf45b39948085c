use Rattle.std.proofs.Common.{false, sym, subst}
use Rattle.std.specs.List.{Contains}
use Rattle.standby_core.specs.Touching.{IsInShard}
use Rattle.standby_core.proofs.Marking.{marks_same}
use Rattle.standby_core.proofs.touch.mark_list.Goals as goal

pub returns : goal.returns
returns c =
    let addrs = c.args.addrs.now in
    let s = c.args.units.now in
    marks_same (Contains c.of_shard.result.now) (IsInShard addrs s.number) false s c.mark_each.new.units
    (λ a x. subst (λ n. IsInShard addrs n a) c.number-shard.ensures ((c.of_shard.ensures a).0 x))
    (λ a x. (c.of_shard.ensures a).1 (subst (λ n. IsInShard addrs n a) (sym c.number-shard.ensures) x)) c.mark_each.ensures
