use Rattle.std.proofs.Common.{◌≡◌, ◌+◌, ◌≤◌, ◌∷◌, [], ◌++◌, length, length-append, arith, ap, ◌∙◌, subst}
use Rattle.core_rules.specs.State.{At}
use Rattle.standby_core.proofs.Started.{one_more_shard}
use Rattle.standby_core.proofs.start.unit_shards.Goals as goal

pub loop-number-preserved : goal.loop-number-preserved
loop-number-preserved c =
    let us = c.loop-number.shards.items in
    let u = c.new.result in
    let items : c.push.new.self.items ≡ us ++ u ∷ [] = c.in_ok-push.ensures.items in
    let each = one_more_shard us u c.loop-number.number c.loop-number.invariant.count c.new.ensures.number c.new.ensures.empty (λ m s at. (c.loop-number.invariant.numbers m s at, c.loop-number.invariant.empty m s at)) in
    record {
      count = ap length items ∙ length-append us (u ∷ []) ∙ ap (λ n. n + 1) c.loop-number.invariant.count;
      numbers = λ n s at. (each n s (subst (λ l. At l n s) items at)).0;
      empty = λ n s at. (each n s (subst (λ l. At l n s) items at)).1;
    }

pub returns : goal.returns
returns c =
    let low : 32 ≤ c.loop-number.number = c.loop-number-test.false in
    let high : c.loop-number.number ≤ 32 = c.loop-number.auto.number-end in
    let counted : length c.loop-number.shards.items ≡ c.loop-number.number = c.loop-number.invariant.count in
    record { count = omega arith; numbers = c.loop-number.invariant.numbers; empty = c.loop-number.invariant.empty }
