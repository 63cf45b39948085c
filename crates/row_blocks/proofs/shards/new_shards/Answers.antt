use Rattle.std.proofs.Common.{◌≡◌, ℕ, ◌+◌, ◌<◌, [], ◌∷◌, ◌++◌, length, length-append, sym, ap, ◌∙◌, subst, arith}
use Rattle.row_blocks.specs.Stands.{SameKept, none_kept}
use Rattle.row_blocks.specs.Shards.{shards_in}
use Rattle.row_blocks.proofs.Together.{start_stands}
use Rattle.row_blocks.specs.Settled.{AreEachSettled}
use Rattle.row_blocks.proofs.ShardLists.{push_new}
use Rattle.row_blocks.proofs.Settling.{each_push, settled_none}
use Rattle.row_blocks.proofs.shards.new_shards.Goals as goal

pub loop-number-preserved : goal.loop-number-preserved
loop-number-preserved c =
    let i = c.loop-number.invariant in
    let items = c.in_ok-push.ensures.items in
    let count : length c.loop-number.shards.items ≡ c.loop-number.number = i.count in
    let longer : length (c.loop-number.shards.items ++ c.new.result ∷ []) ≡ length c.loop-number.shards.items + 1 = length-append c.loop-number.shards.items (c.new.result ∷ []) in
    record {
      count = ap length items ∙ longer ∙ ap (λ n. n + 1) count;
      empty = subst (λ xs. (n : ℕ) → n < c.loop-number.number + 1 → SameKept (shards_in xs n) (none_kept n)) (sym items)
          (push_new c.loop-number.shards.items c.new.result c.loop-number.number count i.empty c.new.ensures.empty);
      settled = λ log. subst (AreEachSettled log) (sym items) (each_push log c.loop-number.shards.items c.new.result (i.settled log) (settled_none log c.new.result c.new.ensures.settled));
    }

pub returns-clause-stand : goal.returns-clause-stand
returns-clause-stand c =
    start_stands (shards_in c.loop-number.shards.items) (λ n l. c.loop-number.invariant.empty n (omega (arith, c.loop-number-test.false)))
