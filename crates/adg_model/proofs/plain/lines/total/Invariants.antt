use Rattle.std.proofs.Common.{◌≡◌, ◌≤◌, ◌-◌, ◌*◌, ◌^◌, ℕ, ℤ, pos, neg_ℤ, ◌≤ℤ◌, List, length, drop}
use Rattle.adg_model.specs.Query.{total}
use Rattle.adg_base.specs.declared.value.Value.{Value}
use Rattle.adg_model.proofs.plain.lines.total.Given as goal

pub record IsTotal (values : List Value) (left : ℕ) (sum : ℤ) : Type 0 where
  pub within : left ≤ length values
  pub so_far : sum ≡ total (drop left values)
  pub low : neg_ℤ (pos (2 ^ 63 * (length values - left))) ≤ℤ sum
  pub high : sum ≤ℤ pos (2 ^ 63 * (length values - left))

abbrev pub invariant-loop-left : goal.invariant-loop-left
invariant-loop-left l = IsTotal l.values l.left l.sum

abbrev pub decreases-loop-left : goal.decreases-loop-left
decreases-loop-left l = l.left
