use Rattle.std.proofs.Common.{ℕ, ◌+◌, ◌-◌, ◌≤◌, length}
use Rattle.hybrid_scan.specs.Progress.{IsBorder}
use Rattle.hybrid_scan.proofs.scan.run_end.Given as goal

-- the border lies between the two places
abbrev pub invariant-loop-low : goal.invariant-loop-low
invariant-loop-low l = record {
  from : l.next ≤ l.low;
  order : l.low ≤ l.high;
  within : l.high ≤ length l.addresses;
  border : (n : ℕ) → IsBorder l.addresses l.addr n → l.next ≤ n → n ≤ l.next + l.most → n ≤ length l.addresses → (l.low ≤ n) × (n ≤ l.high);
}

abbrev pub decreases-loop-low : goal.decreases-loop-low
decreases-loop-low l = l.high - l.low
