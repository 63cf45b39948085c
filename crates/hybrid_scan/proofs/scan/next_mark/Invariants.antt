use Rattle.std.proofs.Common.{◌-◌, ◌≤◌}
use Rattle.hybrid_scan.specs.Progress.{AreClear}
use Rattle.hybrid_scan.proofs.scan.next_mark.Given as goal

-- no address so far is marked
abbrev pub invariant-loop-index : goal.invariant-loop-index
invariant-loop-index l = record {
  order : l.from ≤ l.index;
  most : l.index ≤ 1024;
  clear : AreClear l.map l.from l.index;
}

abbrev pub decreases-loop-index : goal.decreases-loop-index
decreases-loop-index l = 1024 - l.index
