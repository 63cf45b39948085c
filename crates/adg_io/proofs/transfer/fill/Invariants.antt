use Rattle.std.proofs.Common.{length, ◌-◌, ◌≡◌, ◌≤◌, take}
use Rattle.std.specs.Io.KnownBytes.{Consumes}
use Rattle.adg_io.proofs.transfer.fill.Given as goal

-- what stands at the front came from the source, which has not failed
abbrev pub invariant-loop-count : goal.invariant-loop-count
invariant-loop-count g l = record {
  inside : l.count ≤ length l.into;
  bytes : Consumes (g.R.Source.left l.initial.source) (g.R.Source.left l.source) (take l.count l.into);
  honest : g.R.Source.faults l.source ≡ g.R.Source.faults l.initial.source;
  empty : length l.into ≡ 0 → l.source ≡ l.initial.source;
}

-- what is missing
abbrev pub decreases-loop-count : goal.decreases-loop-count
decreases-loop-count g l = length l.initial.into - l.count
