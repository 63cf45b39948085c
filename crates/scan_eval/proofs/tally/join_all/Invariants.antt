use Rattle.std.proofs.Common.{◌≡◌, ◌++◌, map, take, drop}
use Rattle.std.specs.List.{zip}
use Rattle.scan_eval.specs.Tally.{with_tally}
use Rattle.scan_eval.proofs.tally.join_all.Given as goal

abbrev pub invariant-loop-index : goal.invariant-loop-index
invariant-loop-index l = l.tallies ≡ map (λ p. with_tally p.0 p.1) (zip (take l.index l.initial.tallies) (take l.index l.others)) ++ drop l.index l.initial.tallies
