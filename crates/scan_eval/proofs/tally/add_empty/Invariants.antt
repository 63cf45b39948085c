use Rattle.std.proofs.Common.{◌≡◌, ◌++◌, [], take}
use Rattle.scan_eval.specs.Tally.{tallies_of}
use Rattle.scan_eval.proofs.tally.add_empty.Given as goal

abbrev pub invariant-loop-aggregate : goal.invariant-loop-aggregate
invariant-loop-aggregate l = l.tallies.items ≡ l.initial.tallies.items ++ tallies_of (take l.aggregate-index l.aggregates) []
