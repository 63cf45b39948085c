use Rattle.std.proofs.Common.{◌≡◌, ◌++◌, map, take}
use Rattle.scan_eval.specs.Tally.{tally_cell}
use Rattle.scan_eval.proofs.tally.add_cells.Given as goal

abbrev pub invariant-loop-tally : goal.invariant-loop-tally
invariant-loop-tally l = l.cells.items ≡ l.initial.cells.items ++ map tally_cell (take l.tally-index l.tallies)
