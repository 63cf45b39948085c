use Rattle.std.proofs.Common.{◌≡◌, ◌++◌, map, take, drop}
use Rattle.scan_eval.specs.Tally.{with_row}
use Rattle.scan_eval.proofs.tally.add_row.Given as goal

abbrev pub invariant-loop-tally : goal.invariant-loop-tally
invariant-loop-tally g l = l.tallies ≡ map (with_row (g.R.RowView.values l.row)) (take l.tally-index l.initial.tallies) ++ drop l.tally-index l.initial.tallies
