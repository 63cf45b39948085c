use Rattle.std.proofs.Common.{◌≡◌, map, take}
use Rattle.adg_base.specs.Values.{cell_of}
use Rattle.scan_eval.proofs.accumulator.add_line.Given as goal

abbrev pub invariant-loop-index : goal.invariant-loop-index
invariant-loop-index g l = l.cells.items ≡ map cell_of (take l.index (g.R.RowView.values l.row))
