use Rattle.std.proofs.Common.{◌≡◌, take}
use Rattle.hybrid_scan.proofs.sink.built.Given as goal

abbrev pub invariant-loop-index : goal.invariant-loop-index
invariant-loop-index g l = l.values.items ≡ take l.index (g.R.RowView.values l.row)
