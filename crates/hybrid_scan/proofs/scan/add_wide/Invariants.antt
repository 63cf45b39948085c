use Rattle.std.proofs.Common.{◌≡◌, ◌++◌, take}
use Rattle.hybrid_scan.specs.Scan.{wide_rows}
use Rattle.hybrid_scan.proofs.scan.add_wide.Given as goal

-- the rows so far were handed over
abbrev pub invariant-loop-row : goal.invariant-loop-row
invariant-loop-row g l = record {
  rows : g.S.RowSink.rows l.sink ≡ g.S.RowSink.rows l.initial.sink ++ wide_rows l.width (take l.row-index l.rows);
  query : g.S.RowSink.query l.sink ≡ g.S.RowSink.query l.initial.sink;
}
