use Rattle.std.proofs.Common.{◌≡◌, ◌-◌, ◌++◌}
use Rattle.hybrid_scan.specs.Scan.{rows_from}
use Rattle.hybrid_scan.proofs.scan.add_run.Given as goal

-- the rows so far were handed over
abbrev pub invariant-loop-place : goal.invariant-loop-place
invariant-loop-place g l = record {
  rows : g.S.RowSink.rows l.sink ≡ g.S.RowSink.rows l.initial.sink ++ rows_from l.columns l.from (l.place - l.from);
  query : g.S.RowSink.query l.sink ≡ g.S.RowSink.query l.initial.sink;
}
