use Rattle.std.proofs.Common.{◌-◌, ◌∙◌, arith}
use Rattle.hybrid_scan.proofs.Runs.{rows_more, rows_long}
use Rattle.hybrid_scan.proofs.scan.add_run.Goals as goal

pub add-requires : goal.add-requires
add-requires g c =
    let long = rows_long c.args.columns.now (g.S.RowSink.rows c.args.sink.now) (g.S.RowSink.rows c.loop-place.sink) c.args.from (c.loop-place.place - c.args.from) c.loop-place.invariant.rows in
    omega (arith, long, c.requires.room, c.loop-place-test.true)

pub loop-place-preserved : goal.loop-place-preserved
loop-place-preserved g c = record {
  rows = rows_more c.args.columns.now (g.S.RowSink.rows c.args.sink.now) (g.S.RowSink.rows c.loop-place.sink) (g.S.RowSink.rows c.add.new.self) _ c.args.from c.loop-place.place c.loop-place.auto.place c.loop-place.invariant.rows c.in_ok-add.ensures.rows c.row.ensures;
  query = c.in_ok-add.ensures.query ∙ c.loop-place.invariant.query;
}
