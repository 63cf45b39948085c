use Rattle.feed_run.specs.Headline.{Headline}
use Rattle.feed_run.specs.Ending.{RunEnds}
use Rattle.feed_run.specs.Progress.{ending_of}
use Rattle.feed_run.specs.Standby.{SomeAnswered}
use Rattle.feed_run.specs.View.{source_view, sink_view}
use Rattle.feed_run.proofs.HeadlineLaws.{complete, headline_run}
use Rattle.feed_run.proofs.run.run_feed.Goals as goal

pub returns : goal.returns
returns g c =
    let meaning = SomeAnswered g.S.Standby.answered c.args.setup in
    let source = source_view (g.R.Source.left c.args.source.now) (g.R.Source.faults c.args.source.now) in
    let source_now = source_view (g.R.Source.left c.answer_deliveries-ended.new.source) (g.R.Source.faults c.answer_deliveries-ended.new.source) in
    let sink = sink_view (g.K.Sink.held c.args.sink.now) (g.K.Sink.faults c.args.sink.now) in
    let middle = sink_view (g.K.Sink.held c.answer_deliveries-ended.new.sink) (g.K.Sink.faults c.answer_deliveries-ended.new.sink) in
    let sink_now = sink_view (g.K.Sink.held c.conclude-status.new.sink) (g.K.Sink.faults c.conclude-status.new.sink) in
    let h : Headline (RunEnds meaning source.left) source source_now sink sink_now (record { status = c.code.result; taken = c.taken.result; written = c.conclude-status.new.written }) =
    headline_run meaning source source_now sink middle sink_now (ending_of c.answer_deliveries-ended.result) c.taken.result c.answer_deliveries-ended.new.written c.conclude-status.new.written c.code.result
    (rw c.taken.ensures c.answer_deliveries-ended.ensures.stops) c.answer_deliveries-ended.ensures.causes (rw c.code.ensures c.conclude-status.ensures)
    in
    record { headline = h; complete = complete meaning source source_now sink sink_now _ h }
