use Rattle.std.proofs.Common.{map, string_bytes, sym}
use Rattle.feed_run.specs.View.{source_view, sink_view}
use Rattle.imadg_top.proofs.HeadlineLaws.{headline_run}
use Rattle.imadg_top.proofs.top.stepped.Goals as goal

pub returns-in-Some-clause-headline : goal.returns-in-Some-clause-headline
returns-in-Some-clause-headline g c =
    headline_run (map (λ w. string_bytes w) c.args.words.now) c.in-Some.number (sym c.in-Some.ensures) (source_view (g.R.Source.left c.args.source.now) (g.R.Source.faults c.args.source.now))
    (source_view (g.R.Source.left c.run_feed.new.source) (g.R.Source.faults c.run_feed.new.source)) (sink_view (g.K.Sink.held c.args.sink.now) (g.K.Sink.faults c.args.sink.now))
    (sink_view (g.K.Sink.held c.run_feed.new.sink) (g.K.Sink.faults c.run_feed.new.sink)) c.run_feed.result (rw c.new-workers.ensures at c.run_feed.ensures.headline)
