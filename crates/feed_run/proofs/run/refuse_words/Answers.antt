use Rattle.feed_run.specs.View.{source_view, sink_view}
use Rattle.feed_run.proofs.HeadlineLaws.{headline_usage}
use Rattle.feed_run.proofs.run.refuse_words.Goals as goal

pub returns : goal.returns
returns g c = record {
  headline = λ left faults. headline_usage (source_view left faults) (sink_view (g.K.Sink.held c.args.sink.now) (g.K.Sink.faults c.args.sink.now)) (sink_view (g.K.Sink.held c.tell-status.new.sink) (g.K.Sink.faults c.tell-status.new.sink)) c.tell-status.new.written c.code.result _
      c.usage.ensures (rw c.code.ensures c.tell-status.ensures);
}
