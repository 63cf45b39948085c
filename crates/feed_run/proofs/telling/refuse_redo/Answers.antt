use Rattle.std.proofs.Common.{◌∙◌}
use Rattle.feed_run.specs.Ending.{RedoRefused}
use Rattle.feed_run.specs.View.{sink_view}
use Rattle.feed_run.proofs.HeadlineLaws.{ended_told}
use Rattle.feed_run.proofs.telling.refuse_redo.Goals as goal

pub returns-in-Ok : goal.returns-in-Ok
returns-in-Ok g c = ended_told (RedoRefused c.args.fault) (sink_view (g.K.Sink.held c.args.sink.now) (g.K.Sink.faults c.args.sink.now)) (sink_view (g.K.Sink.held c.tell.new.sink) (g.K.Sink.faults c.tell.new.sink)) _ _ _ _ (c.as_str.ensures.value ∙ c.in-Ok.ensures) c.tell.ensures
