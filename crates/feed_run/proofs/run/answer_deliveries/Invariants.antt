use Rattle.std.proofs.Common.{◌≡◌, ◌-◌}
use Rattle.feed_run.specs.Progress.{IsAt}
use Rattle.feed_run.proofs.run.answer_deliveries.Given as goal

abbrev pub invariant-deliveries : goal.invariant-deliveries
invariant-deliveries g l = record {
  at : IsAt (g.S.Standby.answered l.standby l.fn.setup) (g.R.Source.left l.fn.source) (g.R.Source.left l.source) (g.K.Sink.held l.fn.sink) (g.K.Sink.held l.sink) l.reader l.written;
  reads : g.R.Source.faults l.source ≡ g.R.Source.faults l.fn.source;
  writes : g.K.Sink.faults l.sink ≡ g.K.Sink.faults l.fn.sink;
}

abbrev pub decreases-deliveries : goal.decreases-deliveries
decreases-deliveries g l = 65536 - l.reader.standing.ends
