use Rattle.std.proofs.Common.{ℕ, sym, subst}
use Rattle.feed_run.specs.Headline.{Headline}
use Rattle.feed_run.specs.View.{sink_view, source_view}
use Rattle.soak_run.specs.Run.{SoakEnds}
use Rattle.soak_run.specs.Summary.{IsSummary}
use Rattle.soak_run.proofs.Soaked.{offered, wanting}
use Rattle.soak_run.proofs.soak.soak.Goals as goal

pub returns-in-Ok-clause-headline : goal.returns-in-Ok-clause-headline
returns-in-Ok-clause-headline g c tells left faults =
    offered c.args.seed c.args.txns left faults (sink_view (g.K.Sink.held c.args.sink.now) (g.K.Sink.faults c.args.sink.now)) (sink_view (g.K.Sink.held c.end_with.new.sink) (g.K.Sink.faults c.end_with.new.sink))
    c.as_slice.result.now c.end_with.result c.as_slice.type_inv.0 (subst (IsSummary c.args.seed c.args.txns) (sym c.as_slice.ensures.value) (c.in-Ok.ensures tells)) c.end_with.ensures

pub returns-in-Err-clause-headline : goal.returns-in-Err-clause-headline
returns-in-Err-clause-headline g c tells left faults =
    subst (λ (n : ℕ). Headline (SoakEnds c.args.seed c.args.txns) (source_view left faults) (source_view left faults) (sink_view (g.K.Sink.held c.args.sink.now) (g.K.Sink.faults c.args.sink.now)) (sink_view (g.K.Sink.held c.args.sink.now) (g.K.Sink.faults c.args.sink.now)) (record { status = n; taken = 0; written = 0 }))
    (sym c.code.ensures) (wanting c.args.seed c.args.txns left faults (sink_view (g.K.Sink.held c.args.sink.now) (g.K.Sink.faults c.args.sink.now)))
