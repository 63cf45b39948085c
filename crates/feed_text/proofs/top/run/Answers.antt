use Rattle.std.proofs.Common.{Some, sym, ap, ◌∙◌}
use Rattle.feed_text.specs.declared.top.Turn.TheVariants.{Show}
use Rattle.feed_text.specs.Run.{sink_view, sinks_view}
use Rattle.feed_text.proofs.RunLaws.{turned_asked, turned_read, turned_failed}
use Rattle.feed_text.proofs.top.run.Goals as goal

pub returns-clause-ends : goal.returns-clause-ends
returns-clause-ends g c = turned_asked _ Show c.in-Ok.input.items c.as_slice-in-Show.result.now _ _ _ _ c.show_to.result
    (sym c.turn_in.ensures ∙ c.in-Some.is ∙ ap Some c.in-Show.is) c.as_slice-in-Show.ensures.value c.in-Ok.ensures.read.0 c.in-Ok.ensures.read.1
    (c.show_to.ensures (sink_view (g.E.Sink.held c.args.errors.now) (g.E.Sink.faults c.args.errors.now)))

pub returns-clause-source_failed : goal.returns-clause-source_failed
returns-clause-source_failed g c e =
    let errors = sink_view (g.E.Sink.held c.args.errors.now) (g.E.Sink.faults c.args.errors.now) in
    let before = sinks_view (sink_view (g.K.Sink.held c.args.sink.now) (g.K.Sink.faults c.args.sink.now)) errors in
    let after = sinks_view (sink_view (g.K.Sink.held c.show_to.new.sink) (g.K.Sink.faults c.show_to.new.sink)) errors in
    absurd (turned_read Show c.as_slice-in-Show.result.now before after c.show_to.result (c.show_to.ensures errors) e)

pub returns-clause-sink_failed : goal.returns-clause-sink_failed
returns-clause-sink_failed g c e =
    turned_failed Show c.as_slice-in-Show.result.now _ _ c.show_to.result (c.show_to.ensures (sink_view (g.E.Sink.held c.args.errors.now) (g.E.Sink.faults c.args.errors.now))) e
