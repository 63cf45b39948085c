use Rattle.std.proofs.Common.{map, string_bytes}
use Rattle.feed_run.specs.View.{source_view, sink_view}
use Rattle.soak_run.proofs.OptionsRead.{line_within}
use Rattle.imadg_top.proofs.HeadlineLaws.{kept_tells, headline_soak, complete_soak, headline_other, complete_other}
use Rattle.imadg_top.proofs.top.standby.Goals as goal

pub new-workers-requires-clause-least : goal.new-workers-requires-clause-least
new-workers-requires-clause-least g c = (line_within (map (λ w. string_bytes w) c.args.words.now) c.in-Some.job c.in-Some.ensures).1

pub new-workers-requires-clause-most : goal.new-workers-requires-clause-most
new-workers-requires-clause-most g c = (line_within (map (λ w. string_bytes w) c.args.words.now) c.in-Some.job c.in-Some.ensures).2

pub soak-requires : goal.soak-requires
soak-requires g c = (line_within (map (λ w. string_bytes w) c.args.words.now) c.in-Some.job c.in-Some.ensures).0

pub returns-in-Some-clause-headline : goal.returns-in-Some-clause-headline
returns-in-Some-clause-headline g c =
    headline_soak (map (λ w. string_bytes w) c.args.words.now) c.in-Some.job c.in-Some.ensures
    (source_view (g.R.Source.left c.args.source.now) (g.R.Source.faults c.args.source.now)) (source_view (g.R.Source.left c.args.source.now) (g.R.Source.faults c.args.source.now))
    (sink_view (g.K.Sink.held c.args.sink.now) (g.K.Sink.faults c.args.sink.now)) (sink_view (g.K.Sink.held c.soak.new.sink) (g.K.Sink.faults c.soak.new.sink)) c.soak.result
    (c.soak.ensures.headline (kept_tells _) (g.R.Source.left c.args.source.now) (g.R.Source.faults c.args.source.now))

pub returns-in-Some-clause-complete : goal.returns-in-Some-clause-complete
returns-in-Some-clause-complete g c =
    complete_soak (map (λ w. string_bytes w) c.args.words.now) c.in-Some.job c.in-Some.ensures
    (source_view (g.R.Source.left c.args.source.now) (g.R.Source.faults c.args.source.now)) (source_view (g.R.Source.left c.args.source.now) (g.R.Source.faults c.args.source.now))
    (sink_view (g.K.Sink.held c.args.sink.now) (g.K.Sink.faults c.args.sink.now)) (sink_view (g.K.Sink.held c.soak.new.sink) (g.K.Sink.faults c.soak.new.sink)) c.soak.result
    c.soak.ensures.complete

pub returns-in-None-clause-headline : goal.returns-in-None-clause-headline
returns-in-None-clause-headline g c =
    headline_other (map (λ w. string_bytes w) c.args.words.now) c.in-None.ensures
    (source_view (g.R.Source.left c.args.source.now) (g.R.Source.faults c.args.source.now)) (source_view (g.R.Source.left c.stepped.new.source) (g.R.Source.faults c.stepped.new.source))
    (sink_view (g.K.Sink.held c.args.sink.now) (g.K.Sink.faults c.args.sink.now)) (sink_view (g.K.Sink.held c.stepped.new.sink) (g.K.Sink.faults c.stepped.new.sink)) c.stepped.result
    c.stepped.ensures.headline

pub returns-in-None-clause-complete : goal.returns-in-None-clause-complete
returns-in-None-clause-complete g c =
    complete_other (map (λ w. string_bytes w) c.args.words.now) c.in-None.ensures
    (source_view (g.R.Source.left c.args.source.now) (g.R.Source.faults c.args.source.now)) (source_view (g.R.Source.left c.stepped.new.source) (g.R.Source.faults c.stepped.new.source))
    (sink_view (g.K.Sink.held c.args.sink.now) (g.K.Sink.faults c.args.sink.now)) (sink_view (g.K.Sink.held c.stepped.new.sink) (g.K.Sink.faults c.stepped.new.sink)) c.stepped.result
    c.stepped.ensures.complete
