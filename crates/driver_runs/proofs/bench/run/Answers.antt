use Rattle.std.proofs.Common.{refl, ap, ◌∙◌}
use Rattle.adg_io.specs.InMemory.{SourceState, SinkState}
use Rattle.driver_runs.proofs.Runs.{has_run}
use Rattle.driver_runs.proofs.bench.run.Goals as goal

pub returns : goal.returns
returns c =
    has_run c.args.workers c.args.feed.items c.new-source.result.left c.run_feed-outcome.new.source.left c.in_ok-sink.sink.held c.run_feed-outcome.new.sink.held _ _ _ _ c.run_feed-outcome.result _
    (ap (λ (s : SourceState). s.left) c.new-source.ensures) (ap (λ (s : SinkState). s.held) c.in_ok-sink.ensures) c.run_feed-outcome.ensures.headline refl (c.in_ok-from_slice.ensures.items ∙ c.held.ensures)
