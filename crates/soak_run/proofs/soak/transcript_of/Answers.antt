use Rattle.std.proofs.Common.{ap, ◌∙◌}
use Rattle.feed_run.specs.Standby.{SomeAnswered}
use Rattle.soak_run.proofs.Soaked.{ran_from}
use Rattle.soak_run.proofs.soak.transcript_of.Goals as goal

pub returns-then-outcome-code : goal.returns-then-outcome-code
returns-then-outcome-code g c =
    ran_from (SomeAnswered g.S.Standby.answered c.args.setup) c.args.seed c.args.txns c.requires c.run_feed-outcome.new.sink.bytes.items c.new-source.result.left c.new-sink.result.bytes.items
    _ _ _ _ _ c.run_feed-outcome.result (ap (λ s. s.left) c.new-source.ensures ∙ c.into_vec.ensures ∙ c.in_ok-feed.ensures) c.new-sink.ensures c.run_feed-outcome.ensures.headline (c.if-outcome-code.true ∙ c.code.ensures)
