use Rattle.std.proofs.Common.{◌≡◌, Bool, true, false}
use Rattle.feed_run.specs.View.{sink_view}
use Rattle.soak_run.proofs.Soaked.{whole_offer, cut_offer}
use Rattle.soak_run.proofs.soak.end_with.Goals as goal

pub returns-then-wrote : goal.returns-then-wrote
returns-then-wrote g c =
    whole_offer (sink_view (g.K.Sink.held c.args.sink.now) (g.K.Sink.faults c.args.sink.now)) (sink_view (g.K.Sink.held c.write_whole-wrote.new.sink) (g.K.Sink.faults c.write_whole-wrote.new.sink))
    c.args.text.now c.write_whole-wrote.result.count c.code.result c.code.ensures (c.write_whole-wrote.ensures.whole.0 c.if-wrote.true) c.write_whole-wrote.ensures.bytes (c.write_whole-wrote.ensures.honest c.if-wrote.true)

not_true : (b : Bool) → b ≡ false → b ≡ true → ⊥
not_true b e f = absurd cc

pub returns-else-wrote : goal.returns-else-wrote
returns-else-wrote g c =
    cut_offer (sink_view (g.K.Sink.held c.args.sink.now) (g.K.Sink.faults c.args.sink.now)) (sink_view (g.K.Sink.held c.write_whole-wrote.new.sink) (g.K.Sink.faults c.write_whole-wrote.new.sink))
    c.args.text.now c.write_whole-wrote.result.count c.code-else-wrote.result c.code-else-wrote.ensures c.write_whole-wrote.ensures.count (λ e. not_true c.write_whole-wrote.result.whole c.if-wrote.false (c.write_whole-wrote.ensures.whole.1 e))
    c.write_whole-wrote.ensures.bytes (c.write_whole-wrote.ensures.failed c.if-wrote.false)
