use Rattle.std.proofs.Common.{◌≡◌, ◌+◌, max, refl, sym, ap, ◌∙◌, subst, arith, get_or}
use Rattle.row_blocks.specs.declared.settled.Settled.{Settled}
use Rattle.row_blocks.specs.declared.version.Version.{Version}
use Rattle.row_blocks.specs.Shards.{shards_in, end_in}
use Rattle.row_blocks.specs.Versions.{end_of as log_end}
use Rattle.row_blocks.specs.Settled.{AreEnded}
use Rattle.row_blocks.proofs.Settling.{ended_more}
use Rattle.row_blocks.proofs.shards.more_settled.Goals as goal

pub loop-index-preserved : goal.loop-index-preserved
loop-index-preserved c =
    let versions = c.args.versions.now in
    let s = c.loop-index.settled in
    let v = c.index-versions-index.result in
    let at : s.count ≡ c.loop-index.index = c.loop-index.invariant.count in
    record {
      count = refl;
      ended = λ log ends known.
          subst (λ (x : Settled). AreEnded (log_end log) versions x) (ap (λ n. record { count = n + 1; upto = max s.upto c.in-Some.end.pos }) at ∙ ap (λ u. record { count = c.loop-index.index + 1; upto = u }) (sym c.later_of.ensures))
          (ended_more (log_end log) versions s v c.in-Some.end (omega (arith, c.loop-index-test.true, c.saturating_sub-index-end.ensures)) (c.index-versions-index.is ∙ ap (λ n. get_or versions n v) (sym at))
          (ends v.txn c.in-Some.end (ap (λ (x : Version). end_in (shards_in c.args.shards.now) x.txn) c.index-versions-index.is ∙ sym c.end_of.ensures ∙ c.in-Some.is))
          (c.loop-index.invariant.ended log ends known));
    }
