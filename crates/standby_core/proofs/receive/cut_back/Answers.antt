use Rattle.std.proofs.Common.{◌≡◌, ◌+◌, ◌<◌, ◌≤◌, length, get_or, arith, sym, subst}
use Rattle.std.specs.Prelude.{slice_set}
use Rattle.std.proofs.lemmas.Option.{slice_get-get_or}
use Rattle.core_rules.specs.State.{At}
use Rattle.standby_core.proofs.Deals.{AreCutUpto, cut_none, cut_more, cut_all}
use Rattle.standby_core.proofs.receive.cut_back.Goals as goal

pub loop-index-init : goal.loop-index-init
loop-index-init c = cut_none c.args.counts.now c.args.workers.now

pub loop-index-preserved : goal.loop-index-preserved
loop-index-preserved c =
    let xs = c.args.workers.now in
    let ys = c.loop-index.workers in
    let counts = c.args.counts.now in
    let i = c.loop-index.index in
    let x = get_or ys i c.index-workers-index.result in
    let count = get_or counts i 0 in
    let within : i < length counts = c.loop-index-test.true in
    let len : length ys ≡ length xs = c.loop-index.auto.workers in
    let same : length counts ≡ length xs = c.requires in
    let at_count : At counts i count = slice_get-get_or counts i 0 within in
    let at_x : At ys i x = slice_get-get_or ys i c.index-workers-index.result (omega arith) in
    subst (λ s. AreCutUpto counts (i + 1) xs (slice_set ys i (record x { share = s }))) (sym c.truncate.ensures) (cut_more counts i count x xs ys at_count at_x c.loop-index.invariant)

pub returns : goal.returns
returns c =
    let xs = c.args.workers.now in
    let ys = c.loop-index.workers in
    let counts = c.args.counts.now in
    let behind : length counts ≤ c.loop-index.index = c.loop-index-test.false in
    let upto : c.loop-index.index ≤ length counts = c.loop-index.auto.index-end in
    let place : c.loop-index.index ≡ length counts = omega arith in
    cut_all counts xs ys c.requires (subst (λ k. AreCutUpto counts k xs ys) place c.loop-index.invariant)
