use Rattle.std.proofs.Common.{◌≡◌, ◌<◌, ◌+◌, ◌^◌, List, length, map, take, get_or, set, ◌∙◌, ap, sym, subst, arith}
use Rattle.std.proofs.lemmas.List.{length-map, length-take-le}
use Rattle.std.proofs.lemmas.List.Edits.{map_over_more}
use Rattle.scan_eval.specs.declared.tally.Tally.{Tally}
use Rattle.scan_eval.specs.Tally.{with_row, size_of}
use Rattle.scan_eval.proofs.Writes.{after_front}
use Rattle.scan_eval.proofs.tally.add_row.Goals as goal

pub add-requires : goal.add-requires
add-requires g c =
    let step : Tally → Tally = with_row (g.R.RowView.values c.args.row.now) in
    let i = c.loop-tally.tally-index in
    let all = c.args.tallies.now in
    let long : length (map step (take i all)) ≡ i = length-map (take i all) step ∙ length-take-le i all (omega (arith, c.loop-tally-test.true)) in
    let here = ap (λ (ts : List Tally). get_or ts i c.tally-item.result) c.loop-tally.invariant ∙ after_front (map step (take i all)) all i c.tally-item.result long in
    subst (λ (t : Tally). size_of t + 1 < 2 ^ 64) (sym here) (c.requires i c.tally-item.result c.loop-tally-test.true)

pub loop-tally-preserved : goal.loop-tally-preserved
loop-tally-preserved g c =
    let step : Tally → Tally = with_row (g.R.RowView.values c.args.row.now) in
    let i = c.loop-tally.tally-index in
    ap (λ (t : Tally). set c.loop-tally.tallies i t) (c.in_ok-add.ensures ∙ ap step (sym c.tally-item.is))
    ∙ map_over_more step c.args.tallies.now c.loop-tally.tallies i c.tally-item.result c.loop-tally-test.true c.loop-tally.invariant c.tally-item.is
