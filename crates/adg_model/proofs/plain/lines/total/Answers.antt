use Rattle.std.proofs.Common.{◌∙◌, arith}
use Rattle.std.proofs.lemmas.Int.{ints}
use Rattle.adg_model.proofs.PlainLines.{total_more}
use Rattle.adg_model.proofs.plain.lines.total.Goals as goal

pub loop-left-preserved : goal.loop-left-preserved
loop-left-preserved c =
    let inv = c.loop-left.invariant in
    let v = c.index-values-left.result in
    let some = c.loop-left-test.true in
    let n = c.number_of.ensures in
    let f = c.from-sum.ensures in
    let long = c.well_formed.0 in
    let one = total_more c.args.values.now c.loop-left.left v _ some inv.within c.index-values-left.is inv.so_far in
    record {
      within = omega (arith, inv.within);
      so_far = omega (arith, ints, inv.low, inv.high, n, f, some, inv.within, long.1) ∙ one;
      low = omega (arith, ints, inv.low, f, some, inv.within, long.1);
      high = omega (arith, ints, inv.high, f, some, inv.within, long.1);
    }
