use Rattle.std.proofs.Common.{List, [], ◌∷◌, ◌++◌, sym, ap₂, ◌∙◌, arith}
use Rattle.std.proofs.lemmas.List.{take_more}
use Rattle.std.proofs.lemmas.Option.{unwrap_or-slice_get}
use Rattle.adg_base.specs.declared.value.Value.{Value}
use Rattle.adg_base.specs.declared.value.Value.TheVariants.{Null}
use Rattle.hybrid_scan.proofs.sink.built.Goals as goal

pub loop-index-preserved : goal.loop-index-preserved
loop-index-preserved g c =
    let values = g.R.RowView.values c.args.row.now in
    let i = c.loop-index.index in
    let here = c.in_ok-to_value.ensures ∙ c.value.ensures ∙ unwrap_or-slice_get values i Null in
    c.in_ok-push.ensures.items ∙ ap₂ (λ (l : List Value) (x : Value). l ++ x ∷ []) c.loop-index.invariant here
    ∙ sym (take_more values i Null (omega (arith, c.loop-index-test.true, c.width-width.ensures)))
