use Rattle.std.proofs.Common.{[], ◌∷◌, ◌++◌, List, sym, ap, ap₂, ◌∙◌}
use Rattle.adg_base.specs.declared.value.Value.{Value}
use Rattle.adg_base.specs.declared.answer.Cell.{Cell}
use Rattle.adg_model.specs.Query.{aggregate_cells, rows_with}
use Rattle.adg_base.specs.Values.{cell_of}
use Rattle.adg_model.proofs.PlainLines.{map_take_more}
use Rattle.adg_model.proofs.plain.lines.lines_of_groups.Goals as goal

pub loop-key-preserved : goal.loop-key-preserved
loop-key-preserved c =
    let line : Value → List Cell = λ key. cell_of key ∷ aggregate_cells c.args.aggregates.now (rows_with c.args.column key c.args.rows.now) in
    c.in_ok-push.ensures.ok
    ∙ ap₂ (λ (ls : List (List Cell)) (l : List Cell). ls ++ l ∷ []) c.loop-key.invariant (c.in_ok-line_of_group.ensures ∙ ap line c.key-item.is)
    ∙ sym (map_take_more line c.as_slice-key-items.result.now c.loop-key.key-index c.key-item.result c.loop-key-test.true)
