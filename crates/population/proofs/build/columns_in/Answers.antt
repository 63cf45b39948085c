use Rattle.std.proofs.Common.{◌++◌, ◌∷◌, [], sym, ap₂, ◌∙◌, arith}
use Rattle.std.proofs.lemmas.List.FromFn.{map-range_with_len_more}
use Rattle.population.specs.Building.{column_of}
use Rattle.population.proofs.build.columns_in.Goals as goal

pub loop-index-preserved : goal.loop-index-preserved
loop-index-preserved c =
    let i = c.loop-index.index in
    c.in_ok-push.ensures.items ∙ ap₂ (λ l x. l ++ x ∷ []) c.loop-index.invariant (c.in_ok-from_vec.ensures ∙ c.in_ok-values_in.ensures)
    ∙ sym (map-range_with_len_more (column_of c.args.rows.now) 0 i i (omega arith))
