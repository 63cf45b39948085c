use Rattle.std.proofs.Common.{◌≡◌, ◌∷◌, map, take}
use Rattle.adg_model.specs.Query.{aggregate_cells, rows_with}
use Rattle.adg_base.specs.Values.{cell_of}
use Rattle.adg_model.proofs.plain.lines.lines_of_groups.Given as goal

abbrev pub invariant-loop-key : goal.invariant-loop-key
invariant-loop-key l = l.lines ≡ map (λ key. cell_of key ∷ aggregate_cells l.aggregates (rows_with l.column key l.rows)) (take l.key-index l.key-items)
