use Rattle.std.proofs.Common.{◌≡◌, ◌++◌, take}
use Rattle.adg_model.specs.Query.{aggregate_cells}
use Rattle.adg_model.proofs.plain.lines.cells_of.Given as goal

abbrev pub invariant-loop-aggregate : goal.invariant-loop-aggregate
invariant-loop-aggregate l = l.cells ≡ l.initial.cells ++ aggregate_cells (take l.aggregate-index l.aggregates) l.rows
