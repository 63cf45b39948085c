use Rattle.std.proofs.Common.{◌≡◌, map, take}
use Rattle.adg_base.specs.Values.{cell_of}
use Rattle.adg_model.proofs.plain.lines.row_cells.Given as goal

abbrev pub invariant-loop-value : goal.invariant-loop-value
invariant-loop-value l = l.cells ≡ map cell_of (take l.value-index l.values)
