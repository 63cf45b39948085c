use Rattle.std.proofs.Common.{◌≡◌, map, take}
use Rattle.adg_base.specs.Values.{cell_of}
use Rattle.adg_model.proofs.plain.lines.row_lines.Given as goal

abbrev pub invariant-loop-row : goal.invariant-loop-row
invariant-loop-row l = l.lines ≡ map (map cell_of) (take l.row-index l.rows)
