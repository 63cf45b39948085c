use Rattle.std.proofs.Common.{◌≡◌, take}
use Rattle.adg_model.specs.Query.{values_in}
use Rattle.adg_model.proofs.plain.lines.values_in.Given as goal

abbrev pub invariant-loop-row : goal.invariant-loop-row
invariant-loop-row l = l.values ≡ values_in l.column (take l.row-index l.rows)
