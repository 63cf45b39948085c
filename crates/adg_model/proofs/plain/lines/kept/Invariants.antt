use Rattle.std.proofs.Common.{◌≡◌, take}
use Rattle.adg_model.specs.Query.{filtered}
use Rattle.adg_model.proofs.plain.lines.kept.Given as goal

abbrev pub invariant-loop-row : goal.invariant-loop-row
invariant-loop-row l = l.kept ≡ filtered l.conditions (take l.row-index l.rows)
