use Rattle.std.proofs.Common.{◌≡◌, take}
use Rattle.adg_model.specs.Query.{rows_with}
use Rattle.adg_model.proofs.plain.lines.with_the_key.Given as goal

abbrev pub invariant-loop-row : goal.invariant-loop-row
invariant-loop-row l = l.those ≡ rows_with l.column l.key (take l.row-index l.rows)
