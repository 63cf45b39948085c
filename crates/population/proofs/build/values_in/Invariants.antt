use Rattle.std.proofs.Common.{◌≡◌, take}
use Rattle.population.specs.Building.{column_of}
use Rattle.population.proofs.build.values_in.Given as goal

abbrev pub invariant-loop-row : goal.invariant-loop-row
invariant-loop-row l = l.values.items ≡ column_of (take l.row-index l.rows) l.index
