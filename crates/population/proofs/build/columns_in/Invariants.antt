use Rattle.std.proofs.Common.{◌≡◌, map}
use Rattle.std.specs.List.{range_with_len}
use Rattle.population.specs.Building.{column_of}
use Rattle.population.proofs.build.columns_in.Given as goal

abbrev pub invariant-loop-index : goal.invariant-loop-index
invariant-loop-index l = l.columns.items ≡ map (column_of l.rows) (range_with_len 0 l.index)
