use Rattle.std.proofs.Common.{◌≡◌, take}
use Rattle.population.specs.Building.{addresses_of}
use Rattle.population.proofs.build.addresses_in.Given as goal

abbrev pub invariant-loop-row : goal.invariant-loop-row
invariant-loop-row l = l.addresses.items ≡ addresses_of (take l.row-index l.rows)
