use Rattle.std.proofs.Common.{◌≡◌}
use Rattle.population.specs.Building.{Fit, addresses_of}
use Rattle.storage_tests.proofs.Slots.{first_slots}
use Rattle.storage_tests.proofs.builds.full_block.Given as goal

abbrev pub invariant-loop-slot : goal.invariant-loop-slot
invariant-loop-slot l = record {
  places : addresses_of l.rows.items ≡ first_slots l.obj l.block l.slot;
  fit : Fit 3 l.rows.items;
}
