use Rattle.std.proofs.Common.{◌≡◌, ◌-◌}
use Rattle.change_vectors.specs.Reading.{many_at, value_at}
use Rattle.change_vectors.proofs.Many.{with_front}
use Rattle.change_vectors.proofs.value.values_of.Given as goal

abbrev pub invariant-loop : goal.invariant-loop
invariant-loop l = with_front l.values.items (many_at value_at (l.count - l.counter) l.rest) ≡ many_at value_at l.count l.bytes
