use Rattle.std.proofs.Common.{◌≡◌, ◌-◌}
use Rattle.change_vectors.specs.Reading.{many_at, kind_at}
use Rattle.change_vectors.proofs.Many.{with_front}
use Rattle.change_vectors.proofs.value.kinds_of.Given as goal

abbrev pub invariant-loop : goal.invariant-loop
invariant-loop l = with_front l.kinds.items (many_at kind_at (l.count - l.counter) l.rest) ≡ many_at kind_at l.count l.bytes
