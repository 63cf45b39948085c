use Rattle.std.proofs.Common.{◌≡◌, ◌-◌}
use Rattle.std.specs.List.{flat_map, range_with_len}
use Rattle.feed_gen.specs.Tables.{load}
use Rattle.feed_gen.specs.Written.{with_writings}
use Rattle.feed_gen.proofs.opening.write_loads.Given as goal

abbrev pub invariant-loop-number : goal.invariant-loop-number
invariant-loop-number l = l.feed ≡ with_writings l.initial.feed (flat_map load (range_with_len 1 (l.number - 1)))
