use Rattle.std.proofs.Common.{◌≡◌, ◌-◌, map}
use Rattle.std.specs.List.{range_with_len}
use Rattle.feed_gen.specs.Tables.{create}
use Rattle.feed_gen.specs.Written.{with_writings}
use Rattle.feed_gen.proofs.opening.write_creates.Given as goal

abbrev pub invariant-loop-number : goal.invariant-loop-number
invariant-loop-number l = l.feed ≡ with_writings l.initial.feed (map create (range_with_len 1 (l.number - 1)))
