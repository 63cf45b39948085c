use Rattle.std.proofs.Common.{◌≡◌, ◌++◌, ◌-◌}
use Rattle.feed_gen.specs.Tables.{puts}
use Rattle.feed_gen.proofs.opening.push_puts.Given as goal

abbrev pub invariant-loop-row : goal.invariant-loop-row
invariant-loop-row l = l.vectors ≡ l.initial.vectors ++ puts l.table l.from (l.row - l.from)
