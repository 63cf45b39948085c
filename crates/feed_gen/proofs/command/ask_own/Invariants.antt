use Rattle.std.proofs.Common.{◌≡◌, ◌-◌}
use Rattle.std.specs.List.{range_with_len}
use Rattle.feed_gen.specs.Commands.{asks_own}
use Rattle.feed_gen.specs.Written.{with_asked}
use Rattle.feed_gen.proofs.command.ask_own.Given as goal

abbrev pub invariant-loop-table : goal.invariant-loop-table
invariant-loop-table l = l.feed ≡ with_asked l.initial.feed (asks_own l.question l.session (range_with_len 1 (l.table - 1)))
