use Rattle.std.proofs.Common.{◌≡◌, ◌-◌}
use Rattle.std.specs.List.{flat_map, range_with_len}
use Rattle.feed_gen.specs.Commands.{transfer_asked}
use Rattle.feed_gen.specs.Written.{with_asked}
use Rattle.feed_gen.proofs.command.ask_transfers.Given as goal

abbrev pub invariant-loop-session : goal.invariant-loop-session
invariant-loop-session l = l.feed ≡ with_asked l.initial.feed (flat_map (transfer_asked l.delivery) (range_with_len 1 (l.session - 1)))
