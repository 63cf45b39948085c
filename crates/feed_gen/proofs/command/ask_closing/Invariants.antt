use Rattle.std.proofs.Common.{◌≡◌, ◌-◌, [], ◌∷◌}
use Rattle.std.specs.List.{flat_map, range_with_len}
use Rattle.feed_gen.specs.declared.question.Question.TheVariants.{CountsAndSums}
use Rattle.feed_gen.specs.Commands.{ask, command_of}
use Rattle.feed_gen.specs.Written.{with_asked}
use Rattle.feed_gen.proofs.command.ask_closing.Given as goal

abbrev pub invariant-loop-table : goal.invariant-loop-table
invariant-loop-table l = l.feed ≡ with_asked l.initial.feed (flat_map (λ k. ask 1 (command_of CountsAndSums k) ∷ []) (range_with_len 1 (l.table - 1)))
