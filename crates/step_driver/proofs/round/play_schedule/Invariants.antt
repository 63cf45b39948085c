use Rattle.std.proofs.Common.{◌≡◌}
use Rattle.turn_rules.specs.Round.{Round}
use Rattle.step_driver.specs.Rounds.{ShowsRound, HasPlayedOn}
use Rattle.step_driver.proofs.round.play_schedule.Given as goal

-- a turn was taken for each byte so far
abbrev pub invariant-loop-byte : goal.invariant-loop-byte
invariant-loop-byte l = (r : Round) → ShowsRound l.dictionary l.initial.core l.initial.seats r → r.turns ≡ 0 → HasPlayedOn l.dictionary l.core l.seats l.schedule r l.byte-index
