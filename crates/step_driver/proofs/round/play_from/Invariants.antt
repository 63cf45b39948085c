use Rattle.std.proofs.Common.{◌≡◌, ℕ, ◌+◌, ◌*◌, List, length}
use Rattle.turn_rules.specs.Round.{Round, actors}
use Rattle.step_driver.specs.Rounds.{ShowsRound, HasPlayedOn, RestOrAct}
use Rattle.step_driver.proofs.round.play_from.Given as goal

-- the actors so far had a turn each; all of them rested, or less is left to do
abbrev pub invariant-loop-number : goal.invariant-loop-number
invariant-loop-number l = record {
  played : (schedule : List ℕ) (r : Round) (k : ℕ) → ShowsRound l.dictionary l.initial.core l.initial.seats r → r.turns ≡ length schedule + k * actors r + l.first
      → HasPlayedOn l.dictionary l.core l.seats schedule r (length schedule + k * actors r + l.number);
  acted : RestOrAct l.dictionary l.initial.core l.initial.seats l.core l.seats l.first l.number;
}
