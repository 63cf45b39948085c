use Rattle.std.proofs.Common.{◌≡◌, ℕ, ◌+◌, ◌*◌, List, length}
use Rattle.turn_rules.specs.Round.{Round, actors}
use Rattle.step_driver.specs.Rounds.{ShowsRound, RestOrAct}
use Rattle.step_driver.specs.Waiting.{AwaitFrontier}
use Rattle.step_driver.proofs.Cycles.{PlayedBy}
use Rattle.step_driver.proofs.waiting.play_workers.Given as goal

-- the workers so far had a turn each; all of them rested, or less is left to do
abbrev pub invariant-loop-place : goal.invariant-loop-place
invariant-loop-place l = record {
  turns : (schedule : List ℕ) (r : Round) (k : ℕ) → ShowsRound l.dictionary l.initial.core l.seats r → r.turns ≡ length schedule + k * actors r + 1
      → PlayedBy l.dictionary l.core l.seats schedule r (length schedule + k * actors r + (1 + l.place)) l.rests l.still;
  wait : AwaitFrontier l.core l.seats;
  acted : RestOrAct l.dictionary l.initial.core l.seats l.core l.seats 1 (1 + l.place);
}
