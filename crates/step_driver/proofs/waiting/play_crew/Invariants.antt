use Rattle.std.proofs.Common.{◌≡◌, ℕ, ◌+◌, ◌*◌, ◌≤◌, List, length}
use Rattle.turn_rules.specs.Round.{Round, actors}
use Rattle.step_driver.specs.Work.{work_left}
use Rattle.step_driver.specs.Rounds.{ShowsRound}
use Rattle.step_driver.specs.Waiting.{AwaitFrontier}
use Rattle.step_driver.proofs.Cycles.{HasCycledWhole}
use Rattle.step_driver.proofs.waiting.play_crew.Given as goal

-- whole cycles were played
abbrev pub invariant-loop-rests : goal.invariant-loop-rests
invariant-loop-rests l = record {
  turns : (schedule : List ℕ) (r : Round) (k : ℕ) → ShowsRound l.dictionary l.initial.core l.seats r → r.turns ≡ length schedule + k * actors r → HasCycledWhole l.dictionary l.core l.seats schedule r k l.rests;
  wait : AwaitFrontier l.core l.seats;
  left : work_left l.core l.seats ≤ work_left l.initial.core l.seats;
}

abbrev pub decreases-loop-rests : goal.decreases-loop-rests
decreases-loop-rests l = work_left l.core l.seats
