use Rattle.std.proofs.Common.{ℕ, List}
use Rattle.turn_rules.specs.Round.{Round}
use Rattle.step_driver.specs.Work.{work_left}
use Rattle.step_driver.specs.Rounds.{ShowsRound, IsBehind, HasPlayedBehind}
use Rattle.step_driver.proofs.round.play_on.Given as goal

-- all actors had as many turns
abbrev pub invariant-loop-alloc : goal.invariant-loop-alloc
invariant-loop-alloc l = (schedule : List ℕ) (r : Round) → ShowsRound l.dictionary l.initial.core l.initial.seats r → IsBehind schedule r → HasPlayedBehind l.dictionary l.core l.seats schedule r

abbrev pub decreases-loop-alloc : goal.decreases-loop-alloc
decreases-loop-alloc l = work_left l.core l.seats
