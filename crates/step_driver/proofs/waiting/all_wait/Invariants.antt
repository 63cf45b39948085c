use Rattle.std.proofs.Common.{ℕ, ◌<◌}
use Rattle.std.specs.Prelude.{slice_get}
use Rattle.step_driver.specs.Seating.{seats_shown, hand_of}
use Rattle.step_driver.specs.Waiting.{Awaits}
use Rattle.step_driver.proofs.waiting.all_wait.Given as goal

-- the sessions so far wait
abbrev pub invariant-loop-place : goal.invariant-loop-place
invariant-loop-place l = (place : ℕ) → place < l.place → Awaits (hand_of (slice_get (seats_shown l.seats) place))
