-- Turns of the coordinator and the workers while every session waits until the QuerySCN is the frontier.
use Rattle.std.specs.Prelude.{◌≡◌, ℕ, ◌+◌, ◌*◌, ◌<◌, Bool, true, false, ◌==◌, List, length, slice_get, Option, Some, None}
use Rattle.adg_base.specs.declared.command.Command.TheVariants as command
use Rattle.dictionary.specs.Standing.{Known}
use Rattle.turn_rules.specs.Round.{Request, Asks, Round, actors}
use Rattle.turn_rules.specs.Picks.{Rests, WorkerAt, coordinator_act, act_of}
use Rattle.standby_core.specs.declared.standby.Core.{Core}
use Rattle.standby_core.specs.declared.crew.CrewEvent.{CrewEvent}
use Rattle.standby_core.specs.declared.crew.CrewEvent.TheVariants as crew
use Rattle.step_driver.specs.declared.seats.Seats.{Seats}
use Rattle.step_driver.specs.Seating.{seats_shown, hand_of}
use Rattle.step_driver.specs.Rounds.{ShowsRound, HasPlayedOn}

-- nothing is asked, or a SYNC
abbrev pub Awaits : Option Request → Type 0
Awaits None = Unit {0}
Awaits (Some (Asks command.Sync)) = Unit {0}
Awaits other = ⊥

-- The frontier is ahead of the QuerySCN, no ABORT was answered, and no session asks for anything but that they meet.
pub record AwaitFrontier (core : Core) (seats : Seats) : Type 0 where
  pub ahead : (core.query == core.frontier) ≡ false
  pub unaborted : seats.aborted ≡ false
  pub sessions : (place : ℕ) → place < length (seats_shown seats) → Awaits (hand_of (slice_get (seats_shown seats) place))

-- What the coordinator sees nothing of: a worker rests, applies, mines, or goes on along its worklink.
abbrev pub IsUnseen : Option CrewEvent → Type 0
IsUnseen None = Unit {0}
IsUnseen (Some (crew.Apply worker)) = Unit {0}
IsUnseen (Some (crew.Mine worker)) = Unit {0}
IsUnseen (Some (crew.Collect actor)) = actor ≡ 0 → ⊥
IsUnseen (Some (crew.Touch actor)) = actor ≡ 0 → ⊥
IsUnseen other = ⊥

-- turns were taken, after which so many had been taken in all; where it is said so, the coordinator rests
pub record HasPlayedCrew (known : Known) (core : Core) (seats : Seats) (schedule : List ℕ) (r : Round) (turns : ℕ) (rests : Bool) : Type 0 where
  pub on : HasPlayedOn known core seats schedule r turns
  pub coordinator : rests ≡ true → coordinator_act on.played.last.core ≡ Rests

-- every worker rested, and nothing changed
pub record HaveWorkersRested (known : Known) (old new : Core) (seats : Seats) : Type 0 where
  pub core : new ≡ old
  pub rest : (r : Round) → ShowsRound known old seats r → (place : ℕ) → place < length r.core.workers → act_of r (WorkerAt place) ≡ Rests

-- behind so many cycles some more were played, whole ones, and then the coordinator had its turn
pub record HasCycled (known : Known) (core : Core) (seats : Seats) (schedule : List ℕ) (r : Round) (k : ℕ) : Type 0 where
  pub cycles : ℕ
  pub on : HasPlayedOn known core seats schedule r (length schedule + (k + cycles) * actors r + 1)
