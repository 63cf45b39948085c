-- The round that a core and the seats of a driver show, and what turns make of it.
use Rattle.std.specs.Prelude.{◌≡◌, ℕ, ◌+◌, ◌*◌, ◌^◌, ◌<◌, ◌≤◌, true, false, List, length, Option, ◌⊎◌}
use Rattle.std.specs.List.{AllByRecursion}
use Rattle.dictionary.specs.Standing.{Known, StandsFor}
use Rattle.core_rules.specs.State.{CoreState}
use Rattle.core_rules.specs.Runs.{Move, Leads}
use Rattle.standby_core.specs.declared.standby.Core.{Core}
use Rattle.standby_core.specs.Shows.{IsState}
use Rattle.turn_rules.specs.Round.{Round, actors, is_over}
use Rattle.turn_rules.specs.Picks.{Act, Rests, Actor, actor_of, act_of, number_at}
use Rattle.turn_rules.specs.Turns.{TakesTurn, Plays}
use Rattle.turn_rules.specs.Standing.{RoundIs}
use Rattle.turn_rules.specs.Delivery.{IsTaken}
use Rattle.step_driver.specs.declared.seats.Seats.{Seats}
use Rattle.step_driver.specs.Seating.{seats_shown, IsCounted}
use Rattle.step_driver.specs.Work.{work_left}

-- A core and seats show a round, as it stands at some turn; the dictionary is that of its log.
pub record ShowsRound (dictionary : Known) (own : Core) (row : Seats) (r : Round) : Type 0 where
  pub core : IsState own r.core
  pub seats : seats_shown row ≡ r.seats
  pub counted : IsCounted row
  pub aborted : row.aborted ≡ r.aborted
  pub stands : RoundIs r
  pub known : StandsFor dictionary r.core.log

pub record HasRound (known : Known) (core : Core) (seats : Seats) : Type 0 where
  pub round : Round
  pub shows : ShowsRound known core seats round

-- one that goes on
pub record GoesOn (known : Known) (core : Core) (seats : Seats) : Type 0 where
  pub round : Round
  pub shows : ShowsRound known core seats round
  pub goes_on : is_over round ≡ false

-- so many actors have turns, and a session's number is small
pub record AreActors (count : ℕ) (r : Round) : Type 0 where
  pub is : count ≡ actors r
  pub few : length r.seats < 2 ^ 8

-- a number below that of the actors
pub record IsActorOf (number : ℕ) (r : Round) : Type 0 where
  pub within : number < actors r
  pub few : length r.seats < 2 ^ 8

abbrev pub IsActor : Known → Core → Seats → ℕ → Type 0
IsActor known core seats number = (r : Round) → ShowsRound known core seats r → IsActorOf number r

-- a number is below that of the actors of each round that is shown
abbrev pub IsWithin : Known → Core → Seats → ℕ → Type 0
IsWithin known core seats number = (r : Round) → ShowsRound known core seats r → number < actors r

-- an actor is the one of this number in each round that is shown
abbrev pub IsNamed : Known → Core → Seats → ℕ → Actor → Type 0
IsNamed known core seats number actor = (r : Round) → ShowsRound known core seats r → actor ≡ actor_of (length r.core.workers) number

-- an act is what the actor of this number does
abbrev pub IsPicked : Known → Core → Seats → ℕ → Act → Type 0
IsPicked known core seats number act = (r : Round) → ShowsRound known core seats r → act ≡ act_of r (actor_of (length r.core.workers) number)

-- a turn was taken in a round
pub record HasTurned (known : Known) (core : Core) (seats : Seats) (schedule : List ℕ) (r : Round) : Type 0 where
  pub move : Option Move
  pub next : Round
  pub turn : TakesTurn schedule r move next
  pub shows : ShowsRound known core seats next

-- the actor of this number has the turn
abbrev pub IsTurnOf : List ℕ → Round → ℕ → Type 0
IsTurnOf schedule r number = number_at schedule (actors r) r.turns ≡ number

-- the actor of this number rests in each round that is shown
abbrev pub RestsAt : Known → Core → Seats → ℕ → Type 0
RestsAt known core seats number = (r : Round) → ShowsRound known core seats r → act_of r (actor_of (length r.core.workers) number) ≡ Rests

-- an actor rested, and nothing changed
pub record HasRested (known : Known) (old : Core) (was : Seats) (new : Core) (row : Seats) (number : ℕ) : Type 0 where
  pub core : new ≡ old
  pub seats : row ≡ was
  pub rests : RestsAt known old was number

-- the actors of some numbers rested, and nothing changed
pub record HaveRested (known : Known) (old : Core) (was : Seats) (new : Core) (row : Seats) (from to : ℕ) : Type 0 where
  pub core : new ≡ old
  pub seats : row ≡ was
  pub rest : (number : ℕ) → from ≤ number → number < to → RestsAt known old was number

-- it rested, or less is left to do
abbrev pub RestsOrActs : Known → Core → Seats → Core → Seats → ℕ → Type 0
RestsOrActs known old was new seats number = HasRested known old was new seats number ⊎ (work_left new seats < work_left old was)

abbrev pub RestOrAct : Known → Core → Seats → Core → Seats → (from to : ℕ) → Type 0
RestOrAct known old was new seats from to = HaveRested known old was new seats from to ⊎ (work_left new seats < work_left old was)

-- turns were taken in a round, one after another
pub record HasPlayed (known : Known) (core : Core) (seats : Seats) (schedule : List ℕ) (r : Round) : Type 0 where
  pub turns : List (Option Move)
  pub last : Round
  pub plays : Plays schedule r turns last
  pub shows : ShowsRound known core seats last

-- turns were taken, after which so many had been taken in all; or the round was over before
pub record HasPlayedOn (known : Known) (core : Core) (seats : Seats) (schedule : List ℕ) (r : Round) (turns : ℕ) : Type 0 where
  pub played : HasPlayed known core seats schedule r
  pub count : played.last.turns ≡ turns

pub record HasPlayedTo (known : Known) (core : Core) (seats : Seats) (schedule : List ℕ) (r : Round) (turns : ℕ) : Type 0 where
  pub played : HasPlayed known core seats schedule r
  pub end : (is_over played.last ≡ true) ⊎ (played.last.turns ≡ turns)

-- a round is over, or some whole number of times all actors have had their turns behind the bytes
abbrev pub IsBehind : List ℕ → Round → Type 0
IsBehind schedule r = (is_over r ≡ true) ⊎ ((k : ℕ) × (r.turns ≡ length schedule + k * actors r))

-- turns were taken, and the actors have had theirs as often as one another
pub record HasPlayedBehind (known : Known) (core : Core) (seats : Seats) (schedule : List ℕ) (r : Round) : Type 0 where
  pub played : HasPlayed known core seats schedule r
  pub behind : IsBehind schedule played.last

-- turns were taken until the round was over
pub record HasEnded (known : Known) (core : Core) (seats : Seats) (schedule : List ℕ) (r : Round) : Type 0 where
  pub played : HasPlayed known core seats schedule r
  pub over : is_over played.last ≡ true

-- Want of memory stopped a round: events of the core that happened lead from its state to one that is shown.
pub record HasStopped (core : Core) (c : CoreState) : Type 0 where
  pub moves : List Move
  pub next : CoreState
  pub leads : Leads c moves next
  pub taken : AllByRecursion IsTaken moves
  pub is : IsState core next
