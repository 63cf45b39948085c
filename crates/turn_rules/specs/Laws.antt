-- The laws of the turn rule, each the promise of a function that does nothing.
use Rattle.std.specs.Prelude.{◌≡◌, ℕ, ◌+◌, ◌<◌, ◌≤◌, true, List, ◌∷◌, length, Option}
use Rattle.std.specs.List.{AllByRecursion}
use Rattle.adg_base.specs.declared.answer.Lines.{Lines}
use Rattle.adg_base.specs.declared.answer.Reply.{Reply}
use Rattle.adg_model.specs.declared.delivery.CheckedDelivery.{CheckedDelivery}
use Rattle.adg_model.specs.Transcript.{IsLegal}
use Rattle.core_rules.specs.declared.event.Event.{Event}
use Rattle.core_rules.specs.State.{CoreState}
use Rattle.core_rules.specs.Applying.{Receives}
use Rattle.core_rules.specs.Step.{Guard}
use Rattle.core_rules.specs.Runs.{Move, Leads}
use Rattle.core_rules.specs.ColumnUse.{told_by_units, ColumnUse, UnitsAfter}
use Rattle.turn_rules.specs.Round.{Seat, Round, actors, is_over, AreSeats, opening_round}
use Rattle.turn_rules.specs.Picks.{Rests, Makes, MakesAndReplies, actor_of, act_of, act_at}
use Rattle.turn_rules.specs.Turns.{TakesTurn, Plays, moves_of}
use Rattle.turn_rules.specs.Measure.{measure, turns_left}
use Rattle.turn_rules.specs.Standing.{RoundIs}
use Rattle.turn_rules.specs.Delivery.{Delivers, IsReady, IsTaken, Promises}
use Rattle.turn_rules.specs.Earlier.{Past, born_by_lines, told_by_lines, UnitsAreTold}

-- An event that the rule picks can happen: it is never answered NotReady.
pub record EventsAreReady (r : Round) : Type 0 where
  pub makes : (number : ℕ) (event : Event) → act_of r (actor_of (length r.core.workers) number) ≡ Makes event → Guard r.core event
  pub replies : (number : ℕ) (event : Event) (reply : Reply) → act_of r (actor_of (length r.core.workers) number) ≡ MakesAndReplies event reply → Guard r.core event

abbrev pub PickedEventsAreReady : Type 0
PickedEventsAreReady = (r : Round) → RoundIs r → EventsAreReady r

-- What holds of a round holds as it begins, and after each turn.
abbrev pub RoundsBegin : Type 0
RoundsBegin =
    (c : CoreState) (d : CheckedDelivery) (received : CoreState) (seats : List Seat) → IsReady c d → Receives c d.entries d.frontier received
    → AreSeats (length c.sessions) d.commands seats → RoundIs (opening_round received seats)

abbrev pub TurnsKeepRounds : Type 0
TurnsKeepRounds = (schedule : List ℕ) (r : Round) (move : Option Move) (next : Round) → TakesTurn schedule r move next → RoundIs r → RoundIs next

-- Each act makes the measure fall, and a rest leaves it.
pub record MeasureFalls (schedule : List ℕ) (r next : Round) : Type 0 where
  pub acts : (act_at schedule r r.turns ≡ Rests → ⊥) → measure next < measure r
  pub rests : act_at schedule r r.turns ≡ Rests → measure next ≡ measure r

abbrev pub ActsLowerMeasure : Type 0
ActsLowerMeasure =
    (schedule : List ℕ) (r : Round) (move : Option Move) (next : Round) → RoundIs r → TakesTurn schedule r move next → MeasureFalls schedule r next

-- Where all actors rest the round is over: nobody waits for ever.
abbrev pub NobodyWaits : Type 0
NobodyWaits =
    (r : Round) → RoundIs r → ((number : ℕ) → number < actors r → act_of r (actor_of (length r.core.workers) number) ≡ Rests) → is_over r ≡ true

-- Each turn makes the bound of the turns that are left fall, so a round takes no more turns than it says.
abbrev pub TurnsComeToAnEnd : Type 0
TurnsComeToAnEnd =
    (schedule : List ℕ) (r : Round) (move : Option Move) (next : Round) → RoundIs r → TakesTurn schedule r move next
    → turns_left schedule next < turns_left schedule r

abbrev pub RoundsEnd : Type 0
RoundsEnd =
    (schedule : List ℕ) (r : Round) (turns : List (Option Move)) (last : Round) → RoundIs r → Plays schedule r turns last
    → length turns + turns_left schedule last ≤ turns_left schedule r

-- The turns of a round are a run of the core, and none of its events is answered NotReady.
pub record IsRun (r : Round) (turns : List (Option Move)) (last : Round) : Type 0 where
  pub leads : Leads r.core (moves_of turns) last.core
  pub taken : AllByRecursion IsTaken (moves_of turns)
  pub stands : RoundIs last

abbrev pub RoundsAreRuns : Type 0
RoundsAreRuns = (schedule : List ℕ) (r : Round) (turns : List (Option Move)) (last : Round) → RoundIs r → Plays schedule r turns last → IsRun r turns last

-- The core of a delivery that can be run, and what is said of the lines of its round.
abbrev pub OfDeliveries : ((c : CoreState) (d : CheckedDelivery) (new : CoreState) (lines : Lines) → Type 0) → Type 0
OfDeliveries P =
    (c : CoreState) (d : CheckedDelivery) (turns : List (Option Move)) (new : CoreState) (lines : Lines) → IsReady c d → Delivers c d turns new lines → P c d new lines

abbrev pub LinesAreLegal : Type 0
LinesAreLegal = OfDeliveries (λ c d new lines. IsLegal (length c.sessions) new.log c.query d.frontier d.commands lines)

abbrev pub UseIsMet : Type 0
UseIsMet = OfDeliveries (λ c d new lines. ColumnUse new.log d.frontier c.query c.born (told_by_units new.log c.units) d.commands lines)

abbrev pub UnitsAreStated : Type 0
UnitsAreStated =
    OfDeliveries (λ c d new lines. UnitsAfter new.log d.frontier c.born (told_by_units new.log c.units) d.commands lines new.units new.born)

-- All that a delivery promises.
abbrev pub DeliveriesKeepPromises : Type 0
DeliveriesKeepPromises =
    (c : CoreState) (d : CheckedDelivery) (turns : List (Option Move)) (new : CoreState) (lines : Lines) → IsReady c d → Delivers c d turns new lines
    → Promises c d turns new lines

-- From delivery to delivery: what earlier lines tell of the units is so again with the lines of this delivery, and these
-- meet column use with what earlier lines tell.
pub record TellsOn (c : CoreState) (d : CheckedDelivery) (new : CoreState) (lines : Lines) (pasts : List Past) : Type 0 where
  pub units : UnitsAreTold new.log new.frontier new.units (record { commands = d.commands; lines = lines } ∷ pasts)
  pub born : new.born ≡ born_by_lines (record { commands = d.commands; lines = lines } ∷ pasts)
  pub columns : ColumnUse new.log d.frontier c.query (born_by_lines pasts) (told_by_lines pasts) d.commands lines

abbrev pub DeliveriesTellOn : Type 0
DeliveriesTellOn =
    (c : CoreState) (d : CheckedDelivery) (turns : List (Option Move)) (new : CoreState) (lines : Lines) (pasts : List Past) → IsReady c d
    → Delivers c d turns new lines → UnitsAreTold c.log c.frontier c.units pasts → c.born ≡ born_by_lines pasts → TellsOn c d new lines pasts
