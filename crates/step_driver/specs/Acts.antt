-- What the acts and the actors of the driver are in the turn rule, and what an act makes of a core.
use Rattle.std.specs.Prelude.{◌≡◌, ◌<◌, Option, Some, None}
use Rattle.adg_base.specs.declared.answer.Reply.{Reply}
use Rattle.core_rules.specs.declared.event.Event.{Event}
use Rattle.core_rules.specs.declared.event.CoreAnswer.{CoreAnswer}
use Rattle.core_rules.specs.State.{CoreState}
use Rattle.core_rules.specs.Step.{Steps}
use Rattle.core_rules.specs.Invariant.{Precise}
use Rattle.core_rules.specs.Runs.{Move}
use Rattle.turn_rules.specs.Picks as rule
use Rattle.turn_rules.specs.Turns.{said_by, Acts}
use Rattle.standby_core.specs.declared.standby.Core.{Core}
use Rattle.standby_core.specs.declared.crew.CrewEvent.{CrewEvent}
use Rattle.standby_core.specs.Crew.{event_of}
use Rattle.standby_core.specs.Shows.{IsState}
use Rattle.step_driver.specs.declared.act.Act.{Act}
use Rattle.step_driver.specs.declared.act.Act.TheVariants as own
use Rattle.step_driver.specs.declared.act.Actor.{Actor}
use Rattle.step_driver.specs.declared.act.Actor.TheVariants as seat

abbrev pub act_shown : Act → rule.Act
act_shown own.Rest = rule.Rests
act_shown (own.Make event) = rule.Makes event
act_shown (own.Tell reply) = rule.Replies reply
act_shown (own.MakeAndTell event reply) = rule.MakesAndReplies event reply

-- the coordinator and the workers make an event or rest
abbrev pub crew_shown : Option CrewEvent → rule.Act
crew_shown None = rule.Rests
crew_shown (Some event) = rule.Makes (event_of event)

-- the numbers of a worker and of a place leave room for one more
abbrev pub IsSmall : Actor → Type 0
IsSmall seat.Coordinator = Unit {0}
IsSmall (seat.Worker worker) = worker < 255
IsSmall (seat.Session place) = place < 255

abbrev pub actor_shown : Actor → rule.Actor
actor_shown seat.Coordinator = rule.Coordinator
actor_shown (seat.Worker worker) = rule.WorkerAt worker
actor_shown (seat.Session place) = rule.SessionAt place

-- the core took an event, and showed a state from which it leads to one that it shows now; what it said is told
pub record HasTaken (core : Core) (c : CoreState) (event : Event) (told : Option Reply) : Type 0 where
  pub answer : CoreAnswer
  pub next : CoreState
  pub steps : Steps c event answer next
  pub says : told ≡ said_by answer
  pub is : IsState core next
  pub precise : Precise c → Precise next

-- an act was done by a core that showed a state
pub record HasActed (core : Core) (c : CoreState) (act : rule.Act) (told : Option Reply) : Type 0 where
  pub move : Option Move
  pub next : CoreState
  pub acts : Acts c act move told next
  pub is : IsState core next
  pub precise : Precise c → Precise next
