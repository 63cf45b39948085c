-- The events of the coordinator and of the workers, and whether they happened, as events and answers of the rules.
use Rattle.std.specs.Prelude.{Bool, true, false}
use Rattle.core_rules.specs.declared.event.Event.{Event}
use Rattle.core_rules.specs.declared.event.Event.TheVariants as event
use Rattle.core_rules.specs.declared.event.CoreAnswer.{CoreAnswer}
use Rattle.core_rules.specs.declared.event.CoreAnswer.TheVariants.{NotReady, Moved}
use Rattle.standby_core.specs.declared.crew.CrewEvent.{CrewEvent}
use Rattle.standby_core.specs.declared.crew.CrewEvent.TheVariants as crew

abbrev pub event_of : CrewEvent → Event
event_of (crew.Apply worker) = event.Apply worker
event_of (crew.Mine worker) = event.Mine worker
event_of (crew.Raise worker through) = event.Raise worker through
event_of (crew.BeginFlush through) = event.BeginFlush through
event_of (crew.Claim actor) = event.Claim actor
event_of (crew.Collect actor) = event.Collect actor
event_of (crew.Touch actor) = event.Touch actor
event_of (crew.Done actor) = event.Done actor
event_of crew.Publish = event.Publish

-- none of them says a reply
abbrev pub answer_of : Bool → CoreAnswer
answer_of true = Moved
answer_of false = NotReady
