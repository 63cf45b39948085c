-- What holds after each step, and which events take no memory.
use Rattle.core_rules.specs.declared.event.Event.{Event}
use Rattle.core_rules.specs.declared.event.Event.TheVariants as event
use Rattle.core_rules.specs.declared.event.CoreAnswer.{CoreAnswer}
use Rattle.core_rules.specs.State.{CoreState}
use Rattle.core_rules.specs.Step.{Steps}
use Rattle.core_rules.specs.Invariant.{Precise}
use Rattle.standby_core.specs.declared.standby.Core.{Core}
use Rattle.standby_core.specs.Shows.{IsState}

-- the core shows a state to which the event leads, which meets the invariant, and whose marks are precise if they were
pub record Keeps (core : Core) (c : CoreState) (e : Event) (answer : CoreAnswer) : Type 0 where
  pub next : CoreState
  pub steps : Steps c e answer next
  pub is : IsState core next
  pub precise : Precise c → Precise next

-- these take no memory
abbrev pub TakesNoMemory : Event → Type 0
TakesNoMemory (event.Raise worker through) = Unit {0}
TakesNoMemory (event.Claim actor) = Unit {0}
TakesNoMemory (event.Collect actor) = Unit {0}
TakesNoMemory (event.Touch actor) = Unit {0}
TakesNoMemory (event.Done actor) = Unit {0}
TakesNoMemory event.Publish = Unit {0}
TakesNoMemory (event.PopRelease session) = Unit {0}
TakesNoMemory event.Restart = Unit {0}
TakesNoMemory other = ⊥
