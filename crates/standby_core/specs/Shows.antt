-- What state of the rules a core shows, and what its calls make of it.
use Rattle.std.specs.Prelude.{◌≡◌, ◌<◌, ◌^◌, length}
use Rattle.core_rules.specs.declared.event.Event.{Event}
use Rattle.core_rules.specs.declared.event.CoreAnswer.{CoreAnswer}
use Rattle.core_rules.specs.State.{CoreState}
use Rattle.core_rules.specs.Step.{Steps}
use Rattle.core_rules.specs.Invariant.{Invariant}
use Rattle.standby_core.specs.declared.standby.Core.{Core}
use Rattle.standby_core.specs.Each.{EachAt}
use Rattle.standby_core.specs.Links.{ShowsFlush}
use Rattle.standby_core.specs.Parts.{ShowsWorker, ShowsShard, ShowsUnits, ShowsSession}

-- A core shows a state of the rules, field by field. It does not keep the log, but of each worker its share of it.
pub record Shows (core : Core) (c : CoreState) : Type 0 where
  pub worker_count : core.worker_count ≡ length c.workers
  pub session_count : core.session_count ≡ length c.sessions
  pub received : core.received ≡ length c.log
  pub fits : length c.log < 2 ^ 64
  pub frontier : core.frontier ≡ c.frontier
  pub query : core.query ≡ c.query
  pub born : core.born ≡ c.born
  pub workers : EachAt (ShowsWorker core.worker_count c.log) core.workers.items c.workers
  pub shards : EachAt (ShowsShard c.log) core.shards.items c.shards
  pub ddl : core.ddl ≡ c.ddl
  pub flush : ShowsFlush core.worker_count core.flush c.quiesce c.links
  pub units : ShowsUnits core.units.items c.units
  pub sessions : EachAt (λ n. ShowsSession) core.sessions.items c.sessions
  pub ticket : core.ticket ≡ c.ticket

-- it shows a state that meets the invariant
pub record IsState (core : Core) (c : CoreState) : Type 0 where
  pub shows : Shows core c
  pub invariant : Invariant c

pub record HasState (core : Core) : Type 0 where
  pub state : CoreState
  pub is : IsState core state

-- the core shows a state to which an event with this answer leads
pub record HasStepped (core : Core) (c : CoreState) (e : Event) (answer : CoreAnswer) : Type 0 where
  pub next : CoreState
  pub steps : Steps c e answer next
  pub shows : Shows core next
