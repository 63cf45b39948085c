-- What holds of cores that show states, beside what each call promises.
use Rattle.std.specs.Prelude.{◌≡◌, ℕ, ◌+◌, ◌-◌, ◌*◌, ◌<◌, ◌≤◌, true, List, length, Some, ◌⊎◌}
use Rattle.std.specs.List.{Contains}
use Rattle.adg_base.specs.Address.{Place}
use Rattle.adg_base.specs.Area.{HoldsPlace, HoldsBegin}
use Rattle.adg_base.specs.declared.log.LogEntry.{LogEntry}
use Rattle.adg_model.specs.declared.mined.Mined.TheVariants as mined
use Rattle.adg_model.specs.Mined.{mined_of}
use Rattle.column_units.specs.declared.unit.Unit.{Unit as OwnUnit}
use Rattle.column_units.specs.Unit.{is_marked}
use Rattle.core_rules.specs.Share.{CommitsAt}
use Rattle.core_rules.specs.Extents.{IsInExtent}
use Rattle.core_rules.specs.State.{CoreState, At}
use Rattle.core_rules.specs.Flush.{Publishes}
use Rattle.core_rules.specs.Laws.{EndsFlush}
use Rattle.standby_core.specs.declared.standby.Core.{Core}
use Rattle.standby_core.specs.declared.worker.Worker.{Worker}
use Rattle.standby_core.specs.declared.flush.Quiesce.TheVariants.{Flushing}
use Rattle.standby_core.specs.Parts.{unit_in}
use Rattle.standby_core.specs.Shows.{Shows, IsState}

-- Flush before publish: in a core that shows a state which a publication made, each address that was noted for a
-- transaction which committed above the old QuerySCN and at most at the new one is marked in the unit of its extent, or
-- the unit is marked wholly; and no area holds anything of the transaction.
pub record IsFlushed (log : List LogEntry) (core : Core) (t : ℕ) : Type 0 where
  pub marked : (a : Place) (e : LogEntry) (extent : ℕ) (u : OwnUnit) → Contains log e → mined_of log e ≡ Some (mined.Note t a)
      → unit_in core.units.items a.obj extent ≡ Some u → IsInExtent a.obj extent a → (u.all ≡ true) ⊎ (is_marked u a ≡ true)
  pub no_places : (worker : ℕ) (x : Worker) (a : Place) → At core.workers.items worker x → HoldsPlace x.area t a → ⊥
  pub no_begins : (worker : ℕ) (x : Worker) → At core.workers.items worker x → HoldsBegin x.area t → ⊥

abbrev pub FlushBeforePublish : Type 0
FlushBeforePublish =
    (core new : Core) (c next : CoreState) (t scn : ℕ) → IsState core c → Publishes c next → Shows new next
    → CommitsAt c.log t scn → core.query < scn → scn ≤ new.query → IsFlushed c.log new t

-- A begun flush needs no memory: while no actor holds a worklink, so many events of the coordinator, each of which moves
-- and none of which takes memory, lead to the publication.
abbrev pub FlushEnds : Type 0
FlushEnds =
    (core : Core) (c : CoreState) (through : ℕ) → IsState core c → core.flush.quiesce ≡ Flushing through
    → ((actor number : ℕ) → At core.flush.held.items actor (Some number) → ⊥)
    → EndsFlush c through ((length core.flush.links.items - core.flush.claimed) * (core.worker_count + 34) + 1)
