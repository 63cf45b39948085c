-- In what phase a population is, and what its events make of the units.
use Rattle.std.specs.Prelude.{◌≡◌, ℕ, ◌+◌, ◌-◌, Bool, true, not, nat_lt, nat_le, if◌then◌else◌, ◌&&◌, List, [], slice_set, IfSome, IsSome}
use Rattle.adg_base.specs.declared.definition.Definition.{Definition}
use Rattle.column_units.specs.Unit.{IsNew}
use Rattle.column_units.specs.Shard.{Units, unit_at, KeepsOthers}
use Rattle.core_rules.specs.State.{At}
use Rattle.standby_core.specs.declared.flush.Quiesce.{Quiesce}
use Rattle.standby_core.specs.declared.flush.Quiesce.TheVariants.{Idle, Shared, Flushing}
use Rattle.standby_core.specs.declared.populate.Phase.{Phase}
use Rattle.standby_core.specs.declared.populate.Phase.TheVariants.{Registering, Registered, Reading, Read}
use Rattle.standby_core.specs.declared.session.Session.{Session}
use Rattle.standby_core.specs.declared.session.Session.TheVariants.{Populating}
use Rattle.standby_core.specs.declared.session.Population.{Population}

-- whether a population is in a phase
abbrev pub is_in : Phase → Population → Bool
is_in Registering p = p.holds && nat_lt p.registered p.extents
is_in Registered p = p.holds && nat_le p.extents p.registered
is_in Reading p = not p.holds && nat_lt p.build.blocks 16
is_in Read p = not p.holds && nat_le 16 p.build.blocks

-- the session of a number stands at a place of the list and populates, in this phase
pub record IsSeat (sessions : List Session) (session : ℕ) (phase : Phase) (place : ℕ) : Type 0 where
  pub number : session ≡ place + 1
  pub population : Population
  pub found : At sessions place (Populating population)
  pub phased : is_in phase population ≡ true

-- one population less keeps publication back
abbrev pub once_less : Quiesce → Quiesce
once_less Idle = Idle
once_less (Shared n) = if nat_le n 1 then Idle else Shared (n - 1)
once_less (Flushing through) = Flushing through

-- the shard of units at a place is another one
pub record IsSetIn (R : Units → Units → Type 0) (place : ℕ) (old new : List Units) : Type 0 where
  pub was : Units
  pub found : At old place was
  pub now : Units
  pub related : R was now
  pub set : new ≡ slice_set old place now

-- a new unit stands for an extent, and all other units are as they were
pub record TakesUnit (obj extent snapshot ticket : ℕ) (old new : Units) : Type 0 where
  pub unit : IfSome (unit_at new obj extent) (IsNew obj extent snapshot ticket)
  pub stands : IsSome (unit_at new obj extent)
  pub others : KeepsOthers obj extent old new

-- one population more does
abbrev pub once_more : Quiesce → Quiesce
once_more Idle = Shared 1
once_more (Shared n) = Shared (n + 1)
once_more (Flushing through) = Flushing through

-- a population that begins
abbrev pub begun_population : (obj snapshot ticket : ℕ) → Definition → Population
begun_population obj snapshot ticket d = record {
  obj = obj;
  extents = d.extents;
  snapshot = snapshot;
  ticket = ticket;
  holds = true;
  registered = 0;
  installed = 0;
  build = record { obj = obj; extent = 0; snapshot = snapshot; width = d.width; blocks = 0; rows = [] };
}
