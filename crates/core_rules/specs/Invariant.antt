-- The invariant of the core: what holds of every state that events reach, and the precision of marks beside it.
use Rattle.std.specs.Prelude.{◌≡◌, ℕ, ◌+◌, ◌<◌, List, length, take, map, Some}
use Rattle.adg_base.specs.Shard.{shard_of_unit}
use Rattle.adg_base.specs.declared.log.LogEntry.{LogEntry}
use Rattle.core_rules.specs.Share.{shares}
use Rattle.core_rules.specs.State.{CoreState, Worker, ColumnUnit, Population, Scan, Populating, Scanning, At, share_of, limit, holders}
use Rattle.adg_model.specs.Sound.{IsLog}
use Rattle.core_rules.specs.Parts.{NumbersAre, QuiesceIs, ShardsAre, CountsAre, ProgressIs, AppliedAre, AreaIs, PartitionIs, DdlIs, mined_from, ItemsAre, items_of, ClaimsAre, stages_of, AllCollected}
use Rattle.core_rules.specs.UnitParts.{UnitIs, UnitIsPrecise, PopulationIs, TicketsDiffer, HasItsUnits, ScanIs}

-- of a worker
pub record WorkerIs (c : CoreState) (worker : ℕ) (w : Worker) : Type 0 where
  pub counts : CountsAre (share_of c worker) w.applied w.mined w.progress
  pub progress : ProgressIs (limit c) c.frontier w.progress
  pub applied : AppliedAre (take w.applied (share_of c worker)) c.shards
  pub area : AreaIs c.log c.born c.query c.links worker (take w.mined (share_of c worker)) w.area
  pub partition : PartitionIs c.log c.born (limit c) (take w.mined (share_of c worker)) w.ends

-- of the flush, empty outside of one
pub record FlushIs (c : CoreState) : Type 0 where
  pub items : ItemsAre c.log c.born c.query (limit c) (shares (length c.workers) c.log) (items_of c.links)
  pub claims : ClaimsAre (length c.workers) (stages_of c.links)
  pub collected : AllCollected c.log c.born (length c.workers) c.links

-- the entries that all workers have mined
abbrev pub mined_of_all : CoreState → List LogEntry
mined_of_all c = mined_from (length c.workers) 0 c.log (map (λ w. w.mined) c.workers)

-- the place of the shard of a unit
abbrev pub unit_place : CoreState → (obj extent : ℕ) → ℕ
unit_place c obj extent = length c.workers + shard_of_unit obj extent

-- of all workers, units, populations and scans
abbrev pub AllWorkers : CoreState → Type 0
AllWorkers c = (worker : ℕ) (w : Worker) → At c.workers worker w → WorkerIs c worker w

abbrev pub AllUnits : CoreState → Type 0
AllUnits c = (obj extent : ℕ) (u : ColumnUnit) → c.units obj extent ≡ Some u → UnitIs c.log c.query c.ticket c.links (unit_place c obj extent) obj extent u

abbrev pub AllPopulations : CoreState → Type 0
AllPopulations c = (place : ℕ) (p : Population) → At c.sessions place (Populating p) → PopulationIs c.log c.query c.ticket p

abbrev pub AllTied : CoreState → Type 0
AllTied c = (place : ℕ) (p : Population) → At c.sessions place (Populating p) → HasItsUnits c.units p

abbrev pub AllScans : CoreState → Type 0
AllScans c = (place : ℕ) (s : Scan) → At c.sessions place (Scanning s) → ScanIs c.log c.query s

pub record Invariant (c : CoreState) : Type 0 where
  pub log : IsLog c.log c.frontier
  pub numbers : NumbersAre c.born c.query (limit c) c.frontier
  pub quiesce : QuiesceIs c.quiesce c.query (holders c.sessions) c.links
  pub shards : ShardsAre c.log c.shards
  pub manned : 0 < length c.workers
  pub workers : AllWorkers c
  pub ddl : DdlIs (limit c) (mined_of_all c) c.ddl
  pub flush : FlushIs c
  pub units : AllUnits c
  pub populations : AllPopulations c
  pub tickets : TicketsDiffer c.sessions
  pub tied : AllTied c
  pub scans : AllScans c

-- the marks of every unit are precise
abbrev pub Precise : CoreState → Type 0
Precise c = (obj extent : ℕ) (u : ColumnUnit) → c.units obj extent ≡ Some u → UnitIsPrecise c.log c.born (limit c) u
