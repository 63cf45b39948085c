-- What the workers, the shards of the row store, the column units and the sessions show.
use Rattle.std.specs.Prelude.{◌≡◌, ℕ, List, length, slice_get, Option, Some, None}
use Rattle.adg_base.specs.Address.{Place}
use Rattle.adg_base.specs.Shard.{shard_of_unit}
use Rattle.adg_base.specs.declared.placed.PlacedRow.{PlacedRow}
use Rattle.adg_base.specs.declared.log.LogEntry.{LogEntry}
use Rattle.adg_model.specs.Defined.{IsDefinition}
use Rattle.adg_journal.specs.Area.{IsArea}
use Rattle.row_blocks.specs.declared.shard.Shard.{Shard as OwnShard}
use Rattle.row_blocks.specs.Shard.{shown}
use Rattle.row_blocks.specs.Stands.{StandsFor}
use Rattle.row_blocks.specs.Settled.{AreSettled}
use Rattle.column_codec.specs.Extent.{placed_rows}
use Rattle.column_units.specs.declared.unit.Unit.{Unit as OwnUnit}
use Rattle.column_units.specs.declared.unit.UnitState.{UnitState}
use Rattle.column_units.specs.declared.unit.UnitState.TheVariants.{Loading, Ready}
use Rattle.column_units.specs.Unit.{is_marked}
use Rattle.column_units.specs.Shard as own
use Rattle.population.specs.Building.{widened}
use Rattle.core_rules.specs.Share.{share}
use Rattle.core_rules.specs.State.{Worker, Shard, ColumnUnit, Units, Population, Scan, Session, At}
use Rattle.core_rules.specs.State as rules
use Rattle.standby_core.specs.declared.worker.Worker.{Worker as OwnWorker}
use Rattle.standby_core.specs.declared.session.Session.{Session as OwnSession}
use Rattle.standby_core.specs.declared.session.Session.TheVariants.{Free, Populating, Scanning}
use Rattle.standby_core.specs.declared.session.Population.{Population as OwnPopulation}
use Rattle.standby_core.specs.declared.session.Scan.{Scan as OwnScan}
use Rattle.standby_core.specs.Held.{SameHeld}

-- Of so many workers one has its share of the log; its area holds the same, in whatever order.
pub record ShowsWorker (workers : ℕ) (log : List LogEntry) (n : ℕ) (x : OwnWorker) (w : Worker) : Type 0 where
  pub share : x.share ≡ share workers n log
  pub applied : x.applied ≡ w.applied
  pub mined : x.mined ≡ w.mined
  pub progress : x.progress ≡ w.progress
  pub area : SameHeld x.area w.area
  pub is_area : IsArea x.area
  pub ends : x.ends ≡ w.ends

-- a shard of the row store stands, at its place, for its own entries of the log below the position applied, and what it
-- knows of settled versions is so in the log
pub record ShowsShard (log : List LogEntry) (n : ℕ) (x : OwnShard) (s : Shard) : Type 0 where
  pub number : x.number ≡ n
  pub applied : x.applied ≡ s.applied
  pub stands : StandsFor (shown x) log s.floor
  pub settled : AreSettled log x

-- the rows of a unit, where it has its columns
abbrev pub rows_shown : UnitState → Option (List PlacedRow)
rows_shown Loading = None
rows_shown (Ready columns) = Some (placed_rows columns)

pub record ShowsUnit (x : OwnUnit) (u : ColumnUnit) : Type 0 where
  pub snapshot : x.snapshot ≡ u.snapshot
  pub ticket : x.ticket ≡ u.ticket
  pub columns : rows_shown x.state ≡ u.columns
  pub marked : (a : Place) → is_marked x a ≡ u.marked a
  pub all : x.all ≡ u.all

-- where a unit stands the other one does
abbrev pub ShowsAny : Option OwnUnit → Option ColumnUnit → Type 0
ShowsAny None None = Unit {0}
ShowsAny None (Some u) = ⊥
ShowsAny (Some x) None = ⊥
ShowsAny (Some x) (Some u) = ShowsUnit x u

-- the unit of an object and an extent in its shard, where there is the shard and the unit
abbrev pub unit_in_shard : Option own.Units → (obj extent : ℕ) → Option OwnUnit
unit_in_shard None obj extent = None
unit_in_shard (Some shard) obj extent = own.unit_at shard obj extent

abbrev pub unit_in : List own.Units → (obj extent : ℕ) → Option OwnUnit
unit_in shards obj extent = unit_in_shard (slice_get shards (shard_of_unit obj extent)) obj extent

-- 32 shards of units, each at the place of its number
pub record ShowsUnits (shards : List own.Units) (units : Units) : Type 0 where
  pub count : length shards ≡ 32
  pub numbers : (n : ℕ) (s : own.Units) → At shards n s → s.number ≡ n
  pub each : (obj extent : ℕ) → ShowsAny (unit_in shards obj extent) (units obj extent)

-- a population, with the extent at hand as far as it is read
pub record ShowsPopulation (x : OwnPopulation) (p : Population) : Type 0 where
  pub obj : x.obj ≡ p.obj
  pub extents : x.extents ≡ p.table.extents
  pub snapshot : x.snapshot ≡ p.snapshot
  pub ticket : x.ticket ≡ p.ticket
  pub holds : x.holds ≡ p.holds
  pub registered : x.registered ≡ p.registered
  pub installed : x.installed ≡ p.installed
  pub build_obj : x.build.obj ≡ p.obj
  pub extent : x.build.extent ≡ p.extent
  pub build_snapshot : x.build.snapshot ≡ p.snapshot
  pub width : x.build.width ≡ length p.table.kinds
  pub blocks : x.build.blocks ≡ p.blocks
  pub read : widened x.build.width x.build.rows ≡ p.read

-- a scan: what it has gathered is what its accumulator stands for
pub record ShowsScan (x : OwnScan) (s : Scan) : Type 0 where
  pub select : x.select ≡ s.select
  pub scn : x.scn ≡ s.scn
  pub defined : IsDefinition s.select.obj s.table x.definition
  pub extents : x.extents ≡ s.extents
  pub asked : x.accumulator.select ≡ s.select
  pub rows : x.accumulator.rows ≡ s.rows
  pub col : x.col ≡ s.col
  pub row : x.row ≡ s.row

abbrev pub ShowsSession : OwnSession → Session → Type 0
ShowsSession Free rules.Free = Unit {0}
ShowsSession Free (rules.Populating p) = ⊥
ShowsSession Free (rules.Scanning s) = ⊥
ShowsSession (Populating x) rules.Free = ⊥
ShowsSession (Populating x) (rules.Populating p) = ShowsPopulation x p
ShowsSession (Populating x) (rules.Scanning s) = ⊥
ShowsSession (Scanning x) rules.Free = ⊥
ShowsSession (Scanning x) (rules.Populating p) = ⊥
ShowsSession (Scanning x) (rules.Scanning s) = ShowsScan x s

-- 32 shards of units, each at the place of its number and without a unit
pub record AreEmpty (shards : List own.Units) : Type 0 where
  pub count : length shards ≡ 32
  pub numbers : (n : ℕ) (s : own.Units) → At shards n s → s.number ≡ n
  pub empty : (n : ℕ) (s : own.Units) → At shards n s → (obj extent : ℕ) → own.unit_at s obj extent ≡ None
