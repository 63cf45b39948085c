-- What a scan sees of its next extent, and what it makes of it.
use Rattle.std.specs.Prelude.{◌≡◌, ℕ, ◌+◌, ◌<◌, ◌≤◌, ◌^◌, List, length, ◌++◌, Option, Some, None, IfSome}
use Rattle.adg_base.specs.declared.value.Value.{Value}
use Rattle.row_blocks.specs.declared.shard.Shard.{Shard}
use Rattle.row_blocks.specs.Shards.{shards_in, row_in}
use Rattle.column_units.specs.declared.unit.Unit.{Unit as OwnUnit}
use Rattle.column_units.specs.Unit.{IsOf}
use Rattle.column_units.specs.Look.{Look, look_at}
use Rattle.column_units.specs.Shard as own
use Rattle.scan_eval.specs.Added.{Added}
use Rattle.hybrid_scan.specs.declared.scan.ExtentCounts.{ExtentCounts}
use Rattle.hybrid_scan.specs.Reader.{AreServing}
use Rattle.hybrid_scan.specs.Scan.{scanned, from_store}
use Rattle.standby_core.specs.declared.session.Scan.{Scan}
use Rattle.standby_core.specs.declared.session.Session.{Session}
use Rattle.standby_core.specs.declared.session.Session.TheVariants.{Scanning}
use Rattle.standby_core.specs.Parts.{unit_in}

-- what a scan at an SCN may take of a unit, where there is one
abbrev pub look_of : ℕ → Option OwnUnit → Option Look
look_of scn None = None
look_of scn (Some u) = look_at scn u

-- what a scan may take of the unit of its next extent
abbrev pub look_next : Scan → List own.Units → Option Look
look_next x units = look_of x.scn (unit_in units x.definition.obj x.extents)

-- the rows of its next extent, and those of them that come from the shards
abbrev pub rows_next : Scan → Option Look → List Shard → List (List Value)
rows_next x look shards = scanned look x.definition.width (row_in (shards_in shards) x.scn) x.definition.obj x.extents

abbrev pub stored_next : Scan → Option Look → List Shard → List (List Value)
stored_next x look shards = from_store look x.definition.width (row_in (shards_in shards) x.scn) x.definition.obj x.extents

-- these are the rows of its next extent, each counted once
pub record HasRows (x : Scan) (look : Option Look) (shards : List Shard) (rows : Added) (counts : ExtentCounts) : Type 0 where
  pub is : rows ≡ record { select = x.select; rows = rows_next x look shards }
  pub each : counts.from_columns + counts.from_blocks ≡ length (rows_next x look shards)
  pub blocks : counts.from_blocks ≡ length (stored_next x look shards)

-- A scan can gather an extent: it has one that these units and shards have, its accumulator is that of its query, each
-- row was counted once, and there is room for the rows of an extent.
pub record CanGather (x : Scan) (units : List own.Units) (shards : List Shard) : Type 0 where
  pub extent : x.extents < 256
  pub count : length units ≡ 32
  pub serves : AreServing shards x.scn
  pub asked : x.accumulator.select ≡ x.select
  pub split : x.col + x.row ≡ length x.accumulator.rows
  pub room : length x.accumulator.rows + 1024 < 2 ^ 64

-- it has gathered its next extent
pub record HasGathered (old : Scan) (units : List own.Units) (shards : List Shard) (new : Scan) : Type 0 where
  pub unit : IfSome (unit_in units old.definition.obj old.extents) (IsOf old.definition.obj old.extents)
  pub same : new ≡ record old { extents = old.extents + 1; accumulator = new.accumulator; col = new.col; row = new.row }
  pub asked : new.accumulator.select ≡ old.accumulator.select
  pub rows : new.accumulator.rows ≡ old.accumulator.rows ++ rows_next old (look_next old units) shards
  pub row : new.row ≡ old.row + length (stored_next old (look_next old units) shards)
  pub each : new.col + new.row ≡ old.col + old.row + length (rows_next old (look_next old units) shards)

-- a session has a scan that has gathered its next extent
pub record GathersIn (old : Session) (units : List own.Units) (shards : List Shard) (new : Session) : Type 0 where
  pub scan : Scan
  pub is : old ≡ Scanning scan
  pub left : scan.extents < scan.definition.extents
  pub next : Scan
  pub then_is : new ≡ Scanning next
  pub gathered : HasGathered scan units shards next

-- a session has no scan with an extent left
abbrev pub HasNoneLeft : Session → Type 0
HasNoneLeft session = (x : Scan) → session ≡ Scanning x → x.definition.extents ≤ x.extents
