-- What a population reads of the row store, and what the end of an extent makes of it and of the units.
use Rattle.std.specs.Prelude.{◌≡◌, ℕ, ◌+◌, ◌*◌, ◌<◌, Bool, nat_lt, if◌then◌else◌, List, [], ◌++◌, length}
use Rattle.adg_base.specs.Address.{block_places}
use Rattle.adg_base.specs.declared.answer.Reply.TheVariants as reply
use Rattle.adg_base.specs.declared.placed.PlacedRow.{PlacedRow}
use Rattle.column_codec.specs.Extent.{PlacedColumns, placed_rows}
use Rattle.column_units.specs.Shard.{Units, unit_at, installed, is_awaited, KeepsOthers}
use Rattle.core_rules.specs.declared.event.CoreAnswer.{CoreAnswer}
use Rattle.core_rules.specs.declared.event.CoreAnswer.TheVariants.{Moved, Said}
use Rattle.hybrid_scan.specs.Reader.{placed}
use Rattle.population.specs.Building.{Fit, widened}
use Rattle.row_blocks.specs.declared.shard.Shard.{Shard}
use Rattle.row_blocks.specs.Shards.{shards_in, row_in}
use Rattle.standby_core.specs.declared.session.Session.{Session}
use Rattle.standby_core.specs.declared.session.Session.TheVariants.{Free, Populating}
use Rattle.standby_core.specs.declared.session.Population.{Population}
use Rattle.standby_core.specs.Parts.{unit_in}

-- the rows of the next block of a population's extent at its snapshot, as these shards give them
unfoldable pub next_rows : List Shard → Population → List PlacedRow
next_rows shards p = placed (row_in (shards_in shards) p.snapshot) (block_places p.obj (16 * p.build.extent + p.build.blocks))

-- a population can read its next block of these shards: none of the rows is longer than its object is wide
pub record CanTake (shards : List Shard) (p : Population) : Type 0 where
  pub count : length shards ≡ 64
  pub object : p.build.obj ≡ p.obj
  pub extent : p.build.extent < 256
  pub left : p.build.blocks < 16
  pub fit : Fit p.build.width (next_rows shards p)

-- a population that has read these rows of its next block
abbrev pub with_block : List PlacedRow → Population → Population
with_block rows p = record p { build = record p.build { blocks = p.build.blocks + 1; rows = p.build.rows ++ rows } }

-- a population can end its extent: all its blocks are read
pub record CanEnd (p : Population) : Type 0 where
  pub whole : p.build.blocks ≡ 16
  pub object : p.build.obj ≡ p.obj
  pub extent : p.build.extent < 256
  pub installed : p.installed < 256

-- columns of these rows were installed where a unit waited for them with this ticket, and all other units are as they were
pub record TakesColumns (obj extent ticket : ℕ) (rows : List PlacedRow) (old new : Units) : Type 0 where
  pub columns : PlacedColumns
  pub of : placed_rows columns ≡ rows
  pub unit : unit_at new obj extent ≡ installed ticket columns (unit_at old obj extent)
  pub others : KeepsOthers obj extent old new

-- the rows that the unit of its extent is to have
abbrev pub rows_read : Population → List PlacedRow
rows_read p = widened p.build.width p.build.rows

-- a population that has installed its extent where the unit waited for it
abbrev pub with_installed : List Units → Population → Population
with_installed units p =
    record p { installed = if is_awaited p.ticket (unit_in units p.obj p.build.extent) then p.installed + 1 else p.installed }

-- whether an extent is left behind the one at hand
abbrev pub has_next : Population → Bool
has_next p = nat_lt (p.build.extent + 1) p.extents

-- a population with the next extent at hand, of which nothing is read
abbrev pub at_next : Population → Population
at_next p =
    record p { build = record { obj = p.build.obj; extent = p.build.extent + 1; snapshot = p.build.snapshot; width = p.build.width; blocks = 0; rows = [] } }

-- what it goes on with, and what it answers: after the last extent it is over
abbrev pub session_after : Population → Session
session_after p = if has_next p then Populating (at_next p) else Free

abbrev pub answer_after : Population → CoreAnswer
answer_after p = if has_next p then Moved else Said (reply.Populated p.snapshot p.installed)
