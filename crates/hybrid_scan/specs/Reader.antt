-- What is read from the store of blocks.
use Rattle.std.specs.Prelude.{◌≡◌, ℕ, ◌<◌, ◌≤◌, List, [], length, slice_index_or, option_map}
use Rattle.std.specs.List.{filter_map}
use Rattle.adg_base.specs.Address.{Place}
use Rattle.adg_base.specs.declared.value.Value.{Value}
use Rattle.adg_base.specs.declared.log.LogEntry.{LogEntry}
use Rattle.adg_base.specs.declared.placed.PlacedRow.{PlacedRow}
use Rattle.adg_model.specs.Database.{Rows}
use Rattle.row_blocks.specs.declared.shard.Shard.{Shard}
use Rattle.row_blocks.specs.declared.version.Version.{Version}
use Rattle.adg_model.specs.Sound.{IsLog}
use Rattle.row_blocks.specs.Pick.{Commits, picked_by}
use Rattle.row_blocks.specs.Shards.{shards_in, Serves}
use Rattle.row_blocks.specs.Settled.{AreEachSettled}

-- a row with its address
abbrev pub placed_at : Place → List Value → PlacedRow
placed_at a row = record { addr = a; row = row }

-- the rows at some places with their addresses
abbrev pub placed : Rows → List Place → List PlacedRow
placed rows places = filter_map (λ a. option_map (placed_at a) (rows a)) places

-- the row at an address of a block, picked among the versions at its slot
abbrev pub picked_in : Commits → List (List Version) → Rows
picked_in commits slots a = picked_by commits (slice_index_or slots a.slot [])

-- no SCN that was covered is lost, and none changes its rows
abbrev pub StillCovers : (covers covers' : ℕ → Type 0) → (rows rows' : ℕ → Rows) → Type 0
StillCovers covers covers' rows rows' = (q : ℕ) → covers q → covers' q × ((a : Place) → rows' q a ≡ rows q a)

-- 64 shards cover an SCN where each serves one log at it, from a floor at or below it: all entries of the shard up to
-- the SCN are applied; and what they know of settled versions is so in that log
pub record AreServing (shards : List Shard) (q : ℕ) : Type 0 where
  pub count : length shards ≡ 64
  pub log : List LogEntry
  pub frontier : ℕ
  pub floor : ℕ
  pub is_log : IsLog log frontier
  pub from_floor : floor ≤ q
  pub serve : (n : ℕ) → n < 64 → Serves (shards_in shards n) n log floor q
  pub settled : AreEachSettled log shards
