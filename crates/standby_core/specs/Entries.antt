-- What a shard of the row store makes of an entry of its own, applied before or not.
use Rattle.std.specs.Prelude.{◌≡◌, ◌+◌, ◌<◌, ◌≤◌, ◌^◌, max, List}
use Rattle.adg_base.specs.declared.log.LogEntry.{LogEntry}
use Rattle.row_blocks.specs.declared.shard.Shard.{Shard}
use Rattle.row_blocks.specs.Shard.{shown}
use Rattle.row_blocks.specs.Stands.{StandsForMore}
use Rattle.row_blocks.specs.Settled.{AreSettled}

pub record TakesEntry (old : Shard) (e : LogEntry) (new : Shard) : Type 0 where
  pub number : new.number ≡ old.number
  pub applied : e.pos + 1 < 2 ^ 64 → new.applied ≡ max old.applied (e.pos + 1)
  pub already : e.pos < old.applied → new ≡ old
  pub settled : e.pos + 1 < 2 ^ 64 → (log : List LogEntry) → AreSettled log old → AreSettled log new
  pub stands : old.applied ≤ e.pos → e.pos + 1 < 2 ^ 64 → StandsForMore (shown old) e (shown new)
