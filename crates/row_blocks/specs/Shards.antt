-- What the 64 shards keep together, and the committed rows that they give.
use Rattle.std.specs.Prelude.{◌≡◌, ℕ, ◌<◌, ◌≤◌, List, [], ◌∷◌, ◌++◌, map, slice_get, Option, Some, None}
use Rattle.adg_base.specs.Address.{Place}
use Rattle.adg_base.specs.Shard.{shard_of_block, shard_of_txn}
use Rattle.adg_base.specs.declared.value.Value.{Value}
use Rattle.adg_base.specs.declared.log.LogEntry.{LogEntry}
use Rattle.adg_model.specs.Database.{rows_at}
use Rattle.row_blocks.specs.declared.version.Version.{Version}
use Rattle.row_blocks.specs.declared.version.End.{End}
use Rattle.row_blocks.specs.declared.shard.Shard.{Shard}
use Rattle.row_blocks.specs.Pick.{Commits, counted, picked_by, picked}
use Rattle.adg_model.specs.Sound.{IsLog}
use Rattle.row_blocks.specs.Stands.{Kept, none_kept, IsSlot, HasApplied, HasPassed, SameKept, StandsFor}
use Rattle.row_blocks.specs.Shard.{shown}

-- shards by their number
abbrev pub Shards : Type 0
Shards = ℕ → Kept

-- the shards of a list, where a shard's number is its place
abbrev pub kept_or : ℕ → Option Shard → Kept
kept_or n None = none_kept n
kept_or n (Some shard) = shown shard

abbrev pub shards_in : List Shard → Shards
shards_in list = λ n. kept_or n (slice_get list n)

-- the versions at an address are in the shard of its block, and the end of a transaction is in its own shard
abbrev pub versions_in : Shards → Place → List Version
versions_in shards a = (shards (shard_of_block a.obj a.block)).versions a

abbrev pub end_in : Shards → ℕ → Option End
end_in shards t = (shards (shard_of_txn t)).ends t

abbrev pub commits_in : Shards → ℕ → Commits
commits_in shards q = λ t. counted q (end_in shards t)

-- the row that they give at an address
abbrev pub row_in : Shards → ℕ → Place → Option (List Value)
row_in shards q a = picked_by (commits_in shards q) (versions_in shards a)

-- a shard of a number that stands for a log and a floor, and has applied what is up to q
pub record Serves (kept : Kept) (n : ℕ) (log : List LogEntry) (floor q : ℕ) : Type 0 where
  pub number : kept.number ≡ n
  pub stands : StandsFor kept log floor
  pub applied : HasApplied kept log q

-- The pick over the versions of an address in one shard, with the ends of their transactions each from the shard
-- of the transaction, is the committed row. The shards may have come to different places of the log.
abbrev pub PickGivesRow : Type 0
PickGivesRow =
    (log : List LogEntry) (frontier floor q : ℕ) → IsLog log frontier → floor ≤ q
    → (a : Place) → IsSlot a → (block : Kept) → Serves block (shard_of_block a.obj a.block) log floor q
    → (of_txn : ℕ → Kept) → ((t : ℕ) → Serves (of_txn t) (shard_of_txn t) log floor q)
    → picked q (block.versions a) (map (λ v. (of_txn v.txn).ends v.txn) (block.versions a)) ≡ rows_at log q a

-- So the 64 shards give each committed row.
abbrev pub ShardsGiveRows : Type 0
ShardsGiveRows =
    (log : List LogEntry) (frontier floor q : ℕ) → IsLog log frontier → floor ≤ q
    → (shards : Shards) → ((n : ℕ) → n < 64 → Serves (shards n) n log floor q)
    → (a : Place) → IsSlot a → row_in shards q a ≡ rows_at log q a

-- shards of which each has the number of its place
abbrev pub AreNumbered : Shards → Type 0
AreNumbered shards = (n : ℕ) → n < 64 → (shards n).number ≡ n

-- The shards stand for a log and a floor, and have passed its first entries.
pub record StandAt (shards : Shards) (log first : List LogEntry) (floor : ℕ) : Type 0 where
  pub numbers : AreNumbered shards
  pub each : (n : ℕ) → n < 64 → StandsFor (shards n) log floor
  pub passed : (n : ℕ) → n < 64 → HasPassed (shards n) first

-- with nothing applied they stand at the beginning of each log
abbrev pub StandAtStart : Shards → Type 0
StandAtStart shards = (log : List LogEntry) (frontier : ℕ) → IsLog log frontier → StandAt shards log [] 0

-- one entry more: where they had passed the entries before it, they have passed it too
abbrev pub PassesEntry : Shards → LogEntry → Shards → Type 0
PassesEntry old e new =
    (log : List LogEntry) (frontier floor : ℕ) → IsLog log frontier → (first rest : List LogEntry) → log ≡ first ++ e ∷ rest
    → StandAt old log first floor → StandAt new log (first ++ e ∷ []) floor

-- each shard keeps the same
abbrev pub KeepSame : Shards → Shards → Type 0
KeepSame new old = (n : ℕ) → n < 64 → SameKept (new n) (old n)

-- once they have passed a log they give its committed rows at each SCN from the floor on
abbrev pub PassedGiveRows : Type 0
PassedGiveRows =
    (shards : Shards) (log : List LogEntry) (frontier floor q : ℕ) → IsLog log frontier → StandAt shards log log floor → floor ≤ q
    → (a : Place) → IsSlot a → row_in shards q a ≡ rows_at log q a
