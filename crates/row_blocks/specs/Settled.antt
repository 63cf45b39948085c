-- Versions whose transactions have all ended.
use Rattle.std.specs.Prelude.{◌≡◌, ℕ, ◌≤◌, Bool, ◌&&◌, nat_eq, List, take, length, slice_get, ◌⊎◌, Option, Some, None}
use Rattle.std.specs.List.{AllByRecursion}
use Rattle.std.specs.HashMap as hash
use Rattle.adg_base.specs.Address.{Place}
use Rattle.adg_base.specs.declared.log.LogEntry.{LogEntry}
use Rattle.row_blocks.specs.declared.version.Version.{Version}
use Rattle.row_blocks.specs.declared.version.End.{End}
use Rattle.row_blocks.specs.declared.settled.Settled.{Settled}
use Rattle.row_blocks.specs.declared.shard.Shard.{Shard}
use Rattle.row_blocks.specs.Pick.{Commits}
use Rattle.row_blocks.specs.Versions.{end_of}
use Rattle.row_blocks.specs.Stands.{IsSlot}
use Rattle.row_blocks.specs.Shard.{shown}
use Rattle.row_blocks.specs.Shards.{Shards, end_in}

abbrev pub unsettled : Settled
unsettled = record { count = 0; upto = 0 }

-- the end of a transaction is at a position up to one
abbrev pub EndsUpto : ℕ → Option End → Type 0
EndsUpto upto None = ⊥
EndsUpto upto (Some e) = e.pos ≤ upto

-- the transactions of the first so many versions have all ended up to a position
pub record AreEnded (ends : ℕ → Option End) (versions : List Version) (s : Settled) : Type 0 where
  pub within : s.count ≤ length versions
  pub ended : AllByRecursion (λ v. EndsUpto s.upto (ends v.txn)) (take s.count versions)

-- those of them that committed and count did so up to the position
pub record AreBehind (commits : Commits) (versions : List Version) (s : Settled) : Type 0 where
  pub within : s.count ≤ length versions
  pub behind : AllByRecursion (λ v. (c : ℕ) → commits v.txn ≡ Some c → c ≤ s.upto) (take s.count versions)

-- what a shard knows of an address
abbrev pub settled_or : Option Settled → Settled
settled_or None = unsettled
settled_or (Some s) = s

abbrev pub same_addr : Place → Place → Bool
same_addr x y = nat_eq x.obj y.obj && (nat_eq x.block y.block && nat_eq x.slot y.slot)

abbrev pub settled_at : Shard → Place → Settled
settled_at shard a = settled_or (hash.get same_addr shard.settled a)

-- all that a shard knows is so in a log
abbrev pub AreSettled : List LogEntry → Shard → Type 0
AreSettled log shard = (a : Place) → IsSlot a → AreEnded (end_of log) ((shown shard).versions a) (settled_at shard a)

-- the ends that shards have are those of a log
abbrev pub AreEndsOf : List LogEntry → Shards → Type 0
AreEndsOf log shards = (t : ℕ) (e : End) → end_in shards t ≡ Some e → end_of log t ≡ Some e

abbrev pub AreEachSettled : List LogEntry → List Shard → Type 0
AreEachSettled log shards = (n : ℕ) (shard : Shard) → slice_get shards n ≡ Some shard → AreSettled log shard

-- of one address another count is known, or nothing changed
abbrev pub SetsSettled : Shard → Shard → Place → Settled → Type 0
SetsSettled old new b s = (a : Place) → (settled_at new a ≡ settled_at old a) ⊎ ((a ≡ b) × (settled_at new a ≡ s))
