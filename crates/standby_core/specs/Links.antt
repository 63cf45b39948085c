-- What the worklinks of a flush show, and how the numbers beside them are tied to their stages.
use Rattle.std.specs.Prelude.{◌≡◌, ℕ, ◌+◌, ◌*◌, ◌/◌, ◌≤◌, Bool, true, false, nat_le, List, length, count_by, Some}
use Rattle.std.specs.List.{Contains, AllByRecursion}
use Rattle.std.specs.List.Sorted.{IsNonDecreasingBy}
use Rattle.adg_base.specs.Address.{Place}
use Rattle.adg_base.specs.Shard.{shard_of_unit}
use Rattle.adg_base.specs.declared.node.Item.{Item}
use Rattle.worklinks.specs.declared.collected.Collected.{Collected as Gathered}
use Rattle.core_rules.specs.State.{Collected, Stage, Link, At, Quiesce, has_change, HasCollected}
use Rattle.core_rules.specs.State as rules
use Rattle.standby_core.specs.declared.link.Stage.{Stage as OwnStage}
use Rattle.standby_core.specs.declared.link.Stage.TheVariants.{Unclaimed, Claimed, Finished}
use Rattle.standby_core.specs.declared.link.Link.{Link as OwnLink}
use Rattle.standby_core.specs.declared.flush.Quiesce.{Quiesce as OwnQuiesce}
use Rattle.standby_core.specs.declared.flush.Quiesce.TheVariants.{Idle, Shared, Flushing}
use Rattle.standby_core.specs.declared.flush.Flush.{Flush}
use Rattle.standby_core.specs.Each.{EachAt}

-- who keeps publication back
abbrev pub quiesce_shown : OwnQuiesce → Quiesce
quiesce_shown Idle = rules.Idle
quiesce_shown (Shared n) = rules.Shared n
quiesce_shown (Flushing through) = rules.Flushing through

-- a stage, with what is collected
abbrev pub stage_with : List Collected → OwnStage → Stage
stage_with collected Unclaimed = rules.Unclaimed
stage_with collected (Claimed actor cursor) = rules.Claimed actor cursor collected
stage_with collected Finished = rules.Finished

abbrev pub is_unclaimed : OwnStage → Bool
is_unclaimed Unclaimed = true
is_unclaimed (Claimed actor cursor) = false
is_unclaimed Finished = false

abbrev pub is_finished : OwnStage → Bool
is_finished Unclaimed = false
is_finished (Claimed actor cursor) = false
is_finished Finished = true

-- the unit shard of an address
abbrev pub shard_of_place : Place → ℕ
shard_of_place a = shard_of_unit a.obj (a.block / 16)

-- one of some lists is of a transaction and has an address
pub record HasGathered (lists : List Gathered) (t : ℕ) (a : Place) : Type 0 where
  pub entry : Gathered
  pub within : Contains lists entry
  pub of : entry.txn ≡ t
  pub noted : Contains entry.addrs a

-- a list is of a transaction whose changes are to be marked, with its addresses by unit shard
pub record IsReadyList (items : List Item) (list : Gathered) : Type 0 where
  pub change : has_change list.txn items ≡ true
  pub order : IsNonDecreasingBy shard_of_place list.addrs

-- how many lists there can be: at most one for each item from each area that the cursor has passed
abbrev pub AreFew : OwnStage → (lists items : ℕ) → Type 0
AreFew Unclaimed lists items = lists ≡ 0
AreFew (Claimed actor cursor) lists items = lists ≤ cursor * items
AreFew Finished lists items = Unit {0}

-- A worklink: its items and its stage. Of what the definitions call collected it has the addresses of the transactions
-- whose changes are to be marked, and has room for what is to come.
pub record ShowsLink (workers : ℕ) (x : OwnLink) (l : Link) : Type 0 where
  pub items : x.items ≡ l.items
  pub collected : List Collected
  pub stage : l.stage ≡ stage_with collected x.stage
  pub gathered : (t : ℕ) (a : Place) → has_change t x.items ≡ true → HasCollected collected t a → HasGathered x.collected.lists t a
  pub only : (t : ℕ) (a : Place) → HasGathered x.collected.lists t a → HasCollected collected t a
  pub lists : AllByRecursion (IsReadyList x.items) x.collected.lists
  pub room : x.collected.room ≡ length x.items * workers
  pub few : AreFew x.stage (length x.collected.lists) (length x.items)

-- The numbers: the worklinks up to one were claimed, so many are done, and each actor has the number of the one that it
-- holds.
pub record AreNumbers (workers : ℕ) (flush : Flush) : Type 0 where
  pub claimed : (n : ℕ) (x : OwnLink) → At flush.links.items n x → is_unclaimed x.stage ≡ nat_le flush.claimed n
  pub within : flush.claimed ≤ length flush.links.items
  pub done : flush.done ≡ count_by (λ (x : OwnLink). is_finished x.stage) flush.links.items
  pub actors : length flush.held.items ≡ workers + 1
  pub held : (actor n cursor : ℕ) (x : OwnLink) → At flush.links.items n x → x.stage ≡ Claimed actor cursor → At flush.held.items actor (Some n)
  pub holds : (actor n : ℕ) → At flush.held.items actor (Some n) → (x : OwnLink) × (cursor : ℕ) × At flush.links.items n x × (x.stage ≡ Claimed actor cursor)

pub record ShowsFlush (workers : ℕ) (flush : Flush) (q : Quiesce) (ls : List Link) : Type 0 where
  pub quiesce : q ≡ quiesce_shown flush.quiesce
  pub links : EachAt (λ n. ShowsLink workers) flush.links.items ls
  pub numbers : AreNumbers workers flush
