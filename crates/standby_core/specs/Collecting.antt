-- What a worklink takes from an area.
use Rattle.std.specs.Prelude.{◌≡◌, ℕ, ◌+◌, ◌≤◌, Bool, true, false, ◌==◌, if◌then◌else◌, List, length, None, ◌⊎◌}
use Rattle.std.specs.List.{Contains, AllByRecursion}
use Rattle.adg_base.specs.Address.{Place}
use Rattle.adg_base.specs.Area.{Held}
use Rattle.adg_base.specs.declared.node.Item.{Item}
use Rattle.adg_base.specs.declared.node.Item.TheVariants as item
use Rattle.adg_journal.specs.Area.{held_of, places_of, IsArea}
use Rattle.worklinks.specs.declared.collected.Collected.{Collected as Gathered}
use Rattle.worklinks.specs.Gathered.{Gathered as Lists}
use Rattle.core_rules.specs.State.{has_txn, has_change}
use Rattle.standby_core.specs.declared.link.Link.{Link}
use Rattle.standby_core.specs.Links.{HasGathered, IsReadyList}

-- whether an item asks no more than that what is held of a transaction is let go
abbrev pub is_let_go_by : ℕ → Item → Bool
is_let_go_by t (item.Change txn) = false
is_let_go_by t (item.Coarse txn) = txn == t
is_let_go_by t (item.Forget txn) = txn == t
is_let_go_by t (item.DropObject obj) = false

-- an area holds nothing any more of some transactions, and of each other one what it held
abbrev pub GivesOut : (ℕ → Bool) → List Held → List Held → Type 0
GivesOut asked old new = (t : ℕ) → held_of new t ≡ (if asked t then None else held_of old t)

-- lists gain the addresses that an area holds of some transactions
pub record Gathers (asked : ℕ → Bool) (area : List Held) (old new : List Gathered) : Type 0 where
  pub kept : (t : ℕ) (a : Place) → HasGathered old t a → HasGathered new t a
  pub gained : (t : ℕ) (a : Place) → asked t ≡ true → Contains (places_of area t) a → HasGathered new t a
  pub only : (t : ℕ) (a : Place) → HasGathered new t a → HasGathered old t a ⊎ ((asked t ≡ true) × Contains (places_of area t) a)

-- of some transactions an area gives out what it holds, in at most so many lists, each in the order of unit shards
pub record Takes (asked : ℕ → Bool) (most : ℕ) (area area' : List Held) (old new : Lists) : Type 0 where
  pub is_area : IsArea area'
  pub gives : GivesOut asked area area'
  pub gathers : Gathers asked area old.lists new.lists
  pub room : new.room ≡ old.room
  pub few : length new.lists ≤ length old.lists + most
  pub ready : (items : List Item) → ((t : ℕ) → asked t ≡ true → has_change t items ≡ true) → AllByRecursion (IsReadyList items) old.lists → AllByRecursion (IsReadyList items) new.lists

-- A worklink takes from an area what its items ask for: an area gives out all of its transactions, and it keeps what is
-- to be marked.
pub record TakesArea (area area' : List Held) (old new : Link) : Type 0 where
  pub items : new.items ≡ old.items
  pub stage : new.stage ≡ old.stage
  pub is_area : IsArea area'
  pub gives : GivesOut (λ t. has_txn t old.items) area area'
  pub gathers : Gathers (λ t. has_change t old.items) area old.collected.lists new.collected.lists
  pub room : new.collected.room ≡ old.collected.room
  pub few : length new.collected.lists ≤ length old.collected.lists + length old.items
  pub lists : AllByRecursion (IsReadyList old.items) old.collected.lists → AllByRecursion (IsReadyList old.items) new.collected.lists
