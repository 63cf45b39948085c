-- What a worklink does to the units of a shard.
use Rattle.std.specs.Prelude.{◌≡◌, ℕ, ◌/◌, nat_lt, nat_le, Bool, true, false, ◌||◌, List, Option, Some, None, ◌⊎◌}
use Rattle.std.specs.List.{Contains}
use Rattle.std.specs.List.Sorted.{IsPartitionPoint}
use Rattle.adg_base.specs.Address.{Place}
use Rattle.adg_base.specs.declared.node.Item.{Item}
use Rattle.worklinks.specs.declared.collected.Collected.{Collected as Gathered}
use Rattle.column_units.specs.declared.unit.Unit.{Unit as OwnUnit}
use Rattle.column_units.specs.Unit.{is_marked}
use Rattle.column_units.specs.Shard.{Units, unit_at}
use Rattle.core_rules.specs.State.{has_coarse, has_drop}
use Rattle.standby_core.specs.Links.{shard_of_place}

-- an address is one of an extent
pub record IsOfExtent (obj extent : ℕ) (a : Place) : Type 0 where
  pub object : a.obj ≡ obj
  pub extent_is : a.block / 16 ≡ extent

-- the unit of an extent has more marks, or is marked wholly, and is else as it was
pub record GainsMarks (more : Place → Type 0) (whole : Bool) (obj extent : ℕ) (old new : OwnUnit) : Type 0 where
  pub snapshot : new.snapshot ≡ old.snapshot
  pub ticket : new.ticket ≡ old.ticket
  pub state : new.state ≡ old.state
  pub all : new.all ≡ (old.all || whole)
  pub kept : (a : Place) → is_marked old a ≡ true → is_marked new a ≡ true
  pub gained : (a : Place) → more a → IsOfExtent obj extent a → is_marked new a ≡ true
  pub only : (a : Place) → is_marked new a ≡ true → (is_marked old a ≡ true) ⊎ (more a × IsOfExtent obj extent a)

-- where a unit stands it gains marks, and where none stands none does afterwards
abbrev pub GainsAny : (Place → Type 0) → Bool → (obj extent : ℕ) → Option OwnUnit → Option OwnUnit → Type 0
GainsAny more whole obj extent None new = new ≡ None
GainsAny more whole obj extent (Some u) None = ⊥
GainsAny more whole obj extent (Some u) (Some v) = GainsMarks more whole obj extent u v

-- each unit of a shard gains marks
pub record MarksUnits (more : Place → Type 0) (whole : Bool) (old new : Units) : Type 0 where
  pub number : new.number ≡ old.number
  pub units : (obj extent : ℕ) → GainsAny more whole obj extent (unit_at old obj extent) (unit_at new obj extent)

-- in a list in the order of shards, where a shard starts, and where it ends
abbrev pub StartsAt : ℕ → List Place → ℕ → Type 0
StartsAt shard places from = IsPartitionPoint (λ a. nat_lt (shard_of_place a) shard ≡ true) (λ a. nat_lt (shard_of_place a) shard ≡ false) places from

abbrev pub EndsAt : ℕ → List Place → ℕ → Type 0
EndsAt shard places to = IsPartitionPoint (λ a. nat_le (shard_of_place a) shard ≡ true) (λ a. nat_le (shard_of_place a) shard ≡ false) places to

-- addresses have one, and it is of a shard
pub record IsInShard (places : List Place) (shard : ℕ) (a : Place) : Type 0 where
  pub noted : Contains places a
  pub of : shard_of_place a ≡ shard

-- one of some lists has an address of a shard
pub record IsListed (lists : List Gathered) (shard : ℕ) (a : Place) : Type 0 where
  pub list : Gathered
  pub within : Contains lists list
  pub there : IsInShard list.addrs shard a

-- a unit stays, and has the marks that a worklink asks for
pub record StaysMarked (items : List Item) (more : Place → Type 0) (obj extent : ℕ) (old : OwnUnit) (new : Option OwnUnit) : Type 0 where
  pub kept : has_drop obj items ≡ false
  pub unit : OwnUnit
  pub stands : new ≡ Some unit
  pub marks : GainsMarks more (has_coarse items) obj extent old unit

-- where a unit stands it is dropped if an item says so, else it is marked; where none stands none does afterwards
abbrev pub TouchesAny : List Item → (Place → Type 0) → (obj extent : ℕ) → Option OwnUnit → Option OwnUnit → Type 0
TouchesAny items more obj extent None new = new ≡ None
TouchesAny items more obj extent (Some old) new = ((has_drop obj items ≡ true) × (new ≡ None)) ⊎ StaysMarked items more obj extent old new

-- the units of a shard are dropped or get the marks of some lists
pub record TouchesUnits (items : List Item) (lists : List Gathered) (old new : Units) : Type 0 where
  pub number : new.number ≡ old.number
  pub units : (obj extent : ℕ) → TouchesAny items (IsListed lists old.number) obj extent (unit_at old obj extent) (unit_at new obj extent)
