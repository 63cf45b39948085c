-- The units of a shard, by their object and extent, and what its calls make of them.
use Rattle.std.specs.Prelude.{◌≡◌, ℕ, Bool, false, ◌==◌, ◌&&◌, if◌then◌else◌, nat_eq, List, Option, Some, None}
use Rattle.std.specs.Map.{lookup}
use Rattle.adg_base.specs.Address.{Place}
use Rattle.adg_base.specs.Shard.{shard_of_unit}
use Rattle.column_codec.specs.Extent.{PlacedColumns}
use Rattle.column_units.specs.declared.unit.Unit.{Unit as ColumnUnit}
use Rattle.column_units.specs.Unit.{IsOf, awaits, loaded, Marks}

-- the number of a shard, and its units by their object and extent
pub record Units : Type 0 where
  pub number : ℕ
  pub entries : List ((ℕ × ℕ) × ColumnUnit)

-- whether two keys, each an object and an extent, are one
abbrev pub same_key : ℕ × ℕ → ℕ × ℕ → Bool
same_key x y = nat_eq x.0 y.0 && nat_eq x.1 y.1

-- the unit of an object and an extent, where one stands
abbrev pub unit_at : Units → ℕ → ℕ → Option ColumnUnit
unit_at s obj extent = lookup (same_key (obj, extent)) s.entries

-- a unit stands where it belongs: in its shard, under its object and extent
pub record Belongs (number obj extent : ℕ) (u : ColumnUnit) : Type 0 where
  pub shard : shard_of_unit obj extent ≡ number
  pub of : IsOf obj extent u

abbrev pub AllBelong : Units → Type 0
AllBelong s = (obj extent : ℕ) (u : ColumnUnit) → unit_at s obj extent ≡ Some u → Belongs s.number obj extent u

-- at each other object and extent the shard has what it had
pub record KeepsOthers (obj extent : ℕ) (old new : Units) : Type 0 where
  pub number : new.number ≡ old.number
  pub others : (o e : ℕ) → (o == obj) && (e == extent) ≡ false → unit_at new o e ≡ unit_at old o e

-- the shard has what it had
pub record KeepsAll (old new : Units) : Type 0 where
  pub number : new.number ≡ old.number
  pub units : (o e : ℕ) → unit_at new o e ≡ unit_at old o e

-- a unit was made of each of the old ones, or none
pub record MakesEach (make : ℕ → Option ColumnUnit → Option ColumnUnit) (old new : Units) : Type 0 where
  pub number : new.number ≡ old.number
  pub units : (o e : ℕ) → unit_at new o e ≡ make o (unit_at old o e)

-- whether a unit stands that is being loaded with this ticket
abbrev pub is_awaited : ℕ → Option ColumnUnit → Bool
is_awaited ticket None = false
is_awaited ticket (Some u) = awaits ticket u

-- the unit with its columns, where it is being loaded with this ticket
abbrev pub installed : ℕ → PlacedColumns → Option ColumnUnit → Option ColumnUnit
installed ticket columns None = None
installed ticket columns (Some u) = if awaits ticket u then Some (loaded columns u) else Some u

-- an address was marked where its unit stands
abbrev pub MarksIn : Place → Option ColumnUnit → Option ColumnUnit → Type 0
MarksIn a None new = new ≡ None
MarksIn a (Some u) None = ⊥
MarksIn a (Some u) (Some v) = Marks a u v
