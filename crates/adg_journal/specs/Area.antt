-- What an area holds, as a finite map by transaction.
use Rattle.std.specs.Prelude.{◌≡◌, ℕ, ◌<◌, ◌⊎◌, Bool, true, false, ◌==◌, nat_eq, if◌then◌else◌, List, [], ◌∷◌, length, map, Option, Some, None, IfSome}
use Rattle.std.specs.List.{IsDistinct}
use Rattle.adg_base.specs.Address.{Place}
use Rattle.adg_base.specs.Area.{Held}
use Rattle.adg_journal.specs.Places.{EachOnce}

-- what is held of a transaction
abbrev pub held_of : List Held → ℕ → Option Held
held_of [] txn = None
held_of (held ∷ area) txn = if txn == held.txn then Some held else held_of area txn

abbrev pub places_in : Option Held → List Place
places_in None = []
places_in (Some held) = held.places

abbrev pub begun_in : Option Held → Bool
begun_in None = false
begun_in (Some held) = held.begun

-- the addresses that are held of a transaction, in the order in which they were noted first
abbrev pub places_of : List Held → ℕ → List Place
places_of area txn = places_in (held_of area txn)

-- whether the beginning of a transaction is held
abbrev pub is_begun : List Held → ℕ → Bool
is_begun area txn = begun_in (held_of area txn)

-- of one transaction this is held now, and of each other what was held before
abbrev pub Sets : List Held → List Held → ℕ → Option Held → Type 0
Sets old new txn held = (other : ℕ) → held_of new other ≡ (if txn == other then held else held_of old other)

-- of each transaction the same is held
abbrev pub HoldsSame : List Held → List Held → Type 0
HoldsSame old new = (txn : ℕ) → held_of new txn ≡ held_of old txn

-- what is held of a transaction is its beginning or an address, and no address twice
pub record IsHeld (held : Held) : Type 0 where
  pub some : (held.begun ≡ true) ⊎ (0 < length held.places)
  pub once : EachOnce held.places

-- no transaction stands there twice, and of each one something is held
pub record IsArea (area : List Held) : Type 0 where
  pub once : IsDistinct nat_eq (map (λ (held : Held). held.txn) area)
  pub each : (txn : ℕ) → IfSome (held_of area txn) IsHeld
