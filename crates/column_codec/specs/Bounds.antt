-- Where the smallest and the largest value stand first.
use Rattle.std.specs.Prelude.{◌≡◌, ℕ, Bool, true, false, List, ◌∷◌, ◌++◌, length, Option, Some, None}
use Rattle.std.specs.List.{AllByRecursion}
use Rattle.std.specs.Ordering.{is_lt, is_gt}
use Rattle.std.specs.declared.cmp.Ordering.{Ordering}
use Rattle.adg_base.specs.declared.value.Value.{Value}
use Rattle.adg_base.specs.Values.{value_cmp, is_null, shown}
use Rattle.column_codec.specs.declared.bounds.Bounds.{Bounds as Ends}
use Rattle.column_codec.specs.declared.bounds.Side.{Side}
use Rattle.column_codec.specs.declared.bounds.Side.TheVariants.{Least, Greatest}
use Rattle.column_codec.specs.declared.bounds.Found.{Found}

-- A value that is there comes first: it beats each value before it, and none behind it beats it.
pub record ComesFirst (better : Ordering → Bool) (values : List Value) (place : ℕ) (value : Value) : Type 0 where
  pub before : List Value
  pub after : List Value
  pub split : values ≡ before ++ value ∷ after
  pub at : length before ≡ place
  pub there : is_null value ≡ false
  pub first : AllByRecursion (λ w. is_null w ≡ false → better (value_cmp value w) ≡ true) before
  pub best : AllByRecursion (λ w. is_null w ≡ false → better (value_cmp w value) ≡ false) after

abbrev pub IsFirst : (Ordering → Bool) → List Value → ℕ → Type 0
IsFirst better values place = (value : Value) × ComesFirst better values place value

-- no value is there
abbrev pub AreNull : List Value → Type 0
AreNull values = AllByRecursion (λ v. is_null v ≡ true) values

-- the place of the value that comes first, or None where no value is there
abbrev pub IsFirstPlace : (Ordering → Bool) → List Value → Option ℕ → Type 0
IsFirstPlace better values None = AreNull values
IsFirstPlace better values (Some place) = IsFirst better values place

-- where they stand first, or None where all values are Null
abbrev pub AreBounds : List Value → Option Ends → Type 0
AreBounds values None = AreNull values
AreBounds values (Some ends) = IsFirst is_lt values ends.least × IsFirst is_gt values ends.greatest

-- a value beats another on a side where it is less, or greater
abbrev pub better_of : Side → Ordering → Bool
better_of Least = is_lt
better_of Greatest = is_gt

-- what was found in values: the one that comes first, or None where no value is there
abbrev pub HasFound : (Ordering → Bool) → List Value → Option Found → Type 0
HasFound better values None = AreNull values
HasFound better values (Some found) = ComesFirst better values found.place (shown found.value)
