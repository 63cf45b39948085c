-- What two lists of what is held have in common: to whom they hold what, and not in which order.
use Rattle.std.specs.Prelude.{ℕ, List}
use Rattle.adg_base.specs.Address.{Place}
use Rattle.adg_base.specs.Area.{Held, HoldsPlace, HoldsBegin}

-- they hold the same addresses and the same beginnings for the same transactions
pub record SameHeld (xs ys : List Held) : Type 0 where
  pub places : (t : ℕ) (a : Place) → HoldsPlace xs t a → HoldsPlace ys t a
  pub places_back : (t : ℕ) (a : Place) → HoldsPlace ys t a → HoldsPlace xs t a
  pub begins : (t : ℕ) → HoldsBegin xs t → HoldsBegin ys t
  pub begins_back : (t : ℕ) → HoldsBegin ys t → HoldsBegin xs t
