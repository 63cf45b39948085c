-- Two lists of one length that are related place by place.
use Rattle.std.specs.Prelude.{◌≡◌, ℕ, List, length}
use Rattle.core_rules.specs.State.{At}

pub record EachAt {X Y : Type 0} (R : ℕ → X → Y → Type 0) (xs : List X) (ys : List Y) : Type 0 where
  pub same_length : length xs ≡ length ys
  pub each : (n : ℕ) (x : X) (y : Y) → At xs n x → At ys n y → R n x y
