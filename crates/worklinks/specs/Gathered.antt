-- What a flush collects for the transactions of a worklink.
use Rattle.std.specs.Prelude.{ℕ, List}
use Rattle.worklinks.specs.declared.collected.Collected.{Collected}

-- the lists collected so far, and how many there is room for in all
pub record Gathered : Type 0 where
  pub lists : List Collected
  pub room : ℕ
