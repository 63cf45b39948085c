-- How a scan goes on, from address to address.
use Rattle.std.specs.Prelude.{◌≡◌, ℕ, ◌+◌, ◌*◌, ◌/◌, ◌%◌, ◌<◌, ◌≤◌, Bool, false, ◌==◌, nat_lt, ◌&&◌, ◌||◌, List, ◌++◌, length, get_or, slice_index_or, Option, Some, None, option_to_list}
use Rattle.std.specs.Int.{bit_at}
use Rattle.adg_base.specs.Address.{Place, place, same_place}
use Rattle.adg_base.specs.declared.value.Value.{Value}
use Rattle.hybrid_scan.specs.declared.scan.ExtentCounts.{ExtentCounts}

-- an address of an extent by its number: 64 of them are a block
abbrev pub nth_place : ℕ → ℕ → ℕ → Place
nth_place obj extent index = place obj (16 * extent + index / 64) (index % 64)

-- whether a map marks the address with a number: it has a word for each 64 of them
abbrev pub marks_nth : List ℕ → ℕ → Bool
marks_nth map index = bit_at (slice_index_or map (index / 64) 0) (index % 64) == 1

-- no address from a number up to another is marked
abbrev pub AreClear : List ℕ → ℕ → ℕ → Type 0
AreClear map from to = (k : ℕ) → from ≤ k → k < to → marks_nth map k ≡ false

-- whether an address of an extent comes before another
abbrev pub is_earlier : Place → Place → Bool
is_earlier a b = nat_lt a.block b.block || (a.block == b.block) && nat_lt a.slot b.slot

-- just the first so many of some addresses come before one
abbrev pub IsBorder : List Place → Place → ℕ → Type 0
IsBorder addresses a n = (k : ℕ) (d : Place) → k < length addresses → is_earlier (get_or addresses k d) a ≡ nat_lt k n

-- whether there is an address, and it is this one
abbrev pub is_here : Option Place → Place → Bool
is_here None a = false
is_here (Some b) a = same_place a b

-- the store's row at an address was handed over and counted, with a step, if there is one
pub record HasAdded (row : Option (List Value)) (before after : List (List Value)) (counts counts' : ExtentCounts) (steps steps' : ℕ) : Type 0 where
  pub added : after ≡ before ++ option_to_list row
  pub columns : counts'.from_columns ≡ counts.from_columns
  pub blocks : counts'.from_blocks ≡ counts.from_blocks + length (option_to_list row)
  pub cost : steps' ≡ steps + length (option_to_list row)

-- rows were handed over and counted, with a step for each that the store gave
pub record HasScanned (all stored before after : List (List Value)) (counts : ExtentCounts) (steps steps' : ℕ) : Type 0 where
  pub added : after ≡ before ++ all
  pub count : counts.from_columns + counts.from_blocks ≡ length all
  pub blocks : counts.from_blocks ≡ length stored
  pub cost : steps' ≡ steps + counts.from_blocks
