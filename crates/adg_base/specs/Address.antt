-- Where a row lies, and the places of a block and of an extent.
use Rattle.std.specs.Prelude.{ℕ, ◌*◌, Bool, ◌==◌, ◌&&◌, List, map}
use Rattle.std.specs.List.{flat_map, range_with_len}

-- where a row lies: its object, the block in the object, and the slot in the block
pub record Place : Type 0 where
  pub obj : ℕ
  pub block : ℕ
  pub slot : ℕ

abbrev pub place : ℕ → ℕ → ℕ → Place
place o b s = record { obj = o; block = b; slot = s }

abbrev pub same_place : Place → Place → Bool
same_place a b = (a.obj == b.obj) && (a.block == b.block) && (a.slot == b.slot)

-- the addresses of a block in their order: it has 64 slots
abbrev pub block_places : ℕ → ℕ → List Place
block_places obj block = map (λ slot. place obj block slot) (range_with_len 0 64)

-- the addresses of an extent in their order: it has 16 blocks
abbrev pub extent_places : (obj extent : ℕ) → List Place
extent_places obj extent = flat_map (block_places obj) (range_with_len (16 * extent) 16)
