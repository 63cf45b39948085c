-- What a shard shows of what it keeps, and what its calls make of it.
use Rattle.std.specs.Prelude.{◌≡◌, ℕ, Bool, ◌==◌, ◌&&◌, if◌then◌else◌, nat_eq, List, [], slice_index_or, Option, Some, None}
use Rattle.std.specs.HashMap as hash
use Rattle.adg_base.specs.Address.{Place, same_place}
use Rattle.row_blocks.specs.declared.version.Version.{Version}
use Rattle.row_blocks.specs.declared.version.End.{End}
use Rattle.row_blocks.specs.declared.shard.Shard.{Shard}
use Rattle.row_blocks.specs.Versions.{Deed, after_deed, earlier}
use Rattle.row_blocks.specs.Stands.{Kept, IsSlot}
use Rattle.row_blocks.specs.Ends.{end_at}

-- whether two blocks, each an object and its number there, are one
abbrev pub same_block : ℕ × ℕ → ℕ × ℕ → Bool
same_block x y = nat_eq x.0 y.0 && nat_eq x.1 y.1

-- the versions at a slot of a block, if there is the block
abbrev pub at_slot : Option (List (List Version)) → ℕ → List Version
at_slot None slot = []
at_slot (Some slots) slot = slice_index_or slots slot []

abbrev pub shown : Shard → Kept
shown shard = record {
  number = shard.number;
  applied = shard.applied;
  versions = λ a. at_slot (hash.get same_block shard.blocks (a.obj, a.block)) a.slot;
  ends = λ t. end_at shard.ends t;
}

-- a deed was done at one place, and nothing else
pub record DoesAt (old new : Kept) (b : Place) (pos : ℕ) (d : Deed) : Type 0 where
  pub number : new.number ≡ old.number
  pub applied : new.applied ≡ old.applied
  pub versions : (a : Place) → IsSlot a → new.versions a ≡ after_deed (old.versions a) pos (if same_place a b then Some d else None)
  pub ends : (t : ℕ) → new.ends t ≡ old.ends t

-- a transaction ended, unless it had, and nothing else
pub record EndsAt (old new : Kept) (txn : ℕ) (end : End) : Type 0 where
  pub number : new.number ≡ old.number
  pub applied : new.applied ≡ old.applied
  pub versions : (a : Place) → IsSlot a → new.versions a ≡ old.versions a
  pub ends : (t : ℕ) → new.ends t ≡ earlier (old.ends t) (if txn == t then Some end else None)
