-- What shards that serve an SCN know of settled versions is so for a pick there.
use Rattle.std.proofs.Common.{◌≡◌, ℕ, List, Some, sym, ap, ◌∙◌, subst}
use Rattle.std.specs.List.{slice_get}
use Rattle.adg_base.specs.Address.{Place}
use Rattle.adg_base.specs.Shard.{shard_of_block}
use Rattle.row_blocks.specs.declared.shard.Shard.{Shard}
use Rattle.row_blocks.specs.declared.version.Version.{Version}
use Rattle.row_blocks.specs.Stands.{IsSlot}
use Rattle.row_blocks.specs.Shard.{shown}
use Rattle.row_blocks.specs.Shards.{shards_in, kept_or, versions_in, commits_in}
use Rattle.row_blocks.specs.Settled.{AreBehind, settled_at}
use Rattle.row_blocks.proofs.Settling.{served_behind}
use Rattle.hybrid_scan.specs.Reader.{AreServing}

pub known_behind : (shards : List Shard) (q : ℕ) → AreServing shards q → (a : Place) → IsSlot a → (n : ℕ) (shard : Shard) → slice_get shards n ≡ Some shard
    → AreBehind (commits_in (shards_in shards) q) ((shown shard).versions a) (settled_at shard a)
known_behind shards q s a slot n shard at =
    served_behind s.log s.frontier s.floor q s.is_log (shards_in shards) s.serve ((shown shard).versions a) (settled_at shard a) (s.settled n shard at a slot)

-- for the versions that all shards have there
pub known_versions : (shards : List Shard) (q : ℕ) → AreServing shards q → (a : Place) → IsSlot a → (shard : Shard) → slice_get shards (shard_of_block a.obj a.block) ≡ Some shard
    → (versions : List Version) → versions ≡ versions_in (shards_in shards) a → AreBehind (commits_in (shards_in shards) q) versions (settled_at shard a)
known_versions shards q s a slot shard at versions is =
    subst (λ vs. AreBehind (commits_in (shards_in shards) q) vs (settled_at shard a))
    (sym (is ∙ ap (λ o. (kept_or (shard_of_block a.obj a.block) o).versions a) at))
    (known_behind shards q s a slot (shard_of_block a.obj a.block) shard at)
