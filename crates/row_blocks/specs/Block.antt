-- What the calls of a block find and change.
use Rattle.std.specs.Prelude.{◌≡◌, ℕ, ◌+◌, ◌==◌, if◌then◌else◌, true, false, List, [], drop, slice_get, slice_index_or, Option, Some, None}
use Rattle.std.specs.List.{list_any}
use Rattle.row_blocks.specs.declared.version.Version.{Version}
use Rattle.row_blocks.specs.Versions.{stands}

-- no version of the transaction stands, or the one at this index does and none after it
abbrev pub IsLatest : ℕ → List Version → Option ℕ → Type 0
IsLatest t versions None = list_any (stands t) versions ≡ false
IsLatest t versions (Some i) =
    (v : Version) × (slice_get versions i ≡ Some v) × (stands t v ≡ true) × (list_any (stands t) (drop (i + 1) versions) ≡ false)

-- a version that was taken back
abbrev pub IsStruck : Version → Type 0
IsStruck v = v.struck ≡ true

-- one slot of a block has other versions, and the others have the same
abbrev pub SetsSlot : List (List Version) → List (List Version) → ℕ → List Version → Type 0
SetsSlot old new slot versions = (s : ℕ) → slice_index_or new s [] ≡ (if s == slot then versions else slice_index_or old s [])
