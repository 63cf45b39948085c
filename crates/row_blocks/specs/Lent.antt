-- Rows that are lent, and those of a block.
use Rattle.std.specs.Prelude.{ℕ, List, [], map, slice_index_or}
use Rattle.std.specs.Borrow.{Bor}
use Rattle.std.specs.List.{filter_map, range_with_len}
use Rattle.adg_base.specs.declared.value.Value.{Value}
use Rattle.row_blocks.specs.declared.version.Version.{Version}
use Rattle.row_blocks.specs.Pick.{Commits, picked_by}

-- the rows behind references
abbrev pub lent : {X : Type 0} → List (Bor X) → List X
lent rows = map (λ r. r.now) rows

-- the rows at the first so many slots of a block
abbrev pub rows_in_slots : Commits → List (List Version) → ℕ → List (List Value)
rows_in_slots commits slots count = filter_map (λ slot. picked_by commits (slice_index_or slots slot [])) (range_with_len 0 count)
