-- The picked version is the committed row.
use Rattle.std.specs.Prelude.{◌≡◌, ℕ, List}
use Rattle.adg_base.specs.Address.{Place}
use Rattle.adg_base.specs.declared.log.LogEntry.{LogEntry}
use Rattle.adg_model.specs.Database.{rows_at}
use Rattle.adg_model.specs.Sound.{IsLog}
use Rattle.row_blocks.specs.Pick.{Commits, counted, picked_by}
use Rattle.row_blocks.specs.Versions.{versions_of, end_of}

-- where the transactions of a log committed that count at an SCN
abbrev pub commits_at : List LogEntry → ℕ → Commits
commits_at log q = λ t. counted q (end_of log t)

abbrev pub PickedIsCommitted : Type 0
PickedIsCommitted =
    (log : List LogEntry) (frontier : ℕ) → IsLog log frontier → (q : ℕ) (a : Place)
    → picked_by (commits_at log q) (versions_of log a) ≡ rows_at log q a
