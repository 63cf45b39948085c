-- The random source, and what a transfer draws from it.
use Rattle.std.specs.Prelude.{ℕ, zero, suc, ◌+◌, ◌*◌, ◌/◌, ◌%◌, ◌^◌, ◌==◌}
use Rattle.feed_gen.specs.declared.transfer.Transfer.{Transfer}

-- the source after one draw
unfoldable pub next : ℕ → ℕ
next source = (source * 6364136223846793005 + 1442695040888963407) % 2 ^ 64

-- the number below n that is drawn where the source now is this
unfoldable pub below : ℕ → ℕ → ℕ
below n source = (source / 2 ^ 33) % n

-- the source after so many draws
abbrev pub draws : ℕ → ℕ → ℕ
draws zero source = source
draws (suc n) source = draws n (next source)

-- A transfer draws six numbers: its table, the branch, the row that gives, the row that gets, the amount
-- and its fate. A branch has every fifth row.
abbrev pub drawn : ℕ → Transfer
drawn source = record {
  table = 1 + below 20 (draws 1 source);
  from = below 5 (draws 2 source) + 5 * below 20 (draws 3 source);
  to = below 5 (draws 2 source) + 5 * below 20 (draws 4 source);
  amount = below 100 (draws 5 source);
  aborts = below 8 (draws 6 source) == 0;
}
