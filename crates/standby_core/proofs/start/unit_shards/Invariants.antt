use Rattle.std.proofs.Common.{◌≡◌, ℕ, length, None}
use Rattle.column_units.specs.Shard as own
use Rattle.core_rules.specs.State.{At}
use Rattle.standby_core.proofs.start.unit_shards.Given as goal

abbrev pub invariant-loop-number : goal.invariant-loop-number
invariant-loop-number l = record {
  count : length l.shards.items ≡ l.number;
  numbers : (n : ℕ) (s : own.Units) → At l.shards.items n s → s.number ≡ n;
  empty : (n : ℕ) (s : own.Units) → At l.shards.items n s → (obj extent : ℕ) → own.unit_at s obj extent ≡ None;
}
