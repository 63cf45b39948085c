use Rattle.std.proofs.Common.{◌≡◌, ℕ, None, length}
use Rattle.std.specs.List.{slice_index_or}
use Rattle.scan_eval.proofs.slots.vacant.Given as goal

abbrev pub invariant-loop : goal.invariant-loop
invariant-loop g l = record { count : length l.slots.items ≡ l.counter; none : (k : ℕ) → slice_index_or l.slots.items k None ≡ None }
