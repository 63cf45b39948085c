use Rattle.std.proofs.Common.{◌≡◌, ◌≤◌, ◌<◌, ◌+◌, ◌-◌, ℕ, vec_len, vec_capacity}
use Rattle.dictionary.specs.Objects.{steps_of}
use Rattle.dictionary.proofs.objects.reach.Given as goal

abbrev pub invariant-loop-alloc : goal.invariant-loop-alloc
invariant-loop-alloc l =
    (l.place < vec_capacity l.histories) × (vec_len l.histories ≤ l.place + 1) × ((q : ℕ) → steps_of l.histories.items q ≡ steps_of l.fn.histories.items q)

abbrev pub decreases-loop-alloc : goal.decreases-loop-alloc
decreases-loop-alloc l = l.place + 1 - vec_len l.histories
