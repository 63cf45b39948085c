use Rattle.std.proofs.Common.{◌≡◌, ◌≤◌, length, drop}
use Rattle.adg_model.specs.Query.{keys_of}
use Rattle.adg_model.proofs.plain.lines.keys_of.Given as goal

abbrev pub invariant-loop-left : goal.invariant-loop-left
invariant-loop-left l = (l.left ≤ length l.rows) × (l.keys ≡ keys_of l.column (drop l.left l.rows))

abbrev pub decreases-loop-left : goal.decreases-loop-left
decreases-loop-left l = l.left
