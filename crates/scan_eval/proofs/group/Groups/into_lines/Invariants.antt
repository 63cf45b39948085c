use Rattle.std.proofs.Common.{◌≡◌, map}
use Rattle.scan_eval.proofs.GroupOrder.{printed}
use Rattle.scan_eval.proofs.group.Groups.into_lines.Given as goal

abbrev pub invariant-loop-place : goal.invariant-loop-place
invariant-loop-place l = l.lines.items ≡ map (printed l.aggregates l.tallies) l.yielded
