use Rattle.std.proofs.Common.{◌≡◌}
use Rattle.scan_eval.specs.Groups.{places_from}
use Rattle.scan_eval.proofs.group.in_order.Given as goal

abbrev pub invariant-loop-key : goal.invariant-loop-key
invariant-loop-key l = l.places.items ≡ places_from 0 l.yielded
