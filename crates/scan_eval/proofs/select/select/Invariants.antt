use Rattle.std.proofs.Common.{◌≡◌, take}
use Rattle.scan_eval.proofs.select.select.Given as goal

abbrev pub invariant-loop-row : goal.invariant-loop-row
invariant-loop-row l = l.accumulator ≡ record { select = l.select; rows = take l.row-index l.row-items }
