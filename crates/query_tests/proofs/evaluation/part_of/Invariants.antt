use Rattle.std.proofs.Common.{◌≡◌, take}
use Rattle.query_tests.proofs.evaluation.part_of.Given as goal

abbrev pub invariant-loop-row : goal.invariant-loop-row
invariant-loop-row l = l.part ≡ record { select = l.query; rows = take l.row-index l.rows }
