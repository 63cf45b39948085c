use Rattle.std.proofs.Common.{◌≡◌, ◌+◌, ◌*◌, ◌≤◌, length}
use Rattle.log_merger.specs.Merger.{highest_number}
use Rattle.redo_tests.proofs.taken.assert_takes.Given as goal

abbrev pub invariant-loop-case : goal.invariant-loop-case
invariant-loop-case g l = record {
  threads : length l.intake.merger.threads ≡ 2;
  number : highest_number l.intake.merger ≤ 1 + l.case-index * 131070;
}
