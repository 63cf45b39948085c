use Rattle.std.proofs.Common.{◌≡◌, ◌≤◌, ◌+◌, length}
use Rattle.log_merger.specs.Merger.{highest_number}
use Rattle.redo_tests.proofs.merged.accept.Given as goal

abbrev pub invariant-loop-at : goal.invariant-loop-at
invariant-loop-at l = record {
  threads : length l.merger.threads ≡ length l.fn.merger.threads;
  number : highest_number l.merger ≤ highest_number l.fn.merger + l.at;
}
