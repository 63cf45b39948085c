use Rattle.std.proofs.Common.{◌≡◌, ◌≤◌, ◌+◌, ◌*◌, length}
use Rattle.log_merger.specs.Merger.{highest_number}
use Rattle.redo_tests.proofs.merged.assert_merges.Given as goal

abbrev pub invariant-loop-step : goal.invariant-loop-step
invariant-loop-step g l = record {
  threads : l.threads ≡ length l.merger.threads;
  number : highest_number l.merger ≤ 1 + 65536 * l.step-index;
}
