use Rattle.std.proofs.Common.{◌+◌, ◌≤◌}
use Rattle.redo_frames.specs.Assembly.{next_number}
use Rattle.redo_tests.proofs.records.finds_the_records_however_they_are_cut.Given as goal

abbrev pub invariant-loop-at : goal.invariant-loop-at
invariant-loop-at g l = next_number l.assembler ≤ l.at + 1
