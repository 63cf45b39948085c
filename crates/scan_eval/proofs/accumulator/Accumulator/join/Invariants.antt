use Rattle.std.proofs.Common.{◌++◌}
use Rattle.scan_eval.proofs.accumulator.Accumulator.join.Given as goal

abbrev pub ghost-of : goal.ghost-of
ghost-of a = a.what.now.0.now.rows ++ a.what.now.1.now.rows
