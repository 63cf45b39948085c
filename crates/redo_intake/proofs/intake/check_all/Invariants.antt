use Rattle.std.proofs.Common.{◌++◌, List, take}
use Rattle.adg_base.specs.declared.log.LogEntry.{LogEntry}
use Rattle.dictionary.specs.Standing.{StandsFor}
use Rattle.redo_intake.specs.Intake.{FollowOn}
use Rattle.redo_intake.proofs.intake.check_all.Given as goal

abbrev pub invariant-loop-entry : goal.invariant-loop-entry
invariant-loop-entry l = (log : List LogEntry) → StandsFor l.fn.dictionary log → FollowOn log l.entries → StandsFor l.dictionary (log ++ take l.entry-index l.entries)
