use Rattle.std.proofs.Common.{take}
use Rattle.column_codec.specs.Bounds.{HasFound, better_of}
use Rattle.column_codec.proofs.bounds.first_place.Given as goal

abbrev pub invariant-loop-place : goal.invariant-loop-place
invariant-loop-place l = HasFound (better_of l.side) (take l.place l.values) l.best
