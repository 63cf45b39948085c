use Rattle.std.proofs.Common.{◌≡◌, take}
use Rattle.adg_model.specs.Database.{database}
use Rattle.adg_model.proofs.plain.walk.table.Given as goal

abbrev pub invariant-loop-entry : goal.invariant-loop-entry
invariant-loop-entry l = (database (take l.entry-index l.entries)).tables l.obj ≡ l.table
