use Rattle.std.proofs.Common.{◌≡◌, take}
use Rattle.adg_model.specs.Database.{database, played}
use Rattle.adg_model.specs.Plain.{no_rows}
use Rattle.adg_model.proofs.plain.walk.committed.Given as goal

abbrev pub invariant-loop-index : goal.invariant-loop-index
invariant-loop-index l = played l.changes.items no_rows ≡ (database (take l.index l.entries)).rows
