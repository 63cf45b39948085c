use Rattle.std.proofs.Common.{◌≡◌, take}
use Rattle.adg_model.specs.Database.{database}
use Rattle.adg_model.proofs.plain.walk.pending.Given as goal

abbrev pub invariant-loop-entry : goal.invariant-loop-entry
invariant-loop-entry l = (database (take l.entry-index l.entries)).pending l.txn ≡ l.changes.items
