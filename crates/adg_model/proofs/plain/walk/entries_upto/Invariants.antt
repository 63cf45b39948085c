use Rattle.std.proofs.Common.{◌≡◌, take}
use Rattle.adg_model.specs.Log.{upto}
use Rattle.adg_model.proofs.plain.walk.entries_upto.Given as goal

abbrev pub invariant-loop-entry : goal.invariant-loop-entry
invariant-loop-entry l = l.kept ≡ upto l.q (take l.entry-index l.entries)
