use Rattle.std.proofs.Common.{◌≡◌, take}
use Rattle.adg_base.proofs.list.ListDuplicate.copy.Given as goal

abbrev pub invariant-loop-entry : goal.invariant-loop-entry
invariant-loop-entry g l = l.copied ≡ take l.entry-index l.entry-items
