use Rattle.std.proofs.Common.{◌≡◌, ◌≤◌, false, length, drop}
use Rattle.std.specs.List.{list_any}
use Rattle.row_blocks.specs.Versions.{stands}
use Rattle.row_blocks.proofs.several.latest.Given as goal

-- none of the versions that were passed stands
abbrev pub invariant-loop-index : goal.invariant-loop-index
invariant-loop-index l = record { within : l.index ≤ length l.versions; none : list_any (stands l.txn) (drop l.index l.versions) ≡ false }
