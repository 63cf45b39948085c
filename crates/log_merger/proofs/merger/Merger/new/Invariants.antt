use Rattle.std.proofs.Common.{◌≡◌, ◌≤◌, length, map}
use Rattle.adg_model.specs.Log.{greatest}
use Rattle.redo_frames.specs.Assembly.{next_number}
use Rattle.log_merger.proofs.Merged.{FreshFrom}
use Rattle.log_merger.proofs.merger.Merger.new.Given as goal

abbrev pub invariant-loop-index : goal.invariant-loop-index
invariant-loop-index l = record {
  many : l.index ≡ length l.list.items;
  fresh : FreshFrom 1 l.list.items;
  numbers : greatest (map (λ t. next_number t.assembly) l.list.items) ≤ 1;
}
