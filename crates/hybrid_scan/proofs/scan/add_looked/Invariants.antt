use Rattle.std.proofs.Common.{◌≡◌, ◌-◌, ◌≤◌, ◌<◌, true}
use Rattle.std.specs.List.{filter_map}
use Rattle.hybrid_scan.specs.Reader.{StillCovers}
use Rattle.hybrid_scan.specs.Scan.{seen, stored}
use Rattle.hybrid_scan.specs.Progress.{AreClear, HasScanned, marks_nth}
use Rattle.hybrid_scan.proofs.Places.{nth_places}
use Rattle.hybrid_scan.proofs.Found.{IsNext}
use Rattle.hybrid_scan.proofs.scan.add_looked.Given as goal

-- the rows at the addresses so far were handed over, those of them in the columns are behind, and the next marked
-- address is known
abbrev pub invariant-loop-mark : goal.invariant-loop-mark
invariant-loop-mark g l = record {
  come : HasScanned (filter_map (seen l.look l.target.width (g.B.BlockReader.committed l.initial.reader l.target.q)) (nth_places l.target.obj l.target.extent l.index))
      (filter_map (stored l.look l.target.width (g.B.BlockReader.committed l.initial.reader l.target.q)) (nth_places l.target.obj l.target.extent l.index))
      (g.S.RowSink.rows l.initial.sink) (g.S.RowSink.rows l.sink) l.counts l.initial.steps l.steps;
  next : IsNext l.target.obj l.target.extent l.look.columns.addresses l.index l.next;
  order : l.index ≤ l.mark;
  most : l.mark ≤ 1024;
  clear : AreClear l.look.marked l.index l.mark;
  marked : l.mark < 1024 → marks_nth l.look.marked l.mark ≡ true;
  query : g.S.RowSink.query l.sink ≡ g.S.RowSink.query l.initial.sink;
  still : StillCovers (g.B.BlockReader.covers l.initial.reader) (g.B.BlockReader.covers l.reader) (g.B.BlockReader.committed l.initial.reader) (g.B.BlockReader.committed l.reader);
}

abbrev pub decreases-loop-mark : goal.decreases-loop-mark
decreases-loop-mark g l = 1024 - l.mark
