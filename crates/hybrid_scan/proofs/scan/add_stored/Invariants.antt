use Rattle.std.proofs.Common.{◌≡◌, ◌*◌}
use Rattle.std.specs.List.{filter_map, flat_map, range_with_len}
use Rattle.adg_base.specs.Address.{block_places}
use Rattle.hybrid_scan.specs.Reader.{StillCovers}
use Rattle.hybrid_scan.specs.Scan.{wide}
use Rattle.hybrid_scan.specs.Progress.{HasScanned}
use Rattle.hybrid_scan.proofs.scan.add_stored.Given as goal

-- the rows of the blocks so far were handed over
abbrev pub invariant-loop-index : goal.invariant-loop-index
invariant-loop-index g l = record {
  come : HasScanned (filter_map (wide l.target.width (g.B.BlockReader.committed l.initial.reader l.target.q)) (flat_map (block_places l.target.obj) (range_with_len (16 * l.target.extent) l.index)))
      (filter_map (wide l.target.width (g.B.BlockReader.committed l.initial.reader l.target.q)) (flat_map (block_places l.target.obj) (range_with_len (16 * l.target.extent) l.index)))
      (g.S.RowSink.rows l.initial.sink) (g.S.RowSink.rows l.sink) l.counts l.initial.steps l.steps;
  query : g.S.RowSink.query l.sink ≡ g.S.RowSink.query l.initial.sink;
  still : StillCovers (g.B.BlockReader.covers l.initial.reader) (g.B.BlockReader.covers l.reader) (g.B.BlockReader.committed l.initial.reader) (g.B.BlockReader.committed l.reader);
}
