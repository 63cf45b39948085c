use Rattle.std.proofs.Common.{◌≡◌, ◌+◌, ◌*◌, ◌++◌, length, ap, ◌∙◌, arith}
use Rattle.adg_base.specs.Address.{block_places}
use Rattle.hybrid_scan.specs.Reader.{placed}
use Rattle.hybrid_scan.specs.Scan.{wide, wide_rows}
use Rattle.hybrid_scan.proofs.Handed.{first_blocks, length_blocks, length_placed, scanned_length, block_more, with_length, still_again, all_blocks}
use Rattle.hybrid_scan.proofs.scan.add_stored.Goals as goal

pub add_wide-requires : goal.add_wide-requires
add_wide-requires g c =
    let t = c.args.target.now in
    let i = c.loop-index.index in
    let l = scanned_length (wide t.width (g.B.BlockReader.committed c.args.reader.now t.q)) _ (first_blocks t.obj t.extent i) (64 * i) (g.S.RowSink.rows c.args.sink.now) (g.S.RowSink.rows c.loop-index.sink) c.loop-index.counts c.args.steps.now c.loop-index.steps
    c.loop-index.invariant.come (length_blocks t.obj t.extent i) in
    let few = length_placed (g.B.BlockReader.committed c.loop-index.reader t.q) t.obj (t.extent * 16 + i) in
    let same = ap length (c.as_slice.ensures ∙ c.in_ok-rows.ensures.rows) in
    record { room = omega (arith, l.0, few, same, c.requires.room, c.loop-index-test.true) }

pub overflow_add-counts : goal.overflow_add-counts
overflow_add-counts g c =
    let t = c.args.target.now in
    let i = c.loop-index.index in
    let l = scanned_length (wide t.width (g.B.BlockReader.committed c.args.reader.now t.q)) _ (first_blocks t.obj t.extent i) (64 * i) (g.S.RowSink.rows c.args.sink.now) (g.S.RowSink.rows c.loop-index.sink) c.loop-index.counts c.args.steps.now c.loop-index.steps
    c.loop-index.invariant.come (length_blocks t.obj t.extent i) in
    let few = length_placed (g.B.BlockReader.committed c.loop-index.reader t.q) t.obj (t.extent * 16 + i) in
    let same = c.len.ensures ∙ ap length c.in_ok-rows.ensures.rows in
    omega (arith, l.2, few, same, c.loop-index-test.true)

pub loop-index-preserved : goal.loop-index-preserved
loop-index-preserved g c =
    let t = c.args.target.now in
    let i = c.loop-index.index in
    let store = g.B.BlockReader.committed c.args.reader.now t.q in
    let store' = g.B.BlockReader.committed c.loop-index.reader t.q in
    let block : t.extent * 16 + i ≡ 16 * t.extent + i = omega arith in
    let is : c.in_ok-rows.rows ≡ placed store' (block_places t.obj (16 * t.extent + i)) = c.in_ok-rows.ensures.rows ∙ ap (λ b. placed store' (block_places t.obj b)) block in
    let added = c.in_ok-add_wide.ensures.rows ∙ ap (λ rows. g.S.RowSink.rows c.loop-index.sink ++ wide_rows t.width rows) c.as_slice.ensures in
    let come = block_more t.width store store' t.obj t.extent i c.in_ok-rows.rows (g.S.RowSink.rows c.args.sink.now) (g.S.RowSink.rows c.loop-index.sink) (g.S.RowSink.rows c.add_wide.new.sink) c.loop-index.counts
    c.args.steps.now c.loop-index.steps c.rows.new.steps c.loop-index.invariant.come (c.loop-index.invariant.still t.q c.requires.covers).1 is added c.in_ok-rows.ensures.cost in
    record {
      come = with_length (wide t.width store) t.obj t.extent (i + 1) (g.S.RowSink.rows c.args.sink.now) (g.S.RowSink.rows c.add_wide.new.sink) c.loop-index.counts c.args.steps.now c.rows.new.steps (length c.in_ok-rows.rows) c.len.result c.len.ensures come;
      query = c.in_ok-add_wide.ensures.query ∙ c.loop-index.invariant.query;
      still = still_again _ _ _ _ _ _ c.loop-index.invariant.still c.in_ok-rows.ensures.still;
    }

pub returns-clause-scanned : goal.returns-clause-scanned
returns-clause-scanned g c =
    let t = c.args.target.now in
    let i = c.loop-index.index in
    all_blocks (wide t.width (g.B.BlockReader.committed c.args.reader.now t.q)) t.obj t.extent i (g.S.RowSink.rows c.args.sink.now) (g.S.RowSink.rows c.loop-index.sink) c.loop-index.counts c.args.steps.now c.loop-index.steps
    (omega (arith, c.loop-index-test.false, c.loop-index.auto.index-end)) c.loop-index.invariant.come
