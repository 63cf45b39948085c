use Rattle.std.proofs.Common.{◌≡◌, ◌+◌, ◌-◌, ◌++◌, length, option_map, refl, sym, ap, ap₂, subst, ◌∙◌, arith, true}
use Rattle.std.specs.Prelude.{slice_get}
use Rattle.adg_model.specs.Query.{padded}
use Rattle.column_units.specs.Unit.{marks}
use Rattle.hybrid_scan.specs.Scan.{wide, seen, stored, rows_from}
use Rattle.hybrid_scan.specs.Progress.{is_here, nth_place, marks_nth, AreClear, IsBorder}
use Rattle.hybrid_scan.proofs.Places.{nth_places, length_places}
use Rattle.hybrid_scan.proofs.Found.{IsNext, one_if, next_first, next_more}
use Rattle.hybrid_scan.proofs.Handed.{scanned_more, scanned_length, nothing_scanned, still_again, all_scanned, more_places, as_one}
use Rattle.hybrid_scan.proofs.Runs.{run_to, run_scanned, end_is, end_is_last, next_within, marked_is, seen_marked, stored_marked}
use Rattle.hybrid_scan.proofs.scan.add_looked.Goals as goal

pub loop-mark-init : goal.loop-mark-init
loop-mark-init g c =
    let t = c.args.target.now in
    let look = c.args.look.now in
    let mark = c.next_mark-mark.result in
    record {
      come = nothing_scanned (g.S.RowSink.rows c.args.sink.now) c.args.steps.now;
      next = next_first t.obj t.extent look.columns c.requires.columns.kept c.requires.columns.order;
      order = c.next_mark-mark.ensures.order;
      most = c.next_mark-mark.ensures.most;
      clear = subst (λ map. AreClear map 0 mark) c.marked.ensures c.next_mark-mark.ensures.clear;
      marked = λ within. ap (λ map. marks_nth map mark) (sym c.marked.ensures) ∙ c.next_mark-mark.ensures.marked within;
      query = refl;
      still = λ q covered. (covered, λ a. refl);
    }

pub run_end-end-requires : goal.run_end-end-requires
run_end-end-requires g c =
    let t = c.args.target.now in
    let look = c.args.look.now in
    let inv = c.loop-mark.invariant in
    let same = ap length (c.addresses.ensures ∙ ap (λ x. x.addresses) c.columns-columns.ensures) in
    let within = next_within t.obj t.extent look.columns.addresses c.loop-mark.index c.loop-mark.next inv.next (omega (arith, inv.order, inv.most)) in
    omega (arith, within, same)

pub add_run-requires-clause-room : goal.add_run-requires-clause-room
add_run-requires-clause-room g c =
    let t = c.args.target.now in
    let look = c.args.look.now in
    let store = g.B.BlockReader.committed c.args.reader.now t.q in
    let index = c.loop-mark.index in
    let mark = c.loop-mark.mark in
    let next = c.loop-mark.next in
    let inv = c.loop-mark.invariant in
    let run = run_to look t.width store t.obj t.extent index mark next inv.next inv.order inv.most inv.clear in
    let same : c.addresses.result.now ≡ look.columns.addresses = c.addresses.ensures ∙ ap (λ x. x.addresses) c.columns-columns.ensures in
    let long = ap length same in
    let end : c.run_end-end.result ≡ next + run.count = end_is look t.width store t.obj t.extent index mark next c.run_end-end.result c.address-addr.result inv.next run inv.most c.address-addr.ensures
    (λ k border low high within. c.run_end-end.ensures.border k (subst (λ l. IsBorder l c.address-addr.result k) (sym same) border) low (omega (arith, high, c.from.ensures)) (omega (arith, within, long))) in
    let l = scanned_length (seen look t.width store) _ (nth_places t.obj t.extent index) index (g.S.RowSink.rows c.args.sink.now) (g.S.RowSink.rows c.loop-mark.sink) c.loop-mark.counts c.args.steps.now c.loop-mark.steps
    inv.come (length_places t.obj t.extent index) in
    omega (arith, l.0, end, run.most, inv.most, c.requires.room)

pub add_run-requires-clause-counts : goal.add_run-requires-clause-counts
add_run-requires-clause-counts g c =
    let t = c.args.target.now in
    let look = c.args.look.now in
    let store = g.B.BlockReader.committed c.args.reader.now t.q in
    let index = c.loop-mark.index in
    let mark = c.loop-mark.mark in
    let next = c.loop-mark.next in
    let inv = c.loop-mark.invariant in
    let run = run_to look t.width store t.obj t.extent index mark next inv.next inv.order inv.most inv.clear in
    let same : c.addresses.result.now ≡ look.columns.addresses = c.addresses.ensures ∙ ap (λ x. x.addresses) c.columns-columns.ensures in
    let long = ap length same in
    let end : c.run_end-end.result ≡ next + run.count = end_is look t.width store t.obj t.extent index mark next c.run_end-end.result c.address-addr.result inv.next run inv.most c.address-addr.ensures
    (λ k border low high within. c.run_end-end.ensures.border k (subst (λ l. IsBorder l c.address-addr.result k) (sym same) border) low (omega (arith, high, c.from.ensures)) (omega (arith, within, long))) in
    let l = scanned_length (seen look t.width store) _ (nth_places t.obj t.extent index) index (g.S.RowSink.rows c.args.sink.now) (g.S.RowSink.rows c.loop-mark.sink) c.loop-mark.counts c.args.steps.now c.loop-mark.steps
    inv.come (length_places t.obj t.extent index) in
    omega (arith, l.1, end, run.most, inv.most)

pub add_stored_row-requires-clause-room : goal.add_stored_row-requires-clause-room
add_stored_row-requires-clause-room g c =
    let t = c.args.target.now in
    let look = c.args.look.now in
    let store = g.B.BlockReader.committed c.args.reader.now t.q in
    let index = c.loop-mark.index in
    let mark = c.loop-mark.mark in
    let next = c.loop-mark.next in
    let inv = c.loop-mark.invariant in
    let run = run_to look t.width store t.obj t.extent index mark next inv.next inv.order inv.most inv.clear in
    let same : c.addresses.result.now ≡ look.columns.addresses = c.addresses.ensures ∙ ap (λ x. x.addresses) c.columns-columns.ensures in
    let long = ap length same in
    let end : c.run_end-end.result ≡ next + run.count = end_is look t.width store t.obj t.extent index mark next c.run_end-end.result c.address-addr.result inv.next run inv.most c.address-addr.ensures
    (λ k border low high within. c.run_end-end.ensures.border k (subst (λ l. IsBorder l c.address-addr.result k) (sym same) border) low (omega (arith, high, c.from.ensures)) (omega (arith, within, long))) in
    let count : c.run_end-end.result - next ≡ run.count = omega (arith, end) in
    let come = run_scanned look t.width store inv.next.kept t.obj t.extent index mark next run (g.S.RowSink.rows c.args.sink.now) (g.S.RowSink.rows c.loop-mark.sink) (g.S.RowSink.rows c.add_run.new.sink) c.loop-mark.counts c.add_run.new.counts
    c.args.steps.now c.loop-mark.steps (c.run_end-end.result - next) count inv.come (c.in_ok-add_run.ensures.rows ∙ ap (λ x. g.S.RowSink.rows c.loop-mark.sink ++ rows_from x next (c.run_end-end.result - next)) c.columns-columns.ensures) c.in_ok-add_run.ensures.counts in
    let l = scanned_length (seen look t.width store) _ (nth_places t.obj t.extent mark) mark (g.S.RowSink.rows c.args.sink.now) (g.S.RowSink.rows c.add_run.new.sink) c.add_run.new.counts c.args.steps.now c.loop-mark.steps
    come (length_places t.obj t.extent mark) in
    omega (arith, l.0, c.loop-mark-test.true, c.requires.room)

pub add_stored_row-requires-clause-counts : goal.add_stored_row-requires-clause-counts
add_stored_row-requires-clause-counts g c =
    let t = c.args.target.now in
    let look = c.args.look.now in
    let store = g.B.BlockReader.committed c.args.reader.now t.q in
    let index = c.loop-mark.index in
    let mark = c.loop-mark.mark in
    let next = c.loop-mark.next in
    let inv = c.loop-mark.invariant in
    let run = run_to look t.width store t.obj t.extent index mark next inv.next inv.order inv.most inv.clear in
    let same : c.addresses.result.now ≡ look.columns.addresses = c.addresses.ensures ∙ ap (λ x. x.addresses) c.columns-columns.ensures in
    let long = ap length same in
    let end : c.run_end-end.result ≡ next + run.count = end_is look t.width store t.obj t.extent index mark next c.run_end-end.result c.address-addr.result inv.next run inv.most c.address-addr.ensures
    (λ k border low high within. c.run_end-end.ensures.border k (subst (λ l. IsBorder l c.address-addr.result k) (sym same) border) low (omega (arith, high, c.from.ensures)) (omega (arith, within, long))) in
    let count : c.run_end-end.result - next ≡ run.count = omega (arith, end) in
    let come = run_scanned look t.width store inv.next.kept t.obj t.extent index mark next run (g.S.RowSink.rows c.args.sink.now) (g.S.RowSink.rows c.loop-mark.sink) (g.S.RowSink.rows c.add_run.new.sink) c.loop-mark.counts c.add_run.new.counts
    c.args.steps.now c.loop-mark.steps (c.run_end-end.result - next) count inv.come (c.in_ok-add_run.ensures.rows ∙ ap (λ x. g.S.RowSink.rows c.loop-mark.sink ++ rows_from x next (c.run_end-end.result - next)) c.columns-columns.ensures) c.in_ok-add_run.ensures.counts in
    let l = scanned_length (seen look t.width store) _ (nth_places t.obj t.extent mark) mark (g.S.RowSink.rows c.args.sink.now) (g.S.RowSink.rows c.add_run.new.sink) c.add_run.new.counts c.args.steps.now c.loop-mark.steps
    come (length_places t.obj t.extent mark) in
    omega (arith, l.2, c.loop-mark-test.true)

pub loop-mark-preserved : goal.loop-mark-preserved
loop-mark-preserved g c =
    let t = c.args.target.now in
    let look = c.args.look.now in
    let store = g.B.BlockReader.committed c.args.reader.now t.q in
    let index = c.loop-mark.index in
    let mark = c.loop-mark.mark in
    let next = c.loop-mark.next in
    let inv = c.loop-mark.invariant in
    let run = run_to look t.width store t.obj t.extent index mark next inv.next inv.order inv.most inv.clear in
    let same : c.addresses.result.now ≡ look.columns.addresses = c.addresses.ensures ∙ ap (λ x. x.addresses) c.columns-columns.ensures in
    let long = ap length same in
    let end : c.run_end-end.result ≡ next + run.count = end_is look t.width store t.obj t.extent index mark next c.run_end-end.result c.address-addr.result inv.next run inv.most c.address-addr.ensures
    (λ k border low high within. c.run_end-end.ensures.border k (subst (λ l. IsBorder l c.address-addr.result k) (sym same) border) low (omega (arith, high, c.from.ensures)) (omega (arith, within, long))) in
    let count : c.run_end-end.result - next ≡ run.count = omega (arith, end) in
    let come = run_scanned look t.width store inv.next.kept t.obj t.extent index mark next run (g.S.RowSink.rows c.args.sink.now) (g.S.RowSink.rows c.loop-mark.sink) (g.S.RowSink.rows c.add_run.new.sink) c.loop-mark.counts c.add_run.new.counts
    c.args.steps.now c.loop-mark.steps (c.run_end-end.result - next) count inv.come (c.in_ok-add_run.ensures.rows ∙ ap (λ x. g.S.RowSink.rows c.loop-mark.sink ++ rows_from x next (c.run_end-end.result - next)) c.columns-columns.ensures) c.in_ok-add_run.ensures.counts in
    let f = seen look t.width store in
    let h = stored look t.width store in
    let addr = c.address-addr.result in
    let a = nth_place t.obj t.extent mark in
    let store' = g.B.BlockReader.committed c.loop-mark.reader t.q in
    let row : wide t.width store' addr ≡ wide t.width store a = ap (option_map (padded t.width)) ((inv.still t.q c.requires.covers).1 addr) ∙ ap (wide t.width store) c.address-addr.ensures in
    let marked : marks look.marked a ≡ true = marked_is look.marked t.obj t.extent mark c.loop-mark-test.true ∙ inv.marked c.loop-mark-test.true in
    let more = scanned_more f h (nth_places t.obj t.extent mark) a (wide t.width store' addr) (g.S.RowSink.rows c.args.sink.now) (g.S.RowSink.rows c.add_run.new.sink) (g.S.RowSink.rows c.add_stored_row.new.sink) c.add_run.new.counts c.add_stored_row.new.counts
    c.args.steps.now c.loop-mark.steps c.add_stored_row.new.steps come c.in_ok-add_stored_row.ensures.added (row ∙ seen_marked look t.width store a marked) (row ∙ stored_marked look t.width store a marked) in
    let now : IsNext t.obj t.extent look.columns.addresses mark c.run_end-end.result = record { kept = inv.next.kept; order = inv.next.order; place = end ∙ run.place } in
    let one : c.from-in-loop-mark.result ≡ one_if (is_here (slice_get look.columns.addresses c.run_end-end.result) a) =
    c.from-in-loop-mark.ensures ∙ as_one c.is_at.result
    ∙ ap one_if (c.is_at.ensures ∙ ap₂ (λ l x. is_here (slice_get l c.run_end-end.result) x) (c.addresses-in-loop-mark.ensures ∙ ap (λ x. x.addresses) c.columns-columns.ensures) c.address-addr.ensures) in
    let later = c.next_mark-mark-in-loop-mark.result in
    record {
      come = more_places f h t.obj t.extent mark (g.S.RowSink.rows c.args.sink.now) (g.S.RowSink.rows c.add_stored_row.new.sink) c.add_stored_row.new.counts c.args.steps.now c.add_stored_row.new.steps more;
      next = subst (λ n. IsNext t.obj t.extent look.columns.addresses (mark + 1) (c.run_end-end.result + n)) (sym one) (next_more t.obj t.extent look.columns mark c.run_end-end.result now c.loop-mark-test.true);
      order = c.next_mark-mark-in-loop-mark.ensures.order;
      most = c.next_mark-mark-in-loop-mark.ensures.most;
      clear = subst (λ map. AreClear map (mark + 1) later) c.marked-in-loop-mark.ensures c.next_mark-mark-in-loop-mark.ensures.clear;
      marked = λ within. ap (λ map. marks_nth map later) (sym c.marked-in-loop-mark.ensures) ∙ c.next_mark-mark-in-loop-mark.ensures.marked within;
      query = c.in_ok-add_stored_row.ensures.query ∙ c.in_ok-add_run.ensures.query ∙ inv.query;
      still = still_again _ _ _ _ _ _ inv.still c.in_ok-add_stored_row.ensures.still;
    }

pub add_run-requires-2-clause-order : goal.add_run-requires-2-clause-order
add_run-requires-2-clause-order g c =
    let t = c.args.target.now in
    let look = c.args.look.now in
    let store = g.B.BlockReader.committed c.args.reader.now t.q in
    let index = c.loop-mark.index in
    let mark = c.loop-mark.mark in
    let next = c.loop-mark.next in
    let inv = c.loop-mark.invariant in
    let run = run_to look t.width store t.obj t.extent index mark next inv.next inv.order inv.most inv.clear in
    let whole : mark ≡ 1024 = omega (arith, c.loop-mark-test.false, inv.most) in
    let same : length c.addresses-end.result.now ≡ length look.columns.addresses = ap length (c.addresses-end.ensures ∙ ap (λ x. x.addresses) c.columns-columns.ensures) in
    let end = end_is_last look t.width store t.obj t.extent index mark next inv.next run whole in
    omega (arith, same, end)

pub add_run-requires-2-clause-room : goal.add_run-requires-2-clause-room
add_run-requires-2-clause-room g c =
    let t = c.args.target.now in
    let look = c.args.look.now in
    let store = g.B.BlockReader.committed c.args.reader.now t.q in
    let index = c.loop-mark.index in
    let mark = c.loop-mark.mark in
    let next = c.loop-mark.next in
    let inv = c.loop-mark.invariant in
    let run = run_to look t.width store t.obj t.extent index mark next inv.next inv.order inv.most inv.clear in
    let whole : mark ≡ 1024 = omega (arith, c.loop-mark-test.false, inv.most) in
    let same : length c.addresses-end.result.now ≡ length look.columns.addresses = ap length (c.addresses-end.ensures ∙ ap (λ x. x.addresses) c.columns-columns.ensures) in
    let end = end_is_last look t.width store t.obj t.extent index mark next inv.next run whole in
    let l = scanned_length (seen look t.width store) _ (nth_places t.obj t.extent index) index (g.S.RowSink.rows c.args.sink.now) (g.S.RowSink.rows c.loop-mark.sink) c.loop-mark.counts c.args.steps.now c.loop-mark.steps
    inv.come (length_places t.obj t.extent index) in
    omega (arith, l.0, same, end, run.most, inv.most, c.requires.room)

pub add_run-requires-2-clause-counts : goal.add_run-requires-2-clause-counts
add_run-requires-2-clause-counts g c =
    let t = c.args.target.now in
    let look = c.args.look.now in
    let store = g.B.BlockReader.committed c.args.reader.now t.q in
    let index = c.loop-mark.index in
    let mark = c.loop-mark.mark in
    let next = c.loop-mark.next in
    let inv = c.loop-mark.invariant in
    let run = run_to look t.width store t.obj t.extent index mark next inv.next inv.order inv.most inv.clear in
    let whole : mark ≡ 1024 = omega (arith, c.loop-mark-test.false, inv.most) in
    let same : length c.addresses-end.result.now ≡ length look.columns.addresses = ap length (c.addresses-end.ensures ∙ ap (λ x. x.addresses) c.columns-columns.ensures) in
    let end = end_is_last look t.width store t.obj t.extent index mark next inv.next run whole in
    let l = scanned_length (seen look t.width store) _ (nth_places t.obj t.extent index) index (g.S.RowSink.rows c.args.sink.now) (g.S.RowSink.rows c.loop-mark.sink) c.loop-mark.counts c.args.steps.now c.loop-mark.steps
    inv.come (length_places t.obj t.extent index) in
    omega (arith, l.1, same, end, run.most, inv.most)

pub returns-clause-scanned : goal.returns-clause-scanned
returns-clause-scanned g c =
    let t = c.args.target.now in
    let look = c.args.look.now in
    let store = g.B.BlockReader.committed c.args.reader.now t.q in
    let index = c.loop-mark.index in
    let mark = c.loop-mark.mark in
    let next = c.loop-mark.next in
    let inv = c.loop-mark.invariant in
    let run = run_to look t.width store t.obj t.extent index mark next inv.next inv.order inv.most inv.clear in
    let whole : mark ≡ 1024 = omega (arith, c.loop-mark-test.false, inv.most) in
    let same : length c.addresses-end.result.now ≡ length look.columns.addresses = ap length (c.addresses-end.ensures ∙ ap (λ x. x.addresses) c.columns-columns.ensures) in
    let end = end_is_last look t.width store t.obj t.extent index mark next inv.next run whole in
    let count : length c.addresses-end.result.now - next ≡ run.count = omega (arith, same, end) in
    let come = run_scanned look t.width store inv.next.kept t.obj t.extent index mark next run (g.S.RowSink.rows c.args.sink.now) (g.S.RowSink.rows c.loop-mark.sink) (g.S.RowSink.rows c.add_run-2.new.sink) c.loop-mark.counts c.add_run-2.new.counts
    c.args.steps.now c.loop-mark.steps (length c.addresses-end.result.now - next) count inv.come (c.in_ok-add_run-2.ensures.rows ∙ ap (λ x. g.S.RowSink.rows c.loop-mark.sink ++ rows_from x next (length c.addresses-end.result.now - next)) c.columns-columns.ensures) c.in_ok-add_run-2.ensures.counts in
    all_scanned (seen look t.width store) (stored look t.width store) t.obj t.extent mark (g.S.RowSink.rows c.args.sink.now) (g.S.RowSink.rows c.add_run-2.new.sink) c.add_run-2.new.counts c.args.steps.now c.loop-mark.steps whole come
