use Rattle.std.proofs.Common.{◌∙◌, subst, List, ℕ, Err, refl, inr}
use Rattle.std.proofs.lemmas.Result.{err_from_is_err_and}
use Rattle.feed_run.specs.Progress.{Writes}
use Rattle.feed_run.specs.Standby.{SomeAnswered}
use Rattle.feed_run.specs.View.{sink_view}
use Rattle.feed_run.proofs.ProgressLaws.{some_of, nothing_of, has_read, at_start, at_more, is_next, stop_header, stop_begin, stop_end, stop_fault, stop_delivery, stop_put, header_err, header_ok, fresh_reads, open_reads, step_of}
use Rattle.feed_run.proofs.run.answer_deliveries.Goals as goal

pub returns-in-Err-clause-stops : goal.returns-in-Err-clause-stops
returns-in-Err-clause-stops g c =
    let answered = g.S.Standby.answered in
    let setup = c.args.setup in
    rw c.requires.none (stop_header (SomeAnswered answered setup) (nothing_of answered setup) _ _ _ c.read_header.new.self c.in-Err.fault
    (header_err c.args.reader.now c.read_header.new.self _ _ _ c.requires.fresh c.in-Err.ensures.header))

pub returns-in_err-standby-clause-stops : goal.returns-in_err-standby-clause-stops
returns-in_err-standby-clause-stops g c =
    let answered = g.S.Standby.answered in
    let setup = c.args.setup in
    let p = err_from_is_err_and c.from_residual.result c.from_residual.ensures.1 in
    let read = has_read _ _ c.read_header.new.self (header_ok c.args.reader.now c.read_header.new.self _ _ _ c.requires.fresh c.in_default.ensures.header) in
    rw p.1 (rw p.2 (rw c.requires.none (stop_begin (SomeAnswered answered setup) (nothing_of answered setup) _ _ _ c.read_header.new.self read)))

pub deliveries-init : goal.deliveries-init
deliveries-init g c = record {
  at = rw c.requires.none (at_start (g.S.Standby.answered c.in_ok-standby.standby c.args.setup) _ _ _ c.read_header.new.self c.threads.result c.sessions.result
      (has_read _ _ c.read_header.new.self (header_ok c.args.reader.now c.read_header.new.self _ _ _ c.requires.fresh c.in_default.ensures.header)) c.threads.ensures c.sessions.ensures c.in_ok-standby.ensures);
  reads = c.in_default.ensures.cause (fresh_reads c.args.reader.now c.requires.fresh);
  writes = refl;
}

pub returns-in-Ok-End-clause-stops : goal.returns-in-Ok-End-clause-stops
returns-in-Ok-End-clause-stops g c =
    let answered = g.S.Standby.answered in
    let setup = c.args.setup in
    let at = c.deliveries.invariant.at in
    stop_end (answered c.deliveries.standby setup) (SomeAnswered answered setup) (some_of answered c.deliveries.standby setup) _ _ _ _ c.deliveries.reader c.deliveries.written at _ c.next_delivery.new.self
    (step_of c.deliveries.reader c.next_delivery.new.self _ _ _ at.phase (rw c.in-Ok-End.field-0-is at c.in-Ok-End.ensures.step))

pub returns-in-Err-next_delivery-clause-stops : goal.returns-in-Err-next_delivery-clause-stops
returns-in-Err-next_delivery-clause-stops g c =
    let answered = g.S.Standby.answered in
    let setup = c.args.setup in
    let at = c.deliveries.invariant.at in
    stop_fault (answered c.deliveries.standby setup) (SomeAnswered answered setup) (some_of answered c.deliveries.standby setup) _ _ _ _ c.deliveries.reader c.deliveries.written at _ c.next_delivery.new.self c.in-Err-next_delivery.fault
    (step_of c.deliveries.reader c.next_delivery.new.self _ _ _ at.phase c.in-Err-next_delivery.ensures.step)

pub deliver-requires : goal.deliver-requires
deliver-requires g c =
    let at = c.deliveries.invariant.at in
    let r = step_of c.deliveries.reader c.next_delivery.new.self _ _ _ at.phase (rw c.in-Ok-Delivery.field-0-is at c.in-Ok-Delivery.ensures.step) in
    is_next (g.S.Standby.answered c.deliveries.standby) c.args.setup _ _ _ _ c.deliveries.reader c.deliveries.written at _ c.next_delivery.new.self _ r

pub returns-in_err-lines-clause-stops : goal.returns-in_err-lines-clause-stops
returns-in_err-lines-clause-stops g c =
    let answered = g.S.Standby.answered in
    let setup = c.args.setup in
    let p = err_from_is_err_and c.from_residual-in_err-lines.result c.from_residual-in_err-lines.ensures.1 in
    let at = c.deliveries.invariant.at in
    let r = step_of c.deliveries.reader c.next_delivery.new.self _ _ _ at.phase (rw c.in-Ok-Delivery.field-0-is at c.in-Ok-Delivery.ensures.step) in
    let next = is_next (answered c.deliveries.standby) setup _ _ _ _ c.deliveries.reader c.deliveries.written at _ c.next_delivery.new.self _ r in
    rw p.1 (rw p.2 (stop_delivery (answered c.deliveries.standby setup) (SomeAnswered answered setup) (some_of answered c.deliveries.standby setup) _ _ _ _ c.deliveries.reader c.deliveries.written at _ c.next_delivery.new.self _ r
    (answered c.deliver.new.self setup) at.output c.in_err-lines.field-0.0 (c.in_err-lines.ensures next)))

pub returns-in_err-put-clause-stops : goal.returns-in_err-put-clause-stops
returns-in_err-put-clause-stops g c =
    let answered = g.S.Standby.answered in
    let setup = c.args.setup in
    let p = err_from_is_err_and c.from_residual-in_err-put.result c.from_residual-in_err-put.ensures.1 in
    let at = c.deliveries.invariant.at in
    let r = step_of c.deliveries.reader c.next_delivery.new.self _ _ _ at.phase (rw c.in-Ok-Delivery.field-0-is at c.in-Ok-Delivery.ensures.step) in
    let next = is_next (answered c.deliveries.standby) setup _ _ _ _ c.deliveries.reader c.deliveries.written at _ c.next_delivery.new.self _ r in
    let before = sink_view (g.K.Sink.held c.deliveries.sink) (g.K.Sink.faults c.deliveries.sink) in
    let after = sink_view (g.K.Sink.held c.put.new.sink) (g.K.Sink.faults c.put.new.sink) in
    rw p.1 (rw p.2 (stop_put (answered c.deliveries.standby setup) (SomeAnswered answered setup) (some_of answered c.deliveries.standby setup) _ _ _ _ c.deliveries.reader c.deliveries.written at _ c.next_delivery.new.self _ r
    _ before after c.put.new.written c.in_err-put.field-0.0 refl (inr (c.deliver.new.self, c.in_ok-lines.ensures next))
    (subst (λ (t : List ℕ). Writes before after c.deliveries.written c.put.new.written t (Err c.in_err-put.field-0.0)) c.as_slice.ensures c.in_err-put.ensures)))

pub deliveries-preserved : goal.deliveries-preserved
deliveries-preserved g c =
    let answered = g.S.Standby.answered in
    let setup = c.args.setup in
    let inv = c.deliveries.invariant in
    let at = inv.at in
    let r = step_of c.deliveries.reader c.next_delivery.new.self _ _ _ at.phase (rw c.in-Ok-Delivery.field-0-is at c.in-Ok-Delivery.ensures.step) in
    let next = is_next (answered c.deliveries.standby) setup _ _ _ _ c.deliveries.reader c.deliveries.written at _ c.next_delivery.new.self _ r in
    let wrote = rw c.as_slice.ensures at c.in_ok-put.ensures in
    let before = sink_view (g.K.Sink.held c.deliveries.sink) (g.K.Sink.faults c.deliveries.sink) in
    let after = sink_view (g.K.Sink.held c.put.new.sink) (g.K.Sink.faults c.put.new.sink) in
    record {
      at = at_more (answered c.deliveries.standby setup) _ _ _ _ c.deliveries.reader c.deliveries.written at _ c.next_delivery.new.self _ r
          (answered c.deliver.new.self setup) before after c.put.new.written _ refl (c.in_ok-lines.ensures next) wrote;
      reads = ◌∙◌ {a = g.R.Source.faults c.next_delivery.new.source} (c.in-Ok-Delivery.ensures.cause (open_reads c.deliveries.reader at.phase)) inv.reads;
      writes = ◌∙◌ {a = g.K.Sink.faults c.put.new.sink} wrote.no_fault inv.writes;
    }
