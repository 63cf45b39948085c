use Rattle.std.proofs.Common.{◌≡◌, ◌∷◌, [], ◌++◌, take, List, ap, ◌∙◌, subst}
use Rattle.std.proofs.lemmas.Result.{IfOk-weaker, on_err_weaker}
use Rattle.adg_model.specs.Records.{Raw, mark_of}
use Rattle.redo_frames.specs.NextRecord.{raw_at, Begins}
use Rattle.redo_frames.specs.Reading.{IsPrefix}
use Rattle.redo_frames.proofs.ReadingLaws.{Gains_fault, Gains_whole, IsPrefix_append, IsPrefix_shorter, ends_there}
use Rattle.redo_frames.proofs.reading.read_piece.Goals as goal

pub returns-in-Fault-clause-gains : goal.returns-in-Fault-clause-gains
returns-in-Fault-clause-gains c =
    Gains_fault c.args.held.now.items c.args.mark c.in-Fault.kind c.args.rest.now.items c.args.piece.now c.complete.new.rest.items c.in_ok-used.used c.in_ok-used.ensures.added (rw (← c.as_slice.ensures.value) c.in-Fault.ensures)

pub returns-clause-gains : goal.returns-clause-gains
returns-clause-gains c =
    let rest = c.complete.new.rest.items in
    let begins : Begins c.args.mark rest = subst (Begins c.args.mark) c.as_slice.ensures.value c.in-Whole.ensures.0 in
    let len = ends_there c.args.mark rest begins (c.in_ok-used.ensures.bound c.requires) in
    let frame : c.in_ok-next.next ≡ raw_at rest = c.in_ok-next.ensures ∙ ap raw_at c.as_slice-2.ensures.value in
    let held : c.push_back.new.self.items ≡ c.args.held.now.items ++ raw_at rest ∷ [] = rw (← frame) c.in_ok-push_back.ensures.items in
    let mark : c.after-mark.result ≡ mark_of (raw_at rest) = c.after-mark.ensures ∙ ap mark_of frame in
    IfOk-weaker c.read_rest-2.result _ _
    (λ stop gains. Gains_whole stop.fault c.args.held.now.items c.push_back.new.self.items c.read_rest-2.new.held.items c.args.mark c.after-mark.result stop.mark c.args.rest.now.items c.args.piece.now rest c.read_rest-2.new.rest.items c.in_ok-used.used c.in_ok-used.ensures.added begins len held mark gains)
    c.read_rest-2.ensures.gains

pub returns-clause-held : goal.returns-clause-held
returns-clause-held c =
    on_err_weaker c.read_rest-2.result
    (λ begins. IsPrefix_shorter c.args.held.now.items (c.in_ok-next.next ∷ []) c.read_rest-2.new.held.items (subst (λ (l : List Raw). IsPrefix l c.read_rest-2.new.held.items) c.in_ok-push_back.ensures.items begins))
    c.read_rest-2.ensures.held

pub returns-clause-rest : goal.returns-clause-rest
returns-clause-rest c =
    on_err_weaker c.read_rest-2.result
    (λ same. IsPrefix_append c.args.rest.now.items (take c.in_ok-used.used c.args.piece.now) c.read_rest-2.new.rest.items (same ∙ c.in_ok-used.ensures.added))
    c.read_rest-2.ensures.rest
