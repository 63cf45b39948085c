use Rattle.std.proofs.Common.{ℕ, ◌≤◌, ◌*◌, ◌+◌, ◌++◌, List, length, map, subst, arith}
use Rattle.std.proofs.lemmas.Result.{on_ok_weaker, on_err_weaker}
use Rattle.adg_base.specs.declared.vector.RedoRecord.{RedoRecord}
use Rattle.adg_model.specs.Records.{raw_of}
use Rattle.redo_frames.specs.declared.record.RawRecord.{RawRecord}
use Rattle.log_merger.specs.Thread.{Receiving, HasRead, Takes, raws}
use Rattle.log_merger.proofs.ThreadLaws.{received, room_for}
use Rattle.log_merger.proofs.thread.RedoThread.accept.Goals as goal

pub returns-clause-ok : goal.returns-clause-ok
returns-clause-ok c =
    let new : Receiving = record { number = c.self.inside.number; assembly = c.take_all.new.assembler; mark = c.take_all.new.mark; unread = c.take_all.new.unread.items; waiting = c.self.inside.waiting.items } in
    let old : Receiving = record { number = c.self.inside.number; assembly = c.self.inside.assembler; mark = c.self.inside.mark; unread = c.self.inside.unread.items; waiting = c.self.inside.waiting.items } in
    on_ok_weaker c.take_all.result
    (λ takes. subst (λ (t : Receiving). (text : List ℕ) (records : List RedoRecord) → HasRead t text records → HasRead new (text ++ c.args.piece.now) records) c.self.view_is
    (λ text records h. received old new c.feed.new.assembler text c.args.piece.now records h
    (c.in_ok-feed.ensures.holds text (map raw_of records ++ raws c.self.inside.unread.items) h.holds)
    (subst (λ (l : List RawRecord). Takes c.feed.new.assembler c.take_all.new.assembler c.self.inside.mark c.take_all.new.mark l c.take_all.new.unread.items) c.in_ok-try_reserve.ensures.items takes)))
    c.take_all.ensures.takes

pub returns-clause-memory : goal.returns-clause-memory
returns-clause-memory c =
    let new : Receiving = record { number = c.self.inside.number; assembly = c.take_all.new.assembler; mark = c.take_all.new.mark; unread = c.take_all.new.unread.items; waiting = c.self.inside.waiting.items } in
    let old : Receiving = record { number = c.self.inside.number; assembly = c.self.inside.assembler; mark = c.self.inside.mark; unread = c.self.inside.unread.items; waiting = c.self.inside.waiting.items } in
    on_err_weaker c.take_all.result
    (λ full. subst (λ (t : Receiving). (text : List ℕ) (records : List RedoRecord) → HasRead t text records → HasRead new text records) c.self.view_is
    (λ text records h.
    let many : 13 * length c.feed.new.assembler.held ≤ length c.args.piece.now + 12 =
    room_for old c.feed.new.assembler text c.args.piece.now records h (c.in_ok-feed.ensures.holds text (map raw_of records ++ raws c.self.inside.unread.items) h.holds) c.in_ok-feed.ensures.again in
    absurd (omega (arith, full, many, c.in_ok-try_reserve.ensures.ok))))
    c.take_all.ensures.full
