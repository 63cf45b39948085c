use Rattle.std.proofs.Common.{◌<◌, length, Option, Ok, IfSome, inl, refl, sym, ap, ◌∙◌, subst, arith}
use Rattle.adg_base.specs.declared.answer.Reply.{Reply}
use Rattle.core_rules.specs.State.{At}
use Rattle.standby_core.specs.Scans.{EndsWith}
use Rattle.standby_core.proofs.Scanned.{seat_at, seat_kept, no_end, scan_ends}
use Rattle.standby_core.proofs.standby.Core.scan_end.Goals as goal

-- src/scanning.rt:72:13
pub returns-in_default-2-clause-ok : goal.returns-in_default-2-clause-ok
returns-in_default-2-clause-ok c = λ c' h.
    let within : c.in-Some.place < length c.args.self.now.sessions.items = omega (arith, c.if-place-len.false, c.len.ensures) in
    let at = seat_at c.args.self.now.sessions.items c.in-Some.place c.index_mut.result.now within c.index_mut.ensures.value in
    record {
      next = c';
      steps = inl (refl, no_end c.args.self.now c' h c.args.session c.in-Some.place c.index_mut.result.now c.in-Some.ensures at (c.take_reply.ensures.none (c.in_ok-reply.was ∙ ap Ok c.in_default-2.is)), refl);
      shows = seat_kept c.args.self.now c' h.shows c.in-Some.place c.take_reply.new.session (subst (At c.args.self.now.sessions.items c.in-Some.place) (sym c.take_reply.ensures.same) at);
    }

-- src/scanning.rt:60:5
pub returns-clause-ok : goal.returns-clause-ok
returns-clause-ok c = λ c' h.
    let within : c.in-Some.place < length c.args.self.now.sessions.items = omega (arith, c.if-place-len.false, c.len.ensures) in
    let at = seat_at c.args.self.now.sessions.items c.in-Some.place c.index_mut.result.now within c.index_mut.ensures.value in
    scan_ends c.args.self.now c' h c.args.session c.in-Some.place c.index_mut.result.now c.take_reply.new.session c.in-Some-2.reply c.in-Some.ensures at c.take_reply.ensures.same
    (subst (λ (o : Option Reply). IfSome o (EndsWith c.index_mut.result.now)) c.in-Some-2.is c.in_ok-reply.ensures.some)
