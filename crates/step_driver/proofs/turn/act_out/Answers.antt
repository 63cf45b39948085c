use Rattle.std.proofs.Common.{Option, Some, refl, ap, sym, subst}
use Rattle.std.specs.Prelude.{Result, Ok, Err, IfOk}
use Rattle.adg_base.specs.declared.answer.Reply.{Reply}
use Rattle.core_rules.specs.declared.event.Event.{Event}
use Rattle.core_rules.specs.State.{CoreState}
use Rattle.core_rules.specs.Runs.{Takes}
use Rattle.turn_rules.specs.Picks as rule
use Rattle.standby_core.specs.declared.standby.Core.{Core}
use Rattle.step_driver.specs.Acts.{act_shown, HasTaken, HasActed}
use Rattle.step_driver.proofs.Turned.{made}
use Rattle.step_driver.proofs.turn.act_out.Goals as goal

if_ok : {T E : Type 0} (r : Result T E) (P Q : T → Type 0) → ((x : T) → P x → Q x) → IfOk r P → IfOk r Q
if_ok (Ok x) P Q f p = f x p
if_ok (Err e) P Q f p = tt

made_and_told : (core : Core) (c : CoreState) (event : Event) (told : Option Reply) (reply : Reply) → HasTaken core c event told → HasActed core c (rule.MakesAndReplies event reply) (Some reply)
made_and_told core c event told reply h = record { move = Some (Takes event h.answer); next = h.next; acts = (h.answer, refl, refl, h.steps); is = h.is; precise = h.precise }

pub returns-in-Make-clause-ok : goal.returns-in-Make-clause-ok
returns-in-Make-clause-ok c = if_ok c.take_event.result _ _ (λ told h c' is k.
    subst (λ a. HasActed c.take_event.new.core c' a told) (sym (ap act_shown c.in-Make.is)) (made c.take_event.new.core c' c.in-Make.event told (h c' is k))) c.take_event.ensures.ok

pub returns-in_ok-take_event-in-MakeAndTell-clause-ok : goal.returns-in_ok-take_event-in-MakeAndTell-clause-ok
returns-in_ok-take_event-in-MakeAndTell-clause-ok c c' is k =
    let core = c.take_event-in-MakeAndTell.new.core in
    let event = c.in-MakeAndTell.event in
    let reply = c.in-MakeAndTell.reply in
    let h = c.in_ok-take_event-in-MakeAndTell.ensures.ok c' is k in
    subst (λ a. HasActed core c' a (Some reply)) (sym (ap act_shown c.in-MakeAndTell.is)) (made_and_told core c' event c.in_ok-take_event-in-MakeAndTell.field-0 reply h)
