use Rattle.std.proofs.Common.{◌≡◌, None, ap, sym, ◌⊎◌, inl, inr}
use Rattle.core_rules.specs.declared.event.CoreAnswer.{CoreAnswer}
use Rattle.core_rules.specs.declared.event.CoreAnswer.TheVariants.{NotReady, Moved}
use Rattle.turn_rules.specs.Turns.{said_by}
use Rattle.step_driver.proofs.turn.take_event.Goals as goal

-- an answer that says nothing
quiet : (a : CoreAnswer) → (a ≡ NotReady) ⊎ (a ≡ Moved) → None ≡ said_by a
quiet a (inl e) = sym (ap said_by e)
quiet a (inr e) = sym (ap said_by e)

pub returns-in-NotReady : goal.returns-in-NotReady
returns-in-NotReady c = record {
  ok = λ c' h k.
      let kept = c.in_ok-reply.ensures.steps c' h k in
      record { answer = c.in_ok-reply.field-0; next = kept.next; steps = kept.steps; says = quiet c.in_ok-reply.field-0 c.in-NotReady.is; is = kept.is; precise = kept.precise };
  err = tt;
}
