use Rattle.std.proofs.Common.{◌≡◌, ℕ, ◌+◌, List, [], ◌∷◌, ◌++◌, length, ap, ap₂, sym, ◌∙◌, arith, append_assoc}
use Rattle.std.specs.Vec.Iter.{into_iter_items}
use Rattle.std.proofs.lemmas.List.{length_push}
use Rattle.adg_base.specs.declared.answer.Reply.{Reply}
use Rattle.adg_base.specs.declared.answer.Line.{Line}
use Rattle.turn_rules.specs.Telling.{session_lines}
use Rattle.step_driver.proofs.Seated.{session_lines_more}
use Rattle.step_driver.proofs.delivery.tell_session.Goals as goal

pub loop-reply-preserved : goal.loop-reply-preserved
loop-reply-preserved c =
    let y = c.loop-reply.yielded in
    let x = c.in-Some.reply in
    let inv = c.loop-reply.invariant in
    let s = c.args.session in
    let line : ℕ → Line = λ n. record { session = s; number = n; reply = x } in
    let number : c.loop-reply.number ≡ length y = inv.number in
    let step : c.in-Some-checked_add.next ≡ c.loop-reply.number + 1 = c.in-Some-checked_add.ensures.1 in
    let next : c.in-Some-checked_add.next ≡ 1 + length y = omega arith in
    record {
      split = append_assoc y (x ∷ []) (into_iter_items c.next.new.self) ∙ ap (λ (t : List Reply). y ++ t) (sym c.in-Some.ensures.steps.0) ∙ inv.split;
      number = omega (arith, length_push y x);
      lines = c.in_ok-push.ensures.ok ∙ ap₂ (λ (l : List Line) (n : ℕ). l ++ line n ∷ []) inv.lines next ∙ append_assoc c.args.lines.now (session_lines s 1 y) (line (1 + length y) ∷ [])
          ∙ ap (λ (l : List Line). c.args.lines.now ++ l) (sym (session_lines_more s 1 y x));
    }
