use Rattle.std.proofs.Common.{◌≡◌, ℕ, ◌+◌, List, [], ◌∷◌, ◌++◌, length, map, ap, ap₂, sym, ◌∙◌, arith, append_assoc}
use Rattle.std.specs.Vec.Iter.{into_iter_items}
use Rattle.std.proofs.lemmas.List.{length_push, length-map}
use Rattle.adg_base.specs.declared.answer.Reply.{Reply}
use Rattle.adg_base.specs.declared.answer.Line.{Line}
use Rattle.turn_rules.specs.Telling.{session_lines, seats_lines}
use Rattle.step_driver.specs.declared.seat.Seat.{Seat}
use Rattle.step_driver.specs.Seating.{seat_shown}
use Rattle.step_driver.proofs.Seated.{seats_lines_more, shown_more}
use Rattle.step_driver.proofs.delivery.lines_of.Goals as goal

pub loop-seat-preserved : goal.loop-seat-preserved
loop-seat-preserved c =
    let y = c.loop-seat.yielded in
    let x = c.in-Some.seat in
    let inv = c.loop-seat.invariant in
    let session : c.loop-seat.session ≡ length y = inv.session in
    let step : c.in-Some-checked_add.number ≡ c.loop-seat.session + 1 = c.in-Some-checked_add.ensures.1 in
    let shown : length (map seat_shown y) ≡ length y = length-map y seat_shown in
    let next : c.in-Some-checked_add.number ≡ 1 + length (map seat_shown y) = omega arith in
    record {
      split = append_assoc y (x ∷ []) (into_iter_items c.next.new.self) ∙ ap (λ (t : List Seat). y ++ t) (sym c.in-Some.ensures.steps.0) ∙ inv.split;
      session = omega (arith, length_push y x);
      lines = c.in_ok-tell_session.ensures ∙ ap (λ (l : List Line). l ++ session_lines c.in-Some-checked_add.number 1 c.in_ok-into_replies.field-0.items) inv.lines
          ∙ ap₂ (λ (n : ℕ) (rs : List Reply). seats_lines 1 (map seat_shown y) ++ session_lines n 1 rs) next c.in_ok-into_replies.ensures
          ∙ sym (seats_lines_more 1 (map seat_shown y) (seat_shown x)) ∙ ap (seats_lines 1) (sym (shown_more y x));
    }
