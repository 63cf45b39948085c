use Rattle.std.proofs.Common.{◌≡◌, ◌<◌, length, Some, sym, ap, ◌∙◌, arith}
use Rattle.std.proofs.lemmas.Option.{slice_get-get_or}
use Rattle.core_rules.specs.State.{At}
use Rattle.core_rules.proofs.Lists.{at_map, map_set}
use Rattle.turn_rules.specs.Turns.{told_at}
use Rattle.std.specs.Prelude.{slice_get, count_by}
use Rattle.step_driver.specs.Seating.{seat_shown, seats_shown, is_waiting}
use Rattle.step_driver.proofs.Seated.{counts_on, told_seats}
use Rattle.step_driver.proofs.seats.Seats.tell.Goals as goal

pub overflow_sub-self : goal.overflow_sub-self
overflow_sub-self c =
    let x = c.args.self.now in
    let seats = x.list.items in
    let place = c.from-place.result in
    let was = c.index_mut-seat.result.now in
    let new = c.tell.new.self in
    let count : c.len.result ≡ length seats = c.len.ensures ∙ x.list.ok.0 in
    let test = c.if-place-len.false in
    let within : place < length seats = omega arith in
    let at : At seats place was = slice_get-get_or seats place was within ∙ ap Some (sym c.index_mut-seat.ensures.value) in
    let counts = counts_on (seats_shown x) place (seat_shown was) (seat_shown new) x.waiting c.waiting-waited.result c.waiting-waits.result (at_map seat_shown seats place was at) c.requires
    c.waiting-waited.ensures c.waiting-waits.ensures in
    counts.within

pub returns-clause-seats : goal.returns-clause-seats
returns-clause-seats c =
    let x = c.args.self.now in
    let seats = x.list.items in
    let place = c.from-place.result in
    let was = c.index_mut-seat.result.now in
    let new = c.tell.new.self in
    let count : c.len.result ≡ length seats = c.len.ensures ∙ x.list.ok.0 in
    let test = c.if-place-len.false in
    let within : place < length seats = omega arith in
    let at : At seats place was = slice_get-get_or seats place was within ∙ ap Some (sym c.index_mut-seat.ensures.value) in
    told_seats seats place was new c.args.reply at c.in_ok-tell.ensures
    ∙ ap (λ n. told_at n c.args.reply (slice_get (seats_shown x) n) (seats_shown x)) c.from-place.ensures

pub returns-clause-counted : goal.returns-clause-counted
returns-clause-counted c =
    let x = c.args.self.now in
    let seats = x.list.items in
    let place = c.from-place.result in
    let was = c.index_mut-seat.result.now in
    let new = c.tell.new.self in
    let count : c.len.result ≡ length seats = c.len.ensures ∙ x.list.ok.0 in
    let test = c.if-place-len.false in
    let within : place < length seats = omega arith in
    let at : At seats place was = slice_get-get_or seats place was within ∙ ap Some (sym c.index_mut-seat.ensures.value) in
    let counts = counts_on (seats_shown x) place (seat_shown was) (seat_shown new) x.waiting c.waiting-waited.result c.waiting-waits.result (at_map seat_shown seats place was at) c.requires
    c.waiting-waited.ensures c.waiting-waits.ensures in
    counts.is ∙ ap (count_by is_waiting) (sym (map_set seat_shown seats place new))
