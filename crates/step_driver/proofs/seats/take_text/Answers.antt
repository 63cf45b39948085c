use Rattle.std.proofs.Common.{◌≡◌, ◌+◌, ◌-◌, ◌<◌, ◌≤◌, length, Some, refl, sym, ap, ◌∙◌, subst, arith}
use Rattle.std.proofs.lemmas.Option.{slice_get-get_or}
use Rattle.core_rules.specs.State.{At}
use Rattle.turn_rules.specs.Round.{Reads}
use Rattle.step_driver.specs.Seating.{request_shown}
use Rattle.step_driver.proofs.Seated.{text_of_none, text_of_seat}
use Rattle.step_driver.proofs.seats.take_text.Goals as goal

pub returns-in_default : goal.returns-in_default
returns-in_default c = text_of_none c.args.seats.now.items c.args.command.now (λ place within e.
    let from : c.from.result ≡ c.args.command.now.session = c.from.ensures in
    c.in_default.ensures (omega arith))

pub returns-then-place-len : goal.returns-then-place-len
returns-then-place-len c = text_of_none c.args.seats.now.items c.args.command.now (λ place within e.
    let from : c.from.result ≡ c.args.command.now.session = c.from.ensures in
    let some = c.in-Some.ensures in
    let is : c.in-Some.place ≡ c.from.result - 1 = some.1 in
    let count : c.len.result ≡ length c.args.seats.now.items = c.len.ensures ∙ c.args.seats.now.ok.0 in
    let test = c.if-place-len.true in
    absurd (omega arith))

pub returns : goal.returns
returns c =
    let seats = c.args.seats.now.items in
    let place = c.in-Some.place in
    let was = c.index_mut-seat.result.now in
    let from : c.from.result ≡ c.args.command.now.session = c.from.ensures in
    let some = c.in-Some.ensures in
    let least : 1 ≤ c.from.result = some.0 in
    let is : place ≡ c.from.result - 1 = some.1 in
    let own : c.args.command.now.session ≡ place + 1 = omega arith in
    let count : c.len.result ≡ length seats = c.len.ensures ∙ c.args.seats.now.ok.0 in
    let test = c.if-place-len.false in
    let within : place < length seats = omega arith in
    let at : At seats place was = slice_get-get_or seats place was within ∙ ap Some (sym c.index_mut-seat.ensures.value) in
    let reads : Reads c.args.command.now.text (request_shown c.in_ok-request.request) = subst (λ bytes. Reads bytes (request_shown c.in_ok-request.request)) c.as_slice.ensures c.in_ok-request.ensures in
    text_of_seat seats c.args.command.now place was (record was { requests = c.push.new.self }) c.in_ok-request.request at own reads c.in_ok-push.ensures.items refl
