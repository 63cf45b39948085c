use Rattle.std.proofs.Common.{refl}
use Rattle.standby_core.proofs.Exits.{at_err}
use Rattle.turn_rules.specs.Round.{opening_round}
use Rattle.step_driver.specs.Seating.{seats_shown}
use Rattle.step_driver.proofs.Delivering.{begun, delivered, stopped, stopped_at_end}
use Rattle.step_driver.proofs.delivery.run_delivery.Goals as goal

pub play_round-requires : goal.play_round-requires
play_round-requires c =
    let known = c.args.dictionary.now in
    let d = c.args.delivery in
    let row = c.in_ok-seats.seats in
    let state = c.requires.ready.state in
    let can = c.requires.ready.can in
    let b = begun known c.args.core.now c.receive.new.self row state d c.sessions.result c.as_slice.result.now can (c.in_ok-receive.ensures.ok state can.is can.continues)
    (c.sessions.ensures state can.is) c.as_slice.ensures c.in_ok-seats.ensures.seats c.in_ok-seats.ensures.counted c.in_ok-seats.ensures.calm in
    record { round = opening_round b.received.next (seats_shown row); shows = b.shows }

pub returns-in_err-play_round-clause-err : goal.returns-in_err-play_round-clause-err
returns-in_err-play_round-clause-err c = at_err c.from_residual-in_err-play_round.result (λ c' can.
    let known = c.args.dictionary.now in
    let d = c.args.delivery in
    let row = c.in_ok-seats.seats in
    let b = begun known c.args.core.now c.receive.new.self row c' d c.sessions.result c.as_slice.result.now can (c.in_ok-receive.ensures.ok c' can.is can.continues)
    (c.sessions.ensures c' can.is) c.as_slice.ensures c.in_ok-seats.ensures.seats c.in_ok-seats.ensures.counted c.in_ok-seats.ensures.calm in
    stopped known c.receive.new.self c.play_round.new.core row c' d b (c.in_err-play_round.ensures.err (opening_round b.received.next (seats_shown row)) b.shows))

pub returns-in_err-lines_of-clause-err : goal.returns-in_err-lines_of-clause-err
returns-in_err-lines_of-clause-err c = at_err c.from_residual-in_err-lines_of.result (λ c' can.
    let known = c.args.dictionary.now in
    let d = c.args.delivery in
    let row = c.in_ok-seats.seats in
    let b = begun known c.args.core.now c.receive.new.self row c' d c.sessions.result c.as_slice.result.now can (c.in_ok-receive.ensures.ok c' can.is can.continues)
    (c.sessions.ensures c' can.is) c.as_slice.ensures c.in_ok-seats.ensures.seats c.in_ok-seats.ensures.counted c.in_ok-seats.ensures.calm in
    stopped_at_end known c.receive.new.self c.play_round.new.core row c.play_round.new.seats c' d c.as_slice-2.result.now b
    (c.in_ok-play_round.ensures.ok (opening_round b.received.next (seats_shown row)) b.shows refl))

pub returns-clause-ok : goal.returns-clause-ok
returns-clause-ok c c' can =
    let known = c.args.dictionary.now in
    let d = c.args.delivery in
    let row = c.in_ok-seats.seats in
    let b = begun known c.args.core.now c.receive.new.self row c' d c.sessions.result c.as_slice.result.now can (c.in_ok-receive.ensures.ok c' can.is can.continues)
    (c.sessions.ensures c' can.is) c.as_slice.ensures c.in_ok-seats.ensures.seats c.in_ok-seats.ensures.counted c.in_ok-seats.ensures.calm in
    let e = c.in_ok-play_round.ensures.ok (opening_round b.received.next (seats_shown row)) b.shows refl in
    delivered known c.receive.new.self c.play_round.new.core row c.play_round.new.seats c' d c.as_slice-2.result.now c.in_ok-lines_of.field-0 c.query_scn.result can.ready b c.as_slice-2.ensures e
    c.in_ok-lines_of.ensures (c.query_scn.ensures e.played.last.core e.played.shows.core)
