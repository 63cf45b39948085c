use Rattle.std.proofs.Common.{◌≡◌, ◌%◌, ◌<◌, ◌≤◌, length, Some, inl, inr, refl, sym, ap, ◌∙◌, subst, arith}
use Rattle.std.proofs.Math.Nat.{mod-lt}
use Rattle.std.proofs.lemmas.Option.{slice_get-get_or}
use Rattle.core_rules.specs.State.{At}
use Rattle.standby_core.proofs.Exits.{at_err}
use Rattle.turn_rules.specs.Round.{Round, actors}
use Rattle.step_driver.specs.Rounds.{HasPlayedOn, IsTurnOf}
use Rattle.step_driver.proofs.Turned.{shows_again}
use Rattle.step_driver.proofs.Played.{played_none, played_more, stopped_behind, turn_inside}
use Rattle.step_driver.proofs.round.play_schedule.Goals as goal

pub loop-byte-init : goal.loop-byte-init
loop-byte-init c r s e = subst (HasPlayedOn c.args.dictionary.now c.args.core.now c.args.seats.now c.args.schedule.now r) e (played_none c.args.dictionary.now c.args.core.now c.args.seats.now c.args.schedule.now r s)

pub returns-then-is_over-clause-ok : goal.returns-then-is_over-clause-ok
returns-then-is_over-clause-ok c r s e =
    let p = c.loop-byte.invariant r s e in
    record { played = p.played; end = inl (sym (c.if-is_over.ensures c.args.dictionary.now p.played.last p.played.shows)) }

pub nonzero_rem-number : goal.nonzero_rem-number
nonzero_rem-number c =
    let known = c.args.dictionary.now in
    let q : Round = record c.requires.round { turns = 0 } in
    let p = c.loop-byte.invariant q (shows_again known c.args.core.now c.args.seats.now c.requires.round 0 c.requires.shows) refl in
    let a = c.actors.ensures known c.loop-byte.seats p.played.last p.played.shows in
    let count : c.actors.result ≡ actors p.played.last = a.is in
    omega arith

pub take_turn-requires-clause-round : goal.take_turn-requires-clause-round
take_turn-requires-clause-round c =
    let known = c.args.dictionary.now in
    let q : Round = record c.requires.round { turns = 0 } in
    let p = c.loop-byte.invariant q (shows_again known c.args.core.now c.args.seats.now c.requires.round 0 c.requires.shows) refl in
    record { round = p.played.last; shows = p.played.shows; goes_on = sym (c.if-is_over.ensures known p.played.last p.played.shows) }

pub take_turn-requires-clause-actor : goal.take_turn-requires-clause-actor
take_turn-requires-clause-actor c r s =
    let a = c.actors.ensures c.args.dictionary.now c.loop-byte.seats r s in
    let count : c.actors.result ≡ actors r = a.is in
    let rest : c.from.result % c.actors.result < c.actors.result = mod-lt c.from.result (omega arith) in
    record { within = omega arith; few = a.few }

pub returns-in_err-take_turn-clause-err : goal.returns-in_err-take_turn-clause-err
returns-in_err-take_turn-clause-err c = at_err c.from_residual.result (λ r s.
    let known = c.args.dictionary.now in
    let q : Round = record r { turns = 0 } in
    let t = shows_again known c.args.core.now c.args.seats.now r 0 s in
    let p = c.loop-byte.invariant q t refl in
    stopped_behind known c.loop-byte.core c.take_turn.new.core c.loop-byte.seats c.args.schedule.now q t.stands p.played (c.in_err-take_turn.ensures.err p.played.last p.played.shows))

pub loop-byte-preserved : goal.loop-byte-preserved
loop-byte-preserved c r s e =
    let known = c.args.dictionary.now in
    let schedule = c.args.schedule.now in
    let i = c.loop-byte.byte-index in
    let p = c.loop-byte.invariant r s e in
    let a = c.actors.ensures known c.loop-byte.seats p.played.last p.played.shows in
    let within : i < length schedule = c.loop-byte-test.true in
    let at : At schedule i c.from.result = slice_get-get_or schedule i 0 within ∙ ap Some (sym c.from.ensures) in
    let turn : IsTurnOf schedule p.played.last (c.from.result % c.actors.result) =
    turn_inside schedule p.played.last c.from.result (c.from.result % c.actors.result) (subst (λ n. At schedule n c.from.result) (sym p.count) at) (ap (λ n. c.from.result % n) a.is) in
    played_more known c.loop-byte.core c.take_turn.new.core c.loop-byte.seats c.take_turn.new.seats schedule r i p (c.in_ok-take_turn.ensures.turns schedule p.played.last p.played.shows turn)

pub returns-clause-ok : goal.returns-clause-ok
returns-clause-ok c r s e =
    let p = c.loop-byte.invariant r s e in
    let over : length c.args.schedule.now ≤ c.loop-byte.byte-index = c.loop-byte-test.false in
    let within : c.loop-byte.byte-index ≤ length c.args.schedule.now = c.loop-byte.auto.byte-index-end in
    let all : c.loop-byte.byte-index ≡ length c.args.schedule.now = omega arith in
    record { played = p.played; end = inr (p.count ∙ all) }
