use Rattle.std.proofs.Common.{◌≡◌, ◌+◌, ◌*◌, ◌^◌, ◌<◌, ◌≤◌, [], length, inl, inr, refl, sym, ap, ◌∙◌, subst, arith}
use Rattle.standby_core.proofs.Exits.{at_err}
use Rattle.turn_rules.specs.Round.{Round, actors}
use Rattle.step_driver.specs.Rounds.{HasPlayedOn, RestOrAct, IsTurnOf}
use Rattle.step_driver.proofs.Turned.{shows_again}
use Rattle.step_driver.proofs.Played.{played_none, played_more, stopped_behind, turn_behind, actors_stay, seats_stay, same_actors, cycle_more, rest_or_act, no_more_left, acted, acted_till_over}
use Rattle.step_driver.proofs.round.play_from.Goals as goal

pub loop-number-init : goal.loop-number-init
loop-number-init c = record {
  played = λ schedule r k s e.
      subst (HasPlayedOn c.args.dictionary.now c.args.core.now c.args.seats.now schedule r) e (played_none c.args.dictionary.now c.args.core.now c.args.seats.now schedule r s);
  acted = inl (record { core = refl; seats = refl; rest = λ number f h. absurd (omega arith) });
}

pub returns-then-is_over-clause-turns : goal.returns-then-is_over-clause-turns
returns-then-is_over-clause-turns c schedule r k s e =
    let p = c.loop-number.invariant.played schedule r k s e in
    record { played = p.played; end = inl (sym (c.if-is_over.ensures c.args.dictionary.now p.played.last p.played.shows)) }

pub take_turn-requires-clause-round : goal.take_turn-requires-clause-round
take_turn-requires-clause-round c =
    let known = c.args.dictionary.now in
    let w = c.requires.round.round in
    let q : Round = record w { turns = c.args.first } in
    let none : c.args.first ≡ 0 + 0 * actors q + c.args.first = omega arith in
    let p = c.loop-number.invariant.played [] q 0 (shows_again known c.args.core.now c.args.seats.now w c.args.first c.requires.round.shows) none in
    record { round = p.played.last; shows = p.played.shows; goes_on = sym (c.if-is_over.ensures known p.played.last p.played.shows) }

pub take_turn-requires-clause-actor : goal.take_turn-requires-clause-actor
take_turn-requires-clause-actor c r s =
    let known = c.args.dictionary.now in
    let w = c.requires.round.round in
    let q : Round = record w { turns = c.args.first } in
    let t = shows_again known c.args.core.now c.args.seats.now w c.args.first c.requires.round.shows in
    let none : c.args.first ≡ 0 + 0 * actors q + c.args.first = omega arith in
    let p = c.loop-number.invariant.played [] q 0 t none in
    let a = c.actors-number-end.ensures known c.args.seats.now q t in
    let count : c.actors-number-end.result ≡ actors q = a.is in
    let stay : actors p.played.last ≡ actors q = actors_stay [] q p.played.turns p.played.last t.stands p.played.plays in
    let same : actors p.played.last ≡ actors r = same_actors known c.loop-number.core c.loop-number.seats p.played.last r p.played.shows s in
    let row : length r.seats ≡ length q.seats = ap length (sym s.seats ∙ p.played.shows.seats) ∙ seats_stay [] q p.played.turns p.played.last t.stands p.played.plays in
    let test : c.loop-number.number < c.actors-number-end.result = c.loop-number-test.true in
    record { within = omega arith; few = subst (λ n. n < 2 ^ 8) (sym row) a.few }

pub returns-in_err-take_turn-clause-err : goal.returns-in_err-take_turn-clause-err
returns-in_err-take_turn-clause-err c = at_err c.from_residual.result (λ r s.
    let known = c.args.dictionary.now in
    let q : Round = record r { turns = c.args.first } in
    let t = shows_again known c.args.core.now c.args.seats.now r c.args.first s in
    let none : c.args.first ≡ 0 + 0 * actors q + c.args.first = omega arith in
    let p = c.loop-number.invariant.played [] q 0 t none in
    stopped_behind known c.loop-number.core c.take_turn.new.core c.loop-number.seats [] q t.stands p.played (c.in_err-take_turn.ensures.err p.played.last p.played.shows))

pub loop-number-preserved : goal.loop-number-preserved
loop-number-preserved c =
    let known = c.args.dictionary.now in
    let number = c.loop-number.number in
    record {
      played = λ schedule r k s e.
          let p = c.loop-number.invariant.played schedule r k s e in
          let a = c.actors-number-end.ensures known c.args.seats.now r s in
          let count : c.actors-number-end.result ≡ actors r = a.is in
          let stay : actors p.played.last ≡ actors r = actors_stay schedule r p.played.turns p.played.last s.stands p.played.plays in
          let test : number < c.actors-number-end.result = c.loop-number-test.true in
          let place : p.played.last.turns ≡ length schedule + k * actors p.played.last + number = p.count ∙ ap (λ n. length schedule + k * n + number) (sym stay) in
          let turn : IsTurnOf schedule p.played.last number = turn_behind schedule p.played.last k number place (omega arith) in
          let next : length schedule + k * actors r + number + 1 ≡ length schedule + k * actors r + (number + 1) = omega arith in
          subst (HasPlayedOn known c.take_turn.new.core c.take_turn.new.seats schedule r) next
          (played_more known c.loop-number.core c.take_turn.new.core c.loop-number.seats c.take_turn.new.seats schedule r (length schedule + k * actors r + number) p
          (c.in_ok-take_turn.ensures.turns schedule p.played.last p.played.shows turn));
      acted = rest_or_act known c.args.core.now c.loop-number.core c.take_turn.new.core c.args.seats.now c.loop-number.seats c.take_turn.new.seats c.args.first number c.loop-number.invariant.acted c.in_ok-take_turn.ensures.acts;
    }

pub returns-clause-turns : goal.returns-clause-turns
returns-clause-turns c schedule r k s e =
    let known = c.args.dictionary.now in
    let p = c.loop-number.invariant.played schedule r k s e in
    let a = c.actors-number-end.ensures known c.args.seats.now r s in
    let count : c.actors-number-end.result ≡ actors r = a.is in
    let over : c.actors-number-end.result ≤ c.loop-number.number = c.loop-number-test.false in
    let first : c.args.first ≤ 1 = c.requires.first in
    let within : c.loop-number.number ≤ c.actors-number-end.result = c.loop-number.auto.number-end (omega arith) in
    let more : k * actors r + actors r ≡ (k + 1) * actors r = cycle_more k (actors r) in
    let all : length schedule + k * actors r + c.loop-number.number ≡ length schedule + (k + 1) * actors r = omega arith in
    record { played = p.played; end = inr (p.count ∙ all) }

pub returns-clause-less : goal.returns-clause-less
returns-clause-less c none g =
    let known = c.args.dictionary.now in
    let a = c.actors-number-end.ensures known c.args.seats.now g.round g.shows in
    let count : c.actors-number-end.result ≡ actors g.round = a.is in
    let over : c.actors-number-end.result ≤ c.loop-number.number = c.loop-number-test.false in
    let first : c.args.first ≤ 1 = c.requires.first in
    let within : c.loop-number.number ≤ c.actors-number-end.result = c.loop-number.auto.number-end (omega arith) in
    let all : c.loop-number.number ≡ actors g.round = omega arith in
    acted known c.args.core.now c.loop-number.core c.args.seats.now c.loop-number.seats g.round g.shows g.goes_on
    (subst (λ n. RestOrAct known c.args.core.now c.args.seats.now c.loop-number.core c.loop-number.seats n (actors g.round)) none
    (subst (RestOrAct known c.args.core.now c.args.seats.now c.loop-number.core c.loop-number.seats c.args.first) all c.loop-number.invariant.acted))

pub returns-clause-left : goal.returns-clause-left
returns-clause-left c = no_more_left c.args.dictionary.now c.args.core.now c.loop-number.core c.args.seats.now c.loop-number.seats c.args.first c.loop-number.number c.loop-number.invariant.acted

pub returns-then-is_over-clause-left : goal.returns-then-is_over-clause-left
returns-then-is_over-clause-left c = no_more_left c.args.dictionary.now c.args.core.now c.loop-number.core c.args.seats.now c.loop-number.seats c.args.first c.loop-number.number c.loop-number.invariant.acted

pub returns-then-is_over-clause-less : goal.returns-then-is_over-clause-less
returns-then-is_over-clause-less c none g =
    let known = c.args.dictionary.now in
    let q : Round = record g.round { turns = c.args.first } in
    let t = shows_again known c.args.core.now c.args.seats.now g.round c.args.first g.shows in
    let e : c.args.first ≡ 0 + 0 * actors q + c.args.first = omega arith in
    let p = c.loop-number.invariant.played [] q 0 t e in
    acted_till_over known c.args.core.now c.loop-number.core c.args.seats.now c.loop-number.seats g.round p.played.last c.args.first c.loop-number.number g.shows g.goes_on p.played.shows
    (sym (c.if-is_over.ensures known p.played.last p.played.shows)) c.loop-number.invariant.acted
