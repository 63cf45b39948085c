use Rattle.std.proofs.Common.{◌≡◌, ◌+◌, ◌*◌, [], inr, refl, sym, arith}
use Rattle.standby_core.proofs.Exits.{at_err}
use Rattle.turn_rules.specs.Round.{Round, actors}
use Rattle.step_driver.proofs.Turned.{shows_again}
use Rattle.step_driver.proofs.Played.{stopped_behind, cycled}
use Rattle.step_driver.proofs.round.play_on.Goals as goal

pub loop-alloc-init : goal.loop-alloc-init
loop-alloc-init c schedule r s b = record { played = record { turns = []; last = r; plays = refl; shows = s }; behind = b }

pub play_cycles-requires : goal.play_cycles-requires
play_cycles-requires c =
    let known = c.args.dictionary.now in
    let q : Round = record c.requires.round { turns = 0 } in
    let none : 0 ≡ 0 + 0 * actors q = omega arith in
    let p = c.loop-alloc.invariant [] q (shows_again known c.args.core.now c.args.seats.now c.requires.round 0 c.requires.shows) (inr (0, none)) in
    record { round = p.played.last; shows = p.played.shows; goes_on = sym (c.loop-alloc-test.ensures known p.played.last p.played.shows) }

pub loop-alloc-preserved : goal.loop-alloc-preserved
loop-alloc-preserved c schedule r s b =
    let known = c.args.dictionary.now in
    let p = c.loop-alloc.invariant schedule r s b in
    cycled known c.loop-alloc.core c.play_cycles.new.core c.loop-alloc.seats c.play_cycles.new.seats schedule r p (sym (c.loop-alloc-test.ensures known p.played.last p.played.shows))
    (λ k e. c.in_ok-play_cycles.ensures.turns schedule p.played.last k p.played.shows e)

pub returns-in_err-play_cycles-clause-err : goal.returns-in_err-play_cycles-clause-err
returns-in_err-play_cycles-clause-err c = at_err c.from_residual.result (λ r s.
    let known = c.args.dictionary.now in
    let q : Round = record r { turns = 0 } in
    let t = shows_again known c.args.core.now c.args.seats.now r 0 s in
    let none : 0 ≡ 0 + 0 * actors q = omega arith in
    let p = c.loop-alloc.invariant [] q t (inr (0, none)) in
    stopped_behind known c.loop-alloc.core c.play_cycles.new.core c.loop-alloc.seats [] q t.stands p.played (c.in_err-play_cycles.ensures.err p.played.last p.played.shows))

pub returns-clause-ok : goal.returns-clause-ok
returns-clause-ok c schedule r s b =
    let p = c.loop-alloc.invariant schedule r s b in
    record { played = p.played; over = sym (c.loop-alloc-test.ensures c.args.dictionary.now p.played.last p.played.shows) }
