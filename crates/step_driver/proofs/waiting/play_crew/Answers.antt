use Rattle.std.proofs.Common.{◌≡◌, ◌+◌, ◌*◌, ◌<◌, ◌≤◌, true, false, [], length, inl, inr, refl, sym, ap, ◌∙◌, subst, arith, ◌⊎◌, true≢false}
use Rattle.std.specs.Prelude.{◌==◌}
use Rattle.standby_core.proofs.Exits.{at_err}
use Rattle.turn_rules.specs.Round.{Round, actors}
use Rattle.step_driver.specs.Work.{work_left}
use Rattle.step_driver.specs.Waiting.{HaveWorkersRested}
use Rattle.standby_core.specs.declared.standby.Core.{Core}
use Rattle.standby_core.specs.Shows.{IsState}
use Rattle.step_driver.proofs.Turned.{shows_again}
use Rattle.step_driver.proofs.Played.{stopped_behind}
use Rattle.step_driver.proofs.Cycles.{begun, whole, ahead_now, somebody_acts}
use Rattle.step_driver.proofs.waiting.play_crew.Goals as goal

pub loop-rests-init : goal.loop-rests-init
loop-rests-init c = record {
  turns = λ schedule r k s e.
      let none : k ≡ k + 0 = omega arith in
      record {
        cycles = 0;
        crew = record { on = record { played = record { turns = []; last = r; plays = refl; shows = s }; count = e ∙ ap (λ n. length schedule + n * actors r) none }; coordinator = λ h. absurd (true≢false (sym h)) };
      };
  wait = c.requires.wait;
  left = omega arith;
}

pub play_coordinator-requires-clause-round : goal.play_coordinator-requires-clause-round
play_coordinator-requires-clause-round c =
    let known = c.args.dictionary.now in
    let w = c.requires.round.round in
    let q : Round = record w { turns = 0 } in
    let none : 0 ≡ 0 + 0 * actors q = omega arith in
    let p = (c.loop-rests.invariant.turns [] q 0 (shows_again known c.args.core.now c.args.seats.now w 0 c.requires.round.shows) none).crew.on in
    record { round = p.played.last; shows = p.played.shows }

pub returns-then-eq-clause-turns : goal.returns-then-eq-clause-turns
returns-then-eq-clause-turns c schedule r k s e =
    let known = c.args.dictionary.now in
    let h = c.loop-rests.invariant.turns schedule r k s e in
    let b = begun known c.loop-rests.core c.play_coordinator.new.core c.args.seats.now schedule r k c.loop-rests.rests c.in_ok-rests.rests s.stands h
    (λ j f. c.in_ok-rests.ensures.turns schedule h.crew.on.played.last j h.crew.on.played.shows h.crew.coordinator f) in
    record { cycles = b.cycles; on = b.crew.on }

pub returns-then-eq-clause-less : goal.returns-then-eq-clause-less
returns-then-eq-clause-less c = by_acts c.in_ok-rests.ensures.acts
  where
    by_acts : ((c.in_ok-rests.rests ≡ true) × (c.play_coordinator.new.core ≡ c.loop-rests.core)) ⊎ (work_left c.play_coordinator.new.core c.args.seats.now < work_left c.loop-rests.core c.args.seats.now)
        → work_left c.play_coordinator.new.core c.args.seats.now < work_left c.args.core.now c.args.seats.now
    by_acts (inr less) = let left : work_left c.loop-rests.core c.args.seats.now ≤ work_left c.args.core.now c.args.seats.now = c.loop-rests.invariant.left in omega arith
    by_acts (inl rest) =
        let known = c.args.dictionary.now in
        let w = c.requires.round.round in
        let q : Round = record w { turns = 0 } in
        let none : 0 ≡ 0 + 0 * actors q = omega arith in
        let p = (c.loop-rests.invariant.turns [] q 0 (shows_again known c.args.core.now c.args.seats.now w 0 c.requires.round.shows) none).crew.on.played in
        let x = p.last.core in
        let is : IsState c.play_coordinator.new.core x = subst (λ (y : Core). IsState y x) (sym rest.1) p.shows.core in
        let met : (x.query == x.frontier) ≡ true =
        ap (λ n. n == x.frontier) (sym (c.query_scn.ensures x is)) ∙ ap (λ n. c.query_scn.result == n) (sym (c.frontier.ensures x is)) ∙ sym c.eq.ensures ∙ c.if-eq.true in
        let ahead : (x.query == x.frontier) ≡ false =
        ap (λ n. n == x.frontier) (sym p.shows.core.shows.query) ∙ ap (λ n. c.loop-rests.core.query == n) (sym p.shows.core.shows.frontier) ∙ c.loop-rests.invariant.wait.ahead in
        absurd (true≢false (sym met ∙ ahead))

pub play_workers-requires-clause-round : goal.play_workers-requires-clause-round
play_workers-requires-clause-round c =
    let known = c.args.dictionary.now in
    let w = c.requires.round.round in
    let q : Round = record w { turns = 0 } in
    let none : 0 ≡ 0 + 0 * actors q = omega arith in
    let t = shows_again known c.args.core.now c.args.seats.now w 0 c.requires.round.shows in
    let h = c.loop-rests.invariant.turns [] q 0 t none in
    let b = begun known c.loop-rests.core c.play_coordinator.new.core c.args.seats.now [] q 0 c.loop-rests.rests c.in_ok-rests.rests t.stands h
    (λ j f. c.in_ok-rests.ensures.turns [] h.crew.on.played.last j h.crew.on.played.shows h.crew.coordinator f) in
    record { round = b.crew.on.played.last; shows = b.crew.on.played.shows }

pub play_workers-requires-clause-wait : goal.play_workers-requires-clause-wait
play_workers-requires-clause-wait c =
    let known = c.args.dictionary.now in
    let w = c.requires.round.round in
    let q : Round = record w { turns = 0 } in
    let none : 0 ≡ 0 + 0 * actors q = omega arith in
    let t = shows_again known c.args.core.now c.args.seats.now w 0 c.requires.round.shows in
    let h = c.loop-rests.invariant.turns [] q 0 t none in
    let b = begun known c.loop-rests.core c.play_coordinator.new.core c.args.seats.now [] q 0 c.loop-rests.rests c.in_ok-rests.rests t.stands h
    (λ j f. c.in_ok-rests.ensures.turns [] h.crew.on.played.last j h.crew.on.played.shows h.crew.coordinator f) in
    ahead_now c.loop-rests.core c.play_coordinator.new.core c.args.seats.now b.crew.on.played.last.core c.query_scn.result c.frontier.result c.eq.result b.crew.on.played.shows.core c.query_scn.ensures c.frontier.ensures c.eq.ensures
    c.if-eq.false c.loop-rests.invariant.wait

pub returns-in_err-rests-clause-err : goal.returns-in_err-rests-clause-err
returns-in_err-rests-clause-err c = at_err c.from_residual.result (λ r s.
    let known = c.args.dictionary.now in
    let q : Round = record r { turns = 0 } in
    let none : 0 ≡ 0 + 0 * actors q = omega arith in
    let t = shows_again known c.args.core.now c.args.seats.now r 0 s in
    let p = (c.loop-rests.invariant.turns [] q 0 t none).crew.on.played in
    stopped_behind known c.loop-rests.core c.play_coordinator.new.core c.args.seats.now [] q t.stands p (c.in_err-rests.ensures.err p.last p.shows))

pub returns-in_err-rests-2-clause-err : goal.returns-in_err-rests-2-clause-err
returns-in_err-rests-2-clause-err c = at_err c.from_residual-in_err-rests-2.result (λ r s.
    let known = c.args.dictionary.now in
    let q : Round = record r { turns = 0 } in
    let none : 0 ≡ 0 + 0 * actors q = omega arith in
    let t = shows_again known c.args.core.now c.args.seats.now r 0 s in
    let h = c.loop-rests.invariant.turns [] q 0 t none in
    let b = begun known c.loop-rests.core c.play_coordinator.new.core c.args.seats.now [] q 0 c.loop-rests.rests c.in_ok-rests.rests t.stands h
    (λ j f. c.in_ok-rests.ensures.turns [] h.crew.on.played.last j h.crew.on.played.shows h.crew.coordinator f) in
    let p = b.crew.on.played in
    stopped_behind known c.play_coordinator.new.core c.play_workers.new.core c.args.seats.now [] q t.stands p (c.in_err-rests-2.ensures.err p.last p.shows))

pub loop-rests-smaller : goal.loop-rests-smaller
loop-rests-smaller c = by_acts c.in_ok-rests.ensures.acts c.in_ok-rests-2.ensures.acts
  where
    by_acts : ((c.in_ok-rests.rests ≡ true) × (c.play_coordinator.new.core ≡ c.loop-rests.core)) ⊎ (work_left c.play_coordinator.new.core c.args.seats.now < work_left c.loop-rests.core c.args.seats.now)
        → HaveWorkersRested c.args.dictionary.now c.play_coordinator.new.core c.play_workers.new.core c.args.seats.now ⊎ (work_left c.play_workers.new.core c.args.seats.now < work_left c.play_coordinator.new.core c.args.seats.now)
        → work_left c.play_workers.new.core c.args.seats.now < work_left c.loop-rests.core c.args.seats.now
    by_acts (inr less) (inr more) = omega arith
    by_acts (inr less) (inl rest) = subst (λ (x : Core). work_left x c.args.seats.now < work_left c.loop-rests.core c.args.seats.now) (sym rest.core) less
    by_acts (inl rest) (inr less) = subst (λ (x : Core). work_left c.play_workers.new.core c.args.seats.now < work_left x c.args.seats.now) rest.1 less
    by_acts (inl rest) (inl more) =
        let known = c.args.dictionary.now in
        let w = c.requires.round.round in
        let q : Round = record w { turns = 0 } in
        let none : 0 ≡ 0 + 0 * actors q = omega arith in
        let t = shows_again known c.args.core.now c.args.seats.now w 0 c.requires.round.shows in
        let h = c.loop-rests.invariant.turns [] q 0 t none in
        let b = begun known c.loop-rests.core c.play_coordinator.new.core c.args.seats.now [] q 0 c.loop-rests.rests c.in_ok-rests.rests t.stands h
        (λ j f. c.in_ok-rests.ensures.turns [] h.crew.on.played.last j h.crew.on.played.shows h.crew.coordinator f) in
        let p = b.crew.on.played in
        let wait = ahead_now c.loop-rests.core c.play_coordinator.new.core c.args.seats.now p.last.core c.query_scn.result c.frontier.result c.eq.result p.shows.core c.query_scn.ensures c.frontier.ensures c.eq.ensures
        c.if-eq.false c.loop-rests.invariant.wait in
        absurd (somebody_acts known c.play_coordinator.new.core c.args.seats.now p.last p.shows wait (b.crew.coordinator rest.0) (more.rest p.last p.shows))

pub loop-rests-preserved : goal.loop-rests-preserved
loop-rests-preserved c = record {
  turns = λ schedule r k s e.
      let known = c.args.dictionary.now in
      let h = c.loop-rests.invariant.turns schedule r k s e in
      let b = begun known c.loop-rests.core c.play_coordinator.new.core c.args.seats.now schedule r k c.loop-rests.rests c.in_ok-rests.rests s.stands h
      (λ j f. c.in_ok-rests.ensures.turns schedule h.crew.on.played.last j h.crew.on.played.shows h.crew.coordinator f) in
      whole known c.play_coordinator.new.core c.play_workers.new.core c.args.seats.now schedule r k c.in_ok-rests.rests c.in_ok-rests-2.rests s.stands b
      (λ j f. c.in_ok-rests-2.ensures.turns schedule b.crew.on.played.last j b.crew.on.played.shows b.crew.coordinator f);
  wait = c.in_ok-rests-2.ensures.wait;
  left =
      let less : work_left c.play_workers.new.core c.args.seats.now < work_left c.loop-rests.core c.args.seats.now = loop-rests-smaller c in
      let left : work_left c.loop-rests.core c.args.seats.now ≤ work_left c.args.core.now c.args.seats.now = c.loop-rests.invariant.left in
      omega arith;
}
