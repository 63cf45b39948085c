use Rattle.std.proofs.Common.{◌≡◌, ◌+◌, ◌*◌, ◌<◌, ℕ, ◌≤◌, ◌&&◌, List, [], length, inl, inr, refl, sym, ap, ◌∙◌, subst, arith, ◌⊎◌}
use Rattle.standby_core.proofs.Exits.{at_err}
use Rattle.turn_rules.specs.Round.{Round, actors}
use Rattle.turn_rules.specs.Picks.{WorkerAt, actor_of, act_of}
use Rattle.step_driver.specs.Acts.{crew_shown}
use Rattle.step_driver.specs.Work.{work_left}
use Rattle.step_driver.specs.Rounds.{ShowsRound, IsTurnOf, HasPlayedOn, RestsOrActs, RestOrAct}
use Rattle.step_driver.specs.Waiting.{HaveWorkersRested}
use Rattle.step_driver.proofs.Turned.{shows_again}
use Rattle.step_driver.proofs.Played.{stopped_behind, rest_or_act}
use Rattle.step_driver.proofs.Cycles.{PlayedBy, worker_more, worker_picked, goes_on_ahead, still_ahead, worker_numbered, has_turn, workers_stay, same_workers, cycle_rest}
use Rattle.step_driver.proofs.waiting.play_workers.Goals as goal

pub loop-place-init : goal.loop-place-init
loop-place-init c = record {
  turns = λ schedule r k s e.
      let one : length schedule + k * actors r + 1 ≡ length schedule + k * actors r + (1 + 0) = omega arith in
      record { on = record { played = record { turns = []; last = r; plays = refl; shows = s }; count = e ∙ one }; coordinator = λ h q. h q };
  wait = c.requires.wait;
  acted = inl (record { core = refl; seats = refl; rest = λ number f h. absurd (omega arith) });
}

pub take_crew_turn-requires-clause-round : goal.take_crew_turn-requires-clause-round
take_crew_turn-requires-clause-round c =
    let known = c.args.dictionary.now in
    let w = c.requires.round.round in
    let q : Round = record w { turns = 1 } in
    let one : 1 ≡ 0 + 0 * actors q + 1 = omega arith in
    let p = c.loop-place.invariant.turns [] q 0 (shows_again known c.args.core.now c.args.seats.now w 1 c.requires.round.shows) one in
    record { round = p.on.played.last; shows = p.on.played.shows; goes_on = goes_on_ahead known c.loop-place.core c.args.seats.now p.on.played.last p.on.played.shows c.loop-place.invariant.wait }

-- a worker has a number
pub take_crew_turn-requires-clause-actor : goal.take_crew_turn-requires-clause-actor
take_crew_turn-requires-clause-actor c r s =
    let known = c.args.dictionary.now in
    let w = c.requires.round.round in
    let q : Round = record w { turns = 1 } in
    let one : 1 ≡ 0 + 0 * actors q + 1 = omega arith in
    let t = shows_again known c.args.core.now c.args.seats.now w 1 c.requires.round.shows in
    let p = c.loop-place.invariant.turns [] q 0 t one in
    let stay : length p.on.played.last.core.workers ≡ length w.core.workers = workers_stay known c.args.core.now c.loop-place.core c.args.seats.now c.args.seats.now [] q (0 + 0 * actors q + (1 + c.loop-place.place)) t p.on in
    let same : length r.core.workers ≡ length p.on.played.last.core.workers = same_workers known c.loop-place.core c.args.seats.now r p.on.played.last s p.on.played.shows in
    let count : c.workers-place-end.result ≡ length w.core.workers = c.workers-place-end.ensures w.core c.requires.round.shows.core in
    let test : c.loop-place.place < c.workers-place-end.result = c.loop-place-test.true in
    let number : c.from.result ≡ c.loop-place.place = c.from.ensures in
    omega arith

pub take_crew_turn-requires-clause-picked : goal.take_crew_turn-requires-clause-picked
take_crew_turn-requires-clause-picked c r s =
    let known = c.args.dictionary.now in
    let w = c.requires.round.round in
    let q : Round = record w { turns = 1 } in
    let one : 1 ≡ 0 + 0 * actors q + 1 = omega arith in
    let t = shows_again known c.args.core.now c.args.seats.now w 1 c.requires.round.shows in
    let p = c.loop-place.invariant.turns [] q 0 t one in
    let stay : length p.on.played.last.core.workers ≡ length w.core.workers = workers_stay known c.args.core.now c.loop-place.core c.args.seats.now c.args.seats.now [] q (0 + 0 * actors q + (1 + c.loop-place.place)) t p.on in
    let same : length r.core.workers ≡ length p.on.played.last.core.workers = same_workers known c.loop-place.core c.args.seats.now r p.on.played.last s p.on.played.shows in
    let count : c.workers-place-end.result ≡ length w.core.workers = c.workers-place-end.ensures w.core c.requires.round.shows.core in
    let test : c.loop-place.place < c.workers-place-end.result = c.loop-place-test.true in
    let number : c.from.result ≡ c.loop-place.place = c.from.ensures in
    let there : c.loop-place.place < length r.core.workers = omega arith in
    worker_picked r c.worker-event.result c.loop-place.place c.from.result there number (c.worker-event.ensures r.core s.core there)

pub returns-in_err-take_crew_turn-clause-err : goal.returns-in_err-take_crew_turn-clause-err
returns-in_err-take_crew_turn-clause-err c = at_err c.from_residual.result (λ r s.
    let known = c.args.dictionary.now in
    let q : Round = record r { turns = 1 } in
    let one : 1 ≡ 0 + 0 * actors q + 1 = omega arith in
    let t = shows_again known c.args.core.now c.args.seats.now r 1 s in
    let p = (c.loop-place.invariant.turns [] q 0 t one).on in
    stopped_behind known c.loop-place.core c.take_crew_turn.new.core c.args.seats.now [] q t.stands p.played (c.in_err-take_crew_turn.ensures.err p.played.last p.played.shows))

pub loop-place-preserved : goal.loop-place-preserved
loop-place-preserved c =
    let known = c.args.dictionary.now in
    let first = c.args.core.now in
    let old = c.loop-place.core in
    let new = c.take_crew_turn.new.core in
    let seats = c.args.seats.now in
    let place = c.loop-place.place in
    let event = c.worker-event.result in
    let number : c.from.result ≡ place = c.from.ensures in
    record {
      turns = λ schedule r k s e.
          let p = c.loop-place.invariant.turns schedule r k s e in
          let q = p.on.played.last in
          let turns = length schedule + k * actors r + (1 + place) in
          let turn : IsTurnOf schedule q (1 + c.from.result) = turn_at c schedule r k s p.on in
          let more : turns + 1 ≡ length schedule + k * actors r + (1 + (place + 1)) = omega arith in
          subst (λ n. PlayedBy known new seats schedule r n c.args.rests (c.loop-place.still && c.is_unseen-still.result)) more
          (worker_more known old new seats schedule r turns (1 + c.from.result) event c.args.rests c.loop-place.still c.is_unseen-still.result p c.is_unseen-still.ensures turn (picks_at c schedule r k s p.on)
          (c.in_ok-take_crew_turn.ensures.turns schedule q p.on.played.shows turn));
      wait =
          let w = c.requires.round.round in
          let r : Round = record w { turns = 1 } in
          let one : 1 ≡ 0 + 0 * actors r + 1 = omega arith in
          let s = shows_again known first seats w 1 c.requires.round.shows in
          let p = (c.loop-place.invariant.turns [] r 0 s one).on in
          let q = p.played.last in
          let turn : IsTurnOf [] q (1 + c.from.result) = turn_at c [] r 0 s p in
          let count : c.workers-place-end.result ≡ length w.core.workers = c.workers-place-end.ensures w.core c.requires.round.shows.core in
          let stay : length q.core.workers ≡ length w.core.workers = workers_stay known first old seats seats [] r (0 + 0 * actors r + (1 + place)) s p in
          let test : place < c.workers-place-end.result = c.loop-place-test.true in
          let at : actor_of (length q.core.workers) (1 + c.from.result) ≡ WorkerAt place = ap (λ n. actor_of (length q.core.workers) (1 + n)) number ∙ worker_numbered (length q.core.workers) place (omega arith) in
          still_ahead known old new seats [] q (1 + c.from.result) place event p.played.shows c.loop-place.invariant.wait turn at (picks_at c [] r 0 s p)
          (c.in_ok-take_crew_turn.ensures.turns [] q p.played.shows turn);
      acted =
          let next : 1 + c.from.result ≡ 1 + place = omega arith in
          let more : 1 + place + 1 ≡ 1 + (place + 1) = omega arith in
          subst (RestOrAct known first seats new seats 1) more
          (rest_or_act known first old new seats seats seats 1 (1 + place) c.loop-place.invariant.acted (subst (RestsOrActs known old seats new seats) next c.in_ok-take_crew_turn.ensures.acts));
    }
  where
    turn_at : (c : goal.In_ok-take_crew_turn) (schedule : List ℕ) (r : Round) (k : ℕ) → ShowsRound c.args.dictionary.now c.args.core.now c.args.seats.now r
        → (p : HasPlayedOn c.args.dictionary.now c.loop-place.core c.args.seats.now schedule r (length schedule + k * actors r + (1 + c.loop-place.place))) → IsTurnOf schedule p.played.last (1 + c.from.result)
    turn_at c schedule r k s p =
        let place = c.loop-place.place in
        let number : c.from.result ≡ place = c.from.ensures in
        let count : c.workers-place-end.result ≡ length r.core.workers = c.workers-place-end.ensures r.core s.core in
        let test : place < c.workers-place-end.result = c.loop-place-test.true in
        let at : length schedule + k * actors r + (1 + place) ≡ length schedule + k * actors r + (1 + c.from.result) = omega arith in
        has_turn c.args.dictionary.now c.args.core.now c.loop-place.core c.args.seats.now c.args.seats.now schedule r k (length schedule + k * actors r + (1 + place)) (1 + c.from.result) s p at (omega arith)

    picks_at : (c : goal.In_ok-take_crew_turn) (schedule : List ℕ) (r : Round) (k : ℕ) → ShowsRound c.args.dictionary.now c.args.core.now c.args.seats.now r
        → (p : HasPlayedOn c.args.dictionary.now c.loop-place.core c.args.seats.now schedule r (length schedule + k * actors r + (1 + c.loop-place.place)))
        → crew_shown c.worker-event.result ≡ act_of p.played.last (actor_of (length p.played.last.core.workers) (1 + c.from.result))
    picks_at c schedule r k s p =
        let q = p.played.last in
        let count : c.workers-place-end.result ≡ length r.core.workers = c.workers-place-end.ensures r.core s.core in
        let stay : length q.core.workers ≡ length r.core.workers =
        workers_stay c.args.dictionary.now c.args.core.now c.loop-place.core c.args.seats.now c.args.seats.now schedule r (length schedule + k * actors r + (1 + c.loop-place.place)) s p in
        let test : c.loop-place.place < c.workers-place-end.result = c.loop-place-test.true in
        let there : c.loop-place.place < length q.core.workers = omega arith in
        worker_picked q c.worker-event.result c.loop-place.place c.from.result there c.from.ensures (c.worker-event.ensures q.core p.played.shows.core there)

pub returns-clause-turns : goal.returns-clause-turns
returns-clause-turns c schedule r k s rest e =
    let known = c.args.dictionary.now in
    let p = c.loop-place.invariant.turns schedule r k s e in
    let count : c.workers-place-end.result ≡ length r.core.workers = c.workers-place-end.ensures r.core s.core in
    let over : c.workers-place-end.result ≤ c.loop-place.place = c.loop-place-test.false in
    let within : c.loop-place.place ≤ c.workers-place-end.result = c.loop-place.auto.place-end in
    let all : c.loop-place.place ≡ length r.core.workers = omega arith in
    cycle_rest known c.args.core.now c.loop-place.core c.args.seats.now c.args.seats.now schedule r k c.loop-place.place c.loop-place.still s c.loop-place.invariant.wait all (record { on = p.on; coordinator = p.coordinator rest })

pub returns-clause-acts : goal.returns-clause-acts
returns-clause-acts c = by_acted c.loop-place.invariant.acted
  where
    by_acted : RestOrAct c.args.dictionary.now c.args.core.now c.args.seats.now c.loop-place.core c.args.seats.now 1 (1 + c.loop-place.place)
        → HaveWorkersRested c.args.dictionary.now c.args.core.now c.loop-place.core c.args.seats.now ⊎ (work_left c.loop-place.core c.args.seats.now < work_left c.args.core.now c.args.seats.now)
    by_acted (inr less) = inr less
    by_acted (inl rest) = inl (record {
      core = rest.core;
      rest = λ r s place h.
          let count : c.workers-place-end.result ≡ length r.core.workers = c.workers-place-end.ensures r.core s.core in
          let over : c.workers-place-end.result ≤ c.loop-place.place = c.loop-place-test.false in
          ap (act_of r) (sym (worker_numbered (length r.core.workers) place h)) ∙ rest.rest (1 + place) (omega arith) (omega arith) r s;
    })
