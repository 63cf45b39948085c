use Rattle.std.proofs.Common.{◌≡◌, ◌+◌, ◌*◌, true, false, [], length, Option, Some, None, refl, sym, ap, ◌∙◌, arith, true≢false}
use Rattle.std.specs.Prelude.{not, is_some}
use Rattle.standby_core.specs.declared.crew.CrewEvent.{CrewEvent}
use Rattle.step_driver.specs.Acts.{crew_shown}
use Rattle.turn_rules.specs.Round.{actors}
use Rattle.turn_rules.specs.Picks.{Rests, actor_of, actor_at, act_of, coordinator_act}
use Rattle.step_driver.specs.Rounds.{IsTurnOf, HasPlayedOn}
use Rattle.step_driver.specs.Waiting.{HasPlayedCrew}
use Rattle.step_driver.proofs.Played.{played_more}
use Rattle.step_driver.proofs.Cycles.{has_turn, crew_begins, rest_more, rested_turn}
use Rattle.step_driver.proofs.waiting.play_coordinator.Goals as goal

none_of : (o : Option CrewEvent) → is_some o ≡ false → o ≡ None
none_of None e = refl
none_of (Some x) e = absurd (true≢false e)

pub returns-then-rests-clause-turns : goal.returns-then-rests-clause-turns
returns-then-rests-clause-turns c schedule r k s rest e =
    let known = c.args.dictionary.now in
    let core = c.args.core.now in
    let seats = c.args.seats.now in
    let turns = length schedule + k * actors r in
    let p : HasPlayedCrew known core seats schedule r turns true = crew_begins known core seats schedule r turns true s e (λ h. rest c.if-rests.true) in
    let here : turns ≡ turns + 0 = omega arith in
    rest_more known core seats schedule r turns 0 true p c.requires.wait (has_turn known core core seats seats schedule r k turns 0 s p.on here (omega arith)) (rest c.if-rests.true)

pub returns-clause-turns : goal.returns-clause-turns
returns-clause-turns c schedule r k s rest e =
    let known = c.args.dictionary.now in
    let core = c.args.core.now in
    let seats = c.args.seats.now in
    let turns = length schedule + k * actors r in
    let p : HasPlayedOn known core seats schedule r turns = record { played = record { turns = []; last = r; plays = refl; shows = s }; count = e } in
    let here : turns ≡ turns + 0 = omega arith in
    let turn : IsTurnOf schedule r 0 = has_turn known core core seats seats schedule r k turns 0 s p here (omega arith) in
    let t = c.in_ok-take_crew_turn.ensures.turns schedule r s turn in
    let is : crew_shown c.coordinator-event.result ≡ coordinator_act r.core = c.coordinator-event.ensures r.core s.core in
    let at : act_of r (actor_at schedule r r.turns) ≡ coordinator_act r.core = ap (λ n. act_of r (actor_of (length r.core.workers) n)) turn in
    record {
      on = played_more known core c.take_crew_turn.new.core seats seats schedule r turns p t;
      coordinator = λ h.
          let is_none : c.coordinator-event.result ≡ None = none_of c.coordinator-event.result (c.is_none-rested.ensures ∙ ap not h) in
          let none : crew_shown c.coordinator-event.result ≡ Rests = ap crew_shown is_none in
          ap coordinator_act (rested_turn schedule r t.move t.next t.turn (at ∙ sym is ∙ none)) ∙ sym is ∙ none;
    }
