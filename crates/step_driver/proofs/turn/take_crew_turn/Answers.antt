use Rattle.std.proofs.Common.{◌≡◌, ◌<◌, false, [], ◌∷◌, length, None, inl, inr, refl, sym, ap, ◌∙◌, subst}
use Rattle.turn_rules.specs.Round.{Round, actors, is_over}
use Rattle.turn_rules.specs.Picks.{Rests, Makes, actor_of, act_of}
use Rattle.turn_rules.specs.Turns.{seats_after}
use Rattle.step_driver.specs.Acts.{crew_shown, HasActed}
use Rattle.standby_core.specs.Crew.{event_of}
use Rattle.step_driver.specs.Seating.{seats_shown}
use Rattle.step_driver.specs.Rounds.{ShowsRound}
use Rattle.step_driver.proofs.Turned.{none_told, or_none, crew_took, turned, rests, any_turn, shows_again, less_left}
use Rattle.step_driver.proofs.Played.{same_over}
use Rattle.step_driver.proofs.turn.take_crew_turn.Goals as goal

pub returns-in_default-clause-turns : goal.returns-in_default-clause-turns
returns-in_default-clause-turns c schedule r s turn =
    let known = c.args.dictionary.now in
    let core = c.args.core.now in
    let seats = c.args.seats.now in
    let number = c.args.number in
    let goes_on : is_over r ≡ false = same_over known core seats r c.requires.round.round s c.requires.round.shows ∙ c.requires.round.goes_on in
    let rest : Rests ≡ act_of r (actor_of (length r.core.workers) number) = sym (ap crew_shown c.in_default.is) ∙ c.requires.picked r s in
    turned known core core seats seats schedule r number None s goes_on turn (subst (λ a. HasActed core r.core a None) rest (rests core r.core s.core))
    (none_told (actor_of (length r.core.workers) number) (seats_shown seats)) s.counted (or_none seats.aborted)

pub returns-in_default-clause-acts : goal.returns-in_default-clause-acts
returns-in_default-clause-acts c = inl (record {
  core = refl;
  seats = refl;
  rests = λ r s. sym (c.requires.picked r s) ∙ ap crew_shown c.in_default.is;
})

pub returns : goal.returns
returns c =
    let known = c.args.dictionary.now in
    let core = c.args.core.now in
    let seats = c.args.seats.now in
    let new = c.step_crew.new.self in
    let number = c.args.number in
    let event = event_of c.in-Some.event in
    let w = c.requires.round.round in
    let picked : (r : Round) → ShowsRound known core seats r → Makes event ≡ act_of r (actor_of (length r.core.workers) number) = λ r s. sym (ap crew_shown c.in-Some.is) ∙ c.requires.picked r s in
    let acted : (r : Round) → ShowsRound known core seats r → HasActed new r.core (act_of r (actor_of (length r.core.workers) number)) None =
    λ r s. subst (λ a. HasActed new r.core a None) (picked r s) (crew_took new r.core c.in-Some.event c.in_ok-step_crew.field-0 (c.in_ok-step_crew.ensures.steps r.core s.core s.known)) in
    let goes_on : (r : Round) → ShowsRound known core seats r → is_over r ≡ false = λ r s. same_over known core seats r w s c.requires.round.shows ∙ c.requires.round.goes_on in
    let untold : (r : Round) → seats_shown seats ≡ seats_after (actor_of (length r.core.workers) number) None (seats_shown seats) = λ r. none_told (actor_of (length r.core.workers) number) (seats_shown seats) in
    record {
      turns = λ schedule r s turn. turned known core new seats seats schedule r number None s (goes_on r s) turn (acted r s) (untold r) s.counted (or_none seats.aborted);
      acts =
          let s = c.requires.round.shows in
          let within : number < actors w = c.requires.actor w s in
          let q : Round = record w { turns = 0 } in
          let t = shows_again known core seats w 0 s in
          inr (less_left known core new seats seats w number s within (λ e. let k : Makes event ≡ Rests = picked w s ∙ e in absurd cc)
          (turned known core new seats seats (number ∷ []) q number None t (goes_on q t) (any_turn w number within) (acted q t) (untold q) t.counted (or_none seats.aborted)));
      err = tt;
    }
