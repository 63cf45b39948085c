use Rattle.std.proofs.Common.{◌≡◌, ◌<◌, false, [], ◌∷◌, length, None, inl, inr, refl, sym, ap, ◌∙◌, subst}
use Rattle.standby_core.proofs.Exits.{at_err}
use Rattle.turn_rules.specs.Round.{Round, actors, is_over}
use Rattle.turn_rules.specs.Picks.{Rests, Makes, Replies, MakesAndReplies, actor_of, act_of}
use Rattle.turn_rules.specs.Turns.{seats_after}
use Rattle.step_driver.specs.declared.act.Act.{Act}
use Rattle.step_driver.specs.declared.act.Act.TheVariants as own
use Rattle.step_driver.specs.Acts.{act_shown, HasActed}
use Rattle.step_driver.specs.Seating.{seats_shown}
use Rattle.step_driver.specs.Rounds.{ShowsRound}
use Rattle.step_driver.proofs.Turned.{none_told, or_none, on_ok_three, turned, rests, any_turn, shows_again, stopped_after, less_left}
use Rattle.step_driver.proofs.Played.{same_over}
use Rattle.step_driver.proofs.turn.take_session_turn.Goals as goal

-- only Rest is a rest
is_rest : (a : Act) → act_shown a ≡ Rests → a ≡ own.Rest
is_rest own.Rest h = refl
is_rest (own.Make event) h = let k : Makes event ≡ Rests = h in absurd cc
is_rest (own.Tell reply) h = let k : Replies reply ≡ Rests = h in absurd cc
is_rest (own.MakeAndTell event reply) h = let k : MakesAndReplies event reply ≡ Rests = h in absurd cc

pub returns-in-Rest-clause-turns : goal.returns-in-Rest-clause-turns
returns-in-Rest-clause-turns c schedule r s turn =
    let known = c.args.dictionary.now in
    let core = c.args.core.now in
    let seats = c.args.seats.now in
    let number = c.args.number in
    let goes_on : is_over r ≡ false = same_over known core seats r c.requires.round.round s c.requires.round.shows ∙ c.requires.round.goes_on in
    let rest : Rests ≡ act_of r (actor_of (length r.core.workers) number) = sym (ap act_shown c.in-Rest.is) ∙ c.in_ok-act.ensures known r s ∙ ap (act_of r) (c.requires.named r s) in
    turned known core core seats seats schedule r number None s goes_on turn (subst (λ a. HasActed core r.core a None) rest (rests core r.core s.core))
    (none_told (actor_of (length r.core.workers) number) (seats_shown seats)) s.counted (or_none seats.aborted)

pub returns-in-Rest-clause-acts : goal.returns-in-Rest-clause-acts
returns-in-Rest-clause-acts c = inl (record {
  core = refl;
  seats = refl;
  rests = λ r s. sym (c.in_ok-act.ensures c.args.dictionary.now r s ∙ ap (act_of r) (c.requires.named r s)) ∙ ap act_shown c.in-Rest.is;
})

pub returns : goal.returns
returns c =
    let known = c.args.dictionary.now in
    let core = c.args.core.now in
    let was = c.args.seats.now in
    let new = c.act_out.new.core in
    let seats = c.take_up.new.seats in
    let number = c.args.number in
    let told = c.in_ok-told.told in
    let w = c.requires.round.round in
    let named = c.requires.named in
    let picked : (r : Round) → ShowsRound known core was r → act_shown c.in_ok-act.act ≡ act_of r (actor_of (length r.core.workers) number) =
    λ r s. c.in_ok-act.ensures known r s ∙ ap (act_of r) (named r s) in
    let acted : (r : Round) → ShowsRound known core was r → HasActed new r.core (act_of r (actor_of (length r.core.workers) number)) told =
    λ r s. subst (λ a. HasActed new r.core a told) (picked r s) (c.in_ok-told.ensures.ok r.core s.core s.known) in
    let goes_on : (r : Round) → ShowsRound known core was r → is_over r ≡ false = λ r s. same_over known core was r w s c.requires.round.shows ∙ c.requires.round.goes_on in
    record {
      turns = on_ok_three c.take_up.result (λ row counted aborted schedule r s turn.
          turned known core new was seats schedule r number told s (goes_on r s) turn (acted r s) (row ∙ ap (λ a. seats_after a told (seats_shown was)) (named r s)) counted aborted)
          c.take_up.ensures.seats c.take_up.ensures.counted c.take_up.ensures.aborted;
      acts = on_ok_three c.take_up.result (λ row counted aborted.
          let s = c.requires.round.shows in
          let within : number < actors w = (c.requires.actor w s).within in
          let q : Round = record w { turns = 0 } in
          let t = shows_again known core was w 0 s in
          inr (less_left known core new was seats w number s within (λ e. c.in_default.not-Rest (is_rest c.in_ok-act.act (picked w s ∙ e)))
          (turned known core new was seats (number ∷ []) q number told t (goes_on q t) (any_turn w number within) (acted q t) (row ∙ ap (λ a. seats_after a told (seats_shown was)) (named q t)) counted aborted)))
          c.take_up.ensures.seats c.take_up.ensures.counted c.take_up.ensures.aborted;
      err = at_err c.take_up.result (λ r s. stopped_after new r number told s.stands (goes_on r s) (c.requires.actor r s).within (acted r s));
    }
