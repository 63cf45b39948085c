-- A turn of the driver is a turn of the rule.
use Rattle.std.proofs.Common.{◌≡◌, ℕ, ◌+◌, ◌<◌, Bool, true, false, ◌||◌, List, [], ◌∷◌, length, Option, Some, None, refl, sym, ap, ◌∙◌, subst, arith}
use Rattle.std.specs.Prelude.{Result, Ok, Err, OnOk}
use Rattle.std.proofs.Math.Nat.{mod-eq_of_lt}
use Rattle.adg_base.specs.declared.answer.Reply.{Reply}
use Rattle.dictionary.specs.Standing.{Known, StandsFor}
use Rattle.core_rules.specs.declared.event.Event.{Event}
use Rattle.core_rules.specs.State.{CoreState}
use Rattle.core_rules.specs.Runs.{Move, Takes}
use Rattle.standby_core.specs.declared.standby.Core.{Core}
use Rattle.standby_core.specs.declared.crew.CrewEvent.{CrewEvent}
use Rattle.standby_core.specs.Crew.{event_of, answer_of}
use Rattle.standby_core.specs.Shows.{IsState}
use Rattle.standby_core.specs.Steps.{Keeps}
use Rattle.turn_rules.specs.Round.{Seat, Round, actors, is_over}
use Rattle.turn_rules.specs.Picks.{Rests, Makes, Actor, Coordinator, WorkerAt, SessionAt, actor_of, act_of}
use Rattle.turn_rules.specs.Turns.{Acts, said_by, seats_after, is_abort_told, TakesTurn}
use Rattle.turn_rules.specs.Measure.{measure}
use Rattle.turn_rules.specs.Standing.{RoundIs}
use Rattle.turn_rules.proofs.View.{TurnIs, Rested, Crewed, Seated}
use Rattle.turn_rules.proofs.Viewed.{turns_are_these}
use Rattle.turn_rules.proofs.Kept.{turns_keep_rounds, rounds_are_runs}
use Rattle.turn_rules.proofs.CrewKept.{crew_keeps, session_keeps}
use Rattle.turn_rules.proofs.Falls.{acts_lower_measure}
use Rattle.step_driver.specs.declared.seats.Seats.{Seats}
use Rattle.step_driver.specs.Acts.{HasTaken, HasActed}
use Rattle.step_driver.specs.Seating.{seats_shown, IsCounted}
use Rattle.step_driver.specs.Work.{work_left}
use Rattle.step_driver.specs.Rounds.{ShowsRound, IsTurnOf, HasTurned, HasStopped}
use Rattle.step_driver.proofs.Worked.{work_is}

-- where nothing is told nobody is told
pub none_told : (a : Actor) (seats : List Seat) → seats ≡ seats_after a None seats
none_told Coordinator seats = refl
none_told (WorkerAt worker) seats = refl
none_told (SessionAt place) seats = refl

pub or_none : (b : Bool) → b ≡ (b || is_abort_told None)
or_none true = refl
or_none false = refl

pub on_ok_three : {T E A B C D : Type 0} (r : Result T E) → (A → B → C → D) → OnOk r A → OnOk r B → OnOk r C → OnOk r D
on_ok_three (Ok x) f a b d = f a b d
on_ok_three (Err e) f a b d = tt

crew_says : (moved : Bool) → None ≡ said_by (answer_of moved)
crew_says true = refl
crew_says false = refl

-- an event that was taken
pub made : (core : Core) (c : CoreState) (event : Event) (told : Option Reply) → HasTaken core c event told → HasActed core c (Makes event) told
made core c event told h = record { move = Some (Takes event h.answer); next = h.next; acts = (h.answer, refl, h.says, h.steps); is = h.is; precise = h.precise }

-- an event of the coordinator or of a worker that was taken; it says nothing
pub crew_took : (core : Core) (c : CoreState) (event : CrewEvent) (moved : Bool) → Keeps core c (event_of event) (answer_of moved) → HasActed core c (Makes (event_of event)) None
crew_took core c event moved k = record { move = Some (Takes (event_of event) (answer_of moved)); next = k.next; acts = (answer_of moved, refl, crew_says moved, k.steps); is = k.is; precise = k.precise }

-- a turn leaves the log
pub turn_log : (schedule : List ℕ) (r : Round) (move : Option Move) (next : Round) → RoundIs r → TakesTurn schedule r move next → next.core.log ≡ r.core.log
turn_log schedule r move next is t = by_turn (turns_are_these schedule r move next is t).1
  where
    by_turn : TurnIs r next → next.core.log ≡ r.core.log
    by_turn (Rested core seats o) = ap (λ (y : CoreState). y.log) core
    by_turn (Crewed e i h seats o) = (crew_keeps r.core is.core e next.core i h).log
    by_turn (Seated place seat session request told at does) = (session_keeps r.core place session request told next.aborted next.core does).log

-- the round after an act of the actor with a number
abbrev pub round_after : Round → ℕ → Option Reply → CoreState → Round
round_after r number told core = record {
  core = core;
  seats = seats_after (actor_of (length r.core.workers) number) told r.seats;
  turns = r.turns + 1;
  aborted = r.aborted || is_abort_told told;
}

-- what an act of an actor makes is a turn
pub acted_turn : (core : Core) (schedule : List ℕ) (r : Round) (number : ℕ) (told : Option Reply) → is_over r ≡ false → IsTurnOf schedule r number
    → (a : HasActed core r.core (act_of r (actor_of (length r.core.workers) number)) told) → TakesTurn schedule r a.move (round_after r number told a.next)
acted_turn core schedule r number told goes_on turn a = record {
  goes_on = goes_on;
  told = told;
  core = a.next;
  acts = subst (λ (n : ℕ). Acts r.core (act_of r (actor_of (length r.core.workers) n)) a.move told a.next) (sym turn) a.acts;
  effect = ap (λ (n : ℕ). record { core = a.next; seats = seats_after (actor_of (length r.core.workers) n) told r.seats; turns = r.turns + 1; aborted = r.aborted || is_abort_told told }) (sym turn);
}

-- A core and seats after an act show the round after it.
pub turned : (known : Known) (old core : Core) (was seats : Seats) (schedule : List ℕ) (r : Round) (number : ℕ) (told : Option Reply) → ShowsRound known old was r → is_over r ≡ false
    → IsTurnOf schedule r number → HasActed core r.core (act_of r (actor_of (length r.core.workers) number)) told
    → seats_shown seats ≡ seats_after (actor_of (length r.core.workers) number) told (seats_shown was) → IsCounted seats → seats.aborted ≡ (was.aborted || is_abort_told told)
    → HasTurned known core seats schedule r
turned known old core was seats schedule r number told s goes_on turn a same counted aborted = record {
  move = a.move;
  next = round_after r number told a.next;
  turn = takes;
  shows = record {
    core = a.is;
    seats = same ∙ ap (seats_after (actor_of (length r.core.workers) number) told) s.seats;
    counted = counted;
    aborted = aborted ∙ ap (λ b. b || is_abort_told told) s.aborted;
    stands = turns_keep_rounds schedule r a.move (round_after r number told a.next) takes s.stands;
    known = subst (StandsFor known) (sym (turn_log schedule r a.move (round_after r number told a.next) s.stands takes)) s.known;
  };
}
  where
    takes : TakesTurn schedule r a.move (round_after r number told a.next)
    takes = acted_turn core schedule r number told goes_on turn a

-- a rest
pub rests : (core : Core) (c : CoreState) → IsState core c → HasActed core c Rests None
rests core c is = record { move = None; next = c; acts = (refl, refl, refl); is = is; precise = λ p. p }

-- nothing happened
pub stopped_at_once : (core : Core) (c : CoreState) → IsState core c → HasStopped core c
stopped_at_once core c is = record { moves = []; next = c; leads = refl; taken = tt; is = is }

-- a schedule by which an actor has the next turn
pub any_turn : (r : Round) (number : ℕ) → number < actors r → IsTurnOf (number ∷ []) (record r { turns = 0 }) number
any_turn r number h = mod-eq_of_lt h

-- the turns taken are none of what a core and seats show
pub shows_again : (known : Known) (core : Core) (seats : Seats) (r : Round) (turns : ℕ) → ShowsRound known core seats r → ShowsRound known core seats (record r { turns = turns })
shows_again known core seats r turns s = record {
  core = s.core;
  seats = s.seats;
  counted = s.counted;
  aborted = s.aborted;
  stands = record { core = s.stands.core; precise = s.stands.precise; seated = s.stands.seated; busy = s.stands.busy; gone = s.stands.gone };
  known = s.known;
}

-- Want of memory after an act.
pub stopped_after : (core : Core) (r : Round) (number : ℕ) (told : Option Reply) → RoundIs r → is_over r ≡ false → number < actors r
    → HasActed core r.core (act_of r (actor_of (length r.core.workers) number)) told → HasStopped core r.core
stopped_after core r number told is goes_on within a =
    let q : Round = record r { turns = 0 } in
    let stands : RoundIs q = record { core = is.core; precise = is.precise; seated = is.seated; busy = is.busy; gone = is.gone } in
    let takes = acted_turn core (number ∷ []) q number told goes_on (any_turn r number within) a in
    let run = rounds_are_runs (number ∷ []) q (a.move ∷ []) (round_after q number told a.next) stands (round_after q number told a.next, takes, refl) in
    record { moves = _; next = a.next; leads = run.leads; taken = run.taken; is = a.is }

-- An act that is no rest leaves less to do.
pub less_left : (known : Known) (old core : Core) (was seats : Seats) (r : Round) (number : ℕ) → ShowsRound known old was r → number < actors r
    → (act_of r (actor_of (length r.core.workers) number) ≡ Rests → ⊥) → HasTurned known core seats (number ∷ []) (record r { turns = 0 }) → work_left core seats < work_left old was
less_left known old core was seats r number s within acts t =
    let q : Round = record r { turns = 0 } in
    let falls = acts_lower_measure (number ∷ []) q t.move t.next (shows_again known old was r 0 s).stands t.turn in
    let turn : IsTurnOf (number ∷ []) q number = any_turn r number within in
    let less : measure t.next < measure q = falls.acts (λ e. acts (subst (λ n. act_of r (actor_of (length r.core.workers) n) ≡ Rests) turn e)) in
    let before : work_left old was ≡ measure r = work_is known old was r s in
    let after : work_left core seats ≡ measure t.next = work_is known core seats t.next t.shows in
    let same : measure q ≡ measure r = refl in
    omega arith
