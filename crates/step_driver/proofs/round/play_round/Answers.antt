use Rattle.std.proofs.Common.{◌≡◌, ℕ, ◌+◌, ◌*◌, List, length, ◌⊎◌, inl, inr, true, refl, ◌∙◌, arith}
use Rattle.std.specs.Prelude.{Result, Ok, Err, OnOk, OnErr}
use Rattle.turn_rules.specs.Round.{Round, actors, is_over}
use Rattle.step_driver.specs.Rounds.{IsBehind}
use Rattle.step_driver.proofs.Turned.{shows_again}
use Rattle.step_driver.proofs.Played.{played_append, stopped_behind}
use Rattle.step_driver.proofs.round.play_round.Goals as goal

on_ok : {T E P Q : Type 0} (r : Result T E) → (P → Q) → OnOk r P → OnOk r Q
on_ok (Ok x) f p = f p
on_ok (Err e) f p = tt

on_err : {T E P Q : Type 0} (r : Result T E) → (P → Q) → OnErr r P → OnErr r Q
on_err (Ok x) f p = tt
on_err (Err e) f p = f p

-- behind the bytes no actor has had a turn yet
behind : (schedule : List ℕ) (r : Round) → (is_over r ≡ true) ⊎ (r.turns ≡ length schedule) → IsBehind schedule r
behind schedule r (inl over) = inl over
behind schedule r (inr e) = let none : length schedule ≡ length schedule + 0 * actors r = omega arith in inr (0, e ∙ none)

pub play_on-requires : goal.play_on-requires
play_on-requires c =
    let known = c.args.dictionary.now in
    let q : Round = record c.requires.round { turns = 0 } in
    let p = c.in_ok-play_schedule.ensures.ok q (shows_again known c.args.core.now c.args.seats.now c.requires.round 0 c.requires.shows) refl in
    record { round = p.played.last; shows = p.played.shows }

pub returns-clause-ok : goal.returns-clause-ok
returns-clause-ok c = on_ok c.play_on.result (λ h r s e.
    let known = c.args.dictionary.now in
    let schedule = c.args.schedule.now in
    let p = c.in_ok-play_schedule.ensures.ok r s e in
    let x = h schedule p.played.last p.played.shows (behind schedule p.played.last p.end) in
    record { played = played_append known c.play_schedule.new.core c.play_on.new.core c.play_schedule.new.seats c.play_on.new.seats schedule r p.played x.played; over = x.over }) c.play_on.ensures.ok

pub returns-clause-err : goal.returns-clause-err
returns-clause-err c = on_err c.play_on.result (λ h r s.
    let known = c.args.dictionary.now in
    let q : Round = record r { turns = 0 } in
    let t = shows_again known c.args.core.now c.args.seats.now r 0 s in
    let p = c.in_ok-play_schedule.ensures.ok q t refl in
    stopped_behind known c.play_schedule.new.core c.play_on.new.core c.play_schedule.new.seats c.args.schedule.now q t.stands p.played (h p.played.last p.played.shows)) c.play_on.ensures.err
