use Rattle.std.proofs.Common.{◌≡◌, ◌+◌, ◌*◌, [], length, ◌∙◌, arith}
use Rattle.std.specs.Prelude.{Result, Ok, Err, OnOk, OnErr}
use Rattle.turn_rules.specs.Round.{Round, actors}
use Rattle.step_driver.proofs.Turned.{shows_again}
use Rattle.step_driver.proofs.Played.{stopped_behind, cycle_ends, cycled_on}
use Rattle.step_driver.proofs.round.play_cycles.Goals as goal

pub play_from-requires-clause-round : goal.play_from-requires-clause-round
play_from-requires-clause-round c =
    let known = c.args.dictionary.now in
    let w = c.requires.round in
    let q : Round = record w { turns = 0 } in
    let none : 0 ≡ 0 + 0 * actors q = omega arith in
    let h = c.in_ok-play_crew.ensures.turns [] q 0 (shows_again known c.args.core.now c.args.seats.now w 0 c.requires.shows) none in
    record { round = h.on.played.last; shows = h.on.played.shows }

on_ok : {T E P Q : Type 0} (r : Result T E) → (P → Q) → OnOk r P → OnOk r Q
on_ok (Ok x) f p = f p
on_ok (Err e) f p = tt

on_err : {T E P Q : Type 0} (r : Result T E) → (P → Q) → OnErr r P → OnErr r Q
on_err (Ok x) f p = tt
on_err (Err e) f p = f p

pub returns-in_ok-play_crew-clause-turns : goal.returns-in_ok-play_crew-clause-turns
returns-in_ok-play_crew-clause-turns c = on_ok c.play_from.result (λ f schedule r k s e.
    let h = c.in_ok-play_crew.ensures.turns schedule r k s e in
    cycled_on c.args.dictionary.now c.play_crew.new.core c.play_from.new.core c.args.seats.now c.play_from.new.seats schedule r k s.stands h (λ j g. f schedule h.on.played.last j h.on.played.shows g)) c.play_from.ensures.turns

pub returns-in_ok-play_crew-clause-err : goal.returns-in_ok-play_crew-clause-err
returns-in_ok-play_crew-clause-err c = on_err c.play_from.result (λ f r s.
    let known = c.args.dictionary.now in
    let q : Round = record r { turns = 0 } in
    let none : 0 ≡ 0 + 0 * actors q = omega arith in
    let t = shows_again known c.args.core.now c.args.seats.now r 0 s in
    let h = c.in_ok-play_crew.ensures.turns [] q 0 t none in
    stopped_behind known c.play_crew.new.core c.play_from.new.core c.args.seats.now [] q t.stands h.on.played (f h.on.played.last h.on.played.shows)) c.play_from.ensures.err

pub returns-else-all_wait-clause-turns : goal.returns-else-all_wait-clause-turns
returns-else-all_wait-clause-turns c = on_ok c.play_from-else-all_wait.result (λ f schedule r k s e.
    let none : length schedule + k * actors r ≡ length schedule + k * actors r + 0 = omega arith in
    cycle_ends c.args.dictionary.now c.play_from-else-all_wait.new.core c.play_from-else-all_wait.new.seats schedule r k s.stands (f schedule r k s (e ∙ none))) c.play_from-else-all_wait.ensures.turns
