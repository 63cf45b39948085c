-- For a driver that takes one turn a pass: a turn behind others, and whose turn comes next.
use Rattle.std.proofs.Common.{◌≡◌, ℕ, ◌-◌, ◌%◌, ◌≤◌, List, [], ◌∷◌, ◌++◌, length, Option, refl, ap, subst}
use Rattle.core_rules.specs.State.{At}
use Rattle.core_rules.specs.Runs.{Move}
use Rattle.turn_rules.specs.Round.{Round}
use Rattle.turn_rules.specs.Picks.{number_by, number_at}
use Rattle.turn_rules.specs.Turns.{TakesTurn, Plays}
use Rattle.turn_rules.proofs.Waits.{get_beyond}

-- one turn more
pub plays_more : (schedule : List ℕ) (r : Round) (turns : List (Option Move)) (mid : Round) (move : Option Move) (last : Round) → Plays schedule r turns mid → TakesTurn schedule mid move last
    → Plays schedule r (turns ++ move ∷ []) last
plays_more schedule r [] mid move last p t = (last, subst (λ x. TakesTurn schedule x move last) p t, refl)
plays_more schedule r (first ∷ turns) mid move last p t = (p.0, p.1, plays_more schedule p.0 turns mid move last p.2 t)

-- the actor of a turn that has a byte, and of one behind the bytes
pub number_inside : (schedule : List ℕ) (actors turn byte : ℕ) → At schedule turn byte → number_at schedule actors turn ≡ byte % actors
number_inside schedule actors turn byte h = ap (λ o. number_by actors o (turn - length schedule)) h

pub number_behind : (schedule : List ℕ) (actors turn : ℕ) → length schedule ≤ turn → number_at schedule actors turn ≡ (turn - length schedule) % actors
number_behind schedule actors turn h = ap (λ o. number_by actors o (turn - length schedule)) (get_beyond schedule turn h)
