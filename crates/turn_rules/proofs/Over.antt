-- A round that is over: no session does anything; and every turn of a round keeps what each turn keeps.
use Rattle.std.proofs.Common.{◌≡◌, ℕ, ◌<◌, ◌≤◌, Bool, true, false, ◌&&◌, ◌||◌, List, [], ◌∷◌, length, Option, Some, None, refl, sym, ◌∙◌, subst, arith}
use Rattle.std.specs.Prelude.{◌==◌}
use Rattle.std.specs.List.{AllByRecursion, list_all}
use Rattle.std.proofs.lemmas.Bool.{leb-true, eqb-true, and_parts}
use Rattle.core_rules.specs.Runs.{Move}
use Rattle.core_rules.specs.State.{Session, Free, Populating, Scanning, At}
use Rattle.core_rules.proofs.Lists.{at_within, at_exists, at_has, each_at, each_from_has}
use Rattle.turn_rules.specs.Round.{Request, Seat, at_hand, is_through, Round, is_over}
use Rattle.turn_rules.specs.Turns.{TakesTurn, Plays}
use Rattle.turn_rules.specs.Standing.{IsFor, RoundIs}
use Rattle.turn_rules.specs.Laws.{TurnsKeepRounds}
use Rattle.turn_rules.proofs.Guards.{all_each}
use Rattle.turn_rules.proofs.Waits.{get_beyond}

-- what is known of a round that is over
pub data IsOver (r : Round) : Type 0 where
  ByAbort : r.aborted ≡ true → IsOver r
  ByEnd : r.aborted ≡ false → AllByRecursion (λ s. is_through s ≡ true) r.seats → r.core.query ≡ r.core.frontier → IsOver r

pub over_is : (r : Round) → is_over r ≡ true → IsOver r
over_is r h = by_aborted r.aborted refl h
  where
    by_aborted : (b : Bool) → r.aborted ≡ b → (b || (list_all is_through r.seats && (r.core.query == r.core.frontier))) ≡ true → IsOver r
    by_aborted true a k = ByAbort a
    by_aborted false a k =
        let p = and_parts (list_all is_through r.seats) (r.core.query == r.core.frontier) k in
        ByEnd a (all_each is_through r.seats p.0) (eqb-true r.core.query r.core.frontier p.1)

pub through_length : (seat : Seat) → is_through seat ≡ true → length seat.requests ≤ length seat.replies
through_length seat h = leb-true (length seat.requests) (length seat.replies) h

-- no session does anything
free_without : (session : Session) (o : Option Request) → IsFor session o → o ≡ None → session ≡ Free
free_without Free o h e = refl
free_without (Populating p) o h e = let k : None ≡ Some _ = sym e ∙ h in absurd cc
free_without (Scanning s) o h e = let k : None ≡ Some _ = sym e ∙ h in absurd cc

pub over_free : (r : Round) → RoundIs r → IsOver r → (place : ℕ) (session : Session) → At r.core.sessions place session → session ≡ Free
over_free r is (ByAbort a) place session h = is.gone a place session h
over_free r is (ByEnd a through q) place session h =
    let within : place < length r.core.sessions = at_within r.core.sessions place session h in
    let as_many : length r.seats ≡ length r.core.sessions = is.seated in
    let seat = at_exists r.seats place (omega arith) in
    let t = through_length seat.0 (each_at (λ (s : Seat). is_through s ≡ true) r.seats place seat.0 through seat.1) in
    free_without session (at_hand seat.0) (is.busy place seat.0 session seat.1 h) (get_beyond seat.0.requests (length seat.0.replies) t)

pub all_free : (r : Round) → RoundIs r → IsOver r → AllByRecursion (λ s. s ≡ Free) r.core.sessions
all_free r is over = each_from_has (λ s. s ≡ Free) r.core.sessions (λ s h. let p = at_has r.core.sessions s h in over_free r is over p.0 s p.1)

-- What each turn keeps holds at the end of a round.
pub plays_keep : (P : Round → Type 0) (schedule : List ℕ) → TurnsKeepRounds → ((r : Round) (move : Option Move) (next : Round) → RoundIs r → RoundIs next → TakesTurn schedule r move next → P r → P next)
    → (r : Round) (turns : List (Option Move)) (last : Round) → RoundIs r → Plays schedule r turns last → P r → P last
plays_keep P schedule keep step r [] last is p h = subst P (sym p) h
plays_keep P schedule keep step r (move ∷ turns) last is p h =
    let is' = keep schedule r move p.0 p.1 is in
    plays_keep P schedule keep step p.0 turns last is' p.2 (step r move p.0 is is' p.1 h)

pub plays_stand : (schedule : List ℕ) → TurnsKeepRounds → (r : Round) (turns : List (Option Move)) (last : Round) → RoundIs r → Plays schedule r turns last → RoundIs last
plays_stand schedule keep r [] last is p = subst RoundIs (sym p) is
plays_stand schedule keep r (move ∷ turns) last is p = plays_stand schedule keep p.0 turns last (keep schedule r move p.0 p.1 is) p.2
