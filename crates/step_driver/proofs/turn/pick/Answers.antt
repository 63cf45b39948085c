use Rattle.std.proofs.Common.{◌≡◌, ℕ, ◌<◌, length, Option, Some, None, ap, ◌∙◌, refl, arith}
use Rattle.std.specs.Prelude.{Result, Ok, Err, IfOk, slice_get}
use Rattle.core_rules.specs.State.{Session, At}
use Rattle.core_rules.proofs.Lists.{at_within, at_exists}
use Rattle.turn_rules.specs.Round.{Request, Seat, Round}
use Rattle.turn_rules.specs.Picks.{Act, request_act, session_act}
use Rattle.step_driver.specs.Acts.{act_shown}
use Rattle.step_driver.specs.Seating.{request_shown, hand_of}
use Rattle.step_driver.proofs.turn.pick.Goals as goal

if_ok : {T E : Type 0} (r : Result T E) (P Q : T → Type 0) → ((x : T) → P x → Q x) → IfOk r P → IfOk r Q
if_ok (Ok x) P Q f p = f x p
if_ok (Err e) P Q f p = tt

-- what a session does for the request at hand of its seat
session_acts : (r : Round) (place : ℕ) (request : Request) (act : Act) → length r.seats ≡ length r.core.sessions → Some request ≡ hand_of (slice_get r.seats place)
    → ((s : Session) → At r.core.sessions place s → act ≡ request_act r.core place (Some request)) → act ≡ session_act r.core place (slice_get r.seats place)
session_acts r place request act seated hand does = by_seat (slice_get r.seats place) refl hand
  where
    by_seat : (o : Option Seat) → slice_get r.seats place ≡ o → Some request ≡ hand_of o → act ≡ session_act r.core place o
    by_seat None e h = let k : Some request ≡ None = h in absurd cc
    by_seat (Some seat) e h =
        let within : place < length r.seats = at_within r.seats place seat e in
        let s = at_exists r.core.sessions place (omega arith) in
        does s.0 s.1 ∙ ap (request_act r.core place) h

pub returns-in-Some : goal.returns-in-Some
returns-in-Some c = if_ok c.session.result _ _ (λ act h known r s.
    let place = c.args.place in
    let request = request_shown c.in-Some.request.now in
    let hand : Some request ≡ hand_of (slice_get r.seats place) = c.in-Some.ensures ∙ ap (λ xs. hand_of (slice_get xs place)) s.seats in
    session_acts r place request (act_shown act) s.stands.seated hand (λ t at. h r.core place t s.core refl at)) c.session.ensures
