-- The seats of a driver: what is read for them, and what is told to them.
use Rattle.std.proofs.Common.{◌≡◌, ℕ, zero, suc, ◌+◌, ◌-◌, ◌<◌, ◌≤◌, Bool, cond, List, [], ◌∷◌, ◌++◌, length, map, get_or, Option, Some, None, ◌⊎◌, inl, inr, refl, sym, ap, ◌∙◌, subst, arith, append_assoc, append-nil}
use Rattle.std.specs.Prelude.{count_by, slice_get, slice_set, replicate}
use Rattle.std.specs.List.{AllZip, filter_map, cons_option}
use Rattle.std.proofs.lemmas.Bool.{ne_eqb, eq-eqb}
use Rattle.std.proofs.lemmas.List.{length-map, length-set}
use Rattle.std.proofs.lemmas.List.Elements.{filter_map-append}
use Rattle.std.proofs.lemmas.List.Sums.{sum_by-set, get_or-le-sum_by}
use Rattle.std.proofs.lemmas.Option.{get_or_from_slice_get}
use Rattle.adg_base.specs.declared.command.CommandText.{CommandText}
use Rattle.adg_base.specs.declared.answer.Reply.{Reply}
use Rattle.adg_model.specs.Transcript.{text_of, texts_of}
use Rattle.core_rules.specs.State.{At}
use Rattle.core_rules.proofs.Lists.{at_within, at_map, at_map_back, at_set_cases, map_set}
use Rattle.turn_rules.specs.Round.{Request, Reads, Seat, IsSeat, AreSeats}
use Rattle.turn_rules.specs.Turns.{with_reply, told_at}
use Rattle.turn_rules.specs.Telling.{session_lines, seats_lines, all_replies}
use Rattle.step_driver.specs.declared.request.Request.{Request as OwnRequest}
use Rattle.step_driver.specs.declared.seat.Seat.{Seat as OwnSeat}
use Rattle.step_driver.specs.Seating.{request_shown, seat_shown, is_waiting, AreRead, TakesText}

-- the seats of a round have what the driver's have
pub seats_read : (sessions : ℕ) (commands : List CommandText) (xs : List OwnSeat) → length xs ≡ sessions → AreRead commands xs → AreSeats sessions commands (map seat_shown xs)
seats_read sessions commands xs count read = record {
  count = length-map xs seat_shown ∙ count;
  each = λ place seat h.
      let p = at_map_back seat_shown xs place seat h in
      subst (IsSeat (texts_of (place + 1) commands)) p.2 (read place p.0 p.1);
}

-- texts one after another
filter_more : {X Y : Type 0} (f : X → Option Y) (xs : List X) (x : X) (y : Y) → f x ≡ Some y → filter_map f (xs ++ x ∷ []) ≡ filter_map f xs ++ y ∷ []
filter_more f xs x y h = filter_map-append f xs (x ∷ []) ∙ ap (λ o. filter_map f xs ++ cons_option o []) h

filter_same : {X Y : Type 0} (f : X → Option Y) (xs : List X) (x : X) → f x ≡ None → filter_map f (xs ++ x ∷ []) ≡ filter_map f xs
filter_same f xs x h = filter_map-append f xs (x ∷ []) ∙ ap (λ o. filter_map f xs ++ cons_option o []) h ∙ append-nil (filter_map f xs)

zip_more : {X Y : Type 0} (R : X → Y → Type 0) (xs : List X) (ys : List Y) (x : X) (y : Y) → AllZip R xs ys → R x y → AllZip R (xs ++ x ∷ []) (ys ++ y ∷ [])
zip_more R [] [] x y h r = (r, tt)
zip_more R [] (z ∷ ys) x y h r = absurd h
zip_more R (w ∷ xs) [] x y h r = absurd h
zip_more R (w ∷ xs) (z ∷ ys) x y h r = (h.0, zip_more R xs ys x y h.1 r)

own_text : (session : ℕ) (before : List CommandText) (command : CommandText) → command.session ≡ session → texts_of session (before ++ command ∷ []) ≡ texts_of session before ++ command.text ∷ []
own_text session before command h = filter_more (text_of session) before command command.text (ap (λ b. cond b (Some command.text) None) (eq-eqb command.session session h))

other_text : (session : ℕ) (before : List CommandText) (command : CommandText) → (command.session ≡ session → ⊥) → texts_of session (before ++ command ∷ []) ≡ texts_of session before
other_text session before command h = filter_same (text_of session) before command (ap (λ b. cond b (Some command.text) None) (ne_eqb command.session session h))

-- a command of another session
read_other : (session : ℕ) (before : List CommandText) (command : CommandText) (seat : Seat) → (command.session ≡ session → ⊥) → IsSeat (texts_of session before) seat → IsSeat (texts_of session (before ++ command ∷ [])) seat
read_other session before command seat other h = subst (λ ts. IsSeat ts seat) (sym (other_text session before command other)) h

-- a command of the seat's own session
read_own : (session : ℕ) (before : List CommandText) (command : CommandText) (seat : Seat) (request : Request) → command.session ≡ session → Reads command.text request → IsSeat (texts_of session before) seat
    → IsSeat (texts_of session (before ++ command ∷ [])) (record seat { requests = seat.requests ++ request ∷ [] })
read_own session before command seat request own reads h = record {
  reads = subst (λ ts. AllZip Reads ts (seat.requests ++ request ∷ [])) (sym (own_text session before command own))
      (zip_more Reads (texts_of session before) seat.requests command.text request h.reads reads);
  unanswered = h.unanswered;
}

-- a command for which there is no seat
pub text_of_none : (seats : List OwnSeat) (command : CommandText) → ((place : ℕ) → place < length seats → command.session ≡ place + 1 → ⊥) → TakesText seats command seats
text_of_none seats command none = record {
  count = refl;
  read = λ before read place x h. read_other (place + 1) before command (seat_shown x) (none place (at_within seats place x h)) (read place x h);
}

-- a command of a seat
map_more : (xs : List OwnRequest) (x : OwnRequest) → map request_shown (xs ++ x ∷ []) ≡ map request_shown xs ++ request_shown x ∷ []
map_more [] x = refl
map_more (y ∷ xs) x = ap (λ ys. request_shown y ∷ ys) (map_more xs x)

pub text_of_seat : (seats : List OwnSeat) (command : CommandText) (place : ℕ) (was new : OwnSeat) (request : OwnRequest) → At seats place was → command.session ≡ place + 1 → Reads command.text (request_shown request)
    → new.requests.items ≡ was.requests.items ++ request ∷ [] → new.replies.items ≡ was.replies.items → TakesText seats command (slice_set seats place new)
text_of_seat seats command place was new request at session reads requests replies = record {
  count = length-set seats place new;
  read = λ before read n x h. by_place before read n x (at_set_cases seats place n x new h);
}
  where
    shown : seat_shown new ≡ record (seat_shown was) { requests = (seat_shown was).requests ++ request_shown request ∷ [] }
    shown =
        let e : map request_shown new.requests.items ≡ map request_shown was.requests.items ++ request_shown request ∷ [] = ap (map request_shown) requests ∙ map_more was.requests.items request in
        ap (λ (rs : List Request). record { requests = rs; replies = new.replies.items }) e ∙ ap (λ (rs : List Reply). record { requests = map request_shown was.requests.items ++ request_shown request ∷ []; replies = rs }) replies

    by_place : (before : List CommandText) → AreRead before seats → (n : ℕ) (x : OwnSeat) → ((n ≡ place) × (x ≡ new)) ⊎ ((n ≡ place → ⊥) × At seats n x) → IsSeat (texts_of (n + 1) (before ++ command ∷ [])) (seat_shown x)
    by_place before read n x (inl p) =
        let own : IsSeat (texts_of (place + 1) (before ++ command ∷ [])) (seat_shown new) =
        subst (IsSeat (texts_of (place + 1) (before ++ command ∷ []))) (sym shown) (read_own (place + 1) before command (seat_shown was) (request_shown request) session reads (read place was at)) in
        subst (λ m. IsSeat (texts_of (m + 1) (before ++ command ∷ [])) (seat_shown x)) (sym p.0) (subst (λ (y : OwnSeat). IsSeat (texts_of (place + 1) (before ++ command ∷ [])) (seat_shown y)) (sym p.1) own)
    by_place before read n x (inr p) =
        read_other (n + 1) before command (seat_shown x) (λ e. let same : n ≡ place = omega (arith, session, e) in p.0 same) (read n x p.1)

-- one where a test holds, and else none
abbrev pub one_if : Bool → ℕ
one_if b = cond b 1 0

-- how many wait once a seat is another one
count_set : (seats : List Seat) (place : ℕ) (was new : Seat) → At seats place was → count_by is_waiting (slice_set seats place new) + one_if (is_waiting was) ≡ count_by is_waiting seats + one_if (is_waiting new)
count_set seats place was new h =
    let e = sum_by-set (λ (x : Seat). one_if (is_waiting x)) seats place new was (at_within seats place was h) in
    let g : get_or seats place was ≡ was = get_or_from_slice_get seats place was was h in
    ap (λ (x : Seat). count_by is_waiting (slice_set seats place new) + one_if (is_waiting x)) (sym g) ∙ e

-- How many wait once a reply is told: the number may be kept by what the seat said before and after.
pub record CountsOn (count before after : ℕ) (new : List Seat) : Type 0 where
  pub within : before ≤ count
  pub is : count - before + after ≡ count_by is_waiting new

pub counts_on : (seats : List Seat) (place : ℕ) (was new : Seat) (count before after : ℕ) → At seats place was → count ≡ count_by is_waiting seats
    → before ≡ one_if (is_waiting was) → after ≡ one_if (is_waiting new) → CountsOn count before after (slice_set seats place new)
counts_on seats place was new count before after h e b a =
    let sum : count_by is_waiting (slice_set seats place new) + one_if (is_waiting was) ≡ count_by is_waiting seats + one_if (is_waiting new) = count_set seats place was new h in
    let g : get_or seats place was ≡ was = get_or_from_slice_get seats place was was h in
    let most = get_or-le-sum_by (λ (x : Seat). one_if (is_waiting x)) seats place was (at_within seats place was h) in
    let within : one_if (is_waiting was) ≤ count_by is_waiting seats = subst (λ (x : Seat). one_if (is_waiting x) ≤ count_by is_waiting seats) g most in
    record { within = omega arith; is = omega arith }

-- so many times the same, and once more
pub replicate_more : {X : Type 0} (k : ℕ) (x : X) → replicate k x ++ x ∷ [] ≡ replicate (k + 1) x
replicate_more zero x = refl
replicate_more (suc k) x = let e : suc (k + 1) ≡ suc k + 1 = omega arith in ap (λ xs. x ∷ xs) (replicate_more k x) ∙ ap (λ n. replicate n x) e

pub shown_more : (xs : List OwnSeat) (x : OwnSeat) → map seat_shown (xs ++ x ∷ []) ≡ map seat_shown xs ++ seat_shown x ∷ []
shown_more [] x = refl
shown_more (y ∷ xs) x = ap (λ ys. seat_shown y ∷ ys) (shown_more xs x)

-- the seats once a reply is told to one of them
pub told_seats : (seats : List OwnSeat) (place : ℕ) (was new : OwnSeat) (reply : Reply) → At seats place was → seat_shown new ≡ with_reply reply (seat_shown was)
    → map seat_shown (slice_set seats place new) ≡ told_at place reply (slice_get (map seat_shown seats) place) (map seat_shown seats)
told_seats seats place was new reply h e =
    map_set seat_shown seats place new ∙ ap (slice_set (map seat_shown seats) place) e
    ∙ sym (ap (λ o. told_at place reply o (map seat_shown seats)) (at_map seat_shown seats place was h))

-- The lines of a session, one more; and of the seats, those of one more.
pub session_lines_more : (session number : ℕ) (replies : List Reply) (reply : Reply)
    → session_lines session number (replies ++ reply ∷ []) ≡ session_lines session number replies ++ record { session = session; number = number + length replies; reply = reply } ∷ []
session_lines_more session number [] reply = ap (λ n. record { session = session; number = n; reply = reply } ∷ []) (let e : number ≡ number + 0 = omega arith in e)
session_lines_more session number (r ∷ replies) reply =
    let e : number + 1 + length replies ≡ number + length (r ∷ replies) = omega arith in
    ap (λ ls. record { session = session; number = number; reply = r } ∷ ls)
    (session_lines_more session (number + 1) replies reply ∙ ap (λ n. session_lines session (number + 1) replies ++ record { session = session; number = n; reply = reply } ∷ []) e)

pub seats_lines_more : (session : ℕ) (seats : List Seat) (seat : Seat) → seats_lines session (seats ++ seat ∷ []) ≡ seats_lines session seats ++ session_lines (session + length seats) 1 (all_replies seat)
seats_lines_more session [] seat =
    append-nil (session_lines session 1 (all_replies seat)) ∙ ap (λ n. session_lines n 1 (all_replies seat)) (let e : session ≡ session + 0 = omega arith in e)
seats_lines_more session (s ∷ seats) seat =
    let e : session + 1 + length seats ≡ session + length (s ∷ seats) = omega arith in
    ap (λ ls. session_lines session 1 (all_replies s) ++ ls) (seats_lines_more (session + 1) seats seat)
    ∙ sym (append_assoc (session_lines session 1 (all_replies s)) (seats_lines (session + 1) seats) (session_lines (session + 1 + length seats) 1 (all_replies seat)))
    ∙ ap (λ n. (session_lines session 1 (all_replies s) ++ seats_lines (session + 1) seats) ++ session_lines n 1 (all_replies seat)) e
