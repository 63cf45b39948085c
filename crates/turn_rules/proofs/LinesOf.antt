-- What the lines of a round tell each session.
use Rattle.std.proofs.Common.{◌≡◌, ℕ, zero, suc, ◌+◌, ◌<◌, ◌≤◌, Bool, cond, List, [], ◌∷◌, ◌++◌, length, Some, None, ◌⊎◌, inl, inr, refl, sym, ap, ◌∙◌, subst, arith}
use Rattle.std.specs.List.{AllZip, flat_map, range_with_len, count_by}
use Rattle.std.proofs.lemmas.Bool.{eq-eqb, ne_eqb}
use Rattle.std.proofs.lemmas.List.Elements.{filter_map-append}
use Rattle.adg_base.specs.declared.log.LogEntry.{LogEntry}
use Rattle.adg_base.specs.declared.command.CommandText.{CommandText}
use Rattle.adg_base.specs.declared.answer.Reply.{Reply}
use Rattle.adg_base.specs.declared.answer.Reply.TheVariants.{Down}
use Rattle.adg_base.specs.declared.answer.Line.{Line}
use Rattle.adg_model.specs.Reply.{IsReply}
use Rattle.adg_model.specs.Transcript.{texts_of, asked_from, all_asked, reply_in, replies_to, replies_that, Answers}
use Rattle.core_rules.specs.State.{At}
use Rattle.core_rules.proofs.Once.{count_append, count_cons}
use Rattle.turn_rules.specs.Round.{Seat}
use Rattle.turn_rules.specs.Telling.{all_replies, session_lines, seats_lines}

-- the lines of a session are told to it, and to no other
own_lines : (session number : ℕ) (replies : List Reply) → replies_to session (session_lines session number replies) ≡ replies
own_lines session number [] = refl
own_lines session number (r ∷ rs) = rw (eq-eqb session session refl) (ap (λ xs. r ∷ xs) (own_lines session (number + 1) rs))

other_lines : (session other number : ℕ) (replies : List Reply) → (other ≡ session → ⊥) → replies_to session (session_lines other number replies) ≡ []
other_lines session other number [] d = refl
other_lines session other number (r ∷ rs) d = rw (ne_eqb other session d) (other_lines session other (number + 1) rs d)

told_apart : (session : ℕ) (xs ys : List Line) → replies_to session (xs ++ ys) ≡ replies_to session xs ++ replies_to session ys
told_apart session xs ys = filter_map-append (reply_in session) xs ys

pub replies_outside : (seats : List Seat) (from session : ℕ) → (session < from) ⊎ (from + length seats ≤ session) → replies_to session (seats_lines from seats) ≡ []
replies_outside [] from session h = refl
replies_outside (s ∷ ss) from session h =
    told_apart session (session_lines from 1 (all_replies s)) (seats_lines (from + 1) ss)
    ∙ ap (λ xs. xs ++ replies_to session (seats_lines (from + 1) ss)) (other_lines session from 1 (all_replies s) (apart h))
    ∙ replies_outside ss (from + 1) session (on h)
  where
    apart : (session < from) ⊎ (from + length (s ∷ ss) ≤ session) → from ≡ session → ⊥
    apart (inl l) e = absurd (omega arith)
    apart (inr l) e = absurd (omega arith)

    on : (session < from) ⊎ (from + length (s ∷ ss) ≤ session) → (session < from + 1) ⊎ (from + 1 + length ss ≤ session)
    on (inl l) = inl (omega arith)
    on (inr l) = inr (omega arith)

append_none : {X : Type 0} (xs : List X) → xs ++ [] ≡ xs
append_none [] = refl
append_none (x ∷ xs) = ap (λ ys. x ∷ ys) (append_none xs)

replies_from : (seats : List Seat) (from place session : ℕ) (seat : Seat) → At seats place seat → session ≡ from + place → replies_to session (seats_lines from seats) ≡ all_replies seat
replies_from [] from place session seat h e = let f : None ≡ Some seat = h in absurd cc
replies_from (s ∷ ss) from zero session seat h e =
    let f : Some s ≡ Some seat = h in
    let g : s ≡ seat = cc in
    let same : session ≡ from = omega arith in
    told_apart session (session_lines from 1 (all_replies s)) (seats_lines (from + 1) ss)
    ∙ ap (λ xs. replies_to session (session_lines from 1 (all_replies s)) ++ xs) (replies_outside ss (from + 1) session (inl (omega arith)))
    ∙ append_none (replies_to session (session_lines from 1 (all_replies s)))
    ∙ ap (λ n. replies_to n (session_lines from 1 (all_replies s))) same ∙ own_lines from 1 (all_replies s) ∙ ap all_replies g
replies_from (s ∷ ss) from (suc place) session seat h e =
    told_apart session (session_lines from 1 (all_replies s)) (seats_lines (from + 1) ss)
    ∙ ap (λ xs. xs ++ replies_to session (seats_lines (from + 1) ss)) (other_lines session from 1 (all_replies s) (λ f. absurd (omega arith)))
    ∙ replies_from ss (from + 1) place session seat h (omega arith)

pub replies_to_seat : (seats : List Seat) (place : ℕ) (seat : Seat) → At seats place seat → replies_to (place + 1) (seats_lines 1 seats) ≡ all_replies seat
replies_to_seat seats place seat h = replies_from seats 1 place (place + 1) seat h (omega arith)

pub replies_to_none : (seats : List Seat) (session : ℕ) → (session ≡ 0) ⊎ (length seats < session) → replies_to session (seats_lines 1 seats) ≡ []
replies_to_none seats session (inl e) = replies_outside seats 1 session (inl (omega arith))
replies_to_none seats session (inr l) = replies_outside seats 1 session (inr (omega arith))

-- each text has its reply or Down
abbrev pub HasReply : List LogEntry → ℕ → List ℕ → Reply → Type 0
HasReply log f text said = (said ≡ Down) ⊎ IsReply log f text said

zip_append : {X Y : Type 0} (R : X → Y → Type 0) (xs ys : List X) (us vs : List Y) → AllZip R xs us → AllZip R ys vs → AllZip R (xs ++ ys) (us ++ vs)
zip_append R [] ys [] vs h k = k
zip_append R [] ys (u ∷ us) vs h k = absurd h
zip_append R (x ∷ xs) ys [] vs h k = absurd h
zip_append R (x ∷ xs) ys (u ∷ us) vs h k = (h.0, zip_append R xs ys us vs h.1 k)

session_answers : (log : List LogEntry) (f session number : ℕ) (texts : List (List ℕ)) (replies : List Reply) → AllZip (HasReply log f) texts replies
    → AllZip (Answers log f) (asked_from session number texts) (session_lines session number replies)
session_answers log f session number [] [] h = tt
session_answers log f session number [] (r ∷ rs) h = absurd h
session_answers log f session number (t ∷ ts) [] h = absurd h
session_answers log f session number (t ∷ ts) (r ∷ rs) h = ((refl, refl, h.0), session_answers log f session (number + 1) ts rs h.1)

answers_from : (log : List LogEntry) (f : ℕ) (commands : List CommandText) (seats : List Seat) (from : ℕ)
    → ((place : ℕ) (seat : Seat) → At seats place seat → AllZip (HasReply log f) (texts_of (from + place) commands) (all_replies seat))
    → AllZip (Answers log f) (flat_map (λ s. asked_from s 1 (texts_of s commands)) (range_with_len from (length seats))) (seats_lines from seats)
answers_from log f commands [] from h = tt
answers_from log f commands (s ∷ ss) from h =
    let here : from + 0 ≡ from = omega arith in
    zip_append (Answers log f) (asked_from from 1 (texts_of from commands)) (flat_map (λ s. asked_from s 1 (texts_of s commands)) (range_with_len (from + 1) (length ss)))
    (session_lines from 1 (all_replies s)) (seats_lines (from + 1) ss)
    (session_answers log f from 1 (texts_of from commands) (all_replies s) (subst (λ n. AllZip (HasReply log f) (texts_of n commands) (all_replies s)) here (h 0 s refl)))
    (answers_from log f commands ss (from + 1) (λ place seat k. let e : from + suc place ≡ from + 1 + place = omega arith in
    subst (λ n. AllZip (HasReply log f) (texts_of n commands) (all_replies seat)) e (h (suc place) seat k)))

pub all_answered : (log : List LogEntry) (f : ℕ) (commands : List CommandText) (seats : List Seat) (sessions : ℕ) → length seats ≡ sessions
    → ((place : ℕ) (seat : Seat) → At seats place seat → AllZip (HasReply log f) (texts_of (place + 1) commands) (all_replies seat))
    → AllZip (Answers log f) (all_asked sessions commands) (seats_lines 1 seats)
all_answered log f commands seats sessions e h = subst (λ n. AllZip (Answers log f) (all_asked n commands) (seats_lines 1 seats)) e
    (answers_from log f commands seats 1 (λ place seat k. let n : place + 1 ≡ 1 + place = omega arith in subst (λ m. AllZip (HasReply log f) (texts_of m commands) (all_replies seat)) n (h place seat k)))

-- how many lines have a reply of a sort
session_count : (test : Reply → Bool) (session number : ℕ) (replies : List Reply) → replies_that test (session_lines session number replies) ≡ count_by test replies
session_count test session number [] = refl
session_count test session number (r ∷ rs) =
    count_cons (λ (l : Line). test l.reply) (record { session = session; number = number; reply = r }) (session_lines session (number + 1) rs)
    ∙ ap (λ k. cond (test r) 1 0 + k) (session_count test session (number + 1) rs) ∙ sym (count_cons test r rs)

abbrev pub seats_count : (Reply → Bool) → List Seat → ℕ
seats_count test [] = 0
seats_count test (s ∷ ss) = count_by test (all_replies s) + seats_count test ss

count_from : (test : Reply → Bool) (seats : List Seat) (from : ℕ) → replies_that test (seats_lines from seats) ≡ seats_count test seats
count_from test [] from = refl
count_from test (s ∷ ss) from =
    count_append (λ (l : Line). test l.reply) (session_lines from 1 (all_replies s)) (seats_lines (from + 1) ss)
    ∙ ap (λ k. k + replies_that test (seats_lines (from + 1) ss)) (session_count test from 1 (all_replies s))
    ∙ ap (λ k. count_by test (all_replies s) + k) (count_from test ss (from + 1))

pub count_lines : (test : Reply → Bool) (seats : List Seat) → replies_that test (seats_lines 1 seats) ≡ seats_count test seats
count_lines test seats = count_from test seats 1
