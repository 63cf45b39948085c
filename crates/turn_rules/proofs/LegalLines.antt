-- The lines of a round that is over are legal.
use Rattle.std.proofs.Common.{◌≡◌, ℕ, zero, suc, ◌+◌, ◌-◌, ◌<◌, ◌≤◌, Bool, true, false, cond, List, [], ◌∷◌, ◌++◌, length, replicate, Option, Some, None, ◌⊎◌, inl, inr, refl, sym, ap, ◌∙◌, subst, arith, true≢false}
use Rattle.std.specs.Prelude.{◌==◌}
use Rattle.std.specs.List.{Contains, AllByRecursion, AllZip, filter_map, list_any, count_by}
use Rattle.std.proofs.lemmas.Bool.{eq-eqb, eqb-true, cases_lt, cases_eq}
use Rattle.std.proofs.lemmas.Slice.Eq.{bytes_eq-Decides}
use Rattle.adg_base.specs.declared.command.CommandText.{CommandText}
use Rattle.adg_base.specs.declared.command.Command.TheVariants as command
use Rattle.adg_base.specs.declared.answer.Reply.{Reply}
use Rattle.adg_base.specs.declared.answer.Reply.TheVariants.{Aborted, Down}
use Rattle.adg_base.specs.declared.answer.Lines.{Lines}
use Rattle.adg_model.specs.declared.delivery.CheckedDelivery.{CheckedDelivery}
use Rattle.adg_model.specs.Command.{Spells, command_bytes}
use Rattle.adg_model.specs.Reply.{IsReply}
use Rattle.adg_model.specs.Transcript.{Answers, all_asked, text_of, texts_of, replies_to, scn_of, is_down, is_aborted, is_abort, replies_that, Rises, SyncHolds, DownStays, IsCalm, IsLegal}
use Rattle.core_rules.specs.State.{CoreState, Session, Free, At}
use Rattle.core_rules.specs.Runs.{Move}
use Rattle.core_rules.specs.Applying.{Receives}
use Rattle.core_rules.proofs.Lists.{at_same, at_within, at_exists, each_at, Has, has, at_has, any_contains_back, has_filter_map, has_filter_map_back, each_contains, any_contains, contains, is_true, has_at}
use Rattle.core_rules.proofs.Once.{count_append, count_cons}
use Rattle.turn_rules.specs.Round.{Reads, Seat, is_through, Round, AreSeats, opening_round}
use Rattle.turn_rules.specs.Turns.{Plays}
use Rattle.turn_rules.specs.Telling.{all_replies, seats_lines, lines_of}
use Rattle.turn_rules.specs.Standing.{RoundIs}
use Rattle.turn_rules.specs.Delivery.{Delivers, IsOfSession, IsReady}
use Rattle.turn_rules.specs.Laws.{RoundsBegin, TurnsKeepRounds, LinesAreLegal}
use Rattle.turn_rules.proofs.View.{TurnIs, Rested, Crewed, Seated, TurnsAreThese}
use Rattle.turn_rules.proofs.CrewKept.{crew_keeps, session_keeps}
use Rattle.turn_rules.proofs.Ended.{as_many}
use Rattle.turn_rules.proofs.LinesOf.{replies_to_seat, replies_to_none, all_answered, seats_count, count_lines}
use Rattle.turn_rules.proofs.SeatsSo.{stands_at, AreMeant, SeatIs, NoneAborted, meant_within, meant_zip, meant_at, meant_up, zip_length, downs_scns, sync_downs, abort_answered, stays_open, stays_aborted}
use Rattle.turn_rules.proofs.SeatTurns.{OneAborted, AbortsAre, LegalIs, query_within, turn_legal}
use Rattle.turn_rules.proofs.Over.{IsOver, ByAbort, ByEnd, over_is, through_length, over_free, plays_keep, plays_stand}

-- counts
count_all_false : {X : Type 0} (p : X → Bool) (xs : List X) → AllByRecursion (λ x. p x ≡ false) xs → count_by p xs ≡ 0
count_all_false p [] h = refl
count_all_false p (x ∷ xs) h =
    let a = count_cons p x xs in
    let b : cond {A = ℕ} (p x) 1 0 ≡ 0 = ap (λ t. cond {A = ℕ} t 1 0) h.0 in
    let ih = count_all_false p xs h.1 in
    omega arith

count_down_aborted : (k : ℕ) → count_by is_aborted (replicate k Down) ≡ 0
count_down_aborted zero = refl
count_down_aborted (suc k) =
    let a : count_by is_aborted (Down ∷ replicate k Down) ≡ 0 + count_by is_aborted (replicate k Down) = count_cons is_aborted Down (replicate k Down) in
    let ih = count_down_aborted k in
    omega arith

aborted_none : (seat : Seat) → NoneAborted seat.replies → count_by is_aborted (all_replies seat) ≡ 0
aborted_none seat h =
    let k : ℕ = length seat.requests - length seat.replies in
    let a : count_by is_aborted (all_replies seat) ≡ count_by is_aborted seat.replies + count_by is_aborted (replicate k Down) = count_append is_aborted seat.replies (replicate k Down) in
    let b : count_by is_aborted seat.replies ≡ 0 = count_all_false is_aborted seat.replies h in
    let d : count_by is_aborted (replicate k Down) ≡ 0 = count_down_aborted k in
    omega arith

aborted_last : (seat : Seat) (earlier : List Reply) (scn : ℕ) → seat.replies ≡ earlier ++ Aborted scn ∷ [] → NoneAborted earlier → count_by is_aborted (all_replies seat) ≡ 1
aborted_last seat earlier scn e h =
    let k : ℕ = length seat.requests - length seat.replies in
    let a : count_by is_aborted (all_replies seat) ≡ count_by is_aborted seat.replies + count_by is_aborted (replicate k Down) = count_append is_aborted seat.replies (replicate k Down) in
    let b : count_by is_aborted seat.replies ≡ count_by is_aborted earlier + count_by is_aborted (Aborted scn ∷ []) = ap (count_by is_aborted) e ∙ count_append is_aborted earlier (Aborted scn ∷ []) in
    let one : count_by is_aborted (Aborted scn ∷ []) ≡ 1 = count_cons is_aborted (Aborted scn) [] in
    let none : count_by is_aborted earlier ≡ 0 = count_all_false is_aborted earlier h in
    let d : count_by is_aborted (replicate k Down) ≡ 0 = count_down_aborted k in
    omega arith

seats_none : (test : Reply → Bool) (seats : List Seat) → ((n : ℕ) (s : Seat) → At seats n s → count_by test (all_replies s) ≡ 0) → seats_count test seats ≡ 0
seats_none test [] h = refl
seats_none test (s ∷ ss) h =
    let a = h 0 s refl in
    let b = seats_none test ss (λ n x k. h (suc n) x k) in
    omega arith

seats_one : (test : Reply → Bool) (seats : List Seat) (place : ℕ) (seat : Seat) → At seats place seat → count_by test (all_replies seat) ≡ 1
    → ((n : ℕ) (s : Seat) → (n ≡ place → ⊥) → At seats n s → count_by test (all_replies s) ≡ 0) → seats_count test seats ≡ 1
seats_one test [] place seat h one others = let e : None ≡ Some seat = h in absurd cc
seats_one test (s ∷ ss) zero seat h one others =
    let e : Some s ≡ Some seat = h in
    let f : s ≡ seat = cc in
    let a : count_by test (all_replies s) ≡ 1 = ap (λ (x : Seat). count_by test (all_replies x)) f ∙ one in
    let b = seats_none test ss (λ n x k. others (suc n) x (λ g. absurd (omega arith)) k) in
    omega arith
seats_one test (s ∷ ss) (suc place) seat h one others =
    let a = others 0 s (λ g. absurd (omega arith)) refl in
    let b = seats_one test ss place seat h one (λ n x d k. others (suc n) x (λ g. d (omega arith)) k) in
    omega arith

pub count_aborted : (aborted : Bool) (seats : List Seat) → AbortsAre aborted seats → replies_that is_aborted (seats_lines 1 seats) ≡ cond aborted 1 0
count_aborted false seats h = count_lines is_aborted seats ∙ seats_none is_aborted seats (λ n s k. aborted_none s (h n s k))
count_aborted true seats h =
    count_lines is_aborted seats ∙ seats_one is_aborted seats h.place h.seat h.found (aborted_last h.seat h.earlier h.scn h.last h.none) (λ n s d k. aborted_none s (h.others n s d k))

-- the text of a command stands among its session's texts
pub text_stands : (commands : List CommandText) (c : CommandText) → Contains commands c → Has (texts_of c.session commands) c.text
text_stands commands c h = has_filter_map (text_of c.session) commands c c.text (has commands c h) (ap (λ b. cond b (Some c.text) None) (eq-eqb c.session c.session refl))

pub text_back : (commands : List CommandText) (session : ℕ) (t : List ℕ) → Has (texts_of session commands) t → (c : CommandText) × Contains commands c × (c.session ≡ session) × (c.text ≡ t)
text_back commands session t h =
    let p = has_filter_map_back (text_of session) commands t h in
    let q = by_test p.0 (p.0.session == session) refl p.2 in
    (p.0, contains commands p.0 p.1, q.0, q.1)
  where
    by_test : (c : CommandText) (b : Bool) → (c.session == session) ≡ b → cond b (Some c.text) None ≡ Some t → (c.session ≡ session) × (c.text ≡ t)
    by_test c true u e = let f : Some c.text ≡ Some t = e in (eqb-true c.session session u, cc)
    by_test c false u e = let f : None ≡ Some t = e in absurd cc

abort_text : (c : CommandText) → is_abort c ≡ true → Spells c.text command.Abort
abort_text c h = (tt, (bytes_eq-Decides c.text (command_bytes command.Abort)).0 h)

pub text_abort : (c : CommandText) → Spells c.text command.Abort → is_abort c ≡ true
text_abort c h = (bytes_eq-Decides c.text (command_bytes command.Abort)).1 h.1

-- what is known of the last round of a delivery
pub record IsLast (floor sessions : ℕ) (commands : List CommandText) (r : Round) : Type 0 where
  pub stands : RoundIs r
  pub over : IsOver r
  pub legal : LegalIs floor commands r.core r.seats r.aborted
  pub count : length r.seats ≡ sessions
  pub asked : AllByRecursion (IsOfSession sessions) commands

module _ (floor sessions : ℕ) (commands : List CommandText) (r : Round) (k : IsLast floor sessions commands r) where
  -- each seat stands at the QuerySCN
  pub seat_is : (place : ℕ) (seat : Seat) → At r.seats place seat → SeatIs r.core.log r.core.frontier floor r.core.query (texts_of (place + 1) commands) seat
  seat_is place seat h =
      let within : place < length r.seats = at_within r.seats place seat h in
      let as_many : length r.seats ≡ length r.core.sessions = k.stands.seated in
      let s = at_exists r.core.sessions place (omega arith) in
      subst (λ (x : Session). SeatIs r.core.log r.core.frontier floor (stands_at r.core.query x) (texts_of (place + 1) commands) seat) (over_free r k.stands k.over place s.0 s.1) (k.legal.each place seat s.0 h s.1)

  answered : AllZip (Answers r.core.log r.core.frontier) (all_asked sessions commands) (seats_lines 1 r.seats)
  answered = all_answered r.core.log r.core.frontier commands r.seats sessions k.count (λ place seat h.
      let is = seat_is place seat h in
      let texts : length (texts_of (place + 1) commands) ≡ length seat.requests = zip_length Reads (texts_of (place + 1) commands) seat.requests is.reads in
      let within = meant_within r.core.log r.core.frontier (texts_of (place + 1) commands) seat.replies is.meant in
      meant_zip r.core.log r.core.frontier (texts_of (place + 1) commands) seat.replies (length seat.requests - length seat.replies) is.meant (omega arith))

  -- a property of the replies to each session
  by_session : (P : List Reply → Type 0) → P [] → ((place : ℕ) (seat : Seat) → At r.seats place seat → P (all_replies seat)) → (session : ℕ) → P (replies_to session (seats_lines 1 r.seats))
  by_session P none each zero = subst P (sym (replies_to_none r.seats 0 (inl refl))) none
  by_session P none each (suc place) = by_place (cases_lt place (length r.seats))
    where
      by_place : (place < length r.seats) ⊎ (length r.seats ≤ place) → P (replies_to (suc place) (seats_lines 1 r.seats))
      by_place (inl l) =
          let s = at_exists r.seats place l in
          let e : place + 1 ≡ suc place = omega arith in
          subst P (sym (replies_to_seat r.seats place s.0 s.1) ∙ ap (λ n. replies_to n (seats_lines 1 r.seats)) e) (each place s.0 s.1)
      by_place (inr l) = subst P (sym (replies_to_none r.seats (suc place) (inr (omega arith)))) none

  rises : (session : ℕ) → Rises floor r.core.query (filter_map scn_of (replies_to session (seats_lines 1 r.seats)))
  rises session = by_session (λ rs. Rises floor r.core.query (filter_map scn_of rs)) k.legal.low (λ place seat h.
      subst (Rises floor r.core.query) (sym (downs_scns seat.replies (length seat.requests - length seat.replies))) (seat_is place seat h).rises) session

  synced : (session : ℕ) → SyncHolds r.core.frontier r.core.query (replies_to session (seats_lines 1 r.seats))
  synced session = by_session (λ rs. SyncHolds r.core.frontier r.core.query rs) tt (λ place seat h.
      sync_downs r.core.frontier r.core.query seat.replies (length seat.requests - length seat.replies) (seat_is place seat h).synced) session

  stays : (session : ℕ) → DownStays (replies_to session (seats_lines 1 r.seats))
  stays session = by_session DownStays tt (λ place seat h. by_aborted r.aborted place seat h k.legal.aborts) session
    where
      up : (place : ℕ) (seat : Seat) → At r.seats place seat → AllByRecursion (λ x. is_down x ≡ false) seat.replies
      up place seat h = meant_up r.core.log r.core.frontier (texts_of (place + 1) commands) seat.replies (seat_is place seat h).meant

      by_aborted : (b : Bool) (place : ℕ) (seat : Seat) → At r.seats place seat → AbortsAre b r.seats → DownStays (all_replies seat)
      by_aborted false place seat h a = stays_open seat.replies (length seat.requests - length seat.replies) (a place seat h) (up place seat h)
      by_aborted true place seat h a = by_place (cases_eq place a.place)
        where
          by_place : (place ≡ a.place) ⊎ (place ≡ a.place → ⊥) → DownStays (all_replies seat)
          by_place (inr d) = stays_open seat.replies (length seat.requests - length seat.replies) (a.others place seat d h) (up place seat h)
          by_place (inl e) =
              let same : seat ≡ a.seat = at_same r.seats place seat a.seat h (subst (λ m. At r.seats m a.seat) (sym e) a.found) in
              let last : seat.replies ≡ a.earlier ++ Aborted a.scn ∷ [] = ap (λ (x : Seat). x.replies) same ∙ a.last in
              subst (λ xs. DownStays (xs ++ replicate (length seat.requests - length seat.replies) Down)) (sym last)
              (stays_aborted a.earlier a.scn (length seat.requests - length seat.replies) a.none (subst (AllByRecursion (λ x. is_down x ≡ false)) last (up place seat h)))

  -- an ABORT among the commands was answered
  abort_told : list_any is_abort commands ≡ true → r.aborted ≡ true
  abort_told h = by_over k.over k.legal.aborts
    where
      found : (c : CommandText) × Contains commands c × (is_abort c ≡ true)
      found = any_contains_back is_abort commands h

      of : IsOfSession sessions found.0
      of = each_contains (IsOfSession sessions) commands found.0 k.asked found.1

      by_over : IsOver r → AbortsAre r.aborted r.seats → r.aborted ≡ true
      by_over (ByAbort a) aborts = a
      by_over (ByEnd a through q) aborts =
          let place : ℕ = found.0.session - 1 in
          let one : 1 ≤ found.0.session = of.0 in
          let most : found.0.session ≤ sessions = of.1 in
          let count : length r.seats ≡ sessions = k.count in
          let s = at_exists r.seats place (omega arith) in
          let number : found.0.session ≡ place + 1 = omega arith in
          let is = seat_is place s.0 s.1 in
          let t = at_has (texts_of (place + 1) commands) found.0.text (subst (λ n. Has (texts_of n commands) found.0.text) number (text_stands commands found.0 found.1)) in
          let within : t.0 < length (texts_of (place + 1) commands) = at_within (texts_of (place + 1) commands) t.0 found.0.text t.1 in
          let same : length (texts_of (place + 1) commands) ≡ length s.0.requests = zip_length Reads (texts_of (place + 1) commands) s.0.requests is.reads in
          let ended = through_length s.0 (each_at (λ (x : Seat). is_through x ≡ true) r.seats place s.0 through s.1) in
          let reply = at_exists s.0.replies t.0 (omega arith) in
          let meant = meant_at r.core.log r.core.frontier (texts_of (place + 1) commands) s.0.replies t.0 found.0.text reply.0 is.meant t.1 reply.1 in
          let yes : is_aborted reply.0 ≡ true = abort_answered r.core.log r.core.frontier found.0.text reply.0 (abort_text found.0 found.2) meant in
          let no : is_aborted reply.0 ≡ false = each_at (λ (x : Reply). is_aborted x ≡ false) s.0.replies t.0 reply.0 (subst (λ b. AbortsAre b r.seats) a aborts place s.0 s.1) reply.1 in
          absurd (true≢false (sym yes ∙ no))

  -- and what was answered Aborted is an ABORT among the commands
  pub told_abort : r.aborted ≡ true → list_any is_abort commands ≡ true
  told_abort a =
      let one : OneAborted r.seats = subst (λ b. AbortsAre b r.seats) a k.legal.aborts in
      let is = seat_is one.place one.seat one.found in
      let at : At one.seat.replies (length one.earlier) (Aborted one.scn) = subst (λ xs. At xs (length one.earlier) (Aborted one.scn)) (sym one.last) (at_end one.earlier (Aborted one.scn)) in
      let t = text_at (texts_of (one.place + 1) commands) one.seat.replies (length one.earlier) (Aborted one.scn) is.meant at in
      let c = text_back commands (one.place + 1) t.0 (has_at (texts_of (one.place + 1) commands) (length one.earlier) t.0 t.1) in
      any_contains is_abort commands c.0 c.1 (text_abort c.0 (subst (λ x. Spells x command.Abort) (sym c.3) t.2))
    where
      at_end : (rs : List Reply) (x : Reply) → At (rs ++ x ∷ []) (length rs) x
      at_end [] x = refl
      at_end (y ∷ rs) x = at_end rs x

      text_at : (texts : List (List ℕ)) (rs : List Reply) (n : ℕ) (x : Reply) → AreMeant r.core.log r.core.frontier texts rs → At rs n x → (t : List ℕ) × At texts n t × IsReply r.core.log r.core.frontier t x
      text_at texts [] n x h a = let e : None ≡ Some x = a in absurd cc
      text_at [] (y ∷ rs) n x h a = absurd h
      text_at (t ∷ ts) (y ∷ rs) zero x h a = let e : Some y ≡ Some x = a in let f : y ≡ x = cc in (t, refl, subst (IsReply r.core.log r.core.frontier t) f h.0)
      text_at (t ∷ ts) (y ∷ rs) (suc n) x h a = text_at ts rs n x h.1 a

  none_down : r.aborted ≡ false → replies_that is_down (seats_lines 1 r.seats) ≡ 0
  none_down a = count_lines is_down r.seats ∙ seats_none is_down r.seats (λ place seat h. by_over place seat h k.over)
    where
      by_over : (place : ℕ) (seat : Seat) → At r.seats place seat → IsOver r → count_by is_down (all_replies seat) ≡ 0
      by_over place seat h (ByAbort b) = absurd (true≢false (sym b ∙ a))
      by_over place seat h (ByEnd b through q) =
          let ended = through_length seat (each_at (λ (x : Seat). is_through x ≡ true) r.seats place seat through h) in
          let none : length seat.requests - length seat.replies ≡ 0 = omega arith in
          let up : count_by is_down seat.replies ≡ 0 = count_all_false is_down seat.replies (meant_up r.core.log r.core.frontier (texts_of (place + 1) commands) seat.replies (seat_is place seat h).meant) in
          count_append is_down seat.replies (replicate (length seat.requests - length seat.replies) Down)
          ∙ ap (λ n. count_by is_down seat.replies + count_by is_down (replicate n Down)) none ∙ ap (λ n. n + 0) up

  pub legal : IsLegal sessions r.core.log floor r.core.frontier commands (lines_of r)
  legal = record {
    answered = answered;
    rises = rises;
    ends = query_within r.core k.stands.core;
    synced = synced;
    calm = λ none. calm none (is_true r.aborted);
    aborts = λ some. count_aborted r.aborted r.seats k.legal.aborts ∙ ap (λ b. cond {A = ℕ} b 1 0) (abort_told some);
    stays = stays;
  }
    where
      reached : IsOver r → r.aborted ≡ false → r.core.query ≡ r.core.frontier
      reached (ByAbort a) b = absurd (true≢false (sym a ∙ b))
      reached (ByEnd a through q) b = q

      calm : list_any is_abort commands ≡ false → (r.aborted ≡ true) ⊎ (r.aborted ≡ false) → IsCalm r.core.frontier (lines_of r)
      calm none (inl a) = absurd (true≢false (sym (told_abort a) ∙ none))
      calm none (inr a) = record { up = none_down a; reached = reached k.over a }

-- As a round begins.
pub opening_legal : (c : CoreState) (d : CheckedDelivery) (received : CoreState) (seats : List Seat) → IsReady c d → Receives c d.entries d.frontier received → AreSeats (length c.sessions) d.commands seats
    → LegalIs c.query d.commands received seats false
opening_legal c d received seats ready receives read = record {
  low = omega (arith, query_is);
  each = λ place seat session h k.
      let seat_is = read.each place seat h in
      let free : session ≡ Free = each_at (λ (s : Session). s ≡ Free) c.sessions place session ready.free (subst (λ xs. At xs place session) sessions_are k) in
      let stand : stands_at received.query session ≡ c.query = ap (stands_at received.query) free ∙ query_is in
      record {
        reads = seat_is.reads;
        meant = subst (AreMeant received.log received.frontier (texts_of (place + 1) d.commands)) (sym seat_is.unanswered) tt;
        rises = subst (λ rs. Rises c.query (stands_at received.query session) (filter_map scn_of rs)) (sym seat_is.unanswered) (let l : c.query ≤ stands_at received.query session = omega arith in l);
        synced = subst (SyncHolds received.frontier (stands_at received.query session)) (sym seat_is.unanswered) tt;
      };
  aborts = λ place seat h. subst NoneAborted (sym (read.each place seat h).unanswered) tt;
}
  where
    query_is : received.query ≡ c.query
    query_is = ap (λ (y : CoreState). y.query) receives.effect

    sessions_are : received.sessions ≡ c.sessions
    sessions_are = ap (λ (y : CoreState). y.sessions) receives.effect

-- The last round of a delivery.
pub last_of : TurnsAreThese → TurnsKeepRounds → RoundsBegin → (c : CoreState) (d : CheckedDelivery) (turns : List (Option Move)) (new : CoreState) (lines : Lines) → IsReady c d
    → (x : Delivers c d turns new lines) → IsLast c.query (length c.sessions) d.commands x.last
last_of these keep begin c d turns new lines ready x = record {
  stands = plays_stand d.schedule keep (opening_round x.received x.seats) turns x.last begins x.plays;
  over = over_is x.last x.over;
  legal = kept.0;
  count = kept.1;
  asked = ready.asked;
}
  where
    begins : RoundIs (opening_round x.received x.seats)
    begins = begin c d x.received x.seats ready x.receives x.read

    kept : LegalIs c.query d.commands x.last.core x.last.seats x.last.aborted × (length x.last.seats ≡ length c.sessions)
    kept = plays_keep (λ r. LegalIs c.query d.commands r.core r.seats r.aborted × (length r.seats ≡ length c.sessions)) d.schedule keep
        (λ r move next is is' t h.
        let these_are = these d.schedule r move next is t in
        let many = as_many d.schedule r move next is t in
        (turn_legal c.query d.commands r next is is' these_are.0 these_are.1 h.0, many.seats ∙ h.1))
        (opening_round x.received x.seats) turns x.last begins x.plays (opening_legal c d x.received x.seats ready x.receives x.read, x.read.count)

frontier_is : TurnsAreThese → TurnsKeepRounds → (schedule : List ℕ) (r : Round) (turns : List (Option Move)) (last : Round) → RoundIs r → Plays schedule r turns last
    → (last.core.frontier ≡ r.core.frontier) × (last.core.log ≡ r.core.log)
frontier_is these keep schedule r turns last is p = plays_keep (λ x. (x.core.frontier ≡ r.core.frontier) × (x.core.log ≡ r.core.log)) schedule keep
    (λ a move b ia ib t h. let s = same_log a b ia (these schedule a move b ia t).1 in (s.0 ∙ h.0, s.1 ∙ h.1)) r turns last is p (refl, refl)
  where
    same_log : (a b : Round) → RoundIs a → TurnIs a b → (b.core.frontier ≡ a.core.frontier) × (b.core.log ≡ a.core.log)
    same_log a b ia (Rested core seats o) = (ap (λ (y : CoreState). y.frontier) core, ap (λ (y : CoreState). y.log) core)
    same_log a b ia (Crewed e i h seats o) = let k = crew_keeps a.core ia.core e b.core i h in (k.frontier, k.log)
    same_log a b ia (Seated place seat session request told at does) = let k = session_keeps a.core place session request told b.aborted b.core does in (k.frontier, k.log)

-- The log and the frontier at the end are those that were received.
pub received_is : TurnsAreThese → TurnsKeepRounds → RoundsBegin → (c : CoreState) (d : CheckedDelivery) (turns : List (Option Move)) (new : CoreState) (lines : Lines) → IsReady c d
    → (x : Delivers c d turns new lines) → (x.last.core.frontier ≡ d.frontier) × (x.last.core.log ≡ c.log ++ d.entries)
received_is these keep begin c d turns new lines ready x =
    let is = frontier_is these keep d.schedule (opening_round x.received x.seats) turns x.last (begin c d x.received x.seats ready x.receives x.read) x.plays in
    (is.0 ∙ ap (λ (y : CoreState). y.frontier) x.receives.effect, is.1 ∙ ap (λ (y : CoreState). y.log) x.receives.effect)

pub aborted_once : TurnsAreThese → TurnsKeepRounds → RoundsBegin → (c : CoreState) (d : CheckedDelivery) (turns : List (Option Move)) (new : CoreState) (lines : Lines) → IsReady c d
    → (x : Delivers c d turns new lines) → replies_that is_aborted lines.list ≡ cond x.last.aborted 1 0
aborted_once these keep begin c d turns new lines ready x =
    ap (λ (l : Lines). replies_that is_aborted l.list) x.says ∙ count_aborted x.last.aborted x.last.seats (last_of these keep begin c d turns new lines ready x).legal.aborts

pub lines_are_legal : TurnsAreThese → TurnsKeepRounds → RoundsBegin → LinesAreLegal
lines_are_legal these keep begin c d turns new lines ready x =
    let last = last_of these keep begin c d turns new lines ready x in
    let is = legal c.query (length c.sessions) d.commands x.last last in
    subst (λ (l : Lines). IsLegal (length c.sessions) new.log c.query d.frontier d.commands l) (sym x.says)
    (subst (λ (y : CoreState). IsLegal (length c.sessions) y.log c.query d.frontier d.commands (lines_of x.last)) (sym x.core)
    (subst (λ f. IsLegal (length c.sessions) x.last.core.log c.query f d.commands (lines_of x.last)) (received_is these keep begin c d turns new lines ready x).0 is))
