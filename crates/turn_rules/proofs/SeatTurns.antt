-- Each turn keeps what is carried of the seats.
use Rattle.std.proofs.Common.{◌≡◌, ℕ, ◌+◌, ◌<◌, ◌≤◌, Bool, true, false, cond, List, [], ◌∷◌, ◌++◌, length, Option, Some, None, ◌⊎◌, inl, inr, refl, sym, ap, ◌∙◌, subst, arith}
use Rattle.std.specs.Prelude.{slice_set}
use Rattle.std.proofs.lemmas.Bool.{cases_eq}
use Rattle.std.proofs.lemmas.List.{length-replicate}
use Rattle.adg_base.specs.declared.command.CommandText.{CommandText}
use Rattle.adg_base.specs.declared.command.Command.TheVariants as command
use Rattle.adg_base.specs.declared.command.Select.{Select}
use Rattle.adg_base.specs.declared.answer.Reply.{Reply}
use Rattle.adg_base.specs.declared.answer.Reply.TheVariants as reply
use Rattle.adg_model.specs.Database.{Table, table_at}
use Rattle.adg_model.specs.Query.{has_columns, has_types}
use Rattle.adg_model.specs.Reply.{IsReply}
use Rattle.adg_model.specs.Transcript.{texts_of, is_aborted}
use Rattle.core_rules.specs.State.{CoreState, Session, Free, Populating, Scanning, At, limit}
use Rattle.core_rules.specs.Populations.{new_population, next_block, installed_then}
use Rattle.core_rules.specs.Scans.{new_scan, scan_then, scan_reply, scan_refusal}
use Rattle.core_rules.specs.Populations.{population_refusal}
use Rattle.core_rules.specs.Restarts.{restarted}
use Rattle.core_rules.specs.Invariant.{Invariant}
use Rattle.core_rules.proofs.Whole.{replies_have_meaning}
use Rattle.core_rules.proofs.Lists.{at_same, at_within, at_exists, at_set_same, at_set_cases, at_replicate, each_append}
use Rattle.turn_rules.specs.Round.{Request, Asks, Garbles, Reads, Seat, Round}
use Rattle.turn_rules.specs.Turns.{with_reply}
use Rattle.turn_rules.specs.Standing.{RoundIs}
use Rattle.turn_rules.proofs.View.{RepliesAlone, Refuses, Speaks, SessionIs, Replied, Aborts, Refused, Populates, Registers, Releases, ReadsOn, EndsExtent, EndsPopulation, BeginsScan, Gathers, EndsScan, SeatsAre, AtSeat, TurnIs, Rested, Crewed, Seated}
use Rattle.turn_rules.proofs.Viewed.{population_said, scan_said}
use Rattle.turn_rules.proofs.CrewKept.{crew_keeps, session_keeps, SessionKeeps}
use Rattle.turn_rules.proofs.SeatsSo.{stands_at, SeatIs, NoneAborted, SaysAt, seat_on, seat_more, zip_at}

-- Where an ABORT was answered, it is the last reply of its seat, and no other reply is Aborted.
pub record OneAborted (seats : List Seat) : Type 0 where
  pub place : ℕ
  pub seat : Seat
  pub earlier : List Reply
  pub scn : ℕ
  pub found : At seats place seat
  pub last : seat.replies ≡ earlier ++ reply.Aborted scn ∷ []
  pub none : NoneAborted earlier
  pub others : (n : ℕ) (s : Seat) → (n ≡ place → ⊥) → At seats n s → NoneAborted s.replies

abbrev pub AbortsAre : Bool → List Seat → Type 0
AbortsAre false seats = (place : ℕ) (seat : Seat) → At seats place seat → NoneAborted seat.replies
AbortsAre true seats = OneAborted seats

-- What is carried of the seats through a round.
pub record LegalIs (floor : ℕ) (commands : List CommandText) (c : CoreState) (seats : List Seat) (aborted : Bool) : Type 0 where
  pub low : floor ≤ c.query
  pub each : (place : ℕ) (seat : Seat) (session : Session) → At seats place seat → At c.sessions place session
      → SeatIs c.log c.frontier floor (stands_at c.query session) (texts_of (place + 1) commands) seat
  pub aborts : AbortsAre aborted seats

-- a session stands at most at the QuerySCN, and this is at most the frontier
pub stand_within : (c : CoreState) → Invariant c → (place : ℕ) (s : Session) → At c.sessions place s → stands_at c.query s ≤ c.query
stand_within c v place Free h = omega arith
stand_within c v place (Populating p) h = (v.populations place p h).snapshot
stand_within c v place (Scanning s) h = (v.scans place s h).scn

pub query_within : (c : CoreState) → Invariant c → c.query ≤ c.frontier
query_within c v =
    let a : c.query ≤ limit c = v.numbers.published in
    let b : limit c ≤ c.frontier = v.numbers.cut in
    omega arith

-- it never goes back
stand_on : (old new : ℕ) (s : Session) → old ≤ new → stands_at old s ≤ stands_at new s
stand_on old new Free l = l
stand_on old new (Populating p) l = omega arith
stand_on old new (Scanning s) l = omega arith

-- a seat over another core with the same log and frontier
moved : (c new : CoreState) (floor stand : ℕ) (texts : List (List ℕ)) (seat : Seat) → new.log ≡ c.log → new.frontier ≡ c.frontier → SeatIs c.log c.frontier floor stand texts seat
    → SeatIs new.log new.frontier floor stand texts seat
moved c new floor stand texts seat l f is = subst (λ n. SeatIs new.log n floor stand texts seat) (sym f) (subst (λ x. SeatIs x c.frontier floor stand texts seat) (sym l) is)

crew_legal : (floor : ℕ) (commands : List CommandText) (c new : CoreState) (seats : List Seat) → Invariant new → new.sessions ≡ c.sessions → new.log ≡ c.log → new.frontier ≡ c.frontier → c.query ≤ new.query
    → LegalIs floor commands c seats false → LegalIs floor commands new seats false
crew_legal floor commands c new seats v s l f q is = record {
  low = let old : floor ≤ c.query = is.low in omega arith;
  each = λ place seat session h k.
      let k' : At c.sessions place session = subst (λ xs. At xs place session) s k in
      let within : stands_at new.query session ≤ new.query = stand_within new v place session k in
      let most : new.query ≤ new.frontier = query_within new v in
      seat_on new.log new.frontier floor (stands_at c.query session) (stands_at new.query session) (texts_of (place + 1) commands) seat (stand_on c.query new.query session q) (omega arith)
      (moved c new floor (stands_at c.query session) (texts_of (place + 1) commands) seat l f (is.each place seat session h k'));
  aborts = is.aborts;
}

-- What a session says without an event.
record IsSaid (c : CoreState) (stand : ℕ) (t : List ℕ) (said : Reply) : Type 0 where
  meant : IsReply c.log c.frontier t said
  says : SaysAt c.frontier stand said
  open_ : is_aborted said ≡ false

said_alone : (c : CoreState) (t : List ℕ) (request : Request) (said : Reply) → Reads t request → RepliesAlone c request said → IsSaid c c.query t said
said_alone c t (Garbles byte) said h a = subst (IsSaid c c.query t) (sym a) (record { meant = h; says = record { scn = refl; synced = tt }; open_ = refl })
said_alone c t (Asks command.ShowScn) said h a = subst (IsSaid c c.query t) (sym a) (record { meant = h; says = record { scn = refl; synced = tt }; open_ = refl })
said_alone c t (Asks command.Sync) said h a = subst (IsSaid c c.query t) (sym a.0) (record { meant = (h, a.1); says = record { scn = refl; synced = (tt, a.1, tt) }; open_ = refl })
said_alone c t (Asks command.Abort) said h a = absurd a
said_alone c t (Asks (command.Populate obj)) said h a = absurd a
said_alone c t (Asks (command.Select select)) said h a = absurd a

-- a refusal names the QuerySCN
population_says : (c : CoreState) (said : Reply) (t : Option Table) → population_refusal c.query t ≡ Some said → SaysAt c.frontier c.query said
population_says c said None h = let e : Some (reply.NoTable c.query) ≡ Some said = h in let f : reply.NoTable c.query ≡ said = cc in subst (SaysAt c.frontier c.query) f (record { scn = refl; synced = tt })
population_says c said (Some table) h = by_flag table.flag h
  where
    by_flag : (b : Bool) → cond b None (Some (reply.NotInMemory c.query)) ≡ Some said → SaysAt c.frontier c.query said
    by_flag true e = let f : None ≡ Some said = e in absurd cc
    by_flag false e = let g : Some (reply.NotInMemory c.query) ≡ Some said = e in let f : reply.NotInMemory c.query ≡ said = cc in subst (SaysAt c.frontier c.query) f (record { scn = refl; synced = tt })

scan_says : (c : CoreState) (select : Select) (said : Reply) (t : Option Table) → scan_refusal c.query select t ≡ Some said → SaysAt c.frontier c.query said
scan_says c select said None h = let e : Some (reply.NoTable c.query) ≡ Some said = h in let f : reply.NoTable c.query ≡ said = cc in subst (SaysAt c.frontier c.query) f (record { scn = refl; synced = tt })
scan_says c select said (Some table) h = by_columns (has_columns select table) h
  where
    by_types : (b : Bool) → cond b None (Some (reply.WrongType c.query)) ≡ Some said → SaysAt c.frontier c.query said
    by_types true e = let f : None ≡ Some said = e in absurd cc
    by_types false e = let g : Some (reply.WrongType c.query) ≡ Some said = e in let f : reply.WrongType c.query ≡ said = cc in subst (SaysAt c.frontier c.query) f (record { scn = refl; synced = tt })

    by_columns : (b : Bool) → cond b (cond (has_types select table) None (Some (reply.WrongType c.query))) (Some (reply.NoColumn c.query)) ≡ Some said → SaysAt c.frontier c.query said
    by_columns true e = by_types (has_types select table) e
    by_columns false e = let g : Some (reply.NoColumn c.query) ≡ Some said = e in let f : reply.NoColumn c.query ≡ said = cc in subst (SaysAt c.frontier c.query) f (record { scn = refl; synced = tt })

said_refused : (c new : CoreState) → Invariant c → (t : List ℕ) (request : Request) (said : Reply) → Reads t request → Refuses c request said → Speaks c request said new → IsSaid c c.query t said
said_refused c new v t (Garbles byte) said h r s = absurd r
said_refused c new v t (Asks command.ShowScn) said h r s = absurd r
said_refused c new v t (Asks command.Sync) said h r s = absurd r
said_refused c new v t (Asks command.Abort) said h r s = absurd r
said_refused c new v t (Asks (command.Populate obj)) said h r s = record {
  meant = replies_have_meaning c s.event said new t v (inr s.happens) (s.text t h);
  says = population_says c said (table_at c.log c.query obj) r;
  open_ = population_said c obj said (table_at c.log c.query obj) r;
}
said_refused c new v t (Asks (command.Select select)) said h r s = record {
  meant = replies_have_meaning c s.event said new t v (inr s.happens) (s.text t h);
  says = scan_says c select said (table_at c.log c.query select.obj) r;
  open_ = scan_said c select said (table_at c.log c.query select.obj) r;
}

-- the sessions afterwards: one at a place, and the others as before
abbrev SessionsAre : (place : ℕ) → Session → List Session → List Session → Type 0
SessionsAre place what old new = (n : ℕ) (x : Session) → At new n x → ((n ≡ place) × (x ≡ what)) ⊎ ((n ≡ place → ⊥) × At old n x)

set_sessions : (place : ℕ) (what : Session) (old new : List Session) → new ≡ slice_set old place what → SessionsAre place what old new
set_sessions place what old new e n x h = at_set_cases old place n x what (subst (λ xs. At xs n x) e h)

same_sessions : (place : ℕ) (old new : List Session) (what : Session) → At old place what → new ≡ old → SessionsAre place what old new
same_sessions place old new what at e n x h = by_place (cases_eq n place)
  where
    h' : At old n x
    h' = subst (λ xs. At xs n x) e h

    by_place : (n ≡ place) ⊎ (n ≡ place → ⊥) → ((n ≡ place) × (x ≡ what)) ⊎ ((n ≡ place → ⊥) × At old n x)
    by_place (inl p) = inl (p, at_same old place x what (subst (λ m. At old m x) p h') at)
    by_place (inr d) = inr (d, h')

module _ (floor : ℕ) (commands : List CommandText) (r next : Round) (place : ℕ) (seat : Seat) (session : Session) (request : Request) (told : Option Reply)
    (v : Invariant r.core) (v' : Invariant next.core) (at : AtSeat r next place seat session request told) (is : LegalIs floor commands r.core r.seats false) (keeps : SessionKeeps r.core next.core) where
  -- the seat as it was
  own : SeatIs r.core.log r.core.frontier floor (stands_at r.core.query session) (texts_of (place + 1) commands) seat
  own = is.each place seat session at.seated at.does

  text_at_hand : (t : List ℕ) × At (texts_of (place + 1) commands) (length seat.replies) t × Reads t request
  text_at_hand = zip_at Reads (texts_of (place + 1) commands) seat.requests (length seat.replies) request own.reads at.asks

  -- a seat over the new core, where its session stands
  over_new : (n : ℕ) (x : Session) (s : Seat) (stand : ℕ) → stand ≤ stands_at r.core.query x → At next.core.sessions n x → SeatIs r.core.log r.core.frontier floor stand (texts_of (n + 1) commands) s
      → SeatIs next.core.log next.core.frontier floor (stands_at next.core.query x) (texts_of (n + 1) commands) s
  over_new n x s stand l h k =
      let within : stands_at next.core.query x ≤ next.core.query = stand_within next.core v' n x h in
      let most : next.core.query ≤ next.core.frontier = query_within next.core v' in
      let same : stands_at next.core.query x ≡ stands_at r.core.query x = ap (λ q. stands_at q x) keeps.query in
      seat_on next.core.log next.core.frontier floor stand (stands_at next.core.query x) (texts_of (n + 1) commands) s (omega arith) (omega arith)
      (moved r.core next.core floor stand (texts_of (n + 1) commands) s keeps.log keeps.frontier k)

  floor_on : floor ≤ next.core.query
  floor_on = let old : floor ≤ r.core.query = is.low in let e : next.core.query ≡ r.core.query = keeps.query in omega arith

  -- nothing is told, and the session goes on where it stood
  goes_on : (what : Session) → told ≡ None → next.aborted ≡ false → stands_at r.core.query what ≡ stands_at r.core.query session → next.core.sessions ≡ slice_set r.core.sessions place what
      → LegalIs floor commands next.core next.seats next.aborted
  goes_on what t b same sessions = subst (LegalIs floor commands next.core next.seats) (sym b) (record {
    low = floor_on;
    each = λ n s x h k. by_place n s x (subst (λ xs. At xs n s) seats h) k (set_sessions place what r.core.sessions next.core.sessions sessions n x k);
    aborts = subst (AbortsAre false) (sym seats) is.aborts;
  })
    where
      seats : next.seats ≡ r.seats
      seats = subst (λ o. SeatsAre place seat o r.seats next.seats) t at.seats

      by_place : (n : ℕ) (s : Seat) (x : Session) → At r.seats n s → At next.core.sessions n x → ((n ≡ place) × (x ≡ what)) ⊎ ((n ≡ place → ⊥) × At r.core.sessions n x)
          → SeatIs next.core.log next.core.frontier floor (stands_at next.core.query x) (texts_of (n + 1) commands) s
      by_place n s x h k (inr p) = over_new n x s (stands_at r.core.query x) (omega arith) k (is.each n s x h p.1)
      by_place n s x h k (inl p) =
          let stand : stands_at r.core.query x ≡ stands_at r.core.query session = ap (stands_at r.core.query) p.1 ∙ same in
          over_new n x s (stands_at r.core.query session) (omega arith) k (is.each n s session h (subst (λ m. At r.core.sessions m session) (sym p.0) at.does))

  -- a reply is told, said where the session stood
  tells : (what : Session) (said : Reply) → told ≡ Some said → next.aborted ≡ false → stands_at r.core.query session ≤ stands_at r.core.query what → SessionsAre place what r.core.sessions next.core.sessions
      → IsSaid r.core (stands_at r.core.query session) text_at_hand.0 said → LegalIs floor commands next.core next.seats next.aborted
  tells what said t b l sessions is_said = subst (LegalIs floor commands next.core next.seats) (sym b) (record {
    low = floor_on;
    each = λ n s x h k. by_place n s x (at_set_cases r.seats place n s (with_reply said seat) (subst (λ xs. At xs n s) seats h)) k (sessions n x k);
    aborts = λ n s h. none_yet n s (at_set_cases r.seats place n s (with_reply said seat) (subst (λ xs. At xs n s) seats h));
  })
    where
      seats : next.seats ≡ slice_set r.seats place (with_reply said seat)
      seats = subst (λ o. SeatsAre place seat o r.seats next.seats) t at.seats

      more : SeatIs r.core.log r.core.frontier floor (stands_at r.core.query session) (texts_of (place + 1) commands) (with_reply said seat)
      more = seat_more r.core.log r.core.frontier floor (stands_at r.core.query session) (texts_of (place + 1) commands) seat said text_at_hand.0 own text_at_hand.1 is_said.meant is_said.says

      by_place : (n : ℕ) (s : Seat) (x : Session) → ((n ≡ place) × (s ≡ with_reply said seat)) ⊎ ((n ≡ place → ⊥) × At r.seats n s) → At next.core.sessions n x
          → ((n ≡ place) × (x ≡ what)) ⊎ ((n ≡ place → ⊥) × At r.core.sessions n x) → SeatIs next.core.log next.core.frontier floor (stands_at next.core.query x) (texts_of (n + 1) commands) s
      by_place n s x (inr h) k (inr p) = over_new n x s (stands_at r.core.query x) (omega arith) k (is.each n s x h.1 p.1)
      by_place n s x (inr h) k (inl p) = absurd (h.0 p.0)
      by_place n s x (inl h) k (inr p) = absurd (p.0 h.0)
      by_place n s x (inl h) k (inl p) =
          let stand : stands_at r.core.query x ≡ stands_at r.core.query what = ap (stands_at r.core.query) p.1 in
          over_new n x s (stands_at r.core.query session) (omega arith) k
          (subst (λ (z : Seat). SeatIs r.core.log r.core.frontier floor (stands_at r.core.query session) (texts_of (n + 1) commands) z) (sym h.1)
          (subst (λ m. SeatIs r.core.log r.core.frontier floor (stands_at r.core.query session) (texts_of (m + 1) commands) (with_reply said seat)) (sym h.0) more))

      none_yet : (n : ℕ) (s : Seat) → ((n ≡ place) × (s ≡ with_reply said seat)) ⊎ ((n ≡ place → ⊥) × At r.seats n s) → NoneAborted s.replies
      none_yet n s (inr h) = is.aborts n s h.1
      none_yet n s (inl h) = subst (λ (z : Seat). NoneAborted z.replies) (sym h.1) (each_append (λ q. is_aborted q ≡ false) seat.replies (said ∷ []) (is.aborts place seat at.seated) (is_said.open_, tt))

  -- ABORT is answered: all sessions are free afterwards
  aborts : request ≡ Asks command.Abort → session ≡ Free → told ≡ Some (reply.Aborted r.core.query) → next.aborted ≡ true → next.core ≡ restarted r.core → LegalIs floor commands next.core next.seats next.aborted
  aborts asks free t b same = subst (LegalIs floor commands next.core next.seats) (sym b) (record {
    low = floor_on;
    each = λ n s x h k. by_place n s x (at_set_cases r.seats place n s (with_reply (reply.Aborted r.core.query) seat) (subst (λ xs. At xs n s) seats h)) k (all_free n x k);
    aborts = record {
      place = place;
      seat = with_reply (reply.Aborted r.core.query) seat;
      earlier = seat.replies;
      scn = r.core.query;
      found = subst (λ xs. At xs place (with_reply (reply.Aborted r.core.query) seat)) (sym seats) (at_set_same r.seats place (with_reply (reply.Aborted r.core.query) seat) (at_within r.seats place seat at.seated));
      last = refl;
      none = is.aborts place seat at.seated;
      others = λ n s d h. others n s d (at_set_cases r.seats place n s (with_reply (reply.Aborted r.core.query) seat) (subst (λ xs. At xs n s) seats h));
    };
  })
    where
      seats : next.seats ≡ slice_set r.seats place (with_reply (reply.Aborted r.core.query) seat)
      seats = subst (λ o. SeatsAre place seat o r.seats next.seats) t at.seats

      all_free : (n : ℕ) (x : Session) → At next.core.sessions n x → x ≡ Free
      all_free n x h = at_replicate (length r.core.sessions) n x Free (subst (λ (y : CoreState). At y.sessions n x) same h)

      count : length next.core.sessions ≡ length r.core.sessions
      count = ap (λ (y : CoreState). length y.sessions) same ∙ length-replicate (length r.core.sessions) Free

      meant : IsReply r.core.log r.core.frontier text_at_hand.0 (reply.Aborted r.core.query)
      meant = subst (Reads text_at_hand.0) asks text_at_hand.2

      stand_is : stands_at r.core.query session ≡ r.core.query
      stand_is = ap (stands_at r.core.query) free

      more : SeatIs r.core.log r.core.frontier floor (stands_at r.core.query session) (texts_of (place + 1) commands) (with_reply (reply.Aborted r.core.query) seat)
      more = seat_more r.core.log r.core.frontier floor (stands_at r.core.query session) (texts_of (place + 1) commands) seat (reply.Aborted r.core.query) text_at_hand.0 own text_at_hand.1 meant
          (record { scn = ap Some (sym stand_is); synced = tt })

      old_session : (n : ℕ) (x : Session) → At next.core.sessions n x → (y : Session) × At r.core.sessions n y
      old_session n x k = let within : n < length next.core.sessions = at_within next.core.sessions n x k in at_exists r.core.sessions n (omega (arith, within, count))

      by_place : (n : ℕ) (s : Seat) (x : Session) → ((n ≡ place) × (s ≡ with_reply (reply.Aborted r.core.query) seat)) ⊎ ((n ≡ place → ⊥) × At r.seats n s) → At next.core.sessions n x → x ≡ Free
          → SeatIs next.core.log next.core.frontier floor (stands_at next.core.query x) (texts_of (n + 1) commands) s
      by_place n s x (inr h) k f =
          let y = old_session n x k in
          let low : stands_at r.core.query y.0 ≤ r.core.query = stand_within r.core v n y.0 y.1 in
          let high : stands_at r.core.query x ≡ r.core.query = ap (stands_at r.core.query) f in
          over_new n x s (stands_at r.core.query y.0) (omega arith) k (is.each n s y.0 h.1 y.1)
      by_place n s x (inl h) k f =
          let high : stands_at r.core.query x ≡ r.core.query = ap (stands_at r.core.query) f in
          over_new n x s (stands_at r.core.query session) (omega (arith, stand_is, high)) k
          (subst (λ (z : Seat). SeatIs r.core.log r.core.frontier floor (stands_at r.core.query session) (texts_of (n + 1) commands) z) (sym h.1)
          (subst (λ m. SeatIs r.core.log r.core.frontier floor (stands_at r.core.query session) (texts_of (m + 1) commands) (with_reply (reply.Aborted r.core.query) seat)) (sym h.0) more))

      others : (n : ℕ) (s : Seat) → (n ≡ place → ⊥) → ((n ≡ place) × (s ≡ with_reply (reply.Aborted r.core.query) seat)) ⊎ ((n ≡ place → ⊥) × At r.seats n s) → NoneAborted s.replies
      others n s d (inl h) = absurd (d h.0)
      others n s d (inr h) = is.aborts n s h.1

  session_legal : SessionIs r.core place session request told next.aborted next.core → LegalIs floor commands next.core next.seats next.aborted
  session_legal (Replied said free alone t b same) =
      let stand : stands_at r.core.query session ≡ r.core.query = ap (stands_at r.core.query) free in
      tells Free said t b (omega arith) (same_sessions place r.core.sessions next.core.sessions Free (subst (At r.core.sessions place) free at.does) (ap (λ (y : CoreState). y.sessions) same))
      (subst (λ n. IsSaid r.core n text_at_hand.0 said) (sym stand) (said_alone r.core text_at_hand.0 request said text_at_hand.2 alone))
  session_legal (Refused said free refuses speaks t b same) =
      let stand : stands_at r.core.query session ≡ r.core.query = ap (stands_at r.core.query) free in
      tells Free said t b (omega arith) (same_sessions place r.core.sessions next.core.sessions Free (subst (At r.core.sessions place) free at.does) (ap (λ (y : CoreState). y.sessions) same))
      (subst (λ n. IsSaid r.core n text_at_hand.0 said) (sym stand) (said_refused r.core next.core v text_at_hand.0 request said text_at_hand.2 refuses speaks))
  session_legal (Aborts free asks t b same) = aborts asks free t b same
  session_legal (Populates obj free asks t b begins) =
      goes_on (Populating (new_population obj r.core.query begins.ticket begins.table)) t b (sym (ap (stands_at r.core.query) free)) (ap (λ (y : CoreState). y.sessions) begins.effect)
  session_legal (Registers p is_p asks t b holds left effect) =
      goes_on (Populating (record p { registered = p.registered + 1 })) t b (sym (ap (stands_at r.core.query) is_p)) (ap (λ (y : CoreState). y.sessions) effect)
  session_legal (Releases p is_p asks t b holds all effect) =
      goes_on (Populating (record p { holds = false })) t b (sym (ap (stands_at r.core.query) is_p)) (ap (λ (y : CoreState). y.sessions) effect)
  session_legal (ReadsOn p is_p asks t b released left effect) =
      goes_on (Populating (record p { blocks = p.blocks + 1; read = p.read ++ next_block r.core p })) t b (sym (ap (stands_at r.core.query) is_p)) (ap (λ (y : CoreState). y.sessions) effect)
  session_legal (EndsExtent p is_p asks t b released whole more effect) =
      goes_on (Populating (record p { extent = p.extent + 1; blocks = 0; read = []; installed = installed_then p r.core.units })) t b (sym (ap (stands_at r.core.query) is_p)) (ap (λ (y : CoreState). y.sessions) effect)
  session_legal (EndsPopulation p is_p asks t b released whole more speaks effect) =
      let stand : stands_at r.core.query session ≡ p.snapshot = ap (stands_at r.core.query) is_p in
      let within : stands_at r.core.query session ≤ r.core.query = stand_within r.core v place session at.does in
      tells Free (reply.Populated p.snapshot (installed_then p r.core.units)) t b within (set_sessions place Free r.core.sessions next.core.sessions (ap (λ (y : CoreState). y.sessions) effect))
      (record {
        meant = replies_have_meaning r.core speaks.event _ next.core text_at_hand.0 v (inr speaks.happens) (speaks.text text_at_hand.0 text_at_hand.2);
        says = record { scn = ap Some (sym stand); synced = tt };
        open_ = refl;
      })
  session_legal (BeginsScan select table free asks t b defined columns types effect) =
      goes_on (Scanning (new_scan select r.core.query table)) t b (sym (ap (stands_at r.core.query) free)) (ap (λ (y : CoreState). y.sessions) effect)
  session_legal (Gathers s is_s asks t b left effect) =
      goes_on (Scanning (scan_then r.core s)) t b (sym (ap (stands_at r.core.query) is_s)) (ap (λ (y : CoreState). y.sessions) effect)
  session_legal (EndsScan s is_s asks t b whole speaks effect) =
      let stand : stands_at r.core.query session ≡ s.scn = ap (stands_at r.core.query) is_s in
      let within : stands_at r.core.query session ≤ r.core.query = stand_within r.core v place session at.does in
      tells Free (scan_reply s) t b within (set_sessions place Free r.core.sessions next.core.sessions (ap (λ (y : CoreState). y.sessions) effect))
      (record {
        meant = replies_have_meaning r.core speaks.event _ next.core text_at_hand.0 v (inr speaks.happens) (speaks.text text_at_hand.0 text_at_hand.2);
        says = record { scn = ap Some (sym stand); synced = tt };
        open_ = refl;
      })

-- Each turn keeps it.
pub turn_legal : (floor : ℕ) (commands : List CommandText) (r next : Round) → RoundIs r → RoundIs next → r.aborted ≡ false → TurnIs r next → LegalIs floor commands r.core r.seats r.aborted
    → LegalIs floor commands next.core next.seats next.aborted
turn_legal floor commands r next is is' a t legal = by_turn t (subst (LegalIs floor commands r.core r.seats) a legal)
  where
    by_turn : TurnIs r next → LegalIs floor commands r.core r.seats false → LegalIs floor commands next.core next.seats next.aborted
    by_turn (Rested core seats b) l =
        subst (LegalIs floor commands next.core next.seats) (sym b) (subst (λ x. LegalIs floor commands next.core x false) (sym seats) (subst (λ c. LegalIs floor commands c r.seats false) (sym core) l))
    by_turn (Crewed e i h seats b) l =
        let k = crew_keeps r.core is.core e next.core i h in
        subst (LegalIs floor commands next.core next.seats) (sym b) (subst (λ x. LegalIs floor commands next.core x false) (sym seats)
        (crew_legal floor commands r.core next.core r.seats is'.core k.sessions k.log k.frontier k.query l))
    by_turn (Seated place seat session request told at does) l =
        session_legal floor commands r next place seat session request told is.core is'.core at l (session_keeps r.core place session request told next.aborted next.core does) does
