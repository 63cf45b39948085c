-- Where all actors rest the round is over.
use Rattle.std.proofs.Common.{◌≡◌, ℕ, zero, suc, ◌+◌, ◌-◌, ◌<◌, ◌≤◌, Bool, true, false, cond, ◌&&◌, List, [], ◌∷◌, length, map, Option, Some, None, ◌⊎◌, inl, inr, refl, sym, ap, ◌∙◌, subst, arith, true≢false}
use Rattle.std.specs.Prelude.{slice_get, nat_lt, nat_le, ◌==◌}
use Rattle.std.specs.List.{list_all, list_any}
use Rattle.std.proofs.lemmas.Bool.{ltb-false, le-leb, lt-leb, eq-eqb, ne_eqb, and_from, and_cases, or_right}
use Rattle.std.proofs.lemmas.List.{length-map}
use Rattle.adg_base.specs.declared.command.Command.TheVariants as command
use Rattle.adg_base.specs.declared.answer.Reply.{Reply}
use Rattle.adg_base.specs.declared.answer.Reply.TheVariants as reply
use Rattle.adg_model.specs.Log.{least}
use Rattle.core_rules.specs.declared.event.Event.{Event}
use Rattle.core_rules.specs.declared.event.Event.TheVariants as event
use Rattle.core_rules.specs.State.{CoreState, Worker, Quiesce, Idle, Shared, Flushing, Collected, Stage, Unclaimed, Claimed, Finished, Link, Session, Free, Populating, Scanning, At, share_of, limit, is_flushing, is_unclaimed, is_finished, holds_back, holders}
use Rattle.core_rules.specs.Parts.{QuiesceIs}
use Rattle.core_rules.specs.Invariant.{Invariant}
use Rattle.core_rules.proofs.Lists.{at_map, at_exists, at_within, at_has, Has, has_map_back, any_has_back, contains, any_false, is_true}
use Rattle.core_rules.proofs.Once.{count_none}
use Rattle.turn_rules.specs.Round.{Request, Asks, Garbles, Seat, at_hand, is_through}
use Rattle.turn_rules.specs.Picks.{Act, Rests, Makes, Replies, MakesAndReplies, Coordinator, WorkerAt, SessionAt, actor_of, cursor_of, link_event, link_act, has_unclaimed, are_finished, is_idle, least_progress, flushing_act, calm_act, below_entry, mined_through, share_act, population_event, populate_act, scan_event, select_act, request_act, session_act, act_of}
use Rattle.turn_rules.specs.Standing.{IsFor}
use Rattle.turn_rules.specs.Laws.{NobodyWaits}
use Rattle.turn_rules.proofs.Guards.{holder_has_cursor, none_from}
use Rattle.turn_rules.proofs.Viewed.{same_request}

-- the numbers of actors
actor_worker : (workers worker : ℕ) → worker < workers → actor_of workers (worker + 1) ≡ WorkerAt worker
actor_worker workers worker h =
    let one : worker + 1 - 1 ≡ worker = omega arith in
    ap (λ b. cond b Coordinator (cond (nat_le (worker + 1) workers) (WorkerAt (worker + 1 - 1)) (SessionAt (worker + 1 - workers - 1)))) (ne_eqb (worker + 1) 0 (λ e. absurd (omega arith)))
    ∙ ap (λ b. cond b (WorkerAt (worker + 1 - 1)) (SessionAt (worker + 1 - workers - 1))) (le-leb (worker + 1) workers (omega arith)) ∙ ap WorkerAt one

actor_session : (workers place : ℕ) → actor_of workers (workers + 1 + place) ≡ SessionAt place
actor_session workers place =
    let one : workers + 1 + place - workers - 1 ≡ place = omega arith in
    ap (λ b. cond b Coordinator (cond (nat_le (workers + 1 + place) workers) (WorkerAt (workers + 1 + place - 1)) (SessionAt (workers + 1 + place - workers - 1)))) (ne_eqb (workers + 1 + place) 0 (λ e. absurd (omega arith)))
    ∙ ap (λ b. cond b (WorkerAt (workers + 1 + place - 1)) (SessionAt (workers + 1 + place - workers - 1))) (lt-leb (workers + 1 + place) workers (omega arith)) ∙ ap SessionAt one

makes_rests : (e : Event) → Makes e ≡ Rests → ⊥
makes_rests e h = cc

replies_rests : (said : Reply) → Replies said ≡ Rests → ⊥
replies_rests said h = cc

both_rests : (e : Event) (said : Reply) → MakesAndReplies e said ≡ Rests → ⊥
both_rests e said h = cc

-- who rests has no worklink, and what it would do else is a rest
link_rests : (workers actor : ℕ) (o : Option ℕ) (other : Act) → link_act workers actor o other ≡ Rests → (o ≡ None) × (other ≡ Rests)
link_rests workers actor None other h = (refl, h)
link_rests workers actor (Some k) other h = absurd (makes_rests (link_event workers actor k) h)

-- an act that rests under a test
test_rests : (b : Bool) (e : Event) (other : Act) → cond b (Makes e) other ≡ Rests → (b ≡ false) × (other ≡ Rests)
test_rests true e other h = absurd (makes_rests e h)
test_rests false e other h = (refl, h)

-- one that is not so
not_all : {X : Type 0} (p : X → Bool) (xs : List X) → list_all p xs ≡ false → (x : X) × Has xs x × (p x ≡ false)
not_all p [] h = absurd (true≢false h)
not_all p (x ∷ xs) h = by_case (and_cases (p x) (list_all p xs) h) (not_all p xs)
  where
    by_case : (p x ≡ false) ⊎ (list_all p xs ≡ false) → (list_all p xs ≡ false → (y : _) × Has xs y × (p y ≡ false)) → (y : _) × Has (x ∷ xs) y × (p y ≡ false)
    by_case (inl e) later = (x, inl refl, e)
    by_case (inr e) later = let q = later e in (q.0, inr q.1, q.2)

all_true : {X : Type 0} (p : X → Bool) (xs : List X) → ((n : ℕ) (x : X) → At xs n x → p x ≡ true) → list_all p xs ≡ true
all_true p [] h = refl
all_true p (x ∷ xs) h = and_from (p x) (list_all p xs) (h 0 x refl) (all_true p xs (λ n y k. h (suc n) y k))

pub get_beyond : {X : Type 0} (xs : List X) (n : ℕ) → length xs ≤ n → slice_get xs n ≡ None
get_beyond [] n h = refl
get_beyond (x ∷ xs) zero h = absurd (omega arith)
get_beyond (x ∷ xs) (suc n) h = get_beyond xs n (omega arith)

least_above : (ns : List ℕ) (f : ℕ) → 0 < length ns → ((n : ℕ) → Has ns n → f ≤ n) → f ≤ least ns
least_above [] f h k = absurd (omega arith)
least_above (n ∷ []) f h k = k n (inl refl)
least_above (n ∷ m ∷ more) f h k =
    let one : f ≤ n = k n (inl refl) in
    let rest : f ≤ least (m ∷ more) = least_above (m ∷ more) f (omega arith) (λ x i. k x (inr i)) in
    omega arith

-- A worker that rests while no flush goes on has come to the frontier.
share_rests : (c : CoreState) (worker : ℕ) (w : Worker) → share_act c worker (Some w) ≡ Rests → c.frontier ≤ w.progress
share_rests c worker w h =
    let raise = test_rests (nat_lt w.progress (mined_through c worker w)) (event.Raise worker (mined_through c worker w)) _ h in
    let mine = test_rests (nat_lt w.mined w.applied) (event.Mine worker) _ raise.1 in
    let apply = test_rests (nat_lt w.applied (length (share_of c worker))) (event.Apply worker) Rests mine.1 in
    let a : mined_through c worker w ≤ w.progress = ltb-false w.progress (mined_through c worker w) raise.0 in
    let b : w.applied ≤ w.mined = ltb-false w.mined w.applied mine.0 in
    let d : length (share_of c worker) ≤ w.applied = ltb-false w.applied (length (share_of c worker)) apply.0 in
    let e : mined_through c worker w ≡ c.frontier = ap (below_entry c.frontier) (get_beyond (share_of c worker) w.mined (omega arith)) in
    omega arith

-- a session with a request at hand that rests, while the QuerySCN is the frontier and no flush goes on
request_rests : (c : CoreState) (place : ℕ) (session : Session) (request : Request) → At c.sessions place session → IsFor session (Some request) → is_flushing c.quiesce ≡ false → (c.query == c.frontier) ≡ true
    → request_act c place (Some request) ≡ Rests → ⊥
request_rests c place Free (Garbles byte) at i f q h = replies_rests (reply.BadQuery c.query byte) h
request_rests c place Free (Asks command.ShowScn) at i f q h = replies_rests (reply.Shown c.query) h
request_rests c place Free (Asks command.Sync) at i f q h = replies_rests (reply.Synced c.query) (sym (ap (λ b. cond b (Replies (reply.Synced c.query)) Rests) q) ∙ h)
request_rests c place Free (Asks command.Abort) at i f q h = both_rests event.Restart (reply.Aborted c.query) h
request_rests c place Free (Asks (command.Populate obj)) at i f q h =
    makes_rests (event.PopBegin (place + 1) obj) (sym (ap (populate_act c (place + 1) obj) at ∙ ap (λ b. cond b Rests (Makes (event.PopBegin (place + 1) obj))) f) ∙ h)
request_rests c place Free (Asks (command.Select select)) at i f q h = makes_rests (event.ScanBegin (place + 1) select) (sym (ap (select_act (place + 1) select) at) ∙ h)
request_rests c place (Populating p) request at i f q h =
    makes_rests (population_event (place + 1) p) (sym (ap (λ r. request_act c place (Some r)) (same_request request (Asks (command.Populate p.obj)) i) ∙ ap (populate_act c (place + 1) p.obj) at) ∙ h)
request_rests c place (Scanning s) request at i f q h =
    makes_rests (scan_event (place + 1) s) (sym (ap (λ r. request_act c place (Some r)) (same_request request (Asks (command.Select s.select)) i) ∙ ap (select_act (place + 1) s.select) at) ∙ h)

-- a session that holds publication back does not rest
holder_rests : (c : CoreState) (place : ℕ) (session : Session) (request : Option Request) → At c.sessions place session → IsFor session request → holds_back session ≡ true → request_act c place request ≡ Rests → ⊥
holder_rests c place Free request at i b h = true≢false (sym b)
holder_rests c place (Scanning s) request at i b h = true≢false (sym b)
holder_rests c place (Populating p) request at i b h =
    makes_rests (population_event (place + 1) p) (sym (ap (request_act c place) i ∙ ap (populate_act c (place + 1) p.obj) at) ∙ h)

pub nobody_waits : NobodyWaits
nobody_waits r is rests = or_right r.aborted (list_all is_through r.seats && (r.core.query == r.core.frontier)) (and_from (list_all is_through r.seats) (r.core.query == r.core.frontier) all_through reached_it)
  where
    v : Invariant r.core
    v = is.core

    -- what rests
    coordinator : (cursor_of 0 r.core.links ≡ None) × (cond (is_flushing r.core.quiesce) (flushing_act r.core.links) (calm_act r.core) ≡ Rests)
    coordinator = link_rests (length r.core.workers) 0 (cursor_of 0 r.core.links) (cond (is_flushing r.core.quiesce) (flushing_act r.core.links) (calm_act r.core)) (rests 0 (omega arith))

    worker : (w : ℕ) → w < length r.core.workers → (cursor_of (w + 1) r.core.links ≡ None)
        × (cond (is_flushing r.core.quiesce && has_unclaimed r.core.links) (Makes (event.Claim (w + 1))) (share_act r.core w (slice_get r.core.workers w)) ≡ Rests)
    worker w h = link_rests (length r.core.workers) (w + 1) (cursor_of (w + 1) r.core.links) _ (sym (ap (act_of r) (actor_worker (length r.core.workers) w h)) ∙ rests (w + 1) (omega arith))

    session : (place : ℕ) (seat : Seat) → At r.seats place seat → request_act r.core place (at_hand seat) ≡ Rests
    session place seat h =
        let within : place < length r.seats = at_within r.seats place seat h in
        sym (ap (act_of r) (actor_session (length r.core.workers) place) ∙ ap (session_act r.core place) h) ∙ rests (length r.core.workers + 1 + place) (omega arith)

    -- no flush goes on
    stuck : is_flushing r.core.quiesce ≡ true → ⊥
    stuck f = by_link (not_all (λ (l : Link). is_finished l.stage) r.core.links finish.0)
      where
        act : flushing_act r.core.links ≡ Rests
        act = sym (ap (λ b. cond b (flushing_act r.core.links) (calm_act r.core)) f) ∙ coordinator.1

        claim : (has_unclaimed r.core.links ≡ false) × (cond (are_finished r.core.links) (Makes event.Publish) Rests ≡ Rests)
        claim = test_rests (has_unclaimed r.core.links) (event.Claim 0) (cond (are_finished r.core.links) (Makes event.Publish) Rests) act

        finish : (are_finished r.core.links ≡ false) × (Rests ≡ Rests)
        finish = test_rests (are_finished r.core.links) event.Publish Rests claim.1

        by_actor : (n : ℕ) (l : Link) (a k : ℕ) (xs : List Collected) → At r.core.links n l → l.stage ≡ Claimed a k xs → a ≤ length r.core.workers → ⊥
        by_actor n l zero k xs h e b = holder_has_cursor 0 r.core.links n l k xs h e coordinator.0
        by_actor n l (suc w) k xs h e b =
            let same : suc w ≡ w + 1 = omega arith in
            holder_has_cursor (w + 1) r.core.links n l k xs h (subst (λ m. l.stage ≡ Claimed m k xs) same e) (worker w (omega arith)).0

        by_stage : (l : Link) (s : Stage) → Has r.core.links l → l.stage ≡ s → is_finished s ≡ false → ⊥
        by_stage l Unclaimed h e u = any_false (λ (x : Link). is_unclaimed x.stage) r.core.links l claim.0 (contains r.core.links l h) (ap is_unclaimed e)
        by_stage l Finished h e u = true≢false u
        by_stage l (Claimed a k xs) h e u =
            let p = at_has r.core.links l h in
            by_actor p.0 l a k xs p.1 e (v.flush.claims.bounds p.0 a k xs (at_map (λ (x : Link). x.stage) r.core.links p.0 l p.1 ∙ ap Some e)).0

        by_link : (l : Link) × Has r.core.links l × (is_finished l.stage ≡ false) → ⊥
        by_link q = by_stage q.0 q.0.stage q.1 refl q.2

    calm : is_flushing r.core.quiesce ≡ false
    calm = by_case (is_true (is_flushing r.core.quiesce))
      where
        by_case : (is_flushing r.core.quiesce ≡ true) ⊎ (is_flushing r.core.quiesce ≡ false) → is_flushing r.core.quiesce ≡ false
        by_case (inl t) = absurd (stuck t)
        by_case (inr f) = f

    -- all workers have come to the frontier
    progressed : (w : ℕ) (x : Worker) → At r.core.workers w x → r.core.frontier ≤ x.progress
    progressed w x h =
        let acts = worker w (at_within r.core.workers w x h) in
        let no : (is_flushing r.core.quiesce && has_unclaimed r.core.links) ≡ false = ap (λ b. b && has_unclaimed r.core.links) calm in
        share_rests r.core w x (sym (ap (λ b. cond b (Makes (event.Claim (w + 1))) (share_act r.core w (slice_get r.core.workers w))) no ∙ ap (share_act r.core w) h) ∙ acts.1)

    least_is : r.core.frontier ≤ least_progress r.core
    least_is = least_above (map (λ (w : Worker). w.progress) r.core.workers) r.core.frontier
        (subst (λ k. 0 < k) (sym (length-map r.core.workers (λ (w : Worker). w.progress))) v.manned)
        (λ n h.
        let b = has_map_back (λ (w : Worker). w.progress) r.core.workers n h in
        let p = at_has r.core.workers b.0 b.1 in
        subst (λ k. r.core.frontier ≤ k) b.2 (progressed p.0 b.0 p.1))

    -- nobody keeps publication back
    idle : r.core.quiesce ≡ Idle
    idle = by_quiesce r.core.quiesce refl v.quiesce
      where
        by_holder : (s : Session) × Has r.core.sessions s × (holds_back s ≡ true) → ⊥
        by_holder q =
            let p = at_has r.core.sessions q.0 q.1 in
            let within : p.0 < length r.core.sessions = at_within r.core.sessions p.0 q.0 p.1 in
            let as_many : length r.seats ≡ length r.core.sessions = is.seated in
            let seat = at_exists r.seats p.0 (omega arith) in
            holder_rests r.core p.0 q.0 (at_hand seat.0) p.1 (is.busy p.0 seat.0 q.0 seat.1 p.1) q.2 (session p.0 seat.0 seat.1)

        by_any : (n : ℕ) → holders r.core.sessions ≡ n → 1 ≤ n → (list_any holds_back r.core.sessions ≡ true) ⊎ (list_any holds_back r.core.sessions ≡ false) → ⊥
        by_any n e l (inl t) = by_holder (any_has_back holds_back r.core.sessions t)
        by_any n e l (inr f) =
            let none : holders r.core.sessions ≡ 0 = count_none holds_back r.core.sessions (λ s h. by_test s h (is_true (holds_back s))) in
            omega arith
          where
            by_test : (s : Session) → Has r.core.sessions s → (holds_back s ≡ true) ⊎ (holds_back s ≡ false) → holds_back s ≡ false
            by_test s h (inl t) = absurd (any_false holds_back r.core.sessions s f (contains r.core.sessions s h) t)
            by_test s h (inr u) = u

        by_quiesce : (q : Quiesce) → r.core.quiesce ≡ q → QuiesceIs r.core.quiesce r.core.query (holders r.core.sessions) r.core.links → r.core.quiesce ≡ Idle
        by_quiesce Idle e k = e
        by_quiesce (Flushing t) e k = absurd (stuck (ap is_flushing e))
        by_quiesce (Shared n) e k =
            let s : QuiesceIs (Shared n) r.core.query (holders r.core.sessions) r.core.links = subst (λ q. QuiesceIs q r.core.query (holders r.core.sessions) r.core.links) e k in
            absurd (by_any n s.0 s.1 (is_true (list_any holds_back r.core.sessions)))

    -- so the QuerySCN is the frontier
    published : least_progress r.core ≤ r.core.query
    published =
        let act : calm_act r.core ≡ Rests = sym (ap (λ b. cond b (flushing_act r.core.links) (calm_act r.core)) calm) ∙ coordinator.1 in
        let no = test_rests (is_idle r.core.quiesce && nat_lt r.core.query (least_progress r.core)) (event.BeginFlush (least_progress r.core)) Rests act in
        ltb-false r.core.query (least_progress r.core) (sym (ap (λ q. is_idle q && nat_lt r.core.query (least_progress r.core)) idle) ∙ no.0)

    reached_it : (r.core.query == r.core.frontier) ≡ true
    reached_it =
        let a : r.core.query ≤ limit r.core = v.numbers.published in
        let b : limit r.core ≤ r.core.frontier = v.numbers.cut in
        eq-eqb r.core.query r.core.frontier (omega (arith, a, b, published, least_is))

    -- and each session is through
    all_through : list_all is_through r.seats ≡ true
    all_through = all_true is_through r.seats (λ place seat h. by_hand place seat h (at_hand seat) refl)
      where
        by_hand : (place : ℕ) (seat : Seat) → At r.seats place seat → (o : Option Request) → at_hand seat ≡ o → is_through seat ≡ true
        by_hand place seat h None e = le-leb (length seat.requests) (length seat.replies) (none_from seat.requests (length seat.replies) e)
        by_hand place seat h (Some request) e =
            let within : place < length r.seats = at_within r.seats place seat h in
            let as_many : length r.seats ≡ length r.core.sessions = is.seated in
            let s = at_exists r.core.sessions place (omega arith) in
            absurd (request_rests r.core place s.0 request s.1 (subst (IsFor s.0) e (is.busy place seat s.0 h s.1)) calm reached_it (sym (ap (request_act r.core place) e) ∙ session place seat h))
