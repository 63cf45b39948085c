-- What holds of a round holds as it begins and after each turn; the turns of a round are a run of the core.
use Rattle.std.proofs.Common.{◌≡◌, ℕ, ◌+◌, ◌<◌, Bool, true, false, cond, List, [], ◌∷◌, ◌++◌, length, Option, Some, None, ◌⊎◌, inl, inr, refl, sym, ap, ◌∙◌, subst, arith, true≢false, length-set}
use Rattle.std.specs.Prelude.{slice_get, slice_set, nat_lt, ◌==◌}
use Rattle.std.proofs.lemmas.Bool.{ltb-true, ltb-false, cond_both}
use Rattle.std.proofs.lemmas.List.{length-replicate}
use Rattle.adg_base.specs.declared.command.Command.TheVariants as command
use Rattle.adg_base.specs.declared.answer.Reply.{Reply}
use Rattle.adg_base.specs.declared.answer.Reply.TheVariants as reply
use Rattle.core_rules.specs.declared.event.Event.{Event}
use Rattle.core_rules.specs.declared.event.Event.TheVariants as event
use Rattle.core_rules.specs.declared.event.CoreAnswer.{CoreAnswer}
use Rattle.core_rules.specs.declared.event.CoreAnswer.TheVariants.{NotReady, Moved, Said}
use Rattle.core_rules.specs.State.{CoreState, Population, Session, Free, Populating, Scanning, At, is_flushing}
use Rattle.core_rules.specs.Populations.{new_population, next_block, installed_then}
use Rattle.core_rules.specs.Scans.{new_scan, scan_then, scan_reply}
use Rattle.core_rules.specs.Restarts.{restarted}
use Rattle.core_rules.specs.Step.{Guard, Happens, Steps}
use Rattle.core_rules.specs.Runs.{Move, Takes, Gets, Leads}
use Rattle.core_rules.specs.Invariant.{Invariant, Precise}
use Rattle.core_rules.proofs.Whole.{steps_keep_invariant, steps_keep_precision, receiving_keeps_invariant, receiving_keeps_precision, guards_are_exact}
use Rattle.core_rules.proofs.Lists.{at_same, at_exists, at_within, at_set_same, at_set_cases, at_replicate, each_at}
use Rattle.turn_rules.specs.Round.{Request, Asks, Garbles, Seat, at_hand, Round, actors}
use Rattle.turn_rules.specs.Picks.{Act, Rests, Makes, Replies, MakesAndReplies, actor_of, actor_at, number_at, population_event, populate_act, select_act, request_act, session_act, coordinator_act, worker_act, act_of}
use Rattle.turn_rules.specs.Turns.{Acts, TakesTurn, moves_of, with_reply}
use Rattle.turn_rules.specs.Standing.{IsFor, RoundIs}
use Rattle.turn_rules.specs.Delivery.{IsTaken}
use Rattle.turn_rules.specs.Laws.{PickedEventsAreReady, RoundsBegin, TurnsKeepRounds, IsRun, RoundsAreRuns}
use Rattle.turn_rules.proofs.View.{IsOfCrew, SessionIs, Replied, Aborts, Refused, Populates, Registers, Releases, ReadsOn, EndsExtent, EndsPopulation, BeginsScan, Gathers, EndsScan, SeatsAre, AtSeat, TurnIs, Rested, Crewed, Seated}
use Rattle.turn_rules.proofs.Guards.{CrewDoes, coordinator_does, worker_does}
use Rattle.turn_rules.proofs.Viewed.{here, IsActor, First, Middle, Last, actor_is, turns_are_these}

-- Events that are picked can happen.
abbrev pub IsFine : CoreState → Act → Type 0
IsFine c Rests = Unit {0}
IsFine c (Makes e) = Guard c e
IsFine c (Replies said) = Unit {0}
IsFine c (MakesAndReplies e said) = Guard c e

crew_fine : (c : CoreState) (act : Act) → CrewDoes c act → IsFine c act
crew_fine c Rests d = tt
crew_fine c (Makes e) d = d.1
crew_fine c (Replies said) d = tt
crew_fine c (MakesAndReplies e said) d = absurd d

free_fine : (c : CoreState) (place : ℕ) (request : Request) → At c.sessions place Free → IsFine c (request_act c place (Some request))
free_fine c place (Garbles byte) at = tt
free_fine c place (Asks command.ShowScn) at = tt
free_fine c place (Asks command.Sync) at = cond_both (c.query == c.frontier) (Replies (reply.Synced c.query)) Rests (IsFine c) (λ u. tt) (λ u. tt)
free_fine c place (Asks command.Abort) at = tt
free_fine c place (Asks (command.Populate obj)) at = subst (λ o. IsFine c (populate_act c (place + 1) obj o)) (sym at)
    (cond_both (is_flushing c.quiesce) Rests (Makes (event.PopBegin (place + 1) obj)) (IsFine c) (λ u. tt) (λ u. record { place = place; free = here c place Free at; calm = u }))
free_fine c place (Asks (command.Select select)) at = subst (λ o. IsFine c (select_act (place + 1) select o)) (sym at) (record { place = place; free = here c place Free at })

population_fine : (c : CoreState) (place : ℕ) (p : Population) → At c.sessions place (Populating p) → Guard c (population_event (place + 1) p)
population_fine c place p at = by_holds p.holds refl
  where
    by_holds : (b : Bool) → p.holds ≡ b
        → Guard c (cond b (cond (nat_lt p.registered p.table.extents) (event.PopRegister (place + 1)) (event.PopRelease (place + 1))) (cond (nat_lt p.blocks 16) (event.PopRead (place + 1)) (event.PopEnd (place + 1))))
    by_holds true u = cond_both (nat_lt p.registered p.table.extents) (event.PopRegister (place + 1)) (event.PopRelease (place + 1)) (Guard c)
        (λ w. record { place = place; population = p; is = here c place (Populating p) at; holds = u; left = ltb-true p.registered p.table.extents w })
        (λ w. record { place = place; population = p; is = here c place (Populating p) at; holds = u; all = ltb-false p.registered p.table.extents w })
    by_holds false u = cond_both (nat_lt p.blocks 16) (event.PopRead (place + 1)) (event.PopEnd (place + 1)) (Guard c)
        (λ w. record { place = place; population = p; is = here c place (Populating p) at; released = u; left = ltb-true p.blocks 16 w })
        (λ w. record { place = place; population = p; is = here c place (Populating p) at; released = u; whole = ltb-false p.blocks 16 w })

session_fine : (c : CoreState) (place : ℕ) (session : Session) (request : Request) → At c.sessions place session → IsFor session (Some request) → IsFine c (request_act c place (Some request))
session_fine c place Free request at i = free_fine c place request at
session_fine c place (Populating p) request at i =
    let e : Some request ≡ Some (Asks (command.Populate p.obj)) = i in
    let f : request ≡ Asks (command.Populate p.obj) = cc in
    subst (λ q. IsFine c (request_act c place (Some q))) (sym f) (subst (λ o. IsFine c (populate_act c (place + 1) p.obj o)) (sym at) (population_fine c place p at))
session_fine c place (Scanning s) request at i =
    let e : Some request ≡ Some (Asks (command.Select s.select)) = i in
    let f : request ≡ Asks (command.Select s.select) = cc in
    subst (λ q. IsFine c (request_act c place (Some q))) (sym f) (subst (λ o. IsFine c (select_act (place + 1) s.select o)) (sym at)
    (cond_both (nat_lt s.extents s.table.extents) (event.ScanExtent (place + 1)) (event.ScanEnd (place + 1)) (Guard c)
    (λ w. record { place = place; scan = s; is = here c place (Scanning s) at; left = ltb-true s.extents s.table.extents w })
    (λ w. record { place = place; scan = s; is = here c place (Scanning s) at; whole = ltb-false s.extents s.table.extents w })))

pub act_fine : (r : Round) → RoundIs r → (number : ℕ) → IsFine r.core (act_of r (actor_of (length r.core.workers) number))
act_fine r is number = by_actor (actor_is (length r.core.workers) number)
  where
    by_request : (place : ℕ) (seat : Seat) → At r.seats place seat → (o : Option Request) → at_hand seat ≡ o → IsFine r.core (request_act r.core place o)
    by_request place seat at None asks = tt
    by_request place seat at (Some request) asks =
        let within : place < length r.seats = at_within r.seats place seat at in
        let as_many : length r.seats ≡ length r.core.sessions = is.seated in
        let s = at_exists r.core.sessions place (omega arith) in
        session_fine r.core place s.0 request s.1 (subst (IsFor s.0) asks (is.busy place seat s.0 at s.1))

    by_seat : (place : ℕ) (o : Option Seat) → slice_get r.seats place ≡ o → IsFine r.core (session_act r.core place o)
    by_seat place None at = tt
    by_seat place (Some seat) at = by_request place seat at (at_hand seat) refl

    by_actor : IsActor (length r.core.workers) number → IsFine r.core (act_of r (actor_of (length r.core.workers) number))
    by_actor (First e) = subst (λ a. IsFine r.core (act_of r a)) (sym e) (crew_fine r.core (coordinator_act r.core) (coordinator_does r.core is.core))
    by_actor (Middle worker known n e) = subst (λ a. IsFine r.core (act_of r a)) (sym e) (crew_fine r.core (worker_act r.core worker) (worker_does r.core is.core worker known))
    by_actor (Last place n e) = subst (λ a. IsFine r.core (act_of r a)) (sym e) (by_seat place (slice_get r.seats place) refl)

pub picked_events_are_ready : PickedEventsAreReady
picked_events_are_ready r is = record {
  makes = λ number e h. subst (IsFine r.core) h (act_fine r is number);
  replies = λ number e said h. subst (IsFine r.core) h (act_fine r is number);
}

-- An act keeps the core's invariant and precision.
acts_keep : (c : CoreState) (act : Act) (move : Option Move) (told : Option Reply) (new : CoreState) → Acts c act move told new → Invariant c → Precise c → Invariant new × Precise new
acts_keep c Rests move told new a v p = (subst Invariant (sym a.2) v, subst Precise (sym a.2) p)
acts_keep c (Replies said) move told new a v p = (subst Invariant (sym a.2) v, subst Precise (sym a.2) p)
acts_keep c (Makes e) move told new a v p = (steps_keep_invariant c e a.0 new a.3 v, steps_keep_precision c e a.0 new a.3 v p)
acts_keep c (MakesAndReplies e said) move told new a v p = (steps_keep_invariant c e a.0 new a.3 v, steps_keep_precision c e a.0 new a.3 v p)

-- Sessions and seats belong together.
abbrev pub AreBusy : List Seat → List Session → Type 0
AreBusy seats sessions = (place : ℕ) (seat : Seat) (session : Session) → At seats place seat → At sessions place session → IsFor session (at_hand seat)

-- a session goes on with its request
busy_on : (seats : List Seat) (sessions : List Session) (place : ℕ) (seat : Seat) (what : Session) → AreBusy seats sessions → At seats place seat → IsFor what (at_hand seat) → AreBusy seats (slice_set sessions place what)
busy_on seats sessions place seat what b at i n s x h k = by_place (at_set_cases sessions place n x what k)
  where
    by_place : ((n ≡ place) × (x ≡ what)) ⊎ ((n ≡ place → ⊥) × At sessions n x) → IsFor x (at_hand s)
    by_place (inr p) = b n s x h p.1
    by_place (inl p) =
        let same : s ≡ seat = at_same seats place s seat (subst (λ m. At seats m s) p.0 h) at in
        subst (λ (q : Session). IsFor q (at_hand s)) (sym p.1) (subst (λ (q : Seat). IsFor what (at_hand q)) (sym same) i)

-- a session is free, and its seat has any replies
busy_free : (seats : List Seat) (sessions : List Session) (place : ℕ) (seat : Seat) → AreBusy seats sessions → At sessions place Free → AreBusy (slice_set seats place seat) sessions
busy_free seats sessions place seat b at n s x h k = by_place (at_set_cases seats place n s seat h)
  where
    by_place : ((n ≡ place) × (s ≡ seat)) ⊎ ((n ≡ place → ⊥) × At seats n s) → IsFor x (at_hand s)
    by_place (inr p) = b n s x p.1 k
    by_place (inl p) =
        let same : x ≡ Free = at_same sessions place x Free (subst (λ m. At sessions m x) p.0 k) at in
        subst (λ (q : Session). IsFor q (at_hand s)) (sym same) tt

-- an event of the coordinator or a worker leaves the sessions
pub crew_sessions : (c : CoreState) (e : Event) (new : CoreState) → IsOfCrew e → Happens c e Moved new → new.sessions ≡ c.sessions
crew_sessions c (event.Apply worker) new i h = ap (λ (x : CoreState). x.sessions) h.1.effect
crew_sessions c (event.Mine worker) new i h = ap (λ (x : CoreState). x.sessions) h.1.effect
crew_sessions c (event.Raise worker through) new i h = ap (λ (x : CoreState). x.sessions) h.1.effect
crew_sessions c (event.BeginFlush through) new i h = ap (λ (x : CoreState). x.sessions) h.1.effect
crew_sessions c (event.Claim actor) new i h = ap (λ (x : CoreState). x.sessions) h.1.effect
crew_sessions c (event.Collect actor) new i h = ap (λ (x : CoreState). x.sessions) h.1.effect
crew_sessions c (event.Touch actor) new i h = ap (λ (x : CoreState). x.sessions) h.1.effect
crew_sessions c (event.Done actor) new i h = ap (λ (x : CoreState). x.sessions) h.1.effect
crew_sessions c event.Publish new i h = ap (λ (x : CoreState). x.sessions) h.1.effect
crew_sessions c (event.PopBegin session obj) new i h = absurd i
crew_sessions c (event.PopRegister session) new i h = absurd i
crew_sessions c (event.PopRelease session) new i h = absurd i
crew_sessions c (event.PopRead session) new i h = absurd i
crew_sessions c (event.PopEnd session) new i h = absurd i
crew_sessions c (event.ScanBegin session select) new i h = absurd i
crew_sessions c (event.ScanExtent session) new i h = absurd i
crew_sessions c (event.ScanEnd session) new i h = absurd i
crew_sessions c event.Restart new i h = absurd i

-- What a turn leaves of the rest of RoundIs.
pub record StillStands (r next : Round) : Type 0 where
  pub seated : length next.seats ≡ length next.core.sessions
  pub busy : AreBusy next.seats next.core.sessions
  pub gone : next.aborted ≡ true → (place : ℕ) (session : Session) → At next.core.sessions place session → session ≡ Free

unbroken : (r next : Round) → RoundIs r → (seats : List Seat) (sessions : List Session) → next.seats ≡ seats → next.core.sessions ≡ sessions → next.aborted ≡ false
    → length seats ≡ length sessions → AreBusy seats sessions → StillStands r next
unbroken r next is seats sessions e f a l b = record {
  seated = ap length e ∙ l ∙ sym (ap length f);
  busy = subst (λ x. AreBusy x next.core.sessions) (sym e) (subst (AreBusy seats) (sym f) b);
  gone = λ t. absurd (true≢false (sym t ∙ a));
}

-- of a session's turn, by what is told
session_stands : (r next : Round) (place : ℕ) (seat : Seat) (session : Session) (request : Request) (told : Option Reply) → RoundIs r → AtSeat r next place seat session request told
    → SessionIs r.core place session request told next.aborted next.core → StillStands r next
session_stands r next place seat session request told is at does = by_case does
  where
    -- the session goes on: nothing is told
    goes_on : (what : Session) → told ≡ None → next.aborted ≡ false → next.core.sessions ≡ slice_set r.core.sessions place what → IsFor what (Some request) → StillStands r next
    goes_on what t a f i = unbroken r next is r.seats (slice_set r.core.sessions place what) (subst (λ o. SeatsAre place seat o r.seats next.seats) t at.seats) f a
        (is.seated ∙ sym (length-set r.core.sessions place what)) (busy_on r.seats r.core.sessions place seat what is.busy at.seated (subst (IsFor what) (sym at.asks) i))

    -- the session is free before and after: something is told
    stays_free : (said : Reply) → told ≡ Some said → next.aborted ≡ false → session ≡ Free → next.core ≡ r.core → StillStands r next
    stays_free said t a free same = unbroken r next is (slice_set r.seats place (with_reply said seat)) r.core.sessions (subst (λ o. SeatsAre place seat o r.seats next.seats) t at.seats)
        (ap (λ (x : CoreState). x.sessions) same) a (length-set r.seats place (with_reply said seat) ∙ is.seated)
        (busy_free r.seats r.core.sessions place (with_reply said seat) is.busy (subst (At r.core.sessions place) free at.does))

    -- the session is free afterwards: something is told
    becomes_free : (said : Reply) → told ≡ Some said → next.aborted ≡ false → next.core.sessions ≡ slice_set r.core.sessions place Free → StillStands r next
    becomes_free said t a f = unbroken r next is (slice_set r.seats place (with_reply said seat)) (slice_set r.core.sessions place Free) (subst (λ o. SeatsAre place seat o r.seats next.seats) t at.seats) f a
        (length-set r.seats place (with_reply said seat) ∙ is.seated ∙ sym (length-set r.core.sessions place Free))
        (busy_free r.seats (slice_set r.core.sessions place Free) place (with_reply said seat)
        (busy_on r.seats r.core.sessions place seat Free is.busy at.seated tt)
        (at_set_same r.core.sessions place Free (at_within r.core.sessions place session at.does)))

    ap_sessions : (x : CoreState) → next.core ≡ x → next.core.sessions ≡ x.sessions
    ap_sessions x e = ap (λ (y : CoreState). y.sessions) e

    all_free : (n : ℕ) (x : Session) → next.core ≡ restarted r.core → At next.core.sessions n x → x ≡ Free
    all_free n x e h = at_replicate (length r.core.sessions) n x Free (subst (λ (y : CoreState). At y.sessions n x) e h)

    by_case : SessionIs r.core place session request told next.aborted next.core → StillStands r next
    by_case (Replied said free alone t a same) = stays_free said t a free same
    by_case (Refused said free refuses speaks t a same) = stays_free said t a free same
    by_case (Aborts free asks t a same) = record {
      seated = ap length (subst (λ o. SeatsAre place seat o r.seats next.seats) t at.seats) ∙ length-set r.seats place (with_reply (reply.Aborted r.core.query) seat) ∙ is.seated
          ∙ sym (length-replicate (length r.core.sessions) Free) ∙ sym (ap length (ap_sessions (restarted r.core) same));
      busy = λ n s x h k. subst (λ (q : Session). IsFor q (at_hand s)) (sym (all_free n x same k)) tt;
      gone = λ u n x h. all_free n x same h;
    }
    by_case (Populates obj free asks t a begins) =
        goes_on (Populating (new_population obj r.core.query begins.ticket begins.table)) t a (ap_sessions _ begins.effect) (ap Some asks)
    by_case (Registers p is_p asks t a holds left effect) = goes_on (Populating (record p { registered = p.registered + 1 })) t a (ap_sessions _ effect) (ap Some asks)
    by_case (Releases p is_p asks t a holds all effect) = goes_on (Populating (record p { holds = false })) t a (ap_sessions _ effect) (ap Some asks)
    by_case (ReadsOn p is_p asks t a released left effect) = goes_on (Populating (record p { blocks = p.blocks + 1; read = p.read ++ next_block r.core p })) t a (ap_sessions _ effect) (ap Some asks)
    by_case (EndsExtent p is_p asks t a released whole more effect) =
        goes_on (Populating (record p { extent = p.extent + 1; blocks = 0; read = []; installed = installed_then p r.core.units })) t a (ap_sessions _ effect) (ap Some asks)
    by_case (EndsPopulation p is_p asks t a released whole more speaks effect) = becomes_free (reply.Populated p.snapshot (installed_then p r.core.units)) t a (ap_sessions _ effect)
    by_case (BeginsScan select table free asks t a defined columns types effect) = goes_on (Scanning (new_scan select r.core.query table)) t a (ap_sessions _ effect) (ap Some asks)
    by_case (Gathers s is_s asks t a left effect) = goes_on (Scanning (scan_then r.core s)) t a (ap_sessions _ effect) (ap Some asks)
    by_case (EndsScan s is_s asks t a whole speaks effect) = becomes_free (scan_reply s) t a (ap_sessions _ effect)

turn_stands : (r next : Round) → RoundIs r → TurnIs r next → StillStands r next
turn_stands r next is (Rested core seats a) = unbroken r next is r.seats r.core.sessions seats (ap (λ (x : CoreState). x.sessions) core) a is.seated is.busy
turn_stands r next is (Crewed e i h seats a) = unbroken r next is r.seats r.core.sessions seats (crew_sessions r.core e next.core i h) a is.seated is.busy
turn_stands r next is (Seated place seat session request told at does) = session_stands r next place seat session request told is at does

pub turns_keep_rounds : TurnsKeepRounds
turns_keep_rounds schedule r move next t is = record {
  core = subst Invariant (sym core_is) kept.0;
  precise = subst Precise (sym core_is) kept.1;
  seated = stands.seated;
  busy = stands.busy;
  gone = stands.gone;
}
  where
    core_is : next.core ≡ t.core
    core_is = ap (λ (x : Round). x.core) t.effect

    kept : Invariant t.core × Precise t.core
    kept = acts_keep r.core (act_of r (actor_at schedule r r.turns)) move t.told t.core t.acts is.core is.precise

    stands : StillStands r next
    stands = turn_stands r next is (turns_are_these schedule r move next is t).1

pub rounds_begin : RoundsBegin
rounds_begin c d received seats ready receives read = record {
  core = receiving_keeps_invariant c d.entries d.frontier received receives ready.invariant;
  precise = receiving_keeps_precision c d.entries d.frontier received receives ready.invariant ready.precise;
  seated = read.count ∙ sym (ap length sessions_are);
  busy = λ place seat session h k. subst (λ (x : Session). IsFor x (at_hand seat)) (sym (each_at (λ (x : Session). x ≡ Free) c.sessions place session ready.free (subst (λ xs. At xs place session) sessions_are k))) tt;
  gone = λ t. absurd (true≢false (sym t));
}
  where
    sessions_are : received.sessions ≡ c.sessions
    sessions_are = ap (λ (x : CoreState). x.sessions) receives.effect

-- What happens to the core in a turn: nothing, or an event that is not answered NotReady.
abbrev pub HasMoved : CoreState → Option Move → CoreState → Type 0
HasMoved c None new = new ≡ c
HasMoved c (Some (Takes e answer)) new = Steps c e answer new × IsTaken (Takes e answer)
HasMoved c (Some (Gets entries frontier)) new = ⊥

taken : (c : CoreState) (e : Event) (answer : CoreAnswer) (new : CoreState) → Invariant c → Guard c e → Steps c e answer new → IsTaken (Takes e answer)
taken c e NotReady new v g (inl h) = absurd (h.1 g)
taken c e NotReady new v g (inr h) = absurd ((guards_are_exact c e v).ready new h)
taken c e Moved new v g s = tt
taken c e (Said said) new v g s = tt

acts_move : (c : CoreState) (act : Act) (move : Option Move) (told : Option Reply) (new : CoreState) → Invariant c → IsFine c act → Acts c act move told new → HasMoved c move new
acts_move c Rests move told new v f a = subst (λ m. HasMoved c m new) (sym a.0) a.2
acts_move c (Replies said) move told new v f a = subst (λ m. HasMoved c m new) (sym a.0) a.2
acts_move c (Makes e) move told new v f a = subst (λ m. HasMoved c m new) (sym a.1) (a.3, taken c e a.0 new v f a.3)
acts_move c (MakesAndReplies e said) move told new v f a = subst (λ m. HasMoved c m new) (sym a.1) (a.3, taken c e a.0 new v f a.3)

pub turn_moves : (schedule : List ℕ) (r : Round) (move : Option Move) (next : Round) → RoundIs r → TakesTurn schedule r move next → HasMoved r.core move next.core
turn_moves schedule r move next is t = subst (HasMoved r.core move) (sym (ap (λ (x : Round). x.core) t.effect))
    (acts_move r.core (act_of r (actor_at schedule r r.turns)) move t.told t.core is.core (act_fine r is (number_at schedule (actors r) r.turns)) t.acts)

-- one more turn before a run
run_more : (r next : Round) (move : Option Move) (turns : List (Option Move)) (last : Round) → HasMoved r.core move next.core → IsRun next turns last → IsRun r (move ∷ turns) last
run_more r next None turns last h run = record { leads = subst (λ c. Leads c (moves_of turns) last.core) h run.leads; taken = run.taken; stands = run.stands }
run_more r next (Some (Takes e answer)) turns last h run = record { leads = (next.core, h.0, run.leads); taken = (h.1, run.taken); stands = run.stands }
run_more r next (Some (Gets entries frontier)) turns last h run = absurd h

pub rounds_are_runs : RoundsAreRuns
rounds_are_runs schedule r [] last is p = record { leads = ap (λ (x : Round). x.core) p; taken = tt; stands = subst RoundIs (sym p) is }
rounds_are_runs schedule r (move ∷ turns) last is p =
    run_more r p.0 move turns last (turn_moves schedule r move p.0 is p.1) (rounds_are_runs schedule p.0 turns last (turns_keep_rounds schedule r move p.0 p.1 is) p.2)
