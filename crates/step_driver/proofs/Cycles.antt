-- Turns of the coordinator and the workers while every session waits.
use Rattle.std.proofs.Common.{◌≡◌, ℕ, zero, suc, ◌+◌, ◌-◌, ◌*◌, ◌<◌, ◌≤◌, Bool, true, false, cond, ◌&&◌, ◌||◌, List, [], ◌∷◌, map, length, Option, Some, None, ◌⊎◌, inl, inr, refl, sym, ap, ◌∙◌, subst, arith, true≢false}
use Rattle.std.specs.Prelude.{◌==◌, nat_lt, nat_le, slice_get, slice_set}
use Rattle.std.proofs.lemmas.Bool.{cases_lt, ne_eqb, lt-leb, le-leb}
use Rattle.std.proofs.lemmas.List.{length-set}
use Rattle.adg_base.specs.declared.command.Command.TheVariants as command
use Rattle.adg_base.specs.declared.answer.Reply.TheVariants as reply
use Rattle.adg_model.specs.Log.{least}
use Rattle.dictionary.specs.Standing.{Known}
use Rattle.core_rules.specs.declared.event.Event.TheVariants as event
use Rattle.core_rules.specs.declared.event.CoreAnswer.{CoreAnswer}
use Rattle.core_rules.specs.State.{CoreState, Worker, Quiesce, Stage, Claimed, Link, At, is_flushing, is_unclaimed, is_finished, share_of}
use Rattle.core_rules.specs.Applying.{Applies, Mines}
use Rattle.core_rules.specs.Flush.{Collects, Touches}
use Rattle.core_rules.specs.Runs.{Move}
use Rattle.core_rules.specs.Step.{Steps}
use Rattle.core_rules.proofs.Lists.{map_set_same}
use Rattle.standby_core.specs.declared.standby.Core.{Core}
use Rattle.standby_core.specs.declared.crew.CrewEvent.{CrewEvent}
use Rattle.standby_core.specs.declared.crew.CrewEvent.TheVariants as crew
use Rattle.standby_core.specs.Crew.{event_of}
use Rattle.standby_core.specs.Shows.{IsState}
use Rattle.turn_rules.specs.Round.{Request, Asks, Garbles, Seat, at_hand, Round, actors, is_over}
use Rattle.turn_rules.specs.Picks.{Act, Rests, Makes, Replies, Coordinator, WorkerAt, SessionAt, actor_of, actor_at, or_next, cursor_in, cursor_of, link_act, has_unclaimed, are_finished, is_idle, coordinator_act, worker_act, share_act, request_act, session_act, act_of, mined_through}
use Rattle.turn_rules.specs.Turns.{Acts, TakesTurn}
use Rattle.turn_rules.specs.Standing.{RoundIs}
use Rattle.turn_rules.proofs.Waits.{nobody_waits}
use Rattle.step_driver.specs.declared.seats.Seats.{Seats}
use Rattle.step_driver.specs.Acts.{crew_shown, HasActed}
use Rattle.step_driver.specs.Seating.{seats_shown, hand_of}
use Rattle.step_driver.specs.Rounds.{ShowsRound, IsTurnOf, HasTurned, HasPlayedOn}
use Rattle.step_driver.specs.Waiting.{Awaits, AwaitFrontier, IsUnseen, HasPlayedCrew}
use Rattle.step_driver.proofs.Turned.{none_told, or_none, turned, rests}
use Rattle.step_driver.proofs.Played.{played_more, played_append, actors_stay, seats_stay, over_now, turn_behind, cycle_more}

-- What the coordinator looks at is the same.
pub record SameLooks (c new : CoreState) : Type 0 where
  pub workers : length new.workers ≡ length c.workers
  pub progress : map (λ (w : Worker). w.progress) new.workers ≡ map (λ (w : Worker). w.progress) c.workers
  pub cursor : cursor_of 0 new.links ≡ cursor_of 0 c.links
  pub unclaimed : has_unclaimed new.links ≡ has_unclaimed c.links
  pub finished : are_finished new.links ≡ are_finished c.links
  pub quiesce : new.quiesce ≡ c.quiesce
  pub query : new.query ≡ c.query

same_looks : (c : CoreState) → SameLooks c c
same_looks c = record { workers = refl; progress = refl; cursor = refl; unclaimed = refl; finished = refl; quiesce = refl; query = refl }

looks_of : (c new x : CoreState) → new ≡ x → SameLooks c x → SameLooks c new
looks_of c new x e s = subst (SameLooks c) (sym e) s

-- ---- worklinks, of which one goes on

abbrev by_cursors : List (Option ℕ) → Option ℕ
by_cursors [] = None
by_cursors (o ∷ os) = or_next o (by_cursors os)

cursor_by : (ls : List Link) → cursor_of 0 ls ≡ by_cursors (map (λ (l : Link). cursor_in 0 l.stage) ls)
cursor_by [] = refl
cursor_by (l ∷ ls) = ap (or_next (cursor_in 0 l.stage)) (cursor_by ls)

abbrev some_by : List Bool → Bool
some_by [] = false
some_by (b ∷ bs) = b || some_by bs

unclaimed_by : (ls : List Link) → has_unclaimed ls ≡ some_by (map (λ (l : Link). is_unclaimed l.stage) ls)
unclaimed_by [] = refl
unclaimed_by (l ∷ ls) = ap (λ b. is_unclaimed l.stage || b) (unclaimed_by ls)

abbrev all_by : List Bool → Bool
all_by [] = true
all_by (b ∷ bs) = b && all_by bs

finished_by : (ls : List Link) → are_finished ls ≡ all_by (map (λ (l : Link). is_finished l.stage) ls)
finished_by [] = refl
finished_by (l ∷ ls) = ap (λ b. is_finished l.stage && b) (finished_by ls)

-- a worklink of a worker at another stage of its own
record SameLinks (old new : List Link) : Type 0 where
  pub cursor : cursor_of 0 new ≡ cursor_of 0 old
  pub unclaimed : has_unclaimed new ≡ has_unclaimed old
  pub finished : are_finished new ≡ are_finished old

link_goes_on : (ls : List Link) (n : ℕ) (l : Link) (actor : ℕ) (was now : Stage) → At ls n l → l.stage ≡ was → cursor_in 0 now ≡ cursor_in 0 was → is_unclaimed now ≡ is_unclaimed was → is_finished now ≡ is_finished was
    → SameLinks ls (slice_set ls n (record l { stage = now }))
link_goes_on ls n l actor was now at stage cursor unclaimed finished = record {
  cursor = cursor_by (slice_set ls n y) ∙ ap by_cursors (map_set_same (λ (x : Link). cursor_in 0 x.stage) ls n l y at (cursor ∙ sym (ap (cursor_in 0) stage))) ∙ sym (cursor_by ls);
  unclaimed = unclaimed_by (slice_set ls n y) ∙ ap some_by (map_set_same (λ (x : Link). is_unclaimed x.stage) ls n l y at (unclaimed ∙ sym (ap is_unclaimed stage))) ∙ sym (unclaimed_by ls);
  finished = finished_by (slice_set ls n y) ∙ ap all_by (map_set_same (λ (x : Link). is_finished x.stage) ls n l y at (finished ∙ sym (ap is_finished stage))) ∙ sym (finished_by ls);
}
  where
    y : Link
    y = record l { stage = now }

no_cursor : (actor cursor : ℕ) (collected : List _) → (actor ≡ 0 → ⊥) → cursor_in 0 (Claimed actor cursor collected) ≡ None
no_cursor actor cursor collected e = ap (λ b. cond b (Some cursor) None) (ne_eqb actor 0 e)

-- ---- what each of the events leaves

apply_looks : (c new : CoreState) (worker : ℕ) → Applies c worker new → SameLooks c new
apply_looks c new worker h = looks_of c new _ h.effect (record {
  workers = length-set c.workers worker (record h.was { applied = h.was.applied + 1 });
  progress = map_set_same (λ (w : Worker). w.progress) c.workers worker h.was (record h.was { applied = h.was.applied + 1 }) h.found refl;
  cursor = refl;
  unclaimed = refl;
  finished = refl;
  quiesce = refl;
  query = refl;
})

mine_looks : (c new : CoreState) (worker : ℕ) → Mines c worker new → SameLooks c new
mine_looks c new worker h = looks_of c new _ h.effect (record {
  workers = length-set c.workers worker _;
  progress = map_set_same (λ (w : Worker). w.progress) c.workers worker h.was _ h.found refl;
  cursor = refl;
  unclaimed = refl;
  finished = refl;
  quiesce = refl;
  query = refl;
})

collect_looks : (c new : CoreState) (actor : ℕ) → (actor ≡ 0 → ⊥) → Collects c actor new → SameLooks c new
collect_looks c new actor e h =
    let links = link_goes_on c.links h.number h.link actor (Claimed actor h.cursor h.collected) (Claimed actor (h.cursor + 1) h.more) h.has.found h.has.stage
    (no_cursor actor (h.cursor + 1) h.more e ∙ sym (no_cursor actor h.cursor h.collected e)) refl refl in
    looks_of c new _ h.effect (record {
      workers = length-set c.workers h.cursor (record h.was { area = h.area });
      progress = map_set_same (λ (w : Worker). w.progress) c.workers h.cursor h.was (record h.was { area = h.area }) h.at refl;
      cursor = links.cursor;
      unclaimed = links.unclaimed;
      finished = links.finished;
      quiesce = refl;
      query = refl;
    })

touch_looks : (c new : CoreState) (actor : ℕ) → (actor ≡ 0 → ⊥) → Touches c actor new → SameLooks c new
touch_looks c new actor e h =
    let links = link_goes_on c.links h.number h.link actor (Claimed actor h.cursor h.collected) (Claimed actor (h.cursor + 1) h.collected) h.has.found h.has.stage
    (no_cursor actor (h.cursor + 1) h.collected e ∙ sym (no_cursor actor h.cursor h.collected e)) refl refl in
    looks_of c new _ h.effect (record {
      workers = refl;
      progress = refl;
      cursor = links.cursor;
      unclaimed = links.unclaimed;
      finished = links.finished;
      quiesce = refl;
      query = refl;
    })

unseen_steps : (c new : CoreState) (e : CrewEvent) (answer : CoreAnswer) → IsUnseen (Some e) → Steps c (event_of e) answer new → SameLooks c new
unseen_steps c new e answer u (inl h) = looks_of c new c h.2 (same_looks c)
unseen_steps c new (crew.Apply worker) answer u (inr h) = apply_looks c new worker h.1
unseen_steps c new (crew.Mine worker) answer u (inr h) = mine_looks c new worker h.1
unseen_steps c new (crew.Raise worker through) answer u (inr h) = absurd u
unseen_steps c new (crew.BeginFlush through) answer u (inr h) = absurd u
unseen_steps c new (crew.Claim actor) answer u (inr h) = absurd u
unseen_steps c new (crew.Collect actor) answer u (inr h) = collect_looks c new actor u h.1
unseen_steps c new (crew.Touch actor) answer u (inr h) = touch_looks c new actor u h.1
unseen_steps c new (crew.Done actor) answer u (inr h) = absurd u
unseen_steps c new crew.Publish answer u (inr h) = absurd u

-- ---- the coordinator rests on

-- what the coordinator does, by what it looks at
abbrev coordinator_by : (workers : ℕ) (cursor : Option ℕ) (quiesce : Quiesce) (unclaimed finished : Bool) (query : ℕ) (progress : List ℕ) → Act
coordinator_by workers cursor quiesce unclaimed finished query progress =
    link_act workers 0 cursor
    (cond (is_flushing quiesce) (cond unclaimed (Makes (event.Claim 0)) (cond finished (Makes event.Publish) Rests)) (cond (is_idle quiesce && nat_lt query (least progress)) (Makes (event.BeginFlush (least progress))) Rests))

coordinator_looks : (c : CoreState)
    → coordinator_act c ≡ coordinator_by (length c.workers) (cursor_of 0 c.links) c.quiesce (has_unclaimed c.links) (are_finished c.links) c.query (map (λ (w : Worker). w.progress) c.workers)
coordinator_looks c = refl

coordinator_stays : (c new : CoreState) → SameLooks c new → coordinator_act new ≡ coordinator_act c
coordinator_stays c new s =
    let progress = map (λ (w : Worker). w.progress) new.workers in
    coordinator_looks new
    ∙ ap (λ x. coordinator_by x (cursor_of 0 new.links) new.quiesce (has_unclaimed new.links) (are_finished new.links) new.query progress) s.workers
    ∙ ap (λ x. coordinator_by (length c.workers) x new.quiesce (has_unclaimed new.links) (are_finished new.links) new.query progress) s.cursor
    ∙ ap (λ x. coordinator_by (length c.workers) (cursor_of 0 c.links) x (has_unclaimed new.links) (are_finished new.links) new.query progress) s.quiesce
    ∙ ap (λ x. coordinator_by (length c.workers) (cursor_of 0 c.links) c.quiesce x (are_finished new.links) new.query progress) s.unclaimed
    ∙ ap (λ x. coordinator_by (length c.workers) (cursor_of 0 c.links) c.quiesce (has_unclaimed c.links) x new.query progress) s.finished
    ∙ ap (λ x. coordinator_by (length c.workers) (cursor_of 0 c.links) c.quiesce (has_unclaimed c.links) (are_finished c.links) x progress) s.query
    ∙ ap (λ x. coordinator_by (length c.workers) (cursor_of 0 c.links) c.quiesce (has_unclaimed c.links) (are_finished c.links) c.query x) s.progress
    ∙ sym (coordinator_looks c)

-- ---- a worker leaves the QuerySCN and the frontier

-- an act of a worker: it neither begins a flush nor publishes
abbrev IsWorkers : Act → Type 0
IsWorkers (Makes (event.BeginFlush through)) = ⊥
IsWorkers (Makes event.Publish) = ⊥
IsWorkers other = Unit {0}

either : (b : Bool) (x y : Act) → IsWorkers x → IsWorkers y → IsWorkers (cond b x y)
either true x y p q = p
either false x y p q = q

link_is_workers : (workers actor : ℕ) (cursor : Option ℕ) (other : Act) → IsWorkers other → IsWorkers (link_act workers actor cursor other)
link_is_workers workers actor None other p = p
link_is_workers workers actor (Some cursor) other p = by_place (nat_lt cursor workers) (nat_lt cursor (workers + 32))
  where
    by_place : (a b : Bool) → IsWorkers (Makes (cond a (event.Collect actor) (cond b (event.Touch actor) (event.Done actor))))
    by_place true b = tt
    by_place false true = tt
    by_place false false = tt

share_is_workers : (c : CoreState) (worker : ℕ) (w : Option Worker) → IsWorkers (share_act c worker w)
share_is_workers c worker None = tt
share_is_workers c worker (Some w) =
    either (nat_lt w.progress (mined_through c worker w)) (Makes (event.Raise worker (mined_through c worker w))) _ tt
    (either (nat_lt w.mined w.applied) (Makes (event.Mine worker)) _ tt (either (nat_lt w.applied (length (share_of c worker))) (Makes (event.Apply worker)) Rests tt tt))

worker_is_workers : (c : CoreState) (worker : ℕ) → IsWorkers (worker_act c worker)
worker_is_workers c worker =
    link_is_workers (length c.workers) (worker + 1) (cursor_of (worker + 1) c.links) _
    (either (is_flushing c.quiesce && has_unclaimed c.links) (Makes (event.Claim (worker + 1))) _ tt (share_is_workers c worker (slice_get c.workers worker)))

record LeavesScns (c new : CoreState) : Type 0 where
  pub query : new.query ≡ c.query
  pub frontier : new.frontier ≡ c.frontier

leaves_of : (c new x : CoreState) → new ≡ x → x.query ≡ c.query → x.frontier ≡ c.frontier → LeavesScns c new
leaves_of c new x e q f = record { query = ap (λ (y : CoreState). y.query) e ∙ q; frontier = ap (λ (y : CoreState). y.frontier) e ∙ f }

worker_leaves : (c new : CoreState) (e : CrewEvent) (answer : CoreAnswer) → IsWorkers (Makes (event_of e)) → Steps c (event_of e) answer new → LeavesScns c new
worker_leaves c new e answer u (inl h) = leaves_of c new c h.2 refl refl
worker_leaves c new (crew.Apply worker) answer u (inr h) = leaves_of c new _ h.1.effect refl refl
worker_leaves c new (crew.Mine worker) answer u (inr h) = leaves_of c new _ h.1.effect refl refl
worker_leaves c new (crew.Raise worker through) answer u (inr h) = leaves_of c new _ h.1.effect refl refl
worker_leaves c new (crew.BeginFlush through) answer u (inr h) = absurd u
worker_leaves c new (crew.Claim actor) answer u (inr h) = leaves_of c new _ h.1.effect refl refl
worker_leaves c new (crew.Collect actor) answer u (inr h) = leaves_of c new _ h.1.effect refl refl
worker_leaves c new (crew.Touch actor) answer u (inr h) = leaves_of c new _ h.1.effect refl refl
worker_leaves c new (crew.Done actor) answer u (inr h) = leaves_of c new _ h.1.effect refl refl
worker_leaves c new crew.Publish answer u (inr h) = absurd u

-- ---- what a turn leaves

-- a rest leaves the state
pub rested_turn : (schedule : List ℕ) (r : Round) (move : Option Move) (next : Round) → TakesTurn schedule r move next → act_of r (actor_at schedule r r.turns) ≡ Rests → next.core ≡ r.core
rested_turn schedule r move next t rest =
    let a : Acts r.core Rests move t.told t.core = subst (λ x. Acts r.core x move t.told t.core) rest t.acts in
    ap (λ (x : Round). x.core) t.effect ∙ a.2

-- what the coordinator or a worker did in a turn
made_steps : (schedule : List ℕ) (r : Round) (move : Option Move) (next : Round) (e : CrewEvent) → (t : TakesTurn schedule r move next) → act_of r (actor_at schedule r r.turns) ≡ Makes (event_of e)
    → (answer : CoreAnswer) × Steps r.core (event_of e) answer next.core
made_steps schedule r move next e t makes =
    let a : Acts r.core (Makes (event_of e)) move t.told t.core = subst (λ x. Acts r.core x move t.told t.core) makes t.acts in
    (a.0, subst (Steps r.core (event_of e) a.0) (sym (ap (λ (x : Round). x.core) t.effect)) a.3)

pub unseen_turn : (schedule : List ℕ) (r : Round) (move : Option Move) (next : Round) (did : Option CrewEvent) → TakesTurn schedule r move next → IsUnseen did → act_of r (actor_at schedule r r.turns) ≡ crew_shown did
    → coordinator_act r.core ≡ Rests → coordinator_act next.core ≡ Rests
unseen_turn schedule r move next None t u is rest = ap coordinator_act (rested_turn schedule r move next t is) ∙ rest
unseen_turn schedule r move next (Some e) t u is rest =
    let s = made_steps schedule r move next e t is in
    coordinator_stays r.core next.core (unseen_steps r.core next.core e s.0 u s.1) ∙ rest

worker_turn : (schedule : List ℕ) (r : Round) (move : Option Move) (next : Round) (did : Option CrewEvent) (worker : ℕ) → TakesTurn schedule r move next → act_of r (actor_at schedule r r.turns) ≡ crew_shown did
    → act_of r (actor_at schedule r r.turns) ≡ worker_act r.core worker → LeavesScns r.core next.core
worker_turn schedule r move next None worker t is at = leaves_of r.core next.core r.core (rested_turn schedule r move next t is) refl refl
worker_turn schedule r move next (Some e) worker t is at =
    let s = made_steps schedule r move next e t is in
    worker_leaves r.core next.core e s.0 (subst IsWorkers (sym at ∙ is) (worker_is_workers r.core worker)) s.1

-- ---- while the sessions wait

-- the round goes on
pub goes_on_ahead : (known : Known) (core : Core) (seats : Seats) (r : Round) → ShowsRound known core seats r → AwaitFrontier core seats → is_over r ≡ false
goes_on_ahead known core seats r s a =
    sym (over_now known core seats r core.query core.frontier s s.core.shows.query s.core.shows.frontier)
    ∙ ap (λ b. b || ((seats.waiting == 0) && (core.query == core.frontier))) a.unaborted ∙ ap (λ b. (seats.waiting == 0) && b) a.ahead ∙ and_false (seats.waiting == 0)
  where
    and_false : (b : Bool) → (b && false) ≡ false
    and_false true = refl
    and_false false = refl

request_rests : (c : CoreState) (place : ℕ) (o : Option Request) → Awaits o → (c.query == c.frontier) ≡ false → request_act c place o ≡ Rests
request_rests c place None a ahead = refl
request_rests c place (Some (Garbles byte)) a ahead = absurd a
request_rests c place (Some (Asks command.ShowScn)) a ahead = absurd a
request_rests c place (Some (Asks command.Sync)) a ahead = ap (λ b. cond b (Replies (reply.Synced c.query)) Rests) ahead
request_rests c place (Some (Asks command.Abort)) a ahead = absurd a
request_rests c place (Some (Asks (command.Populate obj))) a ahead = absurd a
request_rests c place (Some (Asks (command.Select select))) a ahead = absurd a

seat_rests : (c : CoreState) (place : ℕ) (o : Option Seat) → Awaits (hand_of o) → (c.query == c.frontier) ≡ false → session_act c place o ≡ Rests
seat_rests c place None a ahead = refl
seat_rests c place (Some seat) a ahead = request_rests c place (at_hand seat) a ahead

-- the sessions rest
session_rests : (known : Known) (core : Core) (seats : Seats) (r : Round) (place : ℕ) → ShowsRound known core seats r → AwaitFrontier core seats → place < length r.seats → act_of r (SessionAt place) ≡ Rests
session_rests known core seats r place s a h =
    let ahead : (r.core.query == r.core.frontier) ≡ false = ap (λ n. n == r.core.frontier) (sym s.core.shows.query) ∙ ap (λ n. core.query == n) (sym s.core.shows.frontier) ∙ a.ahead in
    seat_rests r.core place (slice_get r.seats place)
    (subst (λ (xs : List Seat). Awaits (hand_of (slice_get xs place))) s.seats (a.sessions place (subst (λ (xs : List Seat). place < length xs) (sym s.seats) h))) ahead

-- a worker's turn keeps them waiting
pub still_ahead : (known : Known) (old core : Core) (seats : Seats) (schedule : List ℕ) (r : Round) (number worker : ℕ) (did : Option CrewEvent) → ShowsRound known old seats r → AwaitFrontier old seats
    → IsTurnOf schedule r number → actor_of (length r.core.workers) number ≡ WorkerAt worker → crew_shown did ≡ act_of r (actor_of (length r.core.workers) number) → HasTurned known core seats schedule r → AwaitFrontier core seats
still_ahead known old core seats schedule r number worker did s a turn at is t =
    let here : act_of r (actor_at schedule r r.turns) ≡ act_of r (actor_of (length r.core.workers) number) = ap (λ n. act_of r (actor_of (length r.core.workers) n)) turn in
    let leaves = worker_turn schedule r t.move t.next did worker t.turn (here ∙ sym is) (here ∙ ap (act_of r) at) in
    let query : core.query ≡ old.query = t.shows.core.shows.query ∙ leaves.query ∙ sym s.core.shows.query in
    let frontier : core.frontier ≡ old.frontier = t.shows.core.shows.frontier ∙ leaves.frontier ∙ sym s.core.shows.frontier in
    record {
      ahead = ap (λ n. n == core.frontier) query ∙ ap (λ n. old.query == n) frontier ∙ a.ahead;
      unaborted = a.unaborted;
      sessions = a.sessions;
    }

-- ---- numbers of actors

pub worker_numbered : (workers place : ℕ) → place < workers → actor_of workers (1 + place) ≡ WorkerAt place
worker_numbered workers place h =
    ap (λ b. cond b Coordinator (cond (nat_le (1 + place) workers) (WorkerAt (1 + place - 1)) (SessionAt (1 + place - workers - 1)))) first
    ∙ ap (λ b. cond b (WorkerAt (1 + place - 1)) (SessionAt (1 + place - workers - 1))) within ∙ ap WorkerAt left
  where
    first : ((1 + place) == 0) ≡ false
    first = ne_eqb (1 + place) 0 (λ k. absurd (omega arith))

    within : nat_le (1 + place) workers ≡ true
    within = le-leb (1 + place) workers (omega arith)

    left : 1 + place - 1 ≡ place
    left = omega arith

session_numbered : (workers place : ℕ) → actor_of workers (1 + workers + place) ≡ SessionAt place
session_numbered workers place =
    ap (λ b. cond b Coordinator (cond (nat_le (1 + workers + place) workers) (WorkerAt (1 + workers + place - 1)) (SessionAt (1 + workers + place - workers - 1)))) first
    ∙ ap (λ b. cond b (WorkerAt (1 + workers + place - 1)) (SessionAt (1 + workers + place - workers - 1))) above ∙ ap SessionAt left
  where
    first : ((1 + workers + place) == 0) ≡ false
    first = ne_eqb (1 + workers + place) 0 (λ k. absurd (omega arith))

    above : nat_le (1 + workers + place) workers ≡ false
    above = lt-leb (1 + workers + place) workers (omega arith)

    left : 1 + workers + place - workers - 1 ≡ place
    left = omega arith

-- ---- rests one after another

-- the turn of the actor with a number in a cycle
pub has_turn : (known : Known) (first core : Core) (begin seats : Seats) (schedule : List ℕ) (r : Round) (k turns number : ℕ) → ShowsRound known first begin r → (p : HasPlayedOn known core seats schedule r turns)
    → turns ≡ length schedule + k * actors r + number → number < actors r → IsTurnOf schedule p.played.last number
has_turn known first core begin seats schedule r k turns number s p e within =
    let q = p.played.last in
    let stay : actors q ≡ actors r = actors_stay schedule r p.played.turns q s.stands p.played.plays in
    turn_behind schedule q k number (p.count ∙ e ∙ ap (λ n. length schedule + k * n + number) (sym stay)) (subst (λ n. number < n) (sym stay) within)

-- as many workers in all rounds
pub workers_stay : (known : Known) (first core : Core) (begin seats : Seats) (schedule : List ℕ) (r : Round) (turns : ℕ) → ShowsRound known first begin r → (p : HasPlayedOn known core seats schedule r turns)
    → length p.played.last.core.workers ≡ length r.core.workers
workers_stay known first core begin seats schedule r turns s p =
    let many : actors p.played.last ≡ actors r = actors_stay schedule r p.played.turns p.played.last s.stands p.played.plays in
    let row : length p.played.last.seats ≡ length r.seats = seats_stay schedule r p.played.turns p.played.last s.stands p.played.plays in
    omega arith

pub same_workers : (known : Known) (core : Core) (seats : Seats) (r q : Round) → ShowsRound known core seats r → ShowsRound known core seats q → length r.core.workers ≡ length q.core.workers
same_workers known core seats r q s t = sym s.core.shows.worker_count ∙ t.core.shows.worker_count

-- no turns yet
abbrev pub crew_begins : (known : Known) (core : Core) (seats : Seats) (schedule : List ℕ) (r : Round) (turns : ℕ) (rested : Bool) → ShowsRound known core seats r → r.turns ≡ turns → (rested ≡ true → coordinator_act r.core ≡ Rests)
    → HasPlayedCrew known core seats schedule r turns rested
crew_begins known core seats schedule r turns rested s e h = record { on = record { played = record { turns = []; last = r; plays = refl; shows = s }; count = e }; coordinator = h }

-- the actor with a number rests
pub rest_more : (known : Known) (core : Core) (seats : Seats) (schedule : List ℕ) (r : Round) (turns number : ℕ) (rested : Bool) → (p : HasPlayedCrew known core seats schedule r turns rested) → AwaitFrontier core seats
    → IsTurnOf schedule p.on.played.last number → act_of p.on.played.last (actor_of (length p.on.played.last.core.workers) number) ≡ Rests → HasPlayedCrew known core seats schedule r (turns + 1) rested
rest_more known core seats schedule r turns number rested p a turn rest =
    let q = p.on.played.last in
    let s = p.on.played.shows in
    let t : HasTurned known core seats schedule q =
    turned known core core seats seats schedule q number None s (goes_on_ahead known core seats q s a) turn (subst (λ x. HasActed core q.core x None) (sym rest) (rests core q.core s.core))
    (none_told (actor_of (length q.core.workers) number) (seats_shown seats)) s.counted (or_none seats.aborted) in
    let at : act_of q (actor_at schedule q q.turns) ≡ Rests = ap (λ n. act_of q (actor_of (length q.core.workers) n)) turn ∙ rest in
    record {
      on = played_more known core core seats seats schedule r turns p.on t;
      coordinator = λ e. ap coordinator_act (rested_turn schedule q t.move t.next t.turn at) ∙ p.coordinator e;
    }

-- the sessions from a place on rest
rest_on : (known : Known) (first core : Core) (begin seats : Seats) (schedule : List ℕ) (r : Round) (k turns place left : ℕ) (rested : Bool) → ShowsRound known first begin r → AwaitFrontier core seats
    → HasPlayedCrew known core seats schedule r turns rested → turns ≡ length schedule + k * actors r + (1 + length r.core.workers + place) → place + left ≡ length r.seats → HasPlayedCrew known core seats schedule r (turns + left) rested
rest_on known first core begin seats schedule r k turns place zero rested s a p e all = let none : turns ≡ turns + 0 = omega arith in subst (λ n. HasPlayedCrew known core seats schedule r n rested) none p
rest_on known first core begin seats schedule r k turns place (suc left) rested s a p e all =
    let q = p.on.played.last in
    let many : actors q ≡ actors r = actors_stay schedule r p.on.played.turns q s.stands p.on.played.plays in
    let row : length q.seats ≡ length r.seats = seats_stay schedule r p.on.played.turns q s.stands p.on.played.plays in
    let same : 1 + length q.core.workers + place ≡ 1 + length r.core.workers + place = omega arith in
    let turn : IsTurnOf schedule q (1 + length r.core.workers + place) = has_turn known first core begin seats schedule r k turns (1 + length r.core.workers + place) s p.on e (omega arith) in
    let rest : act_of q (actor_of (length q.core.workers) (1 + length r.core.workers + place)) ≡ Rests =
    ap (λ n. act_of q (actor_of (length q.core.workers) n)) (sym same) ∙ ap (act_of q) (session_numbered (length q.core.workers) place) ∙ session_rests known core seats q place p.on.played.shows a (omega arith) in
    let next = rest_more known core seats schedule r turns (1 + length r.core.workers + place) rested p a turn rest in
    let more : turns + 1 + left ≡ turns + suc left = omega arith in
    subst (λ n. HasPlayedCrew known core seats schedule r n rested) more (rest_on known first core begin seats schedule r k (turns + 1) (place + 1) left rested s a next (omega arith) (omega arith))

-- all sessions rest, and a cycle is whole
pub cycle_rest : (known : Known) (first core : Core) (begin seats : Seats) (schedule : List ℕ) (r : Round) (k workers : ℕ) (rested : Bool) → ShowsRound known first begin r → AwaitFrontier core seats → workers ≡ length r.core.workers
    → HasPlayedCrew known core seats schedule r (length schedule + k * actors r + (1 + workers)) rested → HasPlayedCrew known core seats schedule r (length schedule + (k + 1) * actors r) rested
cycle_rest known first core begin seats schedule r k workers rested s a count p =
    let here : length schedule + k * actors r + (1 + workers) ≡ length schedule + k * actors r + (1 + length r.core.workers + 0) = omega arith in
    let none : 0 + length r.seats ≡ length r.seats = omega arith in
    let next = rest_on known first core begin seats schedule r k (length schedule + k * actors r + (1 + workers)) 0 (length r.seats) rested s a p here none in
    let more : k * actors r + actors r ≡ (k + 1) * actors r = cycle_more k (actors r) in
    let whole : length schedule + k * actors r + (1 + workers) + length r.seats ≡ length schedule + (k + 1) * actors r = omega arith in
    subst (λ n. HasPlayedCrew known core seats schedule r n rested) whole next

-- somebody acts
pub somebody_acts : (known : Known) (core : Core) (seats : Seats) (r : Round) → ShowsRound known core seats r → AwaitFrontier core seats → coordinator_act r.core ≡ Rests
    → ((place : ℕ) → place < length r.core.workers → act_of r (WorkerAt place) ≡ Rests) → ⊥
somebody_acts known core seats r s a coordinator workers = absurd (true≢false (sym (nobody_waits r s.stands all) ∙ goes_on_ahead known core seats r s a))
  where
    behind : (n : ℕ) → suc n < actors r → (n < length r.core.workers) ⊎ (length r.core.workers ≤ n) → act_of r (actor_of (length r.core.workers) (suc n)) ≡ Rests
    behind n h (inl l) =
        let same : suc n ≡ 1 + n = omega arith in
        ap (λ m. act_of r (actor_of (length r.core.workers) m)) same ∙ ap (act_of r) (worker_numbered (length r.core.workers) n l) ∙ workers n l
    behind n h (inr l) =
        let place = n - length r.core.workers in
        let same : suc n ≡ 1 + length r.core.workers + place = omega arith in
        let within : place < length r.seats = omega arith in
        ap (λ m. act_of r (actor_of (length r.core.workers) m)) same ∙ ap (act_of r) (session_numbered (length r.core.workers) place) ∙ session_rests known core seats r place s a within

    all : (number : ℕ) → number < actors r → act_of r (actor_of (length r.core.workers) number) ≡ Rests
    all zero h = coordinator
    all (suc n) h = behind n h (cases_lt n (length r.core.workers))

-- whole cycles behind so many, and the coordinator's turn
pub record HasCycledPast (known : Known) (core : Core) (seats : Seats) (schedule : List ℕ) (r : Round) (k : ℕ) (rests : Bool) : Type 0 where
  pub cycles : ℕ
  pub crew : HasPlayedCrew known core seats schedule r (length schedule + (k + cycles) * actors r + 1) rests

-- turns by the workers: the coordinator rests where it is still said so, if it rested as they began
pub record PlayedBy (known : Known) (core : Core) (seats : Seats) (schedule : List ℕ) (r : Round) (turns : ℕ) (before still : Bool) : Type 0 where
  pub on : HasPlayedOn known core seats schedule r turns
  pub coordinator : (before ≡ true → coordinator_act r.core ≡ Rests) → still ≡ true → coordinator_act on.played.last.core ≡ Rests

-- whole cycles behind so many
pub record HasCycledWhole (known : Known) (core : Core) (seats : Seats) (schedule : List ℕ) (r : Round) (k : ℕ) (rests : Bool) : Type 0 where
  pub cycles : ℕ
  pub crew : HasPlayedCrew known core seats schedule r (length schedule + (k + cycles) * actors r) rests

both : (a b : Bool) → (a && b) ≡ true → (a ≡ true) × (b ≡ true)
both true b e = (refl, e)
both false b e = absurd (true≢false (sym e))

-- a turn of a worker
pub worker_more : (known : Known) (old core : Core) (seats : Seats) (schedule : List ℕ) (r : Round) (turns number : ℕ) (did : Option CrewEvent) (before was unseen : Bool)
    → (p : PlayedBy known old seats schedule r turns before was) → (unseen ≡ true → IsUnseen did) → IsTurnOf schedule p.on.played.last number
    → crew_shown did ≡ act_of p.on.played.last (actor_of (length p.on.played.last.core.workers) number) → HasTurned known core seats schedule p.on.played.last → PlayedBy known core seats schedule r (turns + 1) before (was && unseen)
worker_more known old core seats schedule r turns number did before was unseen p u turn is t =
    let q = p.on.played.last in
    let here : act_of q (actor_at schedule q q.turns) ≡ act_of q (actor_of (length q.core.workers) number) = ap (λ n. act_of q (actor_of (length q.core.workers) n)) turn in
    record {
      on = played_more known old core seats seats schedule r turns p.on t;
      coordinator = λ h still.
          let b = both was unseen still in
          unseen_turn schedule q t.move t.next did t.turn (u b.1) (here ∙ sym is) (p.coordinator h b.0);
    }

-- what a worker does is what the actor with its number does
pub worker_picked : (r : Round) (did : Option CrewEvent) (place number : ℕ) → place < length r.core.workers → number ≡ place → crew_shown did ≡ worker_act r.core place
    → crew_shown did ≡ act_of r (actor_of (length r.core.workers) (1 + number))
worker_picked r did place number h same is =
    is ∙ ap (act_of r) (sym (worker_numbered (length r.core.workers) place h)) ∙ ap (λ n. act_of r (actor_of (length r.core.workers) (1 + n))) (sym same)

-- the coordinator's turn behind whole cycles
pub begun : (known : Known) (old core : Core) (seats : Seats) (schedule : List ℕ) (r : Round) (k : ℕ) (rests still : Bool) → RoundIs r → (h : HasCycledWhole known old seats schedule r k rests)
    → ((j : ℕ) → h.crew.on.played.last.turns ≡ length schedule + j * actors h.crew.on.played.last
    → HasPlayedCrew known core seats schedule h.crew.on.played.last (length schedule + j * actors h.crew.on.played.last + 1) still) → HasCycledPast known core seats schedule r k still
begun known old core seats schedule r k rests still is h takes =
    let p = h.crew.on.played in
    let count : actors p.last ≡ actors r = actors_stay schedule r p.turns p.last is p.plays in
    let t = takes (k + h.cycles) (h.crew.on.count ∙ ap (λ a. length schedule + (k + h.cycles) * a) (sym count)) in
    record {
      cycles = h.cycles;
      crew = record {
        on = record { played = played_append known old core seats seats schedule r p t.on.played; count = t.on.count ∙ ap (λ a. length schedule + (k + h.cycles) * a + 1) count };
        coordinator = t.coordinator;
      };
    }

-- the rest of a cycle
pub whole : (known : Known) (old core : Core) (seats : Seats) (schedule : List ℕ) (r : Round) (k : ℕ) (rests still : Bool) → RoundIs r → (h : HasCycledPast known old seats schedule r k rests)
    → ((j : ℕ) → h.crew.on.played.last.turns ≡ length schedule + j * actors h.crew.on.played.last + 1
    → HasPlayedCrew known core seats schedule h.crew.on.played.last (length schedule + (j + 1) * actors h.crew.on.played.last) still) → HasCycledWhole known core seats schedule r k still
whole known old core seats schedule r k rests still is h takes =
    let p = h.crew.on.played in
    let count : actors p.last ≡ actors r = actors_stay schedule r p.turns p.last is p.plays in
    let t = takes (k + h.cycles) (h.crew.on.count ∙ ap (λ a. length schedule + (k + h.cycles) * a + 1) (sym count)) in
    let more : k + h.cycles + 1 ≡ k + (h.cycles + 1) = omega arith in
    record {
      cycles = h.cycles + 1;
      crew = record {
        on = record {
          played = played_append known old core seats seats schedule r p t.on.played;
          count = t.on.count ∙ ap (λ a. length schedule + (k + h.cycles + 1) * a) count ∙ ap (λ n. length schedule + n * actors r) more;
        };
        coordinator = t.coordinator;
      };
    }

-- the frontier is ahead still, as a look tells
pub ahead_now : (old core : Core) (seats : Seats) (x : CoreState) (query frontier : ℕ) (same : Bool) → IsState core x → ((y : CoreState) → IsState core y → query ≡ y.query) → ((y : CoreState) → IsState core y → frontier ≡ y.frontier)
    → same ≡ (query == frontier) → same ≡ false → AwaitFrontier old seats → AwaitFrontier core seats
ahead_now old core seats x query frontier same is q f e differs a = record {
  ahead = ap (λ n. n == core.frontier) (is.shows.query ∙ sym (q x is)) ∙ ap (λ n. query == n) (is.shows.frontier ∙ sym (f x is)) ∙ sym e ∙ differs;
  unaborted = a.unaborted;
  sessions = a.sessions;
}
