-- What is left to do by the values of a core and of seats is the measure of the round that they show.
use Rattle.std.proofs.Common.{◌≡◌, ℕ, suc, ◌+◌, ◌-◌, ◌*◌, Bool, cond, List, [], ◌∷◌, length, map, refl, sym, ap, ◌∙◌, subst, arith}
use Rattle.std.proofs.lemmas.List.{length-map}
use Rattle.adg_base.specs.declared.log.LogEntry.{LogEntry}
use Rattle.dictionary.specs.Standing.{Known}
use Rattle.core_rules.specs.Share.{share}
use Rattle.core_rules.specs.State.{CoreState, Worker, Collected, Link, Quiesce, Session, At}
use Rattle.core_rules.specs.State as rules
use Rattle.standby_core.specs.declared.standby.Core.{Core}
use Rattle.standby_core.specs.declared.worker.Worker.{Worker as OwnWorker}
use Rattle.standby_core.specs.declared.flush.Quiesce.{Quiesce as OwnQuiesce}
use Rattle.standby_core.specs.declared.flush.Quiesce.TheVariants as keeper
use Rattle.standby_core.specs.declared.link.Stage.{Stage as OwnStage}
use Rattle.standby_core.specs.declared.link.Stage.TheVariants.{Unclaimed, Claimed, Finished}
use Rattle.standby_core.specs.declared.link.Link.{Link as OwnLink}
use Rattle.standby_core.specs.declared.session.Session.{Session as OwnSession}
use Rattle.standby_core.specs.declared.session.Session.TheVariants.{Free, Populating, Scanning}
use Rattle.standby_core.specs.Links.{quiesce_shown, stage_with, ShowsLink}
use Rattle.standby_core.specs.Parts.{ShowsWorker, ShowsSession}
use Rattle.standby_core.specs.Shows.{Shows}
use Rattle.turn_rules.specs.Round.{Seat, Round}
use Rattle.turn_rules.specs.Measure.{link_cost, links_cost, worker_cost, workers_cost, calm_cost, core_cost, most_acts, seat_cost, seats_cost, measure}
use Rattle.turn_rules.specs.Measure as rule
use Rattle.step_driver.specs.declared.seat.Seat.{Seat as OwnSeat}
use Rattle.step_driver.specs.declared.seats.Seats.{Seats}
use Rattle.step_driver.specs.Seating.{request_shown, seat_shown}
use Rattle.step_driver.specs.Work.{stage_work, links_work, worker_work, workers_work, calm_work, core_work, acts_done, seat_work, seats_work, work_left}
use Rattle.step_driver.specs.Rounds.{ShowsRound}

-- the workers
worker_is : (workers : ℕ) (log : List LogEntry) (frontier n : ℕ) (x : OwnWorker) (w : Worker) → ShowsWorker workers log n x w → worker_work workers frontier x ≡ worker_cost workers (length (share workers n log)) frontier w
worker_is workers log frontier n x w h =
    let share_is : length x.share ≡ length (share workers n log) = ap length h.share in
    let ends_are : length x.ends ≡ length w.ends = ap length h.ends in
    ap (λ e. (e - x.applied) + (workers + 35) * (e - x.mined) + (frontier - x.progress) + (workers + 34) * length x.ends) share_is
    ∙ ap (λ a. (length (share workers n log) - a) + (workers + 35) * (length (share workers n log) - x.mined) + (frontier - x.progress) + (workers + 34) * length x.ends) h.applied
    ∙ ap (λ m. (length (share workers n log) - w.applied) + (workers + 35) * (length (share workers n log) - m) + (frontier - x.progress) + (workers + 34) * length x.ends) h.mined
    ∙ ap (λ p. (length (share workers n log) - w.applied) + (workers + 35) * (length (share workers n log) - w.mined) + (frontier - p) + (workers + 34) * length x.ends) h.progress
    ∙ ap (λ k. (length (share workers n log) - w.applied) + (workers + 35) * (length (share workers n log) - w.mined) + (frontier - w.progress) + (workers + 34) * k) ends_are

workers_are : (workers place : ℕ) (log : List LogEntry) (frontier : ℕ) (xs : List OwnWorker) (ws : List Worker) → length xs ≡ length ws
    → ((n : ℕ) (x : OwnWorker) (w : Worker) → At xs n x → At ws n w → ShowsWorker workers log (place + n) x w) → workers_work workers frontier xs ≡ workers_cost workers place log frontier ws
workers_are workers place log frontier [] [] same each = refl
workers_are workers place log frontier [] (w ∷ ws) same each = absurd (omega arith)
workers_are workers place log frontier (x ∷ xs) [] same each = absurd (omega arith)
workers_are workers place log frontier (x ∷ xs) (w ∷ ws) same each =
    let here : place + 0 ≡ place = omega arith in
    ap (λ k. k + workers_work workers frontier xs) (worker_is workers log frontier place x w (subst (λ n. ShowsWorker workers log n x w) here (each 0 x w refl refl)))
    ∙ ap (λ k. worker_cost workers (length (share workers place log)) frontier w + k)
    (workers_are workers (place + 1) log frontier xs ws (omega arith)
    (λ n y v at_y at_v. let next : place + suc n ≡ place + 1 + n = omega arith in subst (λ m. ShowsWorker workers log m y v) next (each (suc n) y v at_y at_v)))

-- the worklinks
stage_is : (workers : ℕ) (collected : List Collected) (s : OwnStage) → stage_work workers s ≡ link_cost workers (stage_with collected s)
stage_is workers collected Unclaimed = refl
stage_is workers collected (Claimed actor cursor) = refl
stage_is workers collected Finished = refl

links_are : (workers : ℕ) (xs : List OwnLink) (ls : List Link) → length xs ≡ length ls → ((n : ℕ) (x : OwnLink) (l : Link) → At xs n x → At ls n l → ShowsLink workers x l) → links_work workers xs ≡ links_cost workers ls
links_are workers [] [] same each = refl
links_are workers [] (l ∷ ls) same each = absurd (omega arith)
links_are workers (x ∷ xs) [] same each = absurd (omega arith)
links_are workers (x ∷ xs) (l ∷ ls) same each =
    let h = each 0 x l refl refl in
    ap (λ k. k + links_work workers xs) (stage_is workers h.collected x.stage ∙ sym (ap (link_cost workers) h.stage))
    ∙ ap (λ k. link_cost workers l.stage + k) (links_are workers xs ls (omega arith) (λ n y m at_y at_m. each (suc n) y m at_y at_m))

calm_is : (q : OwnQuiesce) → calm_work q ≡ calm_cost (quiesce_shown q)
calm_is keeper.Idle = refl
calm_is (keeper.Shared n) = refl
calm_is (keeper.Flushing through) = refl

-- the core
core_is : (core : Core) (c : CoreState) → Shows core c → core_work core ≡ core_cost c
core_is core c h =
    let frontier_is : core.frontier ≡ c.frontier = h.frontier in
    let query_is : core.query ≡ c.query = h.query in
    let ddl_is : length core.ddl ≡ length c.ddl = ap length h.ddl in
    ap (λ k. k + (core.worker_count + 34) * length core.ddl + links_work core.worker_count core.flush.links.items + 2 * (core.frontier - core.query) + calm_work core.flush.quiesce) crew
    ∙ ap (λ k. all_workers + (core.worker_count + 34) * k + links_work core.worker_count core.flush.links.items + 2 * (core.frontier - core.query) + calm_work core.flush.quiesce) ddl_is
    ∙ ap (λ k. all_workers + (k + 34) * length c.ddl + links_work core.worker_count core.flush.links.items + 2 * (core.frontier - core.query) + calm_work core.flush.quiesce) h.worker_count
    ∙ ap (λ k. all_workers + (length c.workers + 34) * length c.ddl + k + 2 * (core.frontier - core.query) + calm_work core.flush.quiesce) links
    ∙ ap (λ k. all_workers + (length c.workers + 34) * length c.ddl + all_links + 2 * (k - core.query) + calm_work core.flush.quiesce) frontier_is
    ∙ ap (λ k. all_workers + (length c.workers + 34) * length c.ddl + all_links + 2 * (c.frontier - k) + calm_work core.flush.quiesce) query_is
    ∙ ap (λ k. all_workers + (length c.workers + 34) * length c.ddl + all_links + 2 * (c.frontier - c.query) + k) (calm_is core.flush.quiesce ∙ sym (ap calm_cost h.flush.quiesce))
  where
    all_workers : ℕ
    all_workers = workers_cost (length c.workers) 0 c.log c.frontier c.workers

    all_links : ℕ
    all_links = links_cost (length c.workers) c.links

    crew : workers_work core.worker_count core.frontier core.workers.items ≡ all_workers
    crew =
        workers_are core.worker_count 0 c.log core.frontier core.workers.items c.workers h.workers.same_length
        (λ n x w at_x at_w. let here : n ≡ 0 + n = omega arith in subst (λ m. ShowsWorker core.worker_count c.log m x w) here (h.workers.each n x w at_x at_w))
        ∙ ap (λ f. workers_cost core.worker_count 0 c.log f c.workers) h.frontier
        ∙ ap (λ k. workers_cost k 0 c.log c.frontier c.workers) h.worker_count

    links : links_work core.worker_count core.flush.links.items ≡ all_links
    links = links_are core.worker_count core.flush.links.items c.links h.flush.links.same_length h.flush.links.each ∙ ap (λ k. links_cost k c.links) h.worker_count

-- the sessions
done_is : (x : OwnSession) (s : Session) → ShowsSession x s → acts_done x ≡ rule.acts_done s
done_is Free rules.Free h = refl
done_is Free (rules.Populating p) h = absurd h
done_is Free (rules.Scanning s) h = absurd h
done_is (Populating x) rules.Free h = absurd h
done_is (Populating x) (rules.Scanning s) h = absurd h
done_is (Scanning x) rules.Free h = absurd h
done_is (Scanning x) (rules.Populating p) h = absurd h
done_is (Scanning x) (rules.Scanning s) h = ap (λ n. 1 + n) h.extents
done_is (Populating x) (rules.Populating p) h =
    ap (λ n. 1 + n + cond x.holds 0 1 + 17 * x.build.extent + x.build.blocks) h.registered
    ∙ ap (λ (b : Bool). 1 + p.registered + cond b 0 1 + 17 * x.build.extent + x.build.blocks) h.holds
    ∙ ap (λ n. 1 + p.registered + cond p.holds 0 1 + 17 * n + x.build.blocks) h.extent
    ∙ ap (λ n. 1 + p.registered + cond p.holds 0 1 + 17 * p.extent + n) h.blocks

seat_is : (seat : OwnSeat) (x : OwnSession) (s : Session) → ShowsSession x s → seat_work seat x ≡ seat_cost (seat_shown seat) s
seat_is seat x s h =
    let count : length seat.requests.items ≡ length (map request_shown seat.requests.items) = sym (length-map seat.requests.items request_shown) in
    ap (λ n. most_acts * (n - length seat.replies.items) + (most_acts - acts_done x)) count
    ∙ ap (λ n. most_acts * (length (map request_shown seat.requests.items) - length seat.replies.items) + (most_acts - n)) (done_is x s h)

seats_are : (seats : List OwnSeat) (xs : List OwnSession) (ss : List Session) → length xs ≡ length ss → ((n : ℕ) (x : OwnSession) (s : Session) → At xs n x → At ss n s → ShowsSession x s)
    → seats_work seats xs ≡ seats_cost (map seat_shown seats) ss
seats_are [] xs ss same each = refl
seats_are (seat ∷ seats) [] [] same each = refl
seats_are (seat ∷ seats) [] (s ∷ ss) same each = absurd (omega arith)
seats_are (seat ∷ seats) (x ∷ xs) [] same each = absurd (omega arith)
seats_are (seat ∷ seats) (x ∷ xs) (s ∷ ss) same each =
    ap (λ k. k + seats_work seats xs) (seat_is seat x s (each 0 x s refl refl))
    ∙ ap (λ k. seat_cost (seat_shown seat) s + k) (seats_are seats xs ss (omega arith) (λ n y t at_y at_t. each (suc n) y t at_y at_t))

pub work_is : (known : Known) (core : Core) (seats : Seats) (r : Round) → ShowsRound known core seats r → work_left core seats ≡ measure r
work_is known core seats r s =
    ap (λ k. cond seats.aborted 0 (1 + k + seats_work seats.list.items core.sessions.items)) (core_is core r.core s.core.shows)
    ∙ ap (λ k. cond seats.aborted 0 (1 + core_cost r.core + k)) all_seats
    ∙ ap (λ (b : Bool). cond b 0 (1 + core_cost r.core + seats_cost r.seats r.core.sessions)) s.aborted
  where
    all_seats : seats_work seats.list.items core.sessions.items ≡ seats_cost r.seats r.core.sessions
    all_seats =
        seats_are seats.list.items core.sessions.items r.core.sessions s.core.shows.sessions.same_length s.core.shows.sessions.each
        ∙ ap (λ (xs : List Seat). seats_cost xs r.core.sessions) s.seats
