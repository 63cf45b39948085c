-- How much is left to do, by the values of a core and of seats: the measure of the turn rule, which shows that a round
-- ends.
use Rattle.std.specs.Prelude.{ℕ, ◌+◌, ◌-◌, ◌*◌, if◌then◌else◌, List, [], ◌∷◌, length}
use Rattle.standby_core.specs.declared.standby.Core.{Core}
use Rattle.standby_core.specs.declared.worker.Worker.{Worker}
use Rattle.standby_core.specs.declared.flush.Quiesce.{Quiesce}
use Rattle.standby_core.specs.declared.flush.Quiesce.TheVariants.{Idle, Shared, Flushing}
use Rattle.standby_core.specs.declared.link.Stage.{Stage}
use Rattle.standby_core.specs.declared.link.Stage.TheVariants.{Unclaimed, Claimed, Finished}
use Rattle.standby_core.specs.declared.link.Link.{Link}
use Rattle.standby_core.specs.declared.session.Session.{Session}
use Rattle.standby_core.specs.declared.session.Session.TheVariants.{Free, Populating, Scanning}
use Rattle.turn_rules.specs.Measure.{most_acts}
use Rattle.step_driver.specs.declared.seat.Seat.{Seat}
use Rattle.step_driver.specs.declared.seats.Seats.{Seats}

-- a worklink
abbrev pub stage_work : (workers : ℕ) → Stage → ℕ
stage_work workers Unclaimed = workers + 34
stage_work workers (Claimed actor cursor) = workers + 33 - cursor
stage_work workers Finished = 0

abbrev pub links_work : (workers : ℕ) → List Link → ℕ
links_work workers [] = 0
links_work workers (x ∷ xs) = stage_work workers x.stage + links_work workers xs

-- a worker
abbrev pub worker_work : (workers frontier : ℕ) → Worker → ℕ
worker_work workers frontier x =
    (length x.share - x.applied) + (workers + 35) * (length x.share - x.mined) + (frontier - x.progress) + (workers + 34) * length x.ends

abbrev pub workers_work : (workers frontier : ℕ) → List Worker → ℕ
workers_work workers frontier [] = 0
workers_work workers frontier (x ∷ xs) = worker_work workers frontier x + workers_work workers frontier xs

-- a flush that can begin
abbrev pub calm_work : Quiesce → ℕ
calm_work Idle = 1
calm_work (Shared n) = 1
calm_work (Flushing through) = 0

abbrev pub core_work : Core → ℕ
core_work core =
    workers_work core.worker_count core.frontier core.workers.items + (core.worker_count + 34) * length core.ddl + links_work core.worker_count core.flush.links.items
    + 2 * (core.frontier - core.query) + calm_work core.flush.quiesce

-- what a session has begun, and the requests of its seat
abbrev pub acts_done : Session → ℕ
acts_done Free = 0
acts_done (Populating x) = 1 + x.registered + (if x.holds then 0 else 1) + 17 * x.build.extent + x.build.blocks
acts_done (Scanning x) = 1 + x.extents

abbrev pub seat_work : Seat → Session → ℕ
seat_work seat session = most_acts * (length seat.requests.items - length seat.replies.items) + (most_acts - acts_done session)

abbrev pub seats_work : List Seat → List Session → ℕ
seats_work [] sessions = 0
seats_work (seat ∷ seats) [] = 0
seats_work (seat ∷ seats) (session ∷ sessions) = seat_work seat session + seats_work seats sessions

-- all of it; nothing is left once an ABORT was answered
abbrev pub work_left : Core → Seats → ℕ
work_left core x = if x.aborted then 0 else 1 + core_work core + seats_work x.list.items core.sessions.items
