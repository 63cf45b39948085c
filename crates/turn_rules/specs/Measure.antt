-- The measure of a round: how much is left to do. Each act makes it fall.
use Rattle.std.specs.Prelude.{ℕ, ◌+◌, ◌-◌, ◌*◌, if◌then◌else◌, List, [], ◌∷◌, length, map}
use Rattle.std.specs.List.{range_with_len}
use Rattle.adg_base.specs.declared.log.LogEntry.{LogEntry}
use Rattle.core_rules.specs.Share.{share}
use Rattle.core_rules.specs.State.{CoreState, Worker, Quiesce, Idle, Shared, Flushing, Stage, Unclaimed, Claimed, Finished, Link, Session, Free, Populating, Scanning}
use Rattle.turn_rules.specs.Round.{Seat, Round, actors}
use Rattle.turn_rules.specs.Picks.{Act, Rests, Makes, Replies, MakesAndReplies, act_at}

-- how many acts a worklink takes: one for each area, one for each unit shard, the claim and the end
abbrev pub link_cost : (workers : ℕ) → Stage → ℕ
link_cost workers Unclaimed = workers + 34
link_cost workers (Claimed actor cursor collected) = workers + 33 - cursor
link_cost workers Finished = 0

abbrev pub links_cost : (workers : ℕ) → List Link → ℕ
links_cost workers [] = 0
links_cost workers (l ∷ ls) = link_cost workers l.stage + links_cost workers ls

-- A worker has to apply and to mine, and to raise its progress. What is mined may give a node, and a node a worklink.
abbrev pub worker_cost : (workers entries frontier : ℕ) → Worker → ℕ
worker_cost workers entries frontier w =
    (entries - w.applied) + (workers + 35) * (entries - w.mined) + (frontier - w.progress) + (workers + 34) * length w.ends

-- the workers from a place on
abbrev pub workers_cost : (workers place : ℕ) → List LogEntry → (frontier : ℕ) → List Worker → ℕ
workers_cost workers place log frontier [] = 0
workers_cost workers place log frontier (w ∷ ws) =
    worker_cost workers (length (share workers place log)) frontier w + workers_cost workers (place + 1) log frontier ws

-- a flush that can begin
abbrev pub calm_cost : Quiesce → ℕ
calm_cost Idle = 1
calm_cost (Shared n) = 1
calm_cost (Flushing through) = 0

abbrev pub core_cost : CoreState → ℕ
core_cost c =
    workers_cost (length c.workers) 0 c.log c.frontier c.workers + (length c.workers + 34) * length c.ddl + links_cost (length c.workers) c.links
    + 2 * (c.frontier - c.query) + calm_cost c.quiesce

-- No command takes as many acts as this: a POPULATE registers 256 units and lets publication go on, and of each extent
-- reads 16 blocks and ends it. How far a session has come with its command.
abbrev pub most_acts : ℕ
most_acts = 4610

abbrev pub acts_done : Session → ℕ
acts_done Free = 0
acts_done (Populating p) = 1 + p.registered + (if p.holds then 0 else 1) + 17 * p.extent + p.blocks
acts_done (Scanning s) = 1 + s.extents

-- what is left of the requests of a session, and of those of all
abbrev pub seat_cost : Seat → Session → ℕ
seat_cost seat session = most_acts * (length seat.requests - length seat.replies) + (most_acts - acts_done session)

abbrev pub seats_cost : List Seat → List Session → ℕ
seats_cost [] sessions = 0
seats_cost (seat ∷ seats) [] = 0
seats_cost (seat ∷ seats) (session ∷ sessions) = seat_cost seat session + seats_cost seats sessions

-- nothing is left once an ABORT was answered
abbrev pub measure : Round → ℕ
measure r = if r.aborted then 0 else 1 + core_cost r.core + seats_cost r.seats r.core.sessions

-- how many acts rest before one of them does something
abbrev pub rests_first : List Act → ℕ
rests_first [] = 0
rests_first (Rests ∷ acts) = 1 + rests_first acts
rests_first (Makes event ∷ acts) = 0
rests_first (Replies reply ∷ acts) = 0
rests_first (MakesAndReplies event reply ∷ acts) = 0

-- how many of the next turns would be rests, one turn of each actor at most
abbrev pub waits : List ℕ → Round → ℕ
waits schedule r = rests_first (map (act_at schedule r) (range_with_len r.turns (actors r)))

-- A bound of the turns that are left: each turn makes it fall. While there are schedule bytes each turn uses one up;
-- behind them each turn is an act, or a rest before one.
abbrev pub turns_left : List ℕ → Round → ℕ
turns_left schedule r = (actors r + 1) * ((length schedule - r.turns) + measure r) + waits schedule r
