-- The turn rule: which actor has a turn, and what it does then.
use Rattle.std.specs.Prelude.{ℕ, ◌+◌, ◌-◌, ◌%◌, Bool, true, false, nat_lt, nat_le, ◌==◌, ◌&&◌, if◌then◌else◌, List, [], ◌∷◌, length, map, slice_get, Option, Some, None}
use Rattle.std.specs.List.{list_all, list_any}
use Rattle.adg_base.specs.declared.log.LogEntry.{LogEntry}
use Rattle.adg_base.specs.declared.command.Command.TheVariants as command
use Rattle.adg_base.specs.declared.command.Select.{Select}
use Rattle.adg_base.specs.declared.answer.Reply.{Reply}
use Rattle.adg_base.specs.declared.answer.Reply.TheVariants as reply
use Rattle.adg_model.specs.Log.{least}
use Rattle.core_rules.specs.declared.event.Event.{Event}
use Rattle.core_rules.specs.declared.event.Event.TheVariants as event
use Rattle.core_rules.specs.State.{CoreState, Worker, Quiesce, Idle, Shared, Flushing, Stage, Unclaimed, Claimed, Finished, Link, Population, Scan, Session, Free, Populating, Scanning, share_of, is_flushing, is_unclaimed, is_finished}
use Rattle.turn_rules.specs.Round.{Request, Asks, Garbles, Seat, at_hand, Round, actors}

-- what an actor does in its turn: nothing; an event, which may say a reply; a reply alone; an event with a reply
pub data Act : Type 0 where
  Rests : Act
  Makes : Event → Act
  Replies : Reply → Act
  MakesAndReplies : Event → Reply → Act

-- Actor 0 is the coordinator; behind it come the workers, and behind them the sessions, in their order.
pub data Actor : Type 0 where
  Coordinator : Actor
  WorkerAt : ℕ → Actor
  SessionAt : ℕ → Actor

abbrev pub actor_of : (workers number : ℕ) → Actor
actor_of workers number =
    if number == 0 then Coordinator else if nat_le number workers then WorkerAt (number - 1) else SessionAt (number - workers - 1)

-- A turn is taken by the actor that the turn's schedule byte picks; behind the bytes the actors take turns in order.
abbrev pub number_by : (actors : ℕ) → Option ℕ → (behind : ℕ) → ℕ
number_by actors (Some byte) behind = byte % actors
number_by actors None behind = behind % actors

abbrev pub number_at : List ℕ → (actors turn : ℕ) → ℕ
number_at schedule actors turn = number_by actors (slice_get schedule turn) (turn - length schedule)

abbrev pub actor_at : List ℕ → Round → (turn : ℕ) → Actor
actor_at schedule r turn = actor_of (length r.core.workers) (number_at schedule (actors r) turn)

-- The cursor of the worklink that an actor has, if it has one.
abbrev pub cursor_in : ℕ → Stage → Option ℕ
cursor_in actor Unclaimed = None
cursor_in actor (Claimed holder cursor collected) = if holder == actor then Some cursor else None
cursor_in actor Finished = None

abbrev pub or_next : Option ℕ → Option ℕ → Option ℕ
or_next None next = next
or_next (Some cursor) next = Some cursor

abbrev pub cursor_of : ℕ → List Link → Option ℕ
cursor_of actor [] = None
cursor_of actor (l ∷ ls) = or_next (cursor_in actor l.stage) (cursor_of actor ls)

-- Who has a worklink goes on with it: at an area it collects, at a unit shard it touches, and then it is done.
abbrev pub link_event : (workers actor cursor : ℕ) → Event
link_event workers actor cursor =
    if nat_lt cursor workers then event.Collect actor else if nat_lt cursor (workers + 32) then event.Touch actor else event.Done actor

abbrev pub link_act : (workers actor : ℕ) → Option ℕ → Act → Act
link_act workers actor None other = other
link_act workers actor (Some cursor) other = Makes (link_event workers actor cursor)

-- whether a worklink is unclaimed, and whether all are done
abbrev pub has_unclaimed : List Link → Bool
has_unclaimed links = list_any (λ l. is_unclaimed l.stage) links

abbrev pub are_finished : List Link → Bool
are_finished links = list_all (λ l. is_finished l.stage) links

-- whether a flush can begin: nobody keeps publication back, and all workers have come to an SCN above the QuerySCN
abbrev pub is_idle : Quiesce → Bool
is_idle Idle = true
is_idle (Shared n) = false
is_idle (Flushing through) = false

abbrev pub least_progress : CoreState → ℕ
least_progress c = least (map (λ w. w.progress) c.workers)

-- The coordinator, where it has no worklink: it claims one, or publishes, or begins a flush.
abbrev pub flushing_act : List Link → Act
flushing_act links = if has_unclaimed links then Makes (event.Claim 0) else if are_finished links then Makes event.Publish else Rests

abbrev pub calm_act : CoreState → Act
calm_act c = if is_idle c.quiesce && nat_lt c.query (least_progress c) then Makes (event.BeginFlush (least_progress c)) else Rests

abbrev pub coordinator_act : CoreState → Act
coordinator_act c = link_act (length c.workers) 0 (cursor_of 0 c.links) (if is_flushing c.quiesce then flushing_act c.links else calm_act c)

-- The SCN up to which all of a worker's share is mined: below that of the next entry, or the frontier.
abbrev pub below_entry : (frontier : ℕ) → Option LogEntry → ℕ
below_entry frontier None = frontier
below_entry frontier (Some e) = e.scn - 1

abbrev pub mined_through : CoreState → ℕ → Worker → ℕ
mined_through c worker w = below_entry c.frontier (slice_get (share_of c worker) w.mined)

-- A worker, where it has no worklink and there is none to claim: it raises its progress, or mines, or applies.
abbrev pub share_act : CoreState → ℕ → Option Worker → Act
share_act c worker None = Rests
share_act c worker (Some w) =
    if nat_lt w.progress (mined_through c worker w) then Makes (event.Raise worker (mined_through c worker w))
    else if nat_lt w.mined w.applied then Makes (event.Mine worker)
    else if nat_lt w.applied (length (share_of c worker)) then Makes (event.Apply worker)
    else Rests

abbrev pub worker_act : CoreState → ℕ → Act
worker_act c worker =
    link_act (length c.workers) (worker + 1) (cursor_of (worker + 1) c.links)
    (if is_flushing c.quiesce && has_unclaimed c.links then Makes (event.Claim (worker + 1)) else share_act c worker (slice_get c.workers worker))

-- A population registers its units, lets publication go on, and reads the blocks of each extent and ends it.
abbrev pub population_event : (session : ℕ) → Population → Event
population_event session p =
    if p.holds
    then (if nat_lt p.registered p.table.extents then event.PopRegister session else event.PopRelease session)
    else (if nat_lt p.blocks 16 then event.PopRead session else event.PopEnd session)

abbrev pub populate_act : CoreState → (session obj : ℕ) → Option Session → Act
populate_act c session obj None = Rests
populate_act c session obj (Some Free) = if is_flushing c.quiesce then Rests else Makes (event.PopBegin session obj)
populate_act c session obj (Some (Populating p)) = Makes (population_event session p)
populate_act c session obj (Some (Scanning s)) = Rests

-- a scan gathers the rows of each extent, and ends
abbrev pub scan_event : (session : ℕ) → Scan → Event
scan_event session s = if nat_lt s.extents s.table.extents then event.ScanExtent session else event.ScanEnd session

abbrev pub select_act : (session : ℕ) → Select → Option Session → Act
select_act session select None = Rests
select_act session select (Some Free) = Makes (event.ScanBegin session select)
select_act session select (Some (Populating p)) = Rests
select_act session select (Some (Scanning s)) = Makes (scan_event session s)

-- A session works on its first request without a reply. SYNC waits until the QuerySCN is the frontier.
abbrev pub request_act : CoreState → (place : ℕ) → Option Request → Act
request_act c place None = Rests
request_act c place (Some (Garbles byte)) = Replies (reply.BadQuery c.query byte)
request_act c place (Some (Asks command.ShowScn)) = Replies (reply.Shown c.query)
request_act c place (Some (Asks command.Sync)) = if c.query == c.frontier then Replies (reply.Synced c.query) else Rests
request_act c place (Some (Asks command.Abort)) = MakesAndReplies event.Restart (reply.Aborted c.query)
request_act c place (Some (Asks (command.Populate obj))) = populate_act c (place + 1) obj (slice_get c.sessions place)
request_act c place (Some (Asks (command.Select select))) = select_act (place + 1) select (slice_get c.sessions place)

abbrev pub session_act : CoreState → (place : ℕ) → Option Seat → Act
session_act c place None = Rests
session_act c place (Some seat) = request_act c place (at_hand seat)

-- what an actor does, and what is done in a turn
abbrev pub act_of : Round → Actor → Act
act_of r Coordinator = coordinator_act r.core
act_of r (WorkerAt worker) = worker_act r.core worker
act_of r (SessionAt place) = session_act r.core place (slice_get r.seats place)

abbrev pub act_at : List ℕ → Round → (turn : ℕ) → Act
act_at schedule r turn = act_of r (actor_at schedule r turn)
