-- What a turn is, once all tests of the rule are made: the cases that every law of turns goes through.
use Rattle.std.proofs.Common.{◌≡◌, ℕ, ◌+◌, ◌<◌, ◌≤◌, Bool, true, false, List, [], ◌++◌, Option, Some, None}
use Rattle.std.specs.Prelude.{slice_set}
use Rattle.adg_base.specs.declared.command.Command.TheVariants as command
use Rattle.adg_base.specs.declared.command.Select.{Select}
use Rattle.adg_base.specs.declared.answer.Reply.{Reply}
use Rattle.adg_base.specs.declared.answer.Reply.TheVariants as reply
use Rattle.adg_model.specs.Database.{Table, table_at}
use Rattle.adg_model.specs.Query.{has_columns, has_types}
use Rattle.core_rules.specs.declared.event.Event.{Event}
use Rattle.core_rules.specs.declared.event.Event.TheVariants as event
use Rattle.core_rules.specs.declared.event.CoreAnswer.TheVariants.{Moved, Said}
use Rattle.core_rules.specs.State.{CoreState, Population, Scan, Session, Free, Populating, Scanning, At, is_flushing, held_once_more, held_once_less}
use Rattle.core_rules.specs.Populations.{with_session, IsFresh, new_population, population_refusal, loading, with_unit, next_block, units_installed, installed_then, has_more}
use Rattle.core_rules.specs.Scans.{scan_refusal, new_scan, scan_then, scan_reply}
use Rattle.core_rules.specs.Restarts.{restarted}
use Rattle.core_rules.specs.Step.{Happens}
use Rattle.core_rules.specs.Runs.{Move}
use Rattle.core_rules.specs.Laws.{IsTextOf}
use Rattle.turn_rules.specs.Round.{Request, Asks, Garbles, Reads, Seat, at_hand, Round}
use Rattle.turn_rules.specs.Turns.{TakesTurn, with_reply}
use Rattle.turn_rules.specs.Standing.{RoundIs}

-- an event of the coordinator or a worker
abbrev pub IsOfCrew : Event → Type 0
IsOfCrew (event.Apply worker) = Unit {0}
IsOfCrew (event.Mine worker) = Unit {0}
IsOfCrew (event.Raise worker through) = Unit {0}
IsOfCrew (event.BeginFlush through) = Unit {0}
IsOfCrew (event.Claim actor) = Unit {0}
IsOfCrew (event.Collect actor) = Unit {0}
IsOfCrew (event.Touch actor) = Unit {0}
IsOfCrew (event.Done actor) = Unit {0}
IsOfCrew event.Publish = Unit {0}
IsOfCrew other = ⊥

-- a reply without an event
abbrev pub RepliesAlone : CoreState → Request → Reply → Type 0
RepliesAlone c (Garbles byte) said = said ≡ reply.BadQuery c.query byte
RepliesAlone c (Asks command.ShowScn) said = said ≡ reply.Shown c.query
RepliesAlone c (Asks command.Sync) said = (said ≡ reply.Synced c.query) × (c.query ≡ c.frontier)
RepliesAlone c other said = ⊥

-- a refusal
abbrev pub Refuses : CoreState → Request → Reply → Type 0
Refuses c (Asks (command.Populate obj)) said = population_refusal c.query (table_at c.log c.query obj) ≡ Some said
Refuses c (Asks (command.Select select)) said = scan_refusal c.query select (table_at c.log c.query select.obj) ≡ Some said
Refuses c other said = ⊥

-- an event says this reply to the request
pub record Speaks (c : CoreState) (request : Request) (said : Reply) (new : CoreState) : Type 0 where
  pub event : Event
  pub happens : Happens c event (Said said) new
  pub text : (text : List ℕ) → Reads text request → IsTextOf c event text

-- a population begins
pub record Begins (c : CoreState) (place obj : ℕ) (new : CoreState) : Type 0 where
  pub calm : is_flushing c.quiesce ≡ false
  pub table : Table
  pub defined : table_at c.log c.query obj ≡ Some table
  pub in_memory : table.flag ≡ true
  pub ticket : ℕ
  pub fresh : IsFresh c ticket
  pub next : ℕ
  pub above : ticket < next
  pub forward : c.ticket ≤ next
  pub effect : new ≡ record (with_session c place (Populating (new_population obj c.query ticket table))) {
    quiesce = held_once_more c.quiesce;
    ticket = next;
  }

-- What the session at a place does for a request: what is told to it, whether an ABORT is answered, and the core then.
pub data SessionIs (c : CoreState) (place : ℕ) (session : Session) (request : Request) (told : Option Reply) (aborted : Bool) (new : CoreState) : Type 0 where
  Replied : (said : Reply) → session ≡ Free → RepliesAlone c request said → told ≡ Some said → aborted ≡ false → new ≡ c
      → SessionIs c place session request told aborted new
  Aborts : session ≡ Free → request ≡ Asks command.Abort → told ≡ Some (reply.Aborted c.query) → aborted ≡ true → new ≡ restarted c
      → SessionIs c place session request told aborted new
  Refused : (said : Reply) → session ≡ Free → Refuses c request said → Speaks c request said new → told ≡ Some said → aborted ≡ false → new ≡ c
      → SessionIs c place session request told aborted new
  Populates : (obj : ℕ) → session ≡ Free → request ≡ Asks (command.Populate obj) → told ≡ None → aborted ≡ false → Begins c place obj new
      → SessionIs c place session request told aborted new
  Registers : (p : Population) → session ≡ Populating p → request ≡ Asks (command.Populate p.obj) → told ≡ None → aborted ≡ false
      → p.holds ≡ true → p.registered < p.table.extents
      → new ≡ record (with_session c place (Populating (record p { registered = p.registered + 1 }))) { units = with_unit p.obj p.registered (Some (loading p)) c.units }
      → SessionIs c place session request told aborted new
  Releases : (p : Population) → session ≡ Populating p → request ≡ Asks (command.Populate p.obj) → told ≡ None → aborted ≡ false
      → p.holds ≡ true → p.table.extents ≤ p.registered
      → new ≡ record (with_session c place (Populating (record p { holds = false }))) { quiesce = held_once_less c.quiesce }
      → SessionIs c place session request told aborted new
  ReadsOn : (p : Population) → session ≡ Populating p → request ≡ Asks (command.Populate p.obj) → told ≡ None → aborted ≡ false
      → p.holds ≡ false → p.blocks < 16
      → new ≡ with_session c place (Populating (record p { blocks = p.blocks + 1; read = p.read ++ next_block c p }))
      → SessionIs c place session request told aborted new
  EndsExtent : (p : Population) → session ≡ Populating p → request ≡ Asks (command.Populate p.obj) → told ≡ None → aborted ≡ false
      → p.holds ≡ false → 16 ≤ p.blocks → has_more p ≡ true
      → new ≡ record (with_session c place (Populating (record p { extent = p.extent + 1; blocks = 0; read = []; installed = installed_then p c.units }))) { units = units_installed p c.units }
      → SessionIs c place session request told aborted new
  EndsPopulation : (p : Population) → session ≡ Populating p → request ≡ Asks (command.Populate p.obj) → told ≡ Some (reply.Populated p.snapshot (installed_then p c.units)) → aborted ≡ false
      → p.holds ≡ false → 16 ≤ p.blocks → has_more p ≡ false → Speaks c request (reply.Populated p.snapshot (installed_then p c.units)) new
      → new ≡ record (with_session c place Free) { units = units_installed p c.units }
      → SessionIs c place session request told aborted new
  BeginsScan : (select : Select) (table : Table) → session ≡ Free → request ≡ Asks (command.Select select) → told ≡ None → aborted ≡ false
      → table_at c.log c.query select.obj ≡ Some table → has_columns select table ≡ true → has_types select table ≡ true
      → new ≡ with_session c place (Scanning (new_scan select c.query table))
      → SessionIs c place session request told aborted new
  Gathers : (s : Scan) → session ≡ Scanning s → request ≡ Asks (command.Select s.select) → told ≡ None → aborted ≡ false
      → s.extents < s.table.extents → new ≡ with_session c place (Scanning (scan_then c s))
      → SessionIs c place session request told aborted new
  EndsScan : (s : Scan) → session ≡ Scanning s → request ≡ Asks (command.Select s.select) → told ≡ Some (scan_reply s) → aborted ≡ false
      → s.table.extents ≤ s.extents → Speaks c request (scan_reply s) new → new ≡ with_session c place Free
      → SessionIs c place session request told aborted new

-- the seats once a reply, if there is one, was told to the seat at a place
abbrev pub SeatsAre : (place : ℕ) → Seat → Option Reply → List Seat → List Seat → Type 0
SeatsAre place seat None seats new = new ≡ seats
SeatsAre place seat (Some said) seats new = new ≡ slice_set seats place (with_reply said seat)

-- a session with a request has the turn
pub record AtSeat (r next : Round) (place : ℕ) (seat : Seat) (session : Session) (request : Request) (told : Option Reply) : Type 0 where
  pub seated : At r.seats place seat
  pub does : At r.core.sessions place session
  pub asks : at_hand seat ≡ Some request
  pub seats : SeatsAre place seat told r.seats next.seats

-- A turn is a rest, an event of the coordinator or a worker, or what a session does.
pub data TurnIs (r next : Round) : Type 0 where
  Rested : next.core ≡ r.core → next.seats ≡ r.seats → next.aborted ≡ false → TurnIs r next
  Crewed : (e : Event) → IsOfCrew e → Happens r.core e Moved next.core → next.seats ≡ r.seats → next.aborted ≡ false → TurnIs r next
  Seated : (place : ℕ) (seat : Seat) (session : Session) (request : Request) (told : Option Reply) → AtSeat r next place seat session request told
      → SessionIs r.core place session request told next.aborted next.core → TurnIs r next

abbrev pub TurnsAreThese : Type 0
TurnsAreThese = (schedule : List ℕ) (r : Round) (move : Option Move) (next : Round) → RoundIs r → TakesTurn schedule r move next → (r.aborted ≡ false) × TurnIs r next
