-- What is carried through a round for column use, and the statements between the parts of its proof.
use Rattle.std.proofs.Common.{◌≡◌, ℕ, ◌+◌, ◌-◌, ◌<◌, ◌≤◌, Bool, true, false, List, [], ◌∷◌, ◌++◌, length, Option, Some, None}
use Rattle.std.specs.Prelude.{slice_get, is_some}
use Rattle.std.specs.List.{Contains, AllZip, zip}
use Rattle.adg_base.specs.declared.log.LogEntry.{LogEntry}
use Rattle.adg_base.specs.declared.command.Command.TheVariants as command
use Rattle.adg_base.specs.declared.command.CommandText.{CommandText}
use Rattle.adg_base.specs.declared.command.Select.{Select}
use Rattle.adg_base.specs.declared.answer.Reply.{Reply}
use Rattle.adg_base.specs.declared.answer.Reply.TheVariants as reply
use Rattle.adg_model.specs.Command.{Spells}
use Rattle.adg_model.specs.Database.{Table, rows_at, table_at}
use Rattle.adg_model.specs.Transcript.{texts_of}
use Rattle.core_rules.specs.declared.event.Event.{Event}
use Rattle.core_rules.specs.declared.event.CoreAnswer.TheVariants.{Moved}
use Rattle.core_rules.specs.Share.{NotRedefined}
use Rattle.core_rules.specs.State.{CoreState, ColumnUnit, Units, Population, Scan, Session, Populating, Scanning, At}
use Rattle.core_rules.specs.Populations.{loading, with_unit, units_installed, installed_then, has_more}
use Rattle.core_rules.specs.Scans.{next_look, next_places, count_from_columns, count_from_blocks}
use Rattle.core_rules.specs.Step.{Happens}
use Rattle.core_rules.specs.Runs.{Move}
use Rattle.core_rules.specs.UnitParts.{CoarseWithin}
use Rattle.core_rules.specs.Invariant.{Invariant, Precise}
use Rattle.core_rules.specs.ColumnUse.{Told, Before, WasPopulated, has_abort, others_populate, anyone_populates, IsUndisturbed, touched_rows, RowsAreTouched, HasReadyUnits, HasNoUnits}
use Rattle.turn_rules.specs.Round.{Reads, Seat, Round}
use Rattle.turn_rules.specs.Turns.{TakesTurn}
use Rattle.turn_rules.specs.Standing.{RoundIs}
use Rattle.turn_rules.proofs.View.{IsOfCrew}

-- what the sessions were told so far
abbrev pub replies_of : Option Seat → List Reply
replies_of None = []
replies_of (Some seat) = seat.replies

abbrev pub told_so_far : List CommandText → List Seat → (session : ℕ) → List Told
told_so_far commands seats session = zip (texts_of session commands) (replies_of (slice_get seats (session - 1)))

-- The units of an object stand as they did: the same ones, with the same columns; only marks may be new.
abbrev pub IsSameUnit : Option ColumnUnit → Option ColumnUnit → Type 0
IsSameUnit None None = Unit {0}
IsSameUnit None (Some v) = ⊥
IsSameUnit (Some u) None = ⊥
IsSameUnit (Some u) (Some v) = (v.snapshot ≡ u.snapshot) × (v.ticket ≡ u.ticket) × (v.columns ≡ u.columns)

abbrev pub UnitsStay : Units → Units → (obj : ℕ) → Type 0
UnitsStay old new obj = (extent : ℕ) → IsSameUnit (old obj extent) (new obj extent)

-- What an event of the coordinator or a worker leaves: sessions, log, frontier and born; the units of an object that is
-- not redefined from a published SCN on; and that none stands.
pub record CrewLeaves (c new : CoreState) : Type 0 where
  pub sessions : new.sessions ≡ c.sessions
  pub log : new.log ≡ c.log
  pub frontier : new.frontier ≡ c.frontier
  pub born : new.born ≡ c.born
  pub query : c.query ≤ new.query
  pub units : (obj low : ℕ) → low ≤ c.query → NotRedefined c.log obj low c.frontier → UnitsStay c.units new.units obj
  pub none : (obj : ℕ) → HasNoUnits c.units obj → HasNoUnits new.units obj

abbrev pub CrewLeavesUnits : Type 0
CrewLeavesUnits = (c : CoreState) (e : Event) (new : CoreState) → Invariant c → IsOfCrew e → Happens c e Moved new → CrewLeaves c new

-- How far a population has come with its units, where nobody disturbs it: those of the extents below the one at hand are
-- ready, the other registered ones wait for their columns, and as many were installed as extents ended. It lets
-- publication go on once all are registered.
pub record IsOwnUnit (p : Population) (filled : Bool) (u : ColumnUnit) : Type 0 where
  pub snapshot : u.snapshot ≡ p.snapshot
  pub ticket : u.ticket ≡ p.ticket
  pub columns : is_some u.columns ≡ filled

pub record IsBuilding (units : Units) (p : Population) : Type 0 where
  pub ended : (extent : ℕ) → extent < p.extent → (u : ColumnUnit) × (units p.obj extent ≡ Some u) × IsOwnUnit p true u
  pub waiting : (extent : ℕ) → p.extent ≤ extent → extent < p.registered → (u : ColumnUnit) × (units p.obj extent ≡ Some u) × IsOwnUnit p false u
  pub installed : p.installed ≡ p.extent
  pub holding : p.holds ≡ true → p.extent ≡ 0
  pub released : p.holds ≡ false → p.table.extents ≤ p.registered

-- Each event of a population takes it on, and its end leaves ready units.
abbrev pub BuildingGoesOn : Type 0
BuildingGoesOn =
    (units : Units) (p : Population) → IsBuilding units p
    → ((p.holds ≡ true → p.registered < p.table.extents → IsBuilding (with_unit p.obj p.registered (Some (loading p)) units) (record p { registered = p.registered + 1 }))
    × (p.table.extents ≤ p.registered → IsBuilding units (record p { holds = false }))
    × (p.holds ≡ false → p.extent < p.table.extents → has_more p ≡ true
    → IsBuilding (units_installed p units) (record p { extent = p.extent + 1; blocks = 0; read = []; installed = installed_then p units })))

abbrev pub BuildingEnds : Type 0
BuildingEnds =
    (log : List LogEntry) (units : Units) (p : Population) → IsBuilding units p → p.holds ≡ false → p.extent < p.table.extents → has_more p ≡ false
    → table_at log p.snapshot p.obj ≡ Some p.table
    → (installed_then p units ≡ p.table.extents) × HasReadyUnits log (units_installed p units) p.obj p.snapshot

-- What a scan gathers of an extent: none from a unit where the object is not in-memory or has no unit; and from blocks,
-- where the unit is ready since an SCN and nothing came between, at least what was touched up to the scan's SCN, and at
-- most what was touched up to the frontier.
pub record GathersTouched (c : CoreState) (s : Scan) (since : ℕ) : Type 0 where
  pub least : touched_rows c.log s.select.obj (s.extents + 1) s.scn since s.scn
      ≤ touched_rows c.log s.select.obj s.extents s.scn since s.scn + count_from_blocks (next_look c s) (rows_at c.log s.scn) (next_places s)
  pub most : touched_rows c.log s.select.obj s.extents s.scn since c.frontier + count_from_blocks (next_look c s) (rows_at c.log s.scn) (next_places s)
      ≤ touched_rows c.log s.select.obj (s.extents + 1) s.scn since c.frontier

abbrev pub ScansGather : Type 0
ScansGather =
    (c : CoreState) (place : ℕ) (s : Scan) → Invariant c → Precise c → At c.sessions place (Scanning s) → s.extents < s.table.extents
    → (s.table.flag ≡ false → count_from_columns (next_look c s) (next_places s) ≡ 0)
    × (HasNoUnits c.units s.select.obj → count_from_columns (next_look c s) (next_places s) ≡ 0)
    × ((since : ℕ) → since ≤ s.scn → HasReadyUnits c.log c.units s.select.obj since → NotRedefined c.log s.select.obj since c.frontier
    → (CoarseWithin c.log c.born since c.frontier → ⊥) → GathersTouched c s since)

-- What is fixed through a round: the log and the frontier, the QuerySCN and born as it began, what was before, and the
-- commands.
pub record Scene : Type 1 where
  pub log : List LogEntry
  pub frontier : ℕ
  pub floor : ℕ
  pub born : ℕ
  pub before : Before
  pub commands : List CommandText

-- Of a scan of a session with these replies so far.
pub record ScanUse (x : Scene) (session : ℕ) (told : List Told) (s : Scan) : Type 0 where
  pub plain : s.table.flag ≡ false → s.col ≡ 0
  pub unpopulated : x.before.unpopulated s.select.obj → anyone_populates s.select.obj x.commands ≡ false → s.col ≡ 0
  pub rows : (since : ℕ) → WasPopulated x.before s.select.obj since told → IsUndisturbed x.log x.frontier x.born session s.select.obj since x.commands
      → (since ≤ s.scn) × RowsAreTouched x.log x.frontier s.select.obj s.extents s.scn since s.row

-- Of a reply to a text of a session, with the replies before it: what column use asks of it.
pub record RowsUse (x : Scene) (session : ℕ) (earlier : List Told) (select : Select) (table : Table) (scn col row : ℕ) : Type 0 where
  pub plain : table.flag ≡ false → col ≡ 0
  pub unpopulated : x.before.unpopulated select.obj → anyone_populates select.obj x.commands ≡ false → col ≡ 0
  pub rows : (since : ℕ) → WasPopulated x.before select.obj since earlier → IsUndisturbed x.log x.frontier x.born session select.obj since x.commands
      → RowsAreTouched x.log x.frontier select.obj table.extents scn since row

abbrev pub ReplyUse : Scene → (session : ℕ) → List Told → List ℕ → Reply → Type 0
ReplyUse x session earlier text (reply.Rows scn answer col row) =
    (select : Select) (table : Table) → Spells text (command.Select select) → table_at x.log scn select.obj ≡ Some table
    → RowsUse x session earlier select table scn col row
ReplyUse x session earlier text (reply.Populated scn units) =
    (obj : ℕ) (table : Table) → Spells text (command.Populate obj) → table_at x.log scn obj ≡ Some table → has_abort x.commands ≡ false
    → others_populate session obj x.commands ≡ false → NotRedefined x.log obj x.floor x.frontier → units ≡ table.extents
ReplyUse x session earlier text other = Unit {0}

abbrev pub AnswersUse : Scene → (session : ℕ) → List Told → Type 0
AnswersUse x session told =
    (earlier later : List Told) (text : List ℕ) (said : Reply) → told ≡ earlier ++ (text, said) ∷ later → ReplyUse x session earlier text said

-- the session of a number populates an object
pub record PopulatesNow (sessions : List Session) (session obj : ℕ) : Type 0 where
  pub place : ℕ
  pub population : Population
  pub number : session ≡ place + 1
  pub at : At sessions place (Populating population)
  pub of : population.obj ≡ obj

-- What is carried through a round until an ABORT is answered.
pub record UseIs (x : Scene) (c : CoreState) (seats : List Seat) : Type 0 where
  pub log : c.log ≡ x.log
  pub frontier : c.frontier ≡ x.frontier
  pub born : c.born ≡ x.born
  pub floor : x.floor ≤ c.query
  pub none : (obj : ℕ) → x.before.unpopulated obj → anyone_populates obj x.commands ≡ false → HasNoUnits c.units obj
  pub filled : (session obj scn : ℕ) → has_abort x.commands ≡ false → others_populate session obj x.commands ≡ false
      → WasPopulated x.before obj scn (told_so_far x.commands seats session) → NotRedefined x.log obj scn x.frontier
      → (PopulatesNow c.sessions session obj → ⊥) → HasReadyUnits x.log c.units obj scn
  pub building : (place : ℕ) (p : Population) → At c.sessions place (Populating p)
      → (x.floor ≤ p.snapshot) × (has_abort x.commands ≡ false → others_populate (place + 1) p.obj x.commands ≡ false → NotRedefined x.log p.obj p.snapshot x.frontier
      → IsBuilding c.units p)
  pub scans : (place : ℕ) (s : Scan) → At c.sessions place (Scanning s) → ScanUse x (place + 1) (told_so_far x.commands seats (place + 1)) s
  pub answers : (session : ℕ) → AnswersUse x session (told_so_far x.commands seats session)

-- What stands once an ABORT was answered.
pub record UseEnded (x : Scene) (c : CoreState) (seats : List Seat) : Type 0 where
  pub none : (obj : ℕ) → HasNoUnits c.units obj
  pub born : c.born ≡ c.query
  pub abort : has_abort x.commands ≡ true
  pub answers : (session : ℕ) → AnswersUse x session (told_so_far x.commands seats session)

abbrev pub UseByAbort : Scene → CoreState → List Seat → Bool → Type 0
UseByAbort x c seats false = UseIs x c seats
UseByAbort x c seats true = UseEnded x c seats

-- the seats belong to the commands: each has what the texts of its session read as, and no more replies than these
pub record SeatsAreOf (commands : List CommandText) (seats : List Seat) : Type 0 where
  pub asked : (c : CommandText) → Contains commands c → (1 ≤ c.session) × (c.session ≤ length seats)
  pub reads : (place : ℕ) (seat : Seat) → At seats place seat → AllZip Reads (texts_of (place + 1) commands) seat.requests

-- each turn keeps it
abbrev pub TurnsKeepUse : Type 1
TurnsKeepUse =
    (x : Scene) (schedule : List ℕ) (r : Round) (move : Option Move) (next : Round) → TakesTurn schedule r move next → RoundIs r → SeatsAreOf x.commands r.seats
    → UseByAbort x r.core r.seats r.aborted → UseByAbort x next.core next.seats next.aborted
