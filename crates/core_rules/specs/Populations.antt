-- The events of a population: PopBegin, PopRegister, PopRelease, PopRead and PopEnd.
use Rattle.std.specs.Prelude.{◌≡◌, ℕ, ◌+◌, ◌*◌, ◌<◌, ◌≤◌, nat_lt, Bool, true, false, ◌==◌, ◌&&◌, if◌then◌else◌, List, [], ◌++◌, length, slice_set, Option, Some, None, is_none}
use Rattle.adg_base.specs.declared.placed.PlacedRow.{PlacedRow}
use Rattle.adg_base.specs.declared.answer.Reply.{Reply}
use Rattle.adg_base.specs.declared.answer.Reply.TheVariants as reply
use Rattle.adg_model.specs.Database.{Table, rows_at, table_at}
use Rattle.core_rules.specs.declared.event.CoreAnswer.{CoreAnswer}
use Rattle.core_rules.specs.declared.event.CoreAnswer.TheVariants.{Moved, Said}
use Rattle.core_rules.specs.Extents.{block_rows}
use Rattle.core_rules.specs.State.{CoreState, ColumnUnit, Units, Population, Session, Free, Populating, Scanning, At, is_flushing, held_once_more, held_once_less}

-- the session of a number, which counts from 1, stands at a place of the list and is so
pub record IsSession (c : CoreState) (session place : ℕ) (what : Session) : Type 0 where
  pub number : session ≡ place + 1
  pub found : At c.sessions place what

abbrev pub with_session : CoreState → ℕ → Session → CoreState
with_session c place what = record c { sessions = slice_set c.sessions place what }

-- a session that does nothing can ask for a population where no flush goes on
pub record CanPopulate (c : CoreState) (session : ℕ) : Type 0 where
  pub place : ℕ
  pub free : IsSession c session place Free
  pub calm : is_flushing c.quiesce ≡ false

-- what a POPULATE of an object with this definition is refused with at an SCN, if it is
abbrev pub population_refusal : ℕ → Option Table → Option Reply
population_refusal scn None = Some (reply.NoTable scn)
population_refusal scn (Some table) = if table.flag then None else Some (reply.NotInMemory scn)

-- a ticket that no unit and no population has
abbrev pub has_ticket : ℕ → Session → Bool
has_ticket ticket Free = false
has_ticket ticket (Populating p) = p.ticket == ticket
has_ticket ticket (Scanning s) = false

pub record IsFresh (c : CoreState) (ticket : ℕ) : Type 0 where
  pub units : (obj extent : ℕ) (u : ColumnUnit) → c.units obj extent ≡ Some u → u.ticket ≡ ticket → ⊥
  pub populations : (place : ℕ) (s : Session) → At c.sessions place s → has_ticket ticket s ≡ false

abbrev pub new_population : (obj snapshot ticket : ℕ) → Table → Population
new_population obj snapshot ticket table = record {
  obj = obj;
  snapshot = snapshot;
  ticket = ticket;
  table = table;
  holds = true;
  registered = 0;
  extent = 0;
  blocks = 0;
  read = [];
  installed = 0;
}

-- A population of an in-memory object begins, with the QuerySCN as its snapshot and a fresh ticket, and holds
-- publication back. The next ticket is above it and never falls.
pub record BeginsPopulation (c : CoreState) (session obj : ℕ) (new : CoreState) : Type 0 where
  pub can : CanPopulate c session
  pub table : Table
  pub defined : table_at c.log c.query obj ≡ Some table
  pub in_memory : table.flag ≡ true
  pub ticket : ℕ
  pub fresh : IsFresh c ticket
  pub next : ℕ
  pub above : ticket < next
  pub forward : c.ticket ≤ next
  pub effect : new ≡ record (with_session c can.place (Populating (new_population obj c.query ticket table))) {
    quiesce = held_once_more c.quiesce;
    ticket = next;
  }

-- It is refused with a reply, and nothing changed.
pub record RefusesPopulation (c : CoreState) (session obj : ℕ) (said : Reply) (new : CoreState) : Type 0 where
  pub can : CanPopulate c session
  pub refusal : population_refusal c.query (table_at c.log c.query obj) ≡ Some said
  pub same : new ≡ c

-- a population can register a unit while it holds publication back, where one is left
pub record CanRegister (c : CoreState) (session : ℕ) : Type 0 where
  pub place : ℕ
  pub population : Population
  pub is : IsSession c session place (Populating population)
  pub holds : population.holds ≡ true
  pub left : population.registered < population.table.extents

-- a unit that is not filled yet
abbrev pub loading : Population → ColumnUnit
loading p = record { snapshot = p.snapshot; ticket = p.ticket; columns = None; marked = λ a. false; all = false }

-- the units with another one for an extent
abbrev pub with_unit : (obj extent : ℕ) → Option ColumnUnit → Units → Units
with_unit obj extent unit units = λ o e. if (o == obj) && (e == extent) then unit else units o e

-- The unit of the next extent stands for it, not filled, in place of any other.
pub record Registers (c : CoreState) (session : ℕ) (new : CoreState) : Type 0 where
  pub place : ℕ
  pub population : Population
  pub is : IsSession c session place (Populating population)
  pub holds : population.holds ≡ true
  pub left : population.registered < population.table.extents
  pub effect : new ≡ record (with_session c place (Populating (record population { registered = population.registered + 1 }))) {
    units = with_unit population.obj population.registered (Some (loading population)) c.units;
  }

-- it can let publication go on once all units are registered
pub record CanRelease (c : CoreState) (session : ℕ) : Type 0 where
  pub place : ℕ
  pub population : Population
  pub is : IsSession c session place (Populating population)
  pub holds : population.holds ≡ true
  pub all : population.table.extents ≤ population.registered

pub record Releases (c : CoreState) (session : ℕ) (new : CoreState) : Type 0 where
  pub place : ℕ
  pub population : Population
  pub is : IsSession c session place (Populating population)
  pub holds : population.holds ≡ true
  pub all : population.table.extents ≤ population.registered
  pub effect : new ≡ record (with_session c place (Populating (record population { holds = false }))) { quiesce = held_once_less c.quiesce }

-- a population that was released can read where a block of its extent is left
pub record CanRead (c : CoreState) (session : ℕ) : Type 0 where
  pub place : ℕ
  pub population : Population
  pub is : IsSession c session place (Populating population)
  pub released : population.holds ≡ false
  pub left : population.blocks < 16

-- the rows of its next block at its snapshot
abbrev pub next_block : CoreState → Population → List PlacedRow
next_block c p = block_rows (rows_at c.log p.snapshot) p.obj (length p.table.kinds) (16 * p.extent + p.blocks)

pub record Reads (c : CoreState) (session : ℕ) (new : CoreState) : Type 0 where
  pub place : ℕ
  pub population : Population
  pub is : IsSession c session place (Populating population)
  pub released : population.holds ≡ false
  pub left : population.blocks < 16
  pub effect : new ≡ with_session c place (Populating (record population { blocks = population.blocks + 1; read = population.read ++ next_block c population }))

-- it can end an extent whose blocks are all read
pub record CanInstall (c : CoreState) (session : ℕ) : Type 0 where
  pub place : ℕ
  pub population : Population
  pub is : IsSession c session place (Populating population)
  pub released : population.holds ≡ false
  pub whole : 16 ≤ population.blocks

-- whether a unit is the one that a population waits to fill, and the unit filled
abbrev pub awaits : ℕ → Option ColumnUnit → Bool
awaits ticket None = false
awaits ticket (Some u) = is_none u.columns && (u.ticket == ticket)

abbrev pub filled : List PlacedRow → Option ColumnUnit → Option ColumnUnit
filled rows None = None
filled rows (Some u) = Some (record u { columns = Some rows })

abbrev pub units_installed : Population → Units → Units
units_installed p units =
    if awaits p.ticket (units p.obj p.extent) then with_unit p.obj p.extent (filled p.read (units p.obj p.extent)) units else units

-- how many extents have their columns then: one more where the unit stood
abbrev pub installed_then : Population → Units → ℕ
installed_then p units = if awaits p.ticket (units p.obj p.extent) then p.installed + 1 else p.installed

-- the population goes on with the next extent; after the last it is over, and says how many were installed
abbrev pub has_more : Population → Bool
has_more p = nat_lt (p.extent + 1) p.table.extents

abbrev pub session_then : Population → ℕ → Session
session_then p installed =
    if has_more p then Populating (record p { extent = p.extent + 1; blocks = 0; read = []; installed = installed }) else Free

abbrev pub answer_then : Population → ℕ → CoreAnswer
answer_then p installed = if has_more p then Moved else Said (reply.Populated p.snapshot installed)

-- The columns are installed in the unit with the population's ticket, if it stands there and waits for them.
pub record Installs (c : CoreState) (session : ℕ) (answer : CoreAnswer) (new : CoreState) : Type 0 where
  pub place : ℕ
  pub population : Population
  pub is : IsSession c session place (Populating population)
  pub released : population.holds ≡ false
  pub whole : 16 ≤ population.blocks
  pub says : answer ≡ answer_then population (installed_then population c.units)
  pub effect : new ≡ record (with_session c place (session_then population (installed_then population c.units))) {
    units = units_installed population c.units;
  }
