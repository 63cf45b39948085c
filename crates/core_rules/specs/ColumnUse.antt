-- How far the answers of a delivery come from column units, said of its lines; and what units stand after it.
use Rattle.std.specs.Prelude.{◌≡◌, ℕ, ◌<◌, ◌≤◌, Bool, true, false, not, ◌==◌, ◌&&◌, if◌then◌else◌, List, [], ◌∷◌, ◌++◌, length, filter, Option, Some, None, is_some}
use Rattle.std.specs.List.{list_any, zip}
use Rattle.std.specs.Str.{bytes_eq}
use Rattle.adg_base.specs.Address.{Place, same_place}
use Rattle.adg_base.specs.declared.vector.Vector.{Vector}
use Rattle.adg_base.specs.declared.vector.Vector.TheVariants.{Commit}
use Rattle.adg_base.specs.declared.log.LogEntry.{LogEntry}
use Rattle.adg_base.specs.declared.command.Command.TheVariants as command
use Rattle.adg_base.specs.declared.command.CommandText.{CommandText}
use Rattle.adg_base.specs.declared.command.Select.{Select}
use Rattle.adg_base.specs.declared.answer.Cell.{Cell}
use Rattle.adg_base.specs.declared.answer.Reply.{Reply}
use Rattle.adg_base.specs.declared.answer.Reply.TheVariants as reply
use Rattle.adg_base.specs.declared.answer.Lines.{Lines}
use Rattle.adg_model.specs.Command.{Spells, command_bytes}
use Rattle.adg_model.specs.Database.{Rows, Table, rows_at, table_at, touched}
use Rattle.adg_model.specs.Query.{object_places}
use Rattle.adg_model.specs.Transcript.{texts_of, replies_to, is_abort, replies_that, is_aborted}
use Rattle.core_rules.specs.Share.{NotRedefined}
use Rattle.core_rules.specs.State.{ColumnUnit, Units}
use Rattle.core_rules.specs.Parts.{is_within}
use Rattle.core_rules.specs.UnitParts.{CoarseWithin}

-- whether a text populates an object, and the SCN at which a command that does was answered Populated
abbrev pub populates : ℕ → List ℕ → Bool
populates obj text = bytes_eq text (command_bytes (command.Populate obj))

abbrev pub populated_scn : Reply → Option ℕ
populated_scn (reply.Populated scn units) = Some scn
populated_scn other = None

-- a session's commands, each with its reply
abbrev pub Told : Type 0
Told = List ℕ × Reply

abbrev pub told_to : ℕ → List CommandText → Lines → List Told
told_to session commands lines = zip (texts_of session commands) (replies_to session lines.list)

-- the SCN of the last of some replies that says that an object is populated
abbrev pub populated_by : ℕ → Told → Option ℕ
populated_by obj told = if populates obj told.0 then populated_scn told.1 else None

abbrev pub or_earlier : Option ℕ → Option ℕ → Option ℕ
or_earlier None earlier = earlier
or_earlier (Some scn) earlier = Some scn

abbrev pub last_populated : ℕ → List Told → Option ℕ
last_populated obj [] = None
last_populated obj (told ∷ more) = or_earlier (last_populated obj more) (populated_by obj told)

-- What was before the delivery: at which SCN an object was populated last, and which objects never were.
pub record Before : Type 1 where
  pub populated : ℕ → ℕ → Type 0
  pub unpopulated : ℕ → Type 0

-- the object was populated last at this SCN: by one of these replies, else before the delivery
abbrev pub WasPopulated : Before → (obj scn : ℕ) → List Told → Type 0
WasPopulated earlier obj scn told = by_last (last_populated obj told)
  where
    by_last : Option ℕ → Type 0
    by_last None = earlier.populated obj scn
    by_last (Some last) = last ≡ scn

-- whether a command of the delivery is ABORT, and whether another session than this one, or any, has a POPULATE of an object
abbrev pub has_abort : List CommandText → Bool
has_abort commands = list_any is_abort commands

abbrev pub others_populate : (session obj : ℕ) → List CommandText → Bool
others_populate session obj commands = list_any (λ c. not (c.session == session) && populates obj c.text) commands

abbrev pub anyone_populates : ℕ → List CommandText → Bool
anyone_populates obj commands = list_any (λ c. populates obj c.text) commands

-- Nothing came between: no ABORT, no POPULATE of another session, no change of the object's definition, and no commit
-- that marks all units wholly.
pub record IsUndisturbed (log : List LogEntry) (frontier born session obj scn : ℕ) (commands : List CommandText) : Type 0 where
  pub no_abort : has_abort commands ≡ false
  pub alone : others_populate session obj commands ≡ false
  pub same : NotRedefined log obj scn frontier
  pub no_coarse : CoarseWithin log born scn frontier → ⊥

-- whether a transaction that touched an address committed above one SCN and at most at another
abbrev pub commit_touches : List LogEntry → Place → Vector → Bool
commit_touches log a (Commit t flag) = list_any (same_place a) (touched t log)
commit_touches log a other = false

abbrev pub is_touched : List LogEntry → (low high : ℕ) → Place → Bool
is_touched log low high a = list_any (λ e. is_within low high e.scn && commit_touches log a e.vector) log

-- how many rows of an object at an SCN were touched so
abbrev pub row_places : Rows → (obj extents : ℕ) → List Place
row_places rows obj extents = filter (λ a. is_some (rows a)) (object_places obj extents)

abbrev pub touched_rows : List LogEntry → (obj extents scn low high : ℕ) → ℕ
touched_rows log obj extents scn low high = length (filter (is_touched log low high) (row_places (rows_at log scn) obj extents))

-- a SELECT of a session that was answered with rows, and the replies to the session before it
pub record IsAnswered (log : List LogEntry) (commands : List CommandText) (lines : Lines) (session : ℕ) (earlier : List Told) (select : Select) (table : Table) (scn col row : ℕ) : Type 0 where
  pub text : List ℕ
  pub answer : List (List Cell)
  pub later : List Told
  pub stands : told_to session commands lines ≡ earlier ++ (text, reply.Rows scn answer col row) ∷ later
  pub spells : Spells text (command.Select select)
  pub defined : table_at log scn select.obj ≡ Some table

-- a POPULATE of a session that was answered Populated
pub record IsFilled (log : List LogEntry) (commands : List CommandText) (lines : Lines) (session obj : ℕ) (table : Table) (scn units : ℕ) : Type 0 where
  pub text : List ℕ
  pub earlier : List Told
  pub later : List Told
  pub stands : told_to session commands lines ≡ earlier ++ (text, reply.Populated scn units) ∷ later
  pub spells : Spells text (command.Populate obj)
  pub defined : table_at log scn obj ≡ Some table

-- the rows from blocks are at least those touched up to the SCN since the population, and at most those touched up to the frontier
pub record RowsAreTouched (log : List LogEntry) (frontier obj extents scn since row : ℕ) : Type 0 where
  pub least : touched_rows log obj extents scn since scn ≤ row
  pub most : row ≤ touched_rows log obj extents scn since frontier

-- Column use of the lines of a delivery, with the log and the frontier then, the QuerySCN with which it began, the
-- QuerySCN of the last restart before it, and what was before.
pub record ColumnUse (log : List LogEntry) (frontier floor born : ℕ) (before : Before) (commands : List CommandText) (lines : Lines) : Type 0 where
  pub rows : (session : ℕ) (earlier : List Told) (select : Select) (table : Table) (scn col row since : ℕ)
      → IsAnswered log commands lines session earlier select table scn col row → WasPopulated before select.obj since earlier
      → IsUndisturbed log frontier born session select.obj since commands → RowsAreTouched log frontier select.obj table.extents scn since row
  pub plain : (session : ℕ) (earlier : List Told) (select : Select) (table : Table) (scn col row : ℕ)
      → IsAnswered log commands lines session earlier select table scn col row → table.flag ≡ false → col ≡ 0
  pub unpopulated : (session : ℕ) (earlier : List Told) (select : Select) (table : Table) (scn col row : ℕ)
      → IsAnswered log commands lines session earlier select table scn col row → before.unpopulated select.obj → anyone_populates select.obj commands ≡ false → col ≡ 0
  pub units : (session obj : ℕ) (table : Table) (scn units : ℕ)
      → IsFilled log commands lines session obj table scn units → has_abort commands ≡ false → others_populate session obj commands ≡ false
      → NotRedefined log obj floor frontier → units ≡ table.extents

-- every extent that an object had at an SCN has a Ready unit with this snapshot
pub record IsReadyAt (scn : ℕ) (u : ColumnUnit) : Type 0 where
  pub ready : is_some u.columns ≡ true
  pub snapshot : u.snapshot ≡ scn

pub record HasReadyUnits (log : List LogEntry) (units : Units) (obj scn : ℕ) : Type 0 where
  pub table : Table
  pub defined : table_at log scn obj ≡ Some table
  pub each : (extent : ℕ) → extent < table.extents → (u : ColumnUnit) × (units obj extent ≡ Some u) × IsReadyAt scn u

-- no unit of an object stands
abbrev pub HasNoUnits : Units → ℕ → Type 0
HasNoUnits units obj = (extent : ℕ) → units obj extent ≡ None

-- what the units tell of what was before: populated at an SCN is an object each of whose extents has its Ready unit
abbrev pub told_by_units : List LogEntry → Units → Before
told_by_units log units = record { populated = HasReadyUnits log units; unpopulated = HasNoUnits units }

-- What stands after the lines of a delivery: the units of an object that was populated and not disturbed; none after
-- an abort, and none of an object that nobody populated. The QuerySCN of the last restart is the end where a command
-- was answered Aborted.
pub record UnitsAfter (log : List LogEntry) (frontier born : ℕ) (before : Before) (commands : List CommandText) (lines : Lines) (units : Units) (new_born : ℕ) : Type 0 where
  pub filled : (session obj scn : ℕ) → has_abort commands ≡ false → others_populate session obj commands ≡ false
      → WasPopulated before obj scn (told_to session commands lines) → NotRedefined log obj scn frontier → HasReadyUnits log units obj scn
  pub none : (obj : ℕ) → before.unpopulated obj → anyone_populates obj commands ≡ false → HasNoUnits units obj
  pub gone : 0 < replies_that is_aborted lines.list → (obj : ℕ) → HasNoUnits units obj
  pub restarted : 0 < replies_that is_aborted lines.list → new_born ≡ lines.end
  pub not_restarted : replies_that is_aborted lines.list ≡ 0 → new_born ≡ born
