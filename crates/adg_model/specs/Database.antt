-- What the entries of a log make, one after another: transactions, definitions and rows.
use Rattle.std.specs.Prelude.{ℕ, Bool, true, false, ◌==◌, ◌&&◌, ◌||◌, if◌then◌else◌, List, [], ◌∷◌, ◌++◌, map, filter, slice_get, Option, Some, None}
use Rattle.std.specs.List.{list_any, filter_map}
use Rattle.adg_base.specs.Address.{Place, place, same_place}
use Rattle.adg_base.specs.declared.value.ColKind.{ColKind}
use Rattle.adg_base.specs.declared.value.Value.{Value}
use Rattle.adg_base.specs.declared.vector.Vector.{Vector}
use Rattle.adg_base.specs.declared.vector.Vector.TheVariants.{Begin, Put, Delete, Undo, Commit, Abort, Create, DropObject, AddColumn, NoInMemory, EndThread}
use Rattle.adg_base.specs.declared.log.LogEntry.{LogEntry}
use Rattle.adg_model.specs.Log.{upto}

-- the rows by their addresses
abbrev pub Rows : Type 0
Rows = Place → Option (List Value)

-- a change at an address: the row that is set there, or None where the row is removed
pub record Change : Type 0 where
  pub at : Place
  pub row : Option (List Value)

-- the definition of an object: its extents, whether it is in-memory, and the kinds of its columns
pub record Table : Type 0 where
  pub extents : ℕ
  pub flag : Bool
  pub kinds : List ColKind

-- rows with one change made
abbrev pub changed : Change → Rows → Rows
changed c rows = λ a. if same_place a c.at then c.row else rows a

-- Pending changes stand with the latest first. Played onto rows, the earlier ones come first.
abbrev pub played : List Change → Rows → Rows
played [] rows = rows
played (c ∷ earlier) rows = changed c (played earlier rows)

-- pending changes without the latest one at an address
abbrev pub struck : Place → List Change → List Change
struck a [] = []
struck a (c ∷ earlier) = if same_place a c.at then earlier else c ∷ struck a earlier

abbrev pub has_change : Place → List Change → Bool
has_change a changes = list_any (λ c. same_place a c.at) changes

-- a function with another value at one number
abbrev pub set_at : {X : Type 0} → ℕ → X → (ℕ → X) → ℕ → X
set_at k x f = λ n. if n == k then x else f n

-- What the entries so far have made. Of each transaction: its pending changes, whether it was begun,
-- whether it has ended, and whether it put or deleted a row of an object that was in-memory then. Of
-- each object: whether it was created, and its definition, where it has one.
pub record Database : Type 0 where
  pub rows : Rows
  pub pending : ℕ → List Change
  pub begun : ℕ → Bool
  pub ended : ℕ → Bool
  pub noted : ℕ → Bool
  pub created : ℕ → Bool
  pub tables : ℕ → Option Table

abbrev pub no_database : Database
no_database = record {
  rows = λ a. None;
  pending = λ t. [];
  begun = λ t. false;
  ended = λ t. false;
  noted = λ t. false;
  created = λ o. false;
  tables = λ o. None;
}

abbrev pub is_in_memory : Option Table → Bool
is_in_memory None = false
is_in_memory (Some table) = table.flag

-- a change of a transaction becomes pending, and is noted where the object is in-memory
abbrev pub with_change : Database → ℕ → Change → Database
with_change db txn change = record db {
  pending = set_at txn (change ∷ db.pending txn) db.pending;
  noted = set_at txn (db.noted txn || is_in_memory (db.tables change.at.obj)) db.noted;
}

-- a transaction ends, and what was pending is forgotten
abbrev pub with_end : Database → ℕ → Database
with_end db txn = record db { pending = set_at txn [] db.pending; ended = set_at txn true db.ended }

abbrev pub with_column : Option Table → ColKind → Option Table
with_column None k = None
with_column (Some table) k = Some (record table { kinds = table.kinds ++ k ∷ [] })

abbrev pub without_flag : Option Table → Option Table
without_flag None = None
without_flag (Some table) = Some (record table { flag = false })

-- what one vector makes of it
abbrev pub after : Database → Vector → Database
after db (Begin txn) = record db { begun = set_at txn true db.begun }
after db (Put txn o b s row) = with_change db txn (record { at = place o b s; row = Some row })
after db (Delete txn o b s) = with_change db txn (record { at = place o b s; row = None })
after db (Undo txn o b s) = record db { pending = set_at txn (struck (place o b s) (db.pending txn)) db.pending }
after db (Commit txn flag) = with_end (record db { rows = played (db.pending txn) db.rows }) txn
after db (Abort txn) = with_end db txn
after db (Create o e f columns) = record db {
  created = set_at o true db.created;
  tables = set_at o (Some (record { extents = e; flag = f; kinds = columns })) db.tables;
}
after db (DropObject o) = record db { tables = set_at o None db.tables }
after db (AddColumn o k) = record db { tables = set_at o (with_column (db.tables o) k) db.tables }
after db (NoInMemory o) = record db { tables = set_at o (without_flag (db.tables o)) db.tables }
after db EndThread = db

-- the walk over a log
abbrev pub walked : Database → List LogEntry → Database
walked db [] = db
walked db (e ∷ es) = walked (after db e.vector) es

unfoldable pub database : List LogEntry → Database
database log = walked no_database log

-- the database at an SCN: what the entries with SCNs up to it make
abbrev pub database_at : List LogEntry → ℕ → Database
database_at log scn = database (upto scn log)

-- the rows committed at an SCN
abbrev pub rows_at : List LogEntry → ℕ → Rows
rows_at log scn = (database_at log scn).rows

-- the definition of an object at an SCN
abbrev pub table_at : List LogEntry → ℕ → ℕ → Option Table
table_at log scn obj = (database_at log scn).tables obj

-- the addresses that a transaction touched, struck or not
abbrev pub touched_by : ℕ → Vector → Option Place
touched_by t (Put txn o b s row) = if txn == t then Some (place o b s) else None
touched_by t (Delete txn o b s) = if txn == t then Some (place o b s) else None
touched_by t (Undo txn o b s) = if txn == t then Some (place o b s) else None
touched_by t other = None

abbrev pub touched : ℕ → List LogEntry → List Place
touched t log = filter_map (λ e. touched_by t e.vector) log

-- whether a vector commits a transaction, and the SCNs at which a log commits it
abbrev pub commits : ℕ → Vector → Bool
commits t (Commit txn flag) = txn == t
commits t other = false

abbrev pub commit_scns : ℕ → List LogEntry → List ℕ
commit_scns t log = map (λ e. e.scn) (filter (λ e. commits t e.vector) log)

-- the SCN at which a transaction is committed, where it is: a sound log commits it at most once
abbrev pub commit_scn : ℕ → List LogEntry → Option ℕ
commit_scn t log = slice_get (commit_scns t log) 0
