-- The state of the core.
use Rattle.std.specs.Prelude.{◌≡◌, ℕ, ◌+◌, ◌-◌, nat_lt, nat_le, Bool, true, false, ◌==◌, ◌&&◌, if◌then◌else◌, List, [], replicate, length, slice_get, count_by, Option, Some, None}
use Rattle.std.specs.List.{Contains, list_any}
use Rattle.adg_base.specs.Address.{Place}
use Rattle.adg_base.specs.Area.{Held}
use Rattle.adg_base.specs.declared.value.Value.{Value}
use Rattle.adg_base.specs.declared.placed.PlacedRow.{PlacedRow}
use Rattle.adg_base.specs.declared.log.LogEntry.{LogEntry}
use Rattle.adg_base.specs.declared.node.Node.{Node}
use Rattle.adg_base.specs.declared.node.DdlNode.{DdlNode}
use Rattle.adg_base.specs.declared.node.Item.{Item}
use Rattle.adg_base.specs.declared.node.Item.TheVariants as item
use Rattle.adg_base.specs.declared.command.Select.{Select}
use Rattle.adg_model.specs.Database.{Table}
use Rattle.core_rules.specs.Share.{share}

-- A worker: how many entries of its share it has applied and mined, the SCN up to which all of the share is
-- mined, its area of the journal, and its part of the commit table.
pub record Worker : Type 0 where
  pub applied : ℕ
  pub mined : ℕ
  pub progress : ℕ
  pub area : List Held
  pub ends : List Node

-- A shard of the row store: its own entries below one position are applied, and what it holds serves SCNs from
-- the floor on. Nothing is dropped from it yet, so the floor is 0.
pub record Shard : Type 0 where
  pub applied : ℕ
  pub floor : ℕ

-- publication and populations keep each other out: so many populations hold it, or a flush up to an SCN does
pub data Quiesce : Type 0 where
  Idle : Quiesce
  Shared : ℕ → Quiesce
  Flushing : ℕ → Quiesce

-- the addresses that a worklink has collected for a transaction
pub record Collected : Type 0 where
  pub txn : ℕ
  pub places : List Place

-- where a worklink stands: nobody has it; an actor has it, its cursor, and what it has collected; it is done
pub data Stage : Type 0 where
  Unclaimed : Stage
  Claimed : ℕ → ℕ → List Collected → Stage
  Finished : Stage

pub record Link : Type 0 where
  pub items : List Item
  pub stage : Stage

-- A column unit of an extent, as of its snapshot: its rows where it is Ready, none where it is Loading; the
-- addresses that are marked as changed since, or all of them.
pub record ColumnUnit : Type 0 where
  pub snapshot : ℕ
  pub ticket : ℕ
  pub columns : Option (List PlacedRow)
  pub marked : Place → Bool
  pub all : Bool

-- the unit that stands for an extent of an object: the first number is the object's, the second the extent's
abbrev pub Units : Type 0
Units = ℕ → ℕ → Option ColumnUnit

-- A population: its object with the definition at the snapshot; whether it still holds publication back; of how
-- many extents the units are registered; the extent at hand, how many blocks of it are read, and their rows; and
-- of how many extents the columns were installed.
pub record Population : Type 0 where
  pub obj : ℕ
  pub snapshot : ℕ
  pub ticket : ℕ
  pub table : Table
  pub holds : Bool
  pub registered : ℕ
  pub extent : ℕ
  pub blocks : ℕ
  pub read : List PlacedRow
  pub installed : ℕ

-- A scan: its SELECT, its SCN and the definition of the object then; of how many extents the rows are gathered,
-- these rows, and how many of them came from units and how many from blocks.
pub record Scan : Type 0 where
  pub select : Select
  pub scn : ℕ
  pub table : Table
  pub extents : ℕ
  pub rows : List (List Value)
  pub col : ℕ
  pub row : ℕ

-- a session has at most one of the two
pub data Session : Type 0 where
  Free : Session
  Populating : Population → Session
  Scanning : Scan → Session

-- The state: the log and the frontier, the QuerySCN, the QuerySCN of the last restart, the workers, the shards of
-- the row store, the table of changes of definitions, who keeps publication back, the worklinks, the column
-- units, the sessions, and a ticket above all that were taken.
pub record CoreState : Type 0 where
  pub log : List LogEntry
  pub frontier : ℕ
  pub query : ℕ
  pub born : ℕ
  pub workers : List Worker
  pub shards : List Shard
  pub ddl : List DdlNode
  pub quiesce : Quiesce
  pub links : List Link
  pub units : Units
  pub sessions : List Session
  pub ticket : ℕ

-- the element at a place of a list
abbrev pub At : {X : Type 0} → List X → ℕ → X → Type 0
At xs n x = slice_get xs n ≡ Some x

-- the share of a worker of the core
abbrev pub share_of : CoreState → ℕ → List LogEntry
share_of c worker = share (length c.workers) worker c.log

-- whether a flush goes on, and the SCN up to which ends are cut: the flush's own while one goes on, else the QuerySCN
abbrev pub is_flushing : Quiesce → Bool
is_flushing Idle = false
is_flushing (Shared n) = false
is_flushing (Flushing through) = true

abbrev pub cut_through : ℕ → Quiesce → ℕ
cut_through query Idle = query
cut_through query (Shared n) = query
cut_through query (Flushing through) = through

abbrev pub limit : CoreState → ℕ
limit c = cut_through c.query c.quiesce

-- one holder more, and one less
abbrev pub held_once_more : Quiesce → Quiesce
held_once_more Idle = Shared 1
held_once_more (Shared n) = Shared (n + 1)
held_once_more (Flushing through) = Flushing through

abbrev pub held_once_less : Quiesce → Quiesce
held_once_less Idle = Idle
held_once_less (Shared n) = if nat_le n 1 then Idle else Shared (n - 1)
held_once_less (Flushing through) = Flushing through

-- whether a session holds publication back, and how many do
abbrev pub holds_back : Session → Bool
holds_back Free = false
holds_back (Populating p) = p.holds
holds_back (Scanning s) = false

abbrev pub holders : List Session → ℕ
holders sessions = count_by holds_back sessions

-- whether a worklink is unclaimed, is done, and is held by an actor
abbrev pub is_unclaimed : Stage → Bool
is_unclaimed Unclaimed = true
is_unclaimed (Claimed actor cursor collected) = false
is_unclaimed Finished = false

abbrev pub is_finished : Stage → Bool
is_finished Unclaimed = false
is_finished (Claimed actor cursor collected) = false
is_finished Finished = true

abbrev pub is_held_by : ℕ → Stage → Bool
is_held_by actor Unclaimed = false
is_held_by actor (Claimed holder cursor collected) = holder == actor
is_held_by actor Finished = false

-- The cursor goes along one line of places: first the area of each worker, and behind them the unit shards. A
-- worklink is past a place where it has done its work there.
abbrev pub is_past : ℕ → Stage → Bool
is_past place Unclaimed = false
is_past place (Claimed actor cursor collected) = nat_lt place cursor
is_past place Finished = true

-- whether an item is of a transaction, whether it asks for the transaction's marks, whether it marks all units
-- wholly, and whether it drops an object's units
abbrev pub is_item_of : ℕ → Item → Bool
is_item_of t (item.Change txn) = txn == t
is_item_of t (item.Coarse txn) = txn == t
is_item_of t (item.Forget txn) = txn == t
is_item_of t (item.DropObject obj) = false

abbrev pub is_change_of : ℕ → Item → Bool
is_change_of t (item.Change txn) = txn == t
is_change_of t other = false

abbrev pub is_coarse : Item → Bool
is_coarse (item.Coarse txn) = true
is_coarse other = false

abbrev pub is_drop_of : ℕ → Item → Bool
is_drop_of o (item.DropObject obj) = obj == o
is_drop_of o other = false

-- whether one of some items is so
abbrev pub has_txn : ℕ → List Item → Bool
has_txn t items = list_any (is_item_of t) items

abbrev pub has_change : ℕ → List Item → Bool
has_change t items = list_any (is_change_of t) items

abbrev pub has_coarse : List Item → Bool
has_coarse items = list_any is_coarse items

abbrev pub has_drop : ℕ → List Item → Bool
has_drop o items = list_any (is_drop_of o) items

-- a worklink has collected this address for this transaction
pub record HasCollected (collected : List Collected) (t : ℕ) (a : Place) : Type 0 where
  pub entry : Collected
  pub within : Contains collected entry
  pub of : entry.txn ≡ t
  pub noted : Contains entry.places a

-- a worklink with an item of a transaction is past a place
pub record PassesTxn (links : List Link) (place t : ℕ) : Type 0 where
  pub number : ℕ
  pub link : Link
  pub found : At links number link
  pub past : is_past place link.stage ≡ true
  pub of : has_txn t link.items ≡ true

-- a worklink that drops an object's units is past a place
pub record PassesDrop (links : List Link) (place obj : ℕ) : Type 0 where
  pub number : ℕ
  pub link : Link
  pub found : At links number link
  pub past : is_past place link.stage ≡ true
  pub of : has_drop obj link.items ≡ true

-- whether an area holds that a transaction's beginning was noted
abbrev pub holds_begin : List Held → ℕ → Bool
holds_begin area t = list_any (λ h. (h.txn == t) && h.begun) area

-- the state with which all begins, of so many workers and sessions
abbrev pub idle_worker : Worker
idle_worker = record { applied = 0; mined = 0; progress = 0; area = []; ends = [] }

abbrev pub empty_shard : Shard
empty_shard = record { applied = 0; floor = 0 }

abbrev pub no_units : Units
no_units = λ obj extent. None

abbrev pub opening : (workers sessions : ℕ) → CoreState
opening workers sessions = record {
  log = [];
  frontier = 0;
  query = 0;
  born = 0;
  workers = replicate workers idle_worker;
  shards = replicate 64 empty_shard;
  ddl = [];
  quiesce = Idle;
  links = [];
  units = no_units;
  sessions = replicate sessions Free;
  ticket = 0;
}
