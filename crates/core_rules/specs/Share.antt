-- The share of a worker, and what its entries leave behind when they are mined.
use Rattle.std.specs.Prelude.{◌≡◌, ℕ, ◌+◌, ◌<◌, ◌≤◌, ◌%◌, Bool, true, false, nat_lt, ◌==◌, ◌&&◌, if◌then◌else◌, List, [], ◌∷◌, filter, Option, Some, None}
use Rattle.std.specs.List.{Contains, list_any, filter_map, flat_map, range_with_len}
use Rattle.adg_base.specs.Address.{Place}
use Rattle.adg_base.specs.Shard.{shard_of_vector}
use Rattle.adg_base.specs.declared.vector.Vector.{Vector}
use Rattle.adg_base.specs.declared.vector.Vector.TheVariants.{Begin, Commit, Abort, DropObject, AddColumn, NoInMemory}
use Rattle.adg_base.specs.declared.log.LogEntry.{LogEntry}
use Rattle.adg_base.specs.declared.node.Node.{Node}
use Rattle.adg_base.specs.declared.node.NodeKind.TheVariants as node
use Rattle.adg_base.specs.declared.node.DdlNode.{DdlNode}
use Rattle.adg_model.specs.declared.mined.Mined.TheVariants as mined
use Rattle.adg_model.specs.Mined.{mined_of}

-- whether a shard, if there is one, is of a worker's share; so many workers share the shards
abbrev pub is_shared_by : (workers worker : ℕ) → Option ℕ → Bool
is_shared_by workers worker None = false
is_shared_by workers worker (Some shard) = shard % workers == worker

-- the share of a worker: the entries of the shards that are its own, in log order
abbrev pub share : (workers worker : ℕ) → List LogEntry → List LogEntry
share workers worker log = filter (λ e. is_shared_by workers worker (shard_of_vector e.vector)) log

-- all shares, one after another
abbrev pub shares : ℕ → List LogEntry → List LogEntry
shares workers log = flat_map (λ worker. share workers worker log) (range_with_len 0 workers)

-- the place of the first entry with an SCN above this one; the length where there is none
abbrev pub first_above : ℕ → List LogEntry → ℕ
first_above scn [] = 0
first_above scn (e ∷ es) = if nat_lt scn e.scn then 0 else first_above scn es + 1

-- whether a vector begins a transaction, ends it, and changes the definition of an object after its creation
abbrev pub begins : ℕ → Vector → Bool
begins t (Begin txn) = txn == t
begins t other = false

abbrev pub ends : ℕ → Vector → Bool
ends t (Commit txn flag) = txn == t
ends t (Abort txn) = txn == t
ends t other = false

abbrev pub redefines : ℕ → Vector → Bool
redefines o (DropObject obj) = obj == o
redefines o (AddColumn obj kind) = obj == o
redefines o (NoInMemory obj) = obj == o
redefines o other = false

-- whether a transaction began above an SCN
abbrev pub begun_above : List LogEntry → ℕ → ℕ → Bool
begun_above log scn t = list_any (λ e. begins t e.vector && nat_lt scn e.scn) log

-- The node of an entry that ends a transaction: the caller says of a transaction whether all of its changes
-- were noted.
abbrev pub node_by : (ℕ → Bool) → (scn pos : ℕ) → Vector → Option Node
node_by complete scn pos (Commit txn flag) =
    Some (record { scn = scn; pos = pos; txn = txn; complete = complete txn; kind = node.Committed flag })
node_by complete scn pos (Abort txn) = Some (record { scn = scn; pos = pos; txn = txn; complete = complete txn; kind = node.Aborted })
node_by complete scn pos other = None

abbrev pub node_of : (ℕ → Bool) → LogEntry → Option Node
node_of complete e = node_by complete e.scn e.pos e.vector

-- The nodes of entries: complete are the transactions that began above the SCN of the last restart.
abbrev pub nodes_of : List LogEntry → ℕ → List LogEntry → List Node
nodes_of log born entries = filter_map (node_of (begun_above log born)) entries

-- the node of an entry that changes a definition
abbrev pub ddl_by : ℕ → Vector → Option DdlNode
ddl_by scn (DropObject obj) = Some (record { scn = scn; obj = obj })
ddl_by scn (AddColumn obj kind) = Some (record { scn = scn; obj = obj })
ddl_by scn (NoInMemory obj) = Some (record { scn = scn; obj = obj })
ddl_by scn other = None

abbrev pub ddl_of : LogEntry → Option DdlNode
ddl_of e = ddl_by e.scn e.vector

abbrev pub ddl_in : List LogEntry → List DdlNode
ddl_in entries = filter_map ddl_of entries

-- one of these entries is above an SCN and notes an address for a transaction
pub record NotedIn (log : List LogEntry) (born : ℕ) (entries : List LogEntry) (t : ℕ) (a : Place) : Type 0 where
  pub entry : LogEntry
  pub within : Contains entries entry
  pub above : born < entry.scn
  pub notes : mined_of log entry ≡ Some (mined.Note t a)

-- one of these entries is above an SCN and begins a transaction
pub record BegunIn (born : ℕ) (entries : List LogEntry) (t : ℕ) : Type 0 where
  pub entry : LogEntry
  pub within : Contains entries entry
  pub above : born < entry.scn
  pub begin : begins t entry.vector ≡ true

-- a transaction ended with an SCN above one and at most another
pub record EndedWithin (log : List LogEntry) (low high t : ℕ) : Type 0 where
  pub entry : LogEntry
  pub within : Contains log entry
  pub above : low < entry.scn
  pub upto : entry.scn ≤ high
  pub end : ends t entry.vector ≡ true

-- a transaction committed at an SCN
pub record CommitsAt (log : List LogEntry) (t scn : ℕ) : Type 0 where
  pub entry : LogEntry
  pub flag : Bool
  pub within : Contains log entry
  pub commits : entry.vector ≡ Commit t flag
  pub at : entry.scn ≡ scn

-- an object's definition did not change after its creation at an SCN above one and at most another
abbrev pub NotRedefined : List LogEntry → (obj low high : ℕ) → Type 0
NotRedefined log obj low high = (e : LogEntry) → Contains log e → redefines obj e.vector ≡ true → low < e.scn → e.scn ≤ high → ⊥
