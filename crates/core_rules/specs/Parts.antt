-- The parts of the invariant that speak of the log, the workers and the flush. Each is said of just the numbers and
-- lists that it reads.
use Rattle.std.specs.Prelude.{◌≡◌, ℕ, ◌+◌, ◌<◌, ◌≤◌, nat_lt, nat_le, Bool, true, ◌&&◌, List, [], ◌∷◌, ◌++◌, length, take, drop, map, filter, Some, ◌⊎◌}
use Rattle.std.specs.List.{Contains, AllByRecursion, flat_map}
use Rattle.std.specs.List.Sorted.{IsPermutation}
use Rattle.adg_base.specs.Address.{Place}
use Rattle.adg_base.specs.Area.{Held, HoldsPlace, HoldsBegin}
use Rattle.adg_base.specs.Shard.{shard_of_vector}
use Rattle.adg_base.specs.declared.log.LogEntry.{LogEntry}
use Rattle.adg_base.specs.declared.node.Node.{Node}
use Rattle.adg_base.specs.declared.node.DdlNode.{DdlNode}
use Rattle.adg_base.specs.declared.node.Item.{Item}
use Rattle.adg_model.specs.Mined.{node_item, ddl_item}
use Rattle.core_rules.specs.Share.{share, nodes_of, ddl_in, NotedIn, BegunIn, EndedWithin}
use Rattle.core_rules.specs.State.{Shard, Quiesce, Idle, Shared, Flushing, Collected, Stage, Claimed, Link, At, is_unclaimed, is_held_by, has_txn, HasCollected, PassesTxn}

-- Numbers: the QuerySCN is not below the one of the last restart, and what is cut is not below the QuerySCN and
-- not above the frontier.
pub record NumbersAre (born query limit frontier : ℕ) : Type 0 where
  pub restarted : born ≤ query
  pub published : query ≤ limit
  pub cut : limit ≤ frontier

-- Quiesce: as many sessions hold publication back as it says, none during a flush; a flush goes up to an SCN above
-- the QuerySCN; and there are worklinks during a flush alone.
abbrev pub QuiesceIs : Quiesce → (query holders : ℕ) → List Link → Type 0
QuiesceIs Idle query holders links = (holders ≡ 0) × (links ≡ [])
QuiesceIs (Shared n) query holders links = (holders ≡ n) × (1 ≤ n) × (links ≡ [])
QuiesceIs (Flushing through) query holders links = (holders ≡ 0) × (query < through)

-- Shards: there are 64, none is beyond the log, and nothing is dropped from them.
pub record ShardsAre (log : List LogEntry) (shards : List Shard) : Type 0 where
  pub count : length shards ≡ 64
  pub within : (n : ℕ) (s : Shard) → At shards n s → s.applied ≤ length log
  pub floor : (n : ℕ) (s : Shard) → At shards n s → s.floor ≡ 0

-- Of a worker, with the entries of its share:
-- Counts: no more is mined than applied, no more applied than there is, and what is not mined is above the progress.
pub record CountsAre (entries : List LogEntry) (applied mined progress : ℕ) : Type 0 where
  pub behind : mined ≤ applied
  pub within : applied ≤ length entries
  pub above : AllByRecursion (λ e. progress < e.scn) (drop mined entries)

-- Progress: it is not below what is cut and not above the frontier.
pub record ProgressIs (limit frontier progress : ℕ) : Type 0 where
  pub reached : limit ≤ progress
  pub received : progress ≤ frontier

-- Applied: the applied entries of the share lie below the applied positions of their shards.
abbrev pub AppliedAre : List LogEntry → List Shard → Type 0
AppliedAre entries shards =
    (e : LogEntry) → Contains entries e → (n : ℕ) (s : Shard) → shard_of_vector e.vector ≡ Some n → At shards n s → e.pos < s.applied

-- A transaction is gone from the area at a place where its end is cut and published since the last restart, or
-- where its worklink is past the place.
abbrev pub IsGone : List LogEntry → (born query : ℕ) → List Link → (place t : ℕ) → Type 0
IsGone log born query links place t = EndedWithin log born query t ⊎ PassesTxn links place t

-- Area: it holds exactly what these entries, the mined ones of the share, note above the SCN of the last restart for
-- transactions that are not gone from it.
pub record AreaIs (log : List LogEntry) (born query : ℕ) (links : List Link) (place : ℕ) (entries : List LogEntry) (area : List Held) : Type 0 where
  pub noted : (t : ℕ) (a : Place) → HoldsPlace area t a → NotedIn log born entries t a
  pub stays : (t : ℕ) (a : Place) → HoldsPlace area t a → IsGone log born query links place t → ⊥
  pub holds : (t : ℕ) (a : Place) → NotedIn log born entries t a → (IsGone log born query links place t → ⊥) → HoldsPlace area t a
  pub begun : (t : ℕ) → HoldsBegin area t → BegunIn born entries t
  pub begin_stays : (t : ℕ) → HoldsBegin area t → IsGone log born query links place t → ⊥
  pub holds_begin : (t : ℕ) → BegunIn born entries t → (IsGone log born query links place t → ⊥) → HoldsBegin area t

-- Partition: it has exactly the nodes of these entries, the mined ones of the share, that are not cut, in their order.
abbrev pub PartitionIs : List LogEntry → (born limit : ℕ) → List LogEntry → List Node → Type 0
PartitionIs log born limit entries ends = ends ≡ filter (λ n. nat_lt limit n.scn) (nodes_of log born entries)

-- the first so many entries of each share, one share after another from a place on
abbrev pub mined_from : (workers place : ℕ) → List LogEntry → List ℕ → List LogEntry
mined_from workers place log [] = []
mined_from workers place log (n ∷ ns) = take n (share workers place log) ++ mined_from workers (place + 1) log ns

-- nodes in the order of their SCNs
abbrev pub AreByScn : List DdlNode → Type 0
AreByScn [] = Unit {0}
AreByScn (n ∷ ns) = AllByRecursion (λ m. n.scn ≤ m.scn) ns × AreByScn ns

-- Changes of definitions: the table has exactly the nodes of these entries, the mined ones of all shares, that are
-- not cut, in the order of their SCNs.
pub record DdlIs (limit : ℕ) (entries : List LogEntry) (ddl : List DdlNode) : Type 0 where
  pub same : IsPermutation (filter (λ n. nat_lt limit n.scn) (ddl_in entries)) ddl
  pub order : AreByScn ddl

-- the items of the ends and of the changes of definitions above an SCN and at most at another
abbrev pub is_within : (low high scn : ℕ) → Bool
is_within low high scn = nat_lt low scn && nat_le scn high

abbrev pub flush_nodes : List LogEntry → (born low high : ℕ) → List LogEntry → List Node
flush_nodes log born low high entries = filter (λ n. is_within low high n.scn) (nodes_of log born entries)

abbrev pub flush_ddl : (low high : ℕ) → List LogEntry → List DdlNode
flush_ddl low high entries = filter (λ n. is_within low high n.scn) (ddl_in entries)

abbrev pub flush_items : List LogEntry → (born low high : ℕ) → List LogEntry → List Item
flush_items log born low high entries = map node_item (flush_nodes log born low high entries) ++ map ddl_item (flush_ddl low high entries)

abbrev pub items_of : List Link → List (List Item)
items_of links = map (λ l. l.items) links

-- Items: the worklinks have one item for each end and each change of a definition that is cut and not published, in
-- some order, and no other; and the items of one transaction lie in one worklink.
pub record ItemsAre (log : List LogEntry) (born query limit : ℕ) (entries : List LogEntry) (parts : List (List Item)) : Type 0 where
  pub once : IsPermutation (flush_items log born query limit entries) (flat_map (λ part. part) parts)
  pub together : (i j : ℕ) (x y : List Item) (t : ℕ) → At parts i x → At parts j y → has_txn t x ≡ true → has_txn t y ≡ true → i ≡ j

abbrev pub stages_of : List Link → List Stage
stages_of links = map (λ l. l.stage) links

-- Claims: an actor holds at most one worklink, the unclaimed ones are the last, and who holds one is an actor, with
-- its cursor at a place or behind the last.
pub record ClaimsAre (workers : ℕ) (stages : List Stage) : Type 0 where
  pub alone : (i j : ℕ) (x y : Stage) (actor : ℕ) → At stages i x → At stages j y → is_held_by actor x ≡ true → is_held_by actor y ≡ true → i ≡ j
  pub last : (i j : ℕ) (x y : Stage) → i < j → At stages i x → At stages j y → is_unclaimed x ≡ true → is_unclaimed y ≡ true
  pub bounds : (i actor cursor : ℕ) (collected : List Collected) → At stages i (Claimed actor cursor collected) → (actor ≤ workers) × (cursor ≤ workers + 32)

-- an address was noted for a transaction above an SCN in the share of a worker below a place
pub record NotedBelow (log : List LogEntry) (born workers cursor t : ℕ) (a : Place) : Type 0 where
  pub worker : ℕ
  pub known : worker < workers
  pub below : worker < cursor
  pub noted : NotedIn log born (share workers worker log) t a

-- Collected: a held worklink has exactly what was noted for its transactions in the shares of the workers below its
-- cursor.
pub record CollectedAre (log : List LogEntry) (born workers : ℕ) (items : List Item) (cursor : ℕ) (collected : List Collected) : Type 0 where
  pub of : (t : ℕ) (a : Place) → HasCollected collected t a → has_txn t items ≡ true
  pub noted : (t : ℕ) (a : Place) → HasCollected collected t a → NotedBelow log born workers cursor t a
  pub all : (t : ℕ) (a : Place) → has_txn t items ≡ true → NotedBelow log born workers cursor t a → HasCollected collected t a

abbrev pub AllCollected : List LogEntry → (born workers : ℕ) → List Link → Type 0
AllCollected log born workers links =
    (n : ℕ) (l : Link) (actor cursor : ℕ) (collected : List Collected) → At links n l → l.stage ≡ Claimed actor cursor collected
    → CollectedAre log born workers l.items cursor collected
