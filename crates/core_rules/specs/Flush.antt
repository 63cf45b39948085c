-- The events of a flush: BeginFlush, Claim, Collect, Touch, Done and Publish.
use Rattle.std.specs.Prelude.{◌≡◌, ℕ, ◌+◌, ◌<◌, ◌≤◌, nat_lt, nat_le, true, false, ◌||◌, List, [], ◌∷◌, ◌++◌, length, map, filter, slice_set, Option, Some, None, ◌⊎◌}
use Rattle.std.specs.List.{AllByRecursion, list_any, flat_map}
use Rattle.std.specs.List.Sorted.{IsPermutation, IsNonDecreasingBy}
use Rattle.adg_base.specs.Address.{Place}
use Rattle.adg_base.specs.Area.{Held, HoldsPlace, HoldsBegin}
use Rattle.adg_base.specs.Shard.{shard_of_unit}
use Rattle.adg_base.specs.declared.node.Node.{Node}
use Rattle.adg_base.specs.declared.node.Item.{Item}
use Rattle.adg_model.specs.Mined.{node_item, ddl_item}
use Rattle.core_rules.specs.Extents.{IsInExtent}
use Rattle.core_rules.specs.State.{CoreState, Worker, Idle, Flushing, Collected, Stage, Unclaimed, Claimed, Finished, Link, ColumnUnit, Units, At, is_flushing, is_unclaimed, is_finished, is_held_by, has_txn, has_change, has_coarse, has_drop, HasCollected}

-- A flush up to an SCN can begin where nobody keeps publication back, the SCN is above the QuerySCN, and all
-- workers have come to it.
pub record CanBeginFlush (c : CoreState) (through : ℕ) : Type 0 where
  pub idle : c.quiesce ≡ Idle
  pub above : c.query < through
  pub reached : AllByRecursion (λ w. through ≤ w.progress) c.workers

-- a worker without its nodes up to an SCN, and the nodes of all workers up to it
abbrev pub cut_worker : ℕ → Worker → Worker
cut_worker through w = record w { ends = filter (λ n. nat_lt through n.scn) w.ends }

abbrev pub nodes_upto : ℕ → List Worker → List Node
nodes_upto through workers = flat_map (λ w. filter (λ n. nat_le n.scn through) w.ends) workers

-- all worklinks have 64 items but the last, which has 1 to 64
abbrev pub AreFull : List (List Item) → Type 0
AreFull [] = Unit {0}
AreFull (p ∷ []) = (1 ≤ length p) × (length p ≤ 64)
AreFull (p ∷ q ∷ more) = (length p ≡ 64) × AreFull (q ∷ more)

-- items are chopped into worklinks, in their order
pub record AreChopped (items : List Item) (parts : List (List Item)) : Type 0 where
  pub whole : flat_map (λ part. part) parts ≡ items
  pub full : AreFull parts

abbrev pub unclaimed : List Item → Link
unclaimed items = record { items = items; stage = Unclaimed }

-- The nodes up to the SCN are cut, of all workers in the order of their positions, and those of the table of
-- changes of definitions behind them; their items are chopped into worklinks.
pub record BeginsFlush (c : CoreState) (through : ℕ) (new : CoreState) : Type 0 where
  pub can : CanBeginFlush c through
  pub nodes : List Node
  pub order : IsNonDecreasingBy (λ n. n.pos) nodes
  pub same : IsPermutation (nodes_upto through c.workers) nodes
  pub parts : List (List Item)
  pub chopped : AreChopped (map node_item nodes ++ map ddl_item (filter (λ n. nat_le n.scn through) c.ddl)) parts
  pub effect : new ≡ record c {
    workers = map (cut_worker through) c.workers;
    ddl = filter (λ n. nat_lt through n.scn) c.ddl;
    quiesce = Flushing through;
    links = map unclaimed parts;
  }

-- an actor: the coordinator or a worker
abbrev pub IsActor : CoreState → ℕ → Type 0
IsActor c actor = actor ≤ length c.workers

-- an actor can claim during a flush, where it has no worklink and one is unclaimed
pub record CanClaim (c : CoreState) (actor : ℕ) : Type 0 where
  pub known : IsActor c actor
  pub flushing : is_flushing c.quiesce ≡ true
  pub free : list_any (λ l. is_held_by actor l.stage) c.links ≡ false
  pub some : list_any (λ l. is_unclaimed l.stage) c.links ≡ true

-- the first unclaimed worklink
pub record IsFirstUnclaimed (links : List Link) (number : ℕ) (link : Link) : Type 0 where
  pub found : At links number link
  pub is : link.stage ≡ Unclaimed
  pub first : (n : ℕ) (l : Link) → n < number → At links n l → is_unclaimed l.stage ≡ false

-- It has the first unclaimed worklink, with the cursor at the first place.
pub record Claims (c : CoreState) (actor : ℕ) (new : CoreState) : Type 0 where
  pub can : CanClaim c actor
  pub number : ℕ
  pub link : Link
  pub first : IsFirstUnclaimed c.links number link
  pub effect : new ≡ record c { links = slice_set c.links number (record link { stage = Claimed actor 0 [] }) }

-- an actor of the core has a worklink, with this cursor and these collected lists
pub record HasLink (c : CoreState) (actor number : ℕ) (link : Link) (cursor : ℕ) (collected : List Collected) : Type 0 where
  pub known : IsActor c actor
  pub found : At c.links number link
  pub stage : link.stage ≡ Claimed actor cursor collected

-- the state with a worklink at another stage
abbrev pub with_stage : CoreState → ℕ → Link → Stage → CoreState
with_stage c number link stage = record c { links = slice_set c.links number (record link { stage = stage }) }

-- an actor can collect where its cursor is at an area
pub record CanCollect (c : CoreState) (actor : ℕ) : Type 0 where
  pub number : ℕ
  pub link : Link
  pub cursor : ℕ
  pub collected : List Collected
  pub has : HasLink c actor number link cursor collected
  pub area : cursor < length c.workers

-- an area gives out all that it holds of the transactions of some items, and keeps the rest
pub record AreaGives (items : List Item) (old new : List Held) : Type 0 where
  pub places_kept : (t : ℕ) (a : Place) → HoldsPlace old t a → has_txn t items ≡ false → HoldsPlace new t a
  pub places_only : (t : ℕ) (a : Place) → HoldsPlace new t a → HoldsPlace old t a × (has_txn t items ≡ false)
  pub begins_kept : (t : ℕ) → HoldsBegin old t → has_txn t items ≡ false → HoldsBegin new t
  pub begins_only : (t : ℕ) → HoldsBegin new t → HoldsBegin old t × (has_txn t items ≡ false)

-- what is collected gains the addresses that an area holds of the transactions of some items
pub record Gains (items : List Item) (area : List Held) (old new : List Collected) : Type 0 where
  pub kept : (t : ℕ) (a : Place) → HasCollected old t a → HasCollected new t a
  pub gained : (t : ℕ) (a : Place) → HoldsPlace area t a → has_txn t items ≡ true → HasCollected new t a
  pub only : (t : ℕ) (a : Place) → HasCollected new t a → HasCollected old t a ⊎ (HoldsPlace area t a × (has_txn t items ≡ true))

-- The area at the cursor gives out what it holds of the worklink's transactions, and the cursor goes on.
pub record Collects (c : CoreState) (actor : ℕ) (new : CoreState) : Type 0 where
  pub number : ℕ
  pub link : Link
  pub cursor : ℕ
  pub collected : List Collected
  pub has : HasLink c actor number link cursor collected
  pub was : Worker
  pub at : At c.workers cursor was
  pub area : List Held
  pub gives : AreaGives link.items was.area area
  pub more : List Collected
  pub gains : Gains link.items was.area collected more
  pub effect : new ≡ record (with_stage c number link (Claimed actor (cursor + 1) more)) {
    workers = slice_set c.workers cursor (record was { area = area });
  }

-- an actor can touch where its cursor is at one of the 32 unit shards
pub record CanTouch (c : CoreState) (actor : ℕ) : Type 0 where
  pub number : ℕ
  pub link : Link
  pub cursor : ℕ
  pub collected : List Collected
  pub has : HasLink c actor number link cursor collected
  pub from : length c.workers ≤ cursor
  pub below : cursor < length c.workers + 32

-- an address of an extent was collected for a transaction whose changes are to be marked
pub record Marks (items : List Item) (collected : List Collected) (obj extent : ℕ) (a : Place) : Type 0 where
  pub txn : ℕ
  pub change : has_change txn items ≡ true
  pub noted : HasCollected collected txn a
  pub within : IsInExtent obj extent a

-- a unit gets the marks that a worklink asks for, and is else as it was
pub record IsMarked (items : List Item) (collected : List Collected) (obj extent : ℕ) (old new : ColumnUnit) : Type 0 where
  pub same : new ≡ record old { marked = new.marked; all = new.all }
  pub all : new.all ≡ (old.all || has_coarse items)
  pub kept : (a : Place) → old.marked a ≡ true → new.marked a ≡ true
  pub gained : (a : Place) → Marks items collected obj extent a → new.marked a ≡ true
  pub only : (a : Place) → new.marked a ≡ true → (old.marked a ≡ true) ⊎ Marks items collected obj extent a

-- where a unit stands it is dropped if an item says so, else marked; where none stands none does afterwards
pub record IsKeptMarked (items : List Item) (collected : List Collected) (obj extent : ℕ) (old : ColumnUnit) (new : Option ColumnUnit) : Type 0 where
  pub kept : has_drop obj items ≡ false
  pub unit : ColumnUnit
  pub stands : new ≡ Some unit
  pub marked : IsMarked items collected obj extent old unit

abbrev pub IsTouched : List Item → List Collected → (obj extent : ℕ) → Option ColumnUnit → Option ColumnUnit → Type 0
IsTouched items collected obj extent None new = new ≡ None
IsTouched items collected obj extent (Some old) new =
    ((has_drop obj items ≡ true) × (new ≡ None)) ⊎ IsKeptMarked items collected obj extent old new

-- The units of the shard at the cursor are dropped or marked, all others stay, and the cursor goes on.
pub record Touches (c : CoreState) (actor : ℕ) (new : CoreState) : Type 0 where
  pub number : ℕ
  pub link : Link
  pub cursor : ℕ
  pub collected : List Collected
  pub has : HasLink c actor number link cursor collected
  pub shard : ℕ
  pub at : cursor ≡ length c.workers + shard
  pub is_shard : shard < 32
  pub units : Units
  pub touched : (obj extent : ℕ) → shard_of_unit obj extent ≡ shard → IsTouched link.items collected obj extent (c.units obj extent) (units obj extent)
  pub others : (obj extent : ℕ) → (shard_of_unit obj extent ≡ shard → ⊥) → units obj extent ≡ c.units obj extent
  pub effect : new ≡ record (with_stage c number link (Claimed actor (cursor + 1) collected)) { units = units }

-- an actor can be done where its cursor is behind all places
pub record CanFinish (c : CoreState) (actor : ℕ) : Type 0 where
  pub number : ℕ
  pub link : Link
  pub cursor : ℕ
  pub collected : List Collected
  pub has : HasLink c actor number link cursor collected
  pub end : cursor ≡ length c.workers + 32

pub record Finishes (c : CoreState) (actor : ℕ) (new : CoreState) : Type 0 where
  pub number : ℕ
  pub link : Link
  pub cursor : ℕ
  pub collected : List Collected
  pub has : HasLink c actor number link cursor collected
  pub end : cursor ≡ length c.workers + 32
  pub effect : new ≡ with_stage c number link Finished

-- a flush can be published where every worklink is done
pub record CanPublish (c : CoreState) : Type 0 where
  pub through : ℕ
  pub flushing : c.quiesce ≡ Flushing through
  pub done : AllByRecursion (λ l. is_finished l.stage ≡ true) c.links

-- Its SCN is the QuerySCN, and the worklinks are gone.
pub record Publishes (c : CoreState) (new : CoreState) : Type 0 where
  pub through : ℕ
  pub flushing : c.quiesce ≡ Flushing through
  pub done : AllByRecursion (λ l. is_finished l.stage ≡ true) c.links
  pub effect : new ≡ record c { query = through; quiesce = Idle; links = [] }
