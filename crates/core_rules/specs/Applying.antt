-- The events Apply, Mine and Raise of a worker, and the receiving of redo: of each, when it can happen, and what
-- it makes of the state.
use Rattle.std.specs.Prelude.{◌≡◌, ℕ, ◌+◌, ◌<◌, ◌≤◌, max, nat_le, Bool, if◌then◌else◌, List, [], ◌∷◌, ◌++◌, length, drop, slice_set, Option, Some, None, option_to_list, ◌⊎◌}
use Rattle.std.specs.List.{AllByRecursion}
use Rattle.adg_base.specs.Address.{Place}
use Rattle.adg_base.specs.Shard.{shard_of_vector}
use Rattle.adg_base.specs.Area.{Held, HoldsPlace, HoldsBegin}
use Rattle.adg_base.specs.declared.log.LogEntry.{LogEntry}
use Rattle.adg_base.specs.declared.node.Node.{Node}
use Rattle.adg_base.specs.declared.node.NodeKind.{NodeKind}
use Rattle.adg_base.specs.declared.node.NodeKind.TheVariants as node
use Rattle.adg_base.specs.declared.node.DdlNode.{DdlNode}
use Rattle.adg_model.specs.declared.mined.Mined.{Mined}
use Rattle.adg_model.specs.declared.mined.Mined.TheVariants as mined
use Rattle.adg_model.specs.Mined.{mined_of}
use Rattle.adg_model.specs.Sound.{IsContinuation}
use Rattle.core_rules.specs.State.{CoreState, Worker, Shard, At, share_of, holds_begin}

-- a worker can apply where an entry of its share is not applied
pub record CanApply (c : CoreState) (worker : ℕ) : Type 0 where
  pub was : Worker
  pub found : At c.workers worker was
  pub left : was.applied < length (share_of c worker)

-- The next entry is applied at its shard, or skipped where the shard has it already.
pub record Applies (c : CoreState) (worker : ℕ) (new : CoreState) : Type 0 where
  pub was : Worker
  pub found : At c.workers worker was
  pub entry : LogEntry
  pub next : At (share_of c worker) was.applied entry
  pub place : ℕ
  pub own : shard_of_vector entry.vector ≡ Some place
  pub shard : Shard
  pub at : At c.shards place shard
  pub effect : new ≡ record c {
    workers = slice_set c.workers worker (record was { applied = was.applied + 1 });
    shards = slice_set c.shards place (record shard { applied = max shard.applied (entry.pos + 1) });
  }

-- a worker can mine where an entry is applied and not mined
pub record CanMine (c : CoreState) (worker : ℕ) : Type 0 where
  pub was : Worker
  pub found : At c.workers worker was
  pub behind : was.mined < was.applied

-- an area takes what a mined entry notes, and keeps what it holds
pub record AreaTakes (what : Option Mined) (old new : List Held) : Type 0 where
  pub places_kept : (t : ℕ) (a : Place) → HoldsPlace old t a → HoldsPlace new t a
  pub places_new : (t : ℕ) (a : Place) → what ≡ Some (mined.Note t a) → HoldsPlace new t a
  pub places_only : (t : ℕ) (a : Place) → HoldsPlace new t a → HoldsPlace old t a ⊎ (what ≡ Some (mined.Note t a))
  pub begins_kept : (t : ℕ) → HoldsBegin old t → HoldsBegin new t
  pub begins_new : (t : ℕ) → what ≡ Some (mined.Begin t) → HoldsBegin new t
  pub begins_only : (t : ℕ) → HoldsBegin new t → HoldsBegin old t ⊎ (what ≡ Some (mined.Begin t))

-- the node of a mined end: complete where the beginning was noted
abbrev pub end_kind : (flag committed : Bool) → NodeKind
end_kind flag committed = if committed then node.Committed flag else node.Aborted

abbrev pub mined_node : LogEntry → List Held → Option Mined → Option Node
mined_node e area (Some (mined.End txn flag committed)) =
    Some (record { scn = e.scn; pos = e.pos; txn = txn; complete = holds_begin area txn; kind = end_kind flag committed })
mined_node e area other = None

abbrev pub mined_ddl : LogEntry → Option Mined → Option DdlNode
mined_ddl e (Some (mined.Ddl obj)) = Some (record { scn = e.scn; obj = obj })
mined_ddl e other = None

-- a change of a definition goes behind all those with an SCN up to its own
abbrev pub entered : DdlNode → List DdlNode → List DdlNode
entered n [] = n ∷ []
entered n (m ∷ ms) = if nat_le m.scn n.scn then m ∷ entered n ms else n ∷ m ∷ ms

abbrev pub entered_if : Option DdlNode → List DdlNode → List DdlNode
entered_if None nodes = nodes
entered_if (Some n) nodes = entered n nodes

-- The next applied entry is mined: what it notes goes into the worker's area, an end into its part of the commit
-- table, a change of a definition into the table of those.
pub record Mines (c : CoreState) (worker : ℕ) (new : CoreState) : Type 0 where
  pub was : Worker
  pub found : At c.workers worker was
  pub behind : was.mined < was.applied
  pub entry : LogEntry
  pub next : At (share_of c worker) was.mined entry
  pub area : List Held
  pub noted : AreaTakes (mined_of c.log entry) was.area area
  pub effect : new ≡ record c {
    workers = slice_set c.workers worker (record was {
      mined = was.mined + 1;
      area = area;
      ends = was.ends ++ option_to_list (mined_node entry was.area (mined_of c.log entry));
    });
    ddl = entered_if (mined_ddl entry (mined_of c.log entry)) c.ddl;
  }

-- A worker can raise its progress to an SCN up to the frontier, where every entry of its share up to this SCN is
-- mined.
pub record CanRaise (c : CoreState) (worker through : ℕ) : Type 0 where
  pub was : Worker
  pub found : At c.workers worker was
  pub above : was.progress < through
  pub received : through ≤ c.frontier
  pub mined : AllByRecursion (λ e. through < e.scn) (drop was.mined (share_of c worker))

pub record Raises (c : CoreState) (worker through : ℕ) (new : CoreState) : Type 0 where
  pub was : Worker
  pub found : At c.workers worker was
  pub above : was.progress < through
  pub received : through ≤ c.frontier
  pub mined : AllByRecursion (λ e. through < e.scn) (drop was.mined (share_of c worker))
  pub effect : new ≡ record c { workers = slice_set c.workers worker (record was { progress = through }) }

-- entries that continue the log are received, with the frontier up to which it goes then
pub record Receives (c : CoreState) (entries : List LogEntry) (frontier : ℕ) (new : CoreState) : Type 0 where
  pub continues : IsContinuation c.log c.frontier entries frontier
  pub effect : new ≡ record c { log = c.log ++ entries; frontier = frontier }
