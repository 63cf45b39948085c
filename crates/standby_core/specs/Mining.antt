-- What an entry that is mined makes of a worker and of the table of changes of definitions.
use Rattle.std.specs.Prelude.{◌≡◌, ℕ, ◌<◌, ◌≤◌, List, ◌++◌, Option, Some, None, option_to_list}
use Rattle.std.specs.List.{AllByRecursion}
use Rattle.adg_base.specs.Area.{Held}
use Rattle.adg_base.specs.declared.node.Node.{Node}
use Rattle.adg_base.specs.declared.node.DdlNode.{DdlNode}
use Rattle.adg_model.specs.declared.mined.Mined.{Mined}
use Rattle.adg_model.specs.declared.mined.Mined.TheVariants as mined
use Rattle.adg_journal.specs.Area.{IsArea, HoldsSame, is_begun}
use Rattle.scn_queue.specs.Queue.{entered}
use Rattle.core_rules.specs.Applying.{AreaTakes, end_kind}
use Rattle.standby_core.specs.declared.worker.Worker.{Worker}

-- the node of an end, complete where the area has noted the beginning
abbrev pub node_noted : (scn pos : ℕ) → List Held → Option Mined → Option Node
node_noted scn pos area None = None
node_noted scn pos area (Some (mined.Begin txn)) = None
node_noted scn pos area (Some (mined.Note txn at)) = None
node_noted scn pos area (Some (mined.End txn flag committed)) =
    Some (record { scn = scn; pos = pos; txn = txn; complete = is_begun area txn; kind = end_kind flag committed })
node_noted scn pos area (Some (mined.Ddl obj)) = None

-- the table of changes of definitions with what was noted
abbrev pub ddl_noted : ℕ → Option Mined → List DdlNode → List DdlNode
ddl_noted scn None ddl = ddl
ddl_noted scn (Some (mined.Begin txn)) ddl = ddl
ddl_noted scn (Some (mined.Note txn at)) ddl = ddl
ddl_noted scn (Some (mined.End txn flag committed)) ddl = ddl
ddl_noted scn (Some (mined.Ddl obj)) ddl = entered (λ (n : DdlNode). n.scn) (record { scn = scn; obj = obj }) ddl

-- an end stands at an SCN and a position that are behind those of these nodes
abbrev pub IsBehind : (scn pos : ℕ) → List Node → Type 0
IsBehind scn pos nodes = AllByRecursion (λ (n : Node). (n.scn ≤ scn) × (n.pos < pos)) nodes

-- a worker takes what an entry of an SCN and a position notes
pub record TakesMined (scn pos : ℕ) (what : Option Mined) (old new : Worker) (table table' : List DdlNode) : Type 0 where
  pub share : new.share ≡ old.share
  pub applied : new.applied ≡ old.applied
  pub mined : new.mined ≡ old.mined
  pub progress : new.progress ≡ old.progress
  pub area : AreaTakes what old.area new.area
  pub is_area : IsArea new.area
  pub ends : new.ends ≡ old.ends ++ option_to_list (node_noted scn pos old.area what)
  pub ddl : table' ≡ ddl_noted scn what table

-- a worker with the same in its area, and else as it was
pub record StaysSame (old new : Worker) : Type 0 where
  pub share : new.share ≡ old.share
  pub applied : new.applied ≡ old.applied
  pub mined : new.mined ≡ old.mined
  pub progress : new.progress ≡ old.progress
  pub area : HoldsSame old.area new.area
  pub is_area : IsArea new.area
  pub ends : new.ends ≡ old.ends
