-- What an entry of the log notes for the column units, and the item that an end of a transaction or a
-- change of a definition has in a flush.
use Rattle.std.specs.Prelude.{ℕ, Bool, true, false, if◌then◌else◌, List, Option, Some, None}
use Rattle.adg_base.specs.Address.{Place, place}
use Rattle.adg_base.specs.declared.vector.Vector.{Vector}
use Rattle.adg_base.specs.declared.vector.Vector.TheVariants.{Begin, Put, Delete, Undo, Commit, Abort, Create, DropObject, AddColumn, NoInMemory, EndThread}
use Rattle.adg_base.specs.declared.log.LogEntry.{LogEntry}
use Rattle.adg_base.specs.declared.node.Node.{Node}
use Rattle.adg_base.specs.declared.node.NodeKind.{NodeKind}
use Rattle.adg_base.specs.declared.node.NodeKind.TheVariants as node
use Rattle.adg_base.specs.declared.node.DdlNode.{DdlNode}
use Rattle.adg_base.specs.declared.node.Item.{Item}
use Rattle.adg_base.specs.declared.node.Item.TheVariants as item
use Rattle.adg_model.specs.declared.mined.Mined.{Mined}
use Rattle.adg_model.specs.declared.mined.Mined.TheVariants as mined
use Rattle.adg_model.specs.Database.{is_in_memory, table_at}

-- a touched address is noted where its object is in-memory at the SCN
abbrev pub mined_at : List LogEntry → ℕ → ℕ → Place → Option Mined
mined_at log scn txn at = if is_in_memory (table_at log scn at.obj) then Some (mined.Note txn at) else None

-- what a vector at an SCN notes, by the definitions that the log gives at that SCN
abbrev pub mined_by : List LogEntry → ℕ → Vector → Option Mined
mined_by log scn (Begin txn) = Some (mined.Begin txn)
mined_by log scn (Put txn o b s row) = mined_at log scn txn (place o b s)
mined_by log scn (Delete txn o b s) = mined_at log scn txn (place o b s)
mined_by log scn (Undo txn o b s) = mined_at log scn txn (place o b s)
mined_by log scn (Commit txn flag) = Some (mined.End txn flag true)
mined_by log scn (Abort txn) = Some (mined.End txn false false)
mined_by log scn (Create o e f columns) = None
mined_by log scn (DropObject o) = Some (mined.Ddl o)
mined_by log scn (AddColumn o k) = Some (mined.Ddl o)
mined_by log scn (NoInMemory o) = Some (mined.Ddl o)
mined_by log scn EndThread = None

-- what an entry of a log notes
abbrev pub mined_of : List LogEntry → LogEntry → Option Mined
mined_of log e = mined_by log e.scn e.vector

-- The item of an end: the changes of a commit with the flag are marked one by one where all of them were
-- noted, else all units are marked; any other end lets what was noted be forgotten.
abbrev pub end_item : (complete : Bool) → ℕ → NodeKind → Item
end_item true txn (node.Committed true) = item.Change txn
end_item false txn (node.Committed true) = item.Coarse txn
end_item complete txn (node.Committed false) = item.Forget txn
end_item complete txn node.Aborted = item.Forget txn

abbrev pub node_item : Node → Item
node_item n = end_item n.complete n.txn n.kind

-- the item of a change of a definition
abbrev pub ddl_item : DdlNode → Item
ddl_item n = item.DropObject n.obj
