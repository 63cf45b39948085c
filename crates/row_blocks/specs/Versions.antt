-- The versions that a log makes at an address, and the end that it makes for a transaction.
use Rattle.std.specs.Prelude.{ℕ, Bool, true, false, not, ◌==◌, nat_lt, ◌&&◌, if◌then◌else◌, List, [], ◌∷◌, ◌++◌, Option, Some, None}
use Rattle.std.specs.List.{list_any}
use Rattle.adg_base.specs.Address.{Place, place, same_place}
use Rattle.adg_base.specs.declared.value.Value.{Value}
use Rattle.adg_base.specs.declared.vector.Vector.{Vector}
use Rattle.adg_base.specs.declared.vector.Vector.TheVariants.{Begin, Put, Delete, Undo, Commit, Abort, Create, DropObject, AddColumn, NoInMemory, EndThread}
use Rattle.adg_base.specs.declared.log.LogEntry.{LogEntry}
use Rattle.row_blocks.specs.declared.version.Version.{Version}
use Rattle.row_blocks.specs.declared.version.End.{End}

-- what a transaction does at an address: it makes a version, or it strikes its latest one
pub data Deed : Type 0 where
  Makes : ℕ → Option (List Value) → Deed
  Strikes : ℕ → Deed

abbrev pub deed_at : Place → Vector → Option Deed
deed_at a (Put txn o b s row) = if same_place a (place o b s) then Some (Makes txn (Some row)) else None
deed_at a (Delete txn o b s) = if same_place a (place o b s) then Some (Makes txn None) else None
deed_at a (Undo txn o b s) = if same_place a (place o b s) then Some (Strikes txn) else None
deed_at a (Begin txn) = None
deed_at a (Commit txn flag) = None
deed_at a (Abort txn) = None
deed_at a (Create o e f columns) = None
deed_at a (DropObject o) = None
deed_at a (AddColumn o k) = None
deed_at a (NoInMemory o) = None
deed_at a EndThread = None

-- a version of a transaction that is not struck
abbrev pub stands : ℕ → Version → Bool
stands txn v = (v.txn == txn) && not v.struck

-- versions with the latest one that stands of a transaction struck
abbrev pub strike : ℕ → List Version → List Version
strike txn [] = []
strike txn (v ∷ vs) =
    if list_any (stands txn) vs then v ∷ strike txn vs
    else (if stands txn v then record v { struck = true } ∷ vs else v ∷ vs)

abbrev pub after_deed : List Version → ℕ → Option Deed → List Version
after_deed versions pos None = versions
after_deed versions pos (Some (Makes txn row)) = versions ++ record { pos = pos; txn = txn; row = row; struck = false } ∷ []
after_deed versions pos (Some (Strikes txn)) = strike txn versions

-- versions of an address after more entries
abbrev pub versions_after : Place → List Version → List LogEntry → List Version
versions_after a versions [] = versions
versions_after a versions (e ∷ es) = versions_after a (after_deed versions e.pos (deed_at a e.vector)) es

-- the versions that a log makes at an address
abbrev pub versions_of : List LogEntry → Place → List Version
versions_of log a = versions_after a [] log

-- the end that a vector at a position and an SCN makes for a transaction
abbrev pub end_by : (txn pos scn : ℕ) → Vector → Option End
end_by t pos scn (Commit txn flag) = if txn == t then Some (record { pos = pos; scn = scn; committed = true }) else None
end_by t pos scn (Abort txn) = if txn == t then Some (record { pos = pos; scn = scn; committed = false }) else None
end_by t pos scn (Begin txn) = None
end_by t pos scn (Put txn o b s row) = None
end_by t pos scn (Delete txn o b s) = None
end_by t pos scn (Undo txn o b s) = None
end_by t pos scn (Create o e f columns) = None
end_by t pos scn (DropObject o) = None
end_by t pos scn (AddColumn o k) = None
end_by t pos scn (NoInMemory o) = None
end_by t pos scn EndThread = None

abbrev pub earlier : Option End → Option End → Option End
earlier None later = later
earlier (Some e) later = Some e

-- the end that a log makes for a transaction, the first if there were more
abbrev pub end_of : List LogEntry → ℕ → Option End
end_of [] t = None
end_of (e ∷ es) t = earlier (end_by t e.pos e.scn e.vector) (end_of es t)

-- a transaction that has not ended at an SCN
abbrev pub is_late : ℕ → Option End → Bool
is_late q None = true
is_late q (Some e) = nat_lt q e.scn
