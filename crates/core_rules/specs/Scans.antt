-- The events of a scan: ScanBegin, ScanExtent and ScanEnd.
use Rattle.std.specs.Prelude.{◌≡◌, ℕ, ◌+◌, ◌<◌, ◌≤◌, nat_le, Bool, true, not, ◌&&◌, if◌then◌else◌, List, [], ◌∷◌, ◌++◌, length, Option, Some, None, option_map}
use Rattle.std.specs.List.{filter_map}
use Rattle.adg_base.specs.Address.{Place, same_place, extent_places}
use Rattle.adg_base.specs.declared.value.Value.{Value}
use Rattle.adg_base.specs.declared.placed.PlacedRow.{PlacedRow}
use Rattle.adg_base.specs.declared.command.Select.{Select}
use Rattle.adg_base.specs.declared.answer.Reply.{Reply}
use Rattle.adg_base.specs.declared.answer.Reply.TheVariants as reply
use Rattle.adg_model.specs.Database.{Rows, Table, rows_at, table_at}
use Rattle.adg_model.specs.Query.{padded, select_lines, has_columns, has_types}
use Rattle.core_rules.specs.State.{CoreState, ColumnUnit, Scan, Free, Scanning}
use Rattle.core_rules.specs.Populations.{IsSession, with_session}

-- a session that does nothing can ask for a scan
pub record CanScan (c : CoreState) (session : ℕ) : Type 0 where
  pub place : ℕ
  pub free : IsSession c session place Free

-- what a SELECT over an object with this definition is refused with at an SCN, if it is
abbrev pub scan_refusal : ℕ → Select → Option Table → Option Reply
scan_refusal scn select None = Some (reply.NoTable scn)
scan_refusal scn select (Some table) =
    if has_columns select table then (if has_types select table then None else Some (reply.WrongType scn)) else Some (reply.NoColumn scn)

abbrev pub new_scan : Select → ℕ → Table → Scan
new_scan select scn table = record { select = select; scn = scn; table = table; extents = 0; rows = []; col = 0; row = 0 }

-- A scan begins at the QuerySCN, with the definition then.
pub record BeginsScan (c : CoreState) (session : ℕ) (select : Select) (new : CoreState) : Type 0 where
  pub can : CanScan c session
  pub table : Table
  pub defined : table_at c.log c.query select.obj ≡ Some table
  pub columns : has_columns select table ≡ true
  pub types : has_types select table ≡ true
  pub effect : new ≡ with_session c can.place (Scanning (new_scan select c.query table))

-- It is refused with a reply, and nothing changed.
pub record RefusesScan (c : CoreState) (session : ℕ) (select : Select) (said : Reply) (new : CoreState) : Type 0 where
  pub can : CanScan c session
  pub refusal : scan_refusal c.query select (table_at c.log c.query select.obj) ≡ Some said
  pub same : new ≡ c

-- What a scan sees of a unit: its rows, and which addresses are marked.
pub record Look : Type 0 where
  pub rows : List PlacedRow
  pub marked : Place → Bool

-- A unit is looked at exactly where its columns are there, it is not marked wholly, and its snapshot is not above
-- the scan's SCN.
abbrev pub look_if : Bool → Option (List PlacedRow) → (Place → Bool) → Option Look
look_if usable None marked = None
look_if usable (Some rows) marked = if usable then Some (record { rows = rows; marked = marked }) else None

abbrev pub look_at : ℕ → Option ColumnUnit → Option Look
look_at scn None = None
look_at scn (Some u) = look_if (not u.all && nat_le u.snapshot scn) u.columns u.marked

-- the row that columns have at an address
abbrev pub row_in : List PlacedRow → Place → Option (List Value)
row_in [] a = None
row_in (r ∷ rs) a = if same_place a r.addr then Some r.row else row_in rs a

-- what is taken from the columns at an address, where it is not marked, and what from the blocks, else
abbrev pub from_columns : Option Look → Place → Option (List Value)
from_columns None a = None
from_columns (Some look) a = if look.marked a then None else row_in look.rows a

abbrev pub from_blocks : Option Look → Rows → Place → Option (List Value)
from_blocks None rows a = rows a
from_blocks (Some look) rows a = if look.marked a then rows a else None

-- the row at an address from the one or the other, as wide as the object
abbrev pub gathered_at : Option Look → Rows → ℕ → Place → Option (List Value)
gathered_at None rows width a = option_map (padded width) (rows a)
gathered_at (Some look) rows width a = if look.marked a then option_map (padded width) (rows a) else option_map (padded width) (row_in look.rows a)

-- the rows of some addresses, and how many come from the one and from the other
abbrev pub gathered : Option Look → Rows → ℕ → List Place → List (List Value)
gathered look rows width places = filter_map (gathered_at look rows width) places

abbrev pub count_from_columns : Option Look → List Place → ℕ
count_from_columns look places = length (filter_map (from_columns look) places)

abbrev pub count_from_blocks : Option Look → Rows → List Place → ℕ
count_from_blocks look rows places = length (filter_map (from_blocks look rows) places)

-- a scan can go on where an extent is left
pub record CanGather (c : CoreState) (session : ℕ) : Type 0 where
  pub place : ℕ
  pub scan : Scan
  pub is : IsSession c session place (Scanning scan)
  pub left : scan.extents < scan.table.extents

-- what it sees of the unit that stands for its next extent
abbrev pub next_look : CoreState → Scan → Option Look
next_look c s = look_at s.scn (c.units s.select.obj s.extents)

abbrev pub next_places : Scan → List Place
next_places s = extent_places s.select.obj s.extents

-- the scan with the rows of its next extent
abbrev pub scan_then : CoreState → Scan → Scan
scan_then c s = record s {
  extents = s.extents + 1;
  rows = s.rows ++ gathered (next_look c s) (rows_at c.log s.scn) (length s.table.kinds) (next_places s);
  col = s.col + count_from_columns (next_look c s) (next_places s);
  row = s.row + count_from_blocks (next_look c s) (rows_at c.log s.scn) (next_places s);
}

pub record Gathers (c : CoreState) (session : ℕ) (new : CoreState) : Type 0 where
  pub place : ℕ
  pub scan : Scan
  pub is : IsSession c session place (Scanning scan)
  pub left : scan.extents < scan.table.extents
  pub effect : new ≡ with_session c place (Scanning (scan_then c scan))

-- a scan can end where no extent is left
pub record CanEndScan (c : CoreState) (session : ℕ) : Type 0 where
  pub place : ℕ
  pub scan : Scan
  pub is : IsSession c session place (Scanning scan)
  pub whole : scan.table.extents ≤ scan.extents

-- the reply of a scan: what its SELECT makes of its rows, at its SCN
abbrev pub scan_reply : Scan → Reply
scan_reply s = reply.Rows s.scn (select_lines s.select s.rows) s.col s.row

pub record EndsScan (c : CoreState) (session : ℕ) (said : Reply) (new : CoreState) : Type 0 where
  pub place : ℕ
  pub scan : Scan
  pub is : IsSession c session place (Scanning scan)
  pub whole : scan.table.extents ≤ scan.extents
  pub says : said ≡ scan_reply scan
  pub effect : new ≡ with_session c place Free
