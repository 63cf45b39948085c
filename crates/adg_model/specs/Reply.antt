-- The reply to a command text at an SCN, and the printed bytes of every line.
use Rattle.std.specs.Prelude.{◌≡◌, ℕ, ◌+◌, ◌≤◌, true, false, List, [], ◌∷◌, ◌++◌, length, Some, None, ◌⊎◌, codes}
use Rattle.std.specs.List.{flat_map}
use Rattle.std.specs.Fmt.{decimal, signed_decimal}
use Rattle.adg_base.specs.declared.log.LogEntry.{LogEntry}
use Rattle.adg_base.specs.declared.command.Command.TheVariants as command
use Rattle.adg_base.specs.declared.command.Select.{Select as Query}
use Rattle.adg_base.specs.declared.answer.Cell.{Cell}
use Rattle.adg_base.specs.declared.answer.Cell.TheVariants as cell
use Rattle.adg_base.specs.declared.answer.Reply.{Reply}
use Rattle.adg_base.specs.declared.answer.Reply.TheVariants.{Rows, Populated, Synced, Shown, Aborted, BadQuery, NoTable, NotInMemory, NoColumn, WrongType, Down}
use Rattle.adg_base.specs.declared.answer.Line.{Line}
use Rattle.adg_base.specs.declared.answer.Lines.{Lines}
use Rattle.adg_model.specs.Database.{Table, rows_at, table_at}
use Rattle.adg_model.specs.Query.{answer_of, row_count, has_columns, has_types}
use Rattle.adg_model.specs.Command.{Spells, IsBadQuery, quoted}

-- the text is a SELECT of an object that is defined at the SCN
pub record IsQuery (log : List LogEntry) (text : List ℕ) (scn : ℕ) (select : Query) (table : Table) : Type 0 where
  pub spells : Spells text (command.Select select)
  pub defined : table_at log scn select.obj ≡ Some table

pub record IsRows (log : List LogEntry) (text : List ℕ) (scn : ℕ) (answer : List (List Cell)) (col row : ℕ) : Type 0 where
  pub select : Query
  pub table : Table
  pub query : IsQuery log text scn select table
  pub columns : has_columns select table ≡ true
  pub types : has_types select table ≡ true
  pub meaning : answer ≡ answer_of (rows_at log scn) select table
  pub split : col + row ≡ row_count (rows_at log scn) select.obj table

pub record IsNoColumn (log : List LogEntry) (text : List ℕ) (scn : ℕ) : Type 0 where
  pub select : Query
  pub table : Table
  pub query : IsQuery log text scn select table
  pub columns : has_columns select table ≡ false

pub record IsWrongType (log : List LogEntry) (text : List ℕ) (scn : ℕ) : Type 0 where
  pub select : Query
  pub table : Table
  pub query : IsQuery log text scn select table
  pub columns : has_columns select table ≡ true
  pub types : has_types select table ≡ false

-- the text is a SELECT or a POPULATE of this object
abbrev pub Names : List ℕ → ℕ → Type 0
Names text obj = ((select : Query) × Spells text (command.Select select) × (select.obj ≡ obj)) ⊎ Spells text (command.Populate obj)

pub record IsNoTable (log : List LogEntry) (text : List ℕ) (scn : ℕ) : Type 0 where
  pub obj : ℕ
  pub names : Names text obj
  pub undefined : table_at log scn obj ≡ None

-- the text is a POPULATE of an object that is in-memory at the SCN, and no more units than its extents
pub record IsPopulated (log : List LogEntry) (text : List ℕ) (scn : ℕ) (units : ℕ) : Type 0 where
  pub obj : ℕ
  pub table : Table
  pub spells : Spells text (command.Populate obj)
  pub defined : table_at log scn obj ≡ Some table
  pub in_memory : table.flag ≡ true
  pub most : units ≤ table.extents

-- the text is a POPULATE of an object that is defined at the SCN and not in-memory
pub record IsNotInMemory (log : List LogEntry) (text : List ℕ) (scn : ℕ) : Type 0 where
  pub obj : ℕ
  pub table : Table
  pub spells : Spells text (command.Populate obj)
  pub defined : table_at log scn obj ≡ Some table
  pub plain : table.flag ≡ false

-- The reply to a command text over a log with a frontier, at the SCN that the reply names. A reply of
-- Down has no SCN and no meaning; where it may stand, the transcript says.
abbrev pub IsReply : List LogEntry → ℕ → List ℕ → Reply → Type 0
IsReply log frontier text (Rows scn answer col row) = IsRows log text scn answer col row
IsReply log frontier text (Populated scn units) = IsPopulated log text scn units
IsReply log frontier text (Synced scn) = Spells text command.Sync × (scn ≡ frontier)
IsReply log frontier text (Shown scn) = Spells text command.ShowScn
IsReply log frontier text (Aborted scn) = Spells text command.Abort
IsReply log frontier text (BadQuery scn byte) = IsBadQuery text byte
IsReply log frontier text (NoTable scn) = IsNoTable log text scn
IsReply log frontier text (NotInMemory scn) = IsNotInMemory log text scn
IsReply log frontier text (NoColumn scn) = IsNoColumn log text scn
IsReply log frontier text (WrongType scn) = IsWrongType log text scn
IsReply log frontier text Down = ⊥

-- The printed bytes.
abbrev pub cell_bytes : Cell → List ℕ
cell_bytes cell.Null = codes "NULL"
cell_bytes (cell.Number n) = signed_decimal n
cell_bytes (cell.Text text) = quoted text

abbrev pub cells_bytes : List Cell → List ℕ
cells_bytes [] = []
cells_bytes (c ∷ []) = cell_bytes c
cells_bytes (c ∷ d ∷ more) = cell_bytes c ++ codes "|" ++ cells_bytes (d ∷ more)

abbrev pub newline : List ℕ
newline = 0x0a ∷ []

abbrev pub result_line_bytes : List Cell → List ℕ
result_line_bytes cells = codes "= " ++ cells_bytes cells ++ newline

abbrev pub at_scn : ℕ → List ℕ
at_scn scn = codes " scn=" ++ decimal scn

abbrev pub reply_bytes : Reply → List ℕ
reply_bytes (Rows scn answer col row) =
    at_scn scn ++ codes " rows=" ++ decimal (length answer) ++ codes " col=" ++ decimal col ++ codes " row=" ++ decimal row
    ++ newline ++ flat_map result_line_bytes answer
reply_bytes (Populated scn units) = at_scn scn ++ codes " populated units=" ++ decimal units ++ newline
reply_bytes (Synced scn) = at_scn scn ++ codes " synced" ++ newline
reply_bytes (Shown scn) = at_scn scn ++ codes " shown" ++ newline
reply_bytes (Aborted scn) = at_scn scn ++ codes " aborted" ++ newline
reply_bytes (BadQuery scn byte) = at_scn scn ++ codes " refused BadQuery byte=" ++ decimal byte ++ newline
reply_bytes (NoTable scn) = at_scn scn ++ codes " refused NoTable" ++ newline
reply_bytes (NotInMemory scn) = at_scn scn ++ codes " refused NotInMemory" ++ newline
reply_bytes (NoColumn scn) = at_scn scn ++ codes " refused NoColumn" ++ newline
reply_bytes (WrongType scn) = at_scn scn ++ codes " refused WrongType" ++ newline
reply_bytes Down = codes " down" ++ newline

-- the delivery, the session and the command's number, and the reply
abbrev pub line_bytes : ℕ → Line → List ℕ
line_bytes delivery l =
    codes "d" ++ decimal delivery ++ codes " s" ++ decimal l.session ++ codes " c" ++ decimal l.number ++ reply_bytes l.reply

abbrev pub end_line_bytes : ℕ → ℕ → List ℕ
end_line_bytes delivery scn = codes "d" ++ decimal delivery ++ codes " end" ++ at_scn scn ++ newline

-- the lines of a delivery
abbrev pub lines_bytes : ℕ → Lines → List ℕ
lines_bytes delivery lines = flat_map (line_bytes delivery) lines.list ++ end_line_bytes delivery lines.end
