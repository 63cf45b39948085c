-- The one spelling of a command, and the byte of a text that is no command.
use Rattle.std.specs.Prelude.{◌≡◌, ◌≢◌, ℕ, ◌<◌, ◌≤◌, List, [], ◌∷◌, ◌++◌, length, take, Option, Some, None, codes}
use Rattle.std.specs.List.{AllByRecursion}
use Rattle.std.specs.Fmt.{decimal, signed_decimal}
use Rattle.adg_base.specs.declared.value.Value.{Value}
use Rattle.adg_base.specs.declared.value.Value.TheVariants.{Null, Int, Text}
use Rattle.adg_base.specs.declared.command.Command.{Command}
use Rattle.adg_base.specs.declared.command.Command.TheVariants as command
use Rattle.adg_base.specs.declared.command.Select.{Select}
use Rattle.adg_base.specs.declared.command.Condition.{Condition}
use Rattle.adg_base.specs.declared.command.Op.{Op}
use Rattle.adg_base.specs.declared.command.Op.TheVariants as op
use Rattle.adg_base.specs.declared.command.What.{What}
use Rattle.adg_base.specs.declared.command.What.TheVariants.{All, Aggregates}
use Rattle.adg_base.specs.declared.command.Aggregate.{Aggregate}
use Rattle.adg_base.specs.declared.command.Aggregate.TheVariants.{Count, Sum, Min, Max}
use Rattle.adg_model.specs.Spelling.{IsObj, IsValue}

abbrev pub table_bytes : ℕ → List ℕ
table_bytes obj = codes "t" ++ decimal obj

abbrev pub column_bytes : ℕ → List ℕ
column_bytes column = codes "c" ++ decimal column

-- a text stands between two quotation marks
abbrev pub quoted : List ℕ → List ℕ
quoted text = codes "'" ++ text ++ codes "'"

-- Null has no spelling
abbrev pub literal_bytes : Value → List ℕ
literal_bytes Null = []
literal_bytes (Int n) = signed_decimal n
literal_bytes (Text text) = quoted text

abbrev pub op_bytes : Op → List ℕ
op_bytes op.Eq = codes "="
op_bytes op.Ne = codes "<>"
op_bytes op.Lt = codes "<"
op_bytes op.Le = codes "<="
op_bytes op.Gt = codes ">"
op_bytes op.Ge = codes ">="

abbrev pub aggregate_bytes : Aggregate → List ℕ
aggregate_bytes Count = codes "COUNT"
aggregate_bytes (Sum column) = codes "SUM(" ++ column_bytes column ++ codes ")"
aggregate_bytes (Min column) = codes "MIN(" ++ column_bytes column ++ codes ")"
aggregate_bytes (Max column) = codes "MAX(" ++ column_bytes column ++ codes ")"

abbrev pub aggregates_bytes : List Aggregate → List ℕ
aggregates_bytes [] = []
aggregates_bytes (a ∷ []) = aggregate_bytes a
aggregates_bytes (a ∷ b ∷ more) = aggregate_bytes a ++ codes ", " ++ aggregates_bytes (b ∷ more)

abbrev pub condition_bytes : Condition → List ℕ
condition_bytes c = column_bytes c.column ++ codes " " ++ op_bytes c.op ++ codes " " ++ literal_bytes c.literal

abbrev pub conditions_bytes : List Condition → List ℕ
conditions_bytes [] = []
conditions_bytes (c ∷ []) = condition_bytes c
conditions_bytes (c ∷ d ∷ more) = condition_bytes c ++ codes " AND " ++ conditions_bytes (d ∷ more)

abbrev pub where_bytes : List Condition → List ℕ
where_bytes [] = []
where_bytes (c ∷ more) = codes " WHERE " ++ conditions_bytes (c ∷ more)

abbrev pub group_bytes : Option ℕ → List ℕ
group_bytes None = []
group_bytes (Some column) = codes " GROUP BY " ++ column_bytes column

abbrev pub what_bytes : What → List ℕ
what_bytes All = codes "*"
what_bytes (Aggregates aggregates) = aggregates_bytes aggregates

abbrev pub select_bytes : Select → List ℕ
select_bytes s = codes "SELECT " ++ what_bytes s.what ++ codes " FROM " ++ table_bytes s.obj ++ where_bytes s.conditions ++ group_bytes s.group

abbrev pub command_bytes : Command → List ℕ
command_bytes (command.Select s) = select_bytes s
command_bytes (command.Populate obj) = codes "POPULATE " ++ table_bytes obj
command_bytes command.Sync = codes "SYNC"
command_bytes command.ShowScn = codes "SHOW SCN"
command_bytes command.Abort = codes "ABORT"

-- What has a spelling: objects and columns of their ranges, at least one aggregate, no Null as a literal
-- and no group beside the rows.
abbrev pub IsColumn : ℕ → Type 0
IsColumn column = (1 ≤ column) × (column ≤ 16)

abbrev pub IsAggregate : Aggregate → Type 0
IsAggregate Count = Unit {0}
IsAggregate (Sum column) = IsColumn column
IsAggregate (Min column) = IsColumn column
IsAggregate (Max column) = IsColumn column

abbrev pub IsCondition : Condition → Type 0
IsCondition c = IsColumn c.column × IsValue c.literal × (c.literal ≢ Null)

abbrev pub IsGroup : Option ℕ → Type 0
IsGroup None = Unit {0}
IsGroup (Some column) = IsColumn column

abbrev pub IsWhat : What → Option ℕ → Type 0
IsWhat All group = group ≡ None
IsWhat (Aggregates aggregates) group = (1 ≤ length aggregates) × AllByRecursion IsAggregate aggregates × IsGroup group

pub record IsSelect (s : Select) : Type 0 where
  pub object : IsObj s.obj
  pub asks : IsWhat s.what s.group
  pub tests : AllByRecursion IsCondition s.conditions

abbrev pub IsCommand : Command → Type 0
IsCommand (command.Select s) = IsSelect s
IsCommand (command.Populate obj) = IsObj obj
IsCommand command.Sync = Unit {0}
IsCommand command.ShowScn = Unit {0}
IsCommand command.Abort = Unit {0}

-- a text is this command
abbrev pub Spells : List ℕ → Command → Type 0
Spells text c = IsCommand c × (text ≡ command_bytes c)

-- some command begins with these bytes
pub record BeginsCommand (bytes : List ℕ) : Type 0 where
  pub command : Command
  pub rest : List ℕ
  pub good : IsCommand command
  pub begins : command_bytes command ≡ bytes ++ rest

-- A text is no command, and this is the length of its longest prefix that some command begins with.
pub record IsBadQuery (text : List ℕ) (byte : ℕ) : Type 0 where
  pub none : (c : Command) → Spells text c → ⊥
  pub within : byte ≤ length text
  pub begins : BeginsCommand (take byte text)
  pub longest : (longer : ℕ) → byte < longer → longer ≤ length text → BeginsCommand (take longer text) → ⊥
