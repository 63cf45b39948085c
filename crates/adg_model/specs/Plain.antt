-- The reply of the plain program to a command.
use Rattle.std.specs.Prelude.{ℕ, Bool, ◌+◌, if◌then◌else◌, List, [], ◌∷◌, Option, Some, None, option_map}
use Rattle.std.specs.Ordering.{is_lt, is_gt}
use Rattle.std.specs.declared.cmp.Ordering.{Ordering}
use Rattle.adg_base.specs.declared.value.Value.{Value}
use Rattle.adg_base.specs.declared.log.LogEntry.{LogEntry}
use Rattle.adg_base.specs.declared.command.Command.{Command}
use Rattle.adg_base.specs.declared.command.Command.TheVariants as command
use Rattle.adg_base.specs.declared.command.Select.{Select}
use Rattle.adg_model.specs.Database.{Rows, Table, rows_at, table_at}
use Rattle.adg_model.specs.Query.{answer_of, row_count, has_columns, has_types, by_order}
use Rattle.adg_base.specs.Values.{value_cmp}
use Rattle.adg_model.specs.declared.plain.PlainReply.{PlainReply}
use Rattle.adg_model.specs.declared.plain.PlainReply.TheVariants as reply
use Rattle.adg_model.specs.declared.plain.lines.Extreme.{Extreme}
use Rattle.adg_model.specs.declared.plain.lines.Extreme.TheVariants.{Least, Greatest}

-- no address has a row
abbrev pub no_rows : Rows
no_rows = λ a. None

-- which of two values is preferred where the least or the greatest is asked for
abbrev pub prefers : Extreme → Ordering → Bool
prefers Least o = is_lt o
prefers Greatest o = is_gt o

-- where a key goes among keys in their order; nowhere where it is one of them
abbrev pub key_place : Value → List Value → Option ℕ
key_place k [] = Some 0
key_place k (x ∷ xs) = by_order (value_cmp k x) (Some 0) None (option_map (λ n. n + 1) (key_place k xs))

-- the reply to a SELECT over rows, where its object may have a definition
abbrev pub select_reply : Rows → Select → Option Table → PlainReply
select_reply rows select None = reply.NoTable
select_reply rows select (Some table) =
    if has_columns select table
    then (if has_types select table then reply.Rows (answer_of rows select table) (row_count rows select.obj table) else reply.WrongType)
    else reply.NoColumn

-- the reply to a POPULATE of an object that may have a definition: what an in-memory object is answered
-- is left to the caller
abbrev pub populate_reply : Option Table → PlainReply
populate_reply None = reply.NoTable
populate_reply (Some table) = if table.flag then reply.Plain else reply.NotInMemory

-- The reply to a command over a log at an SCN. A command that asks nothing of the rows is left to the caller.
abbrev pub plain_reply : List LogEntry → Command → ℕ → PlainReply
plain_reply log (command.Select select) scn = select_reply (rows_at log scn) select (table_at log scn select.obj)
plain_reply log (command.Populate obj) scn = populate_reply (table_at log scn obj)
plain_reply log other scn = reply.Plain
