-- The summary of a realistic run: the balances of each table at the end, and what was run.
use Rattle.std.specs.Prelude.{◌≡◌, ℕ, ◌&&◌, if◌then◌else◌, List, [], ◌∷◌, ◌++◌, length, map, Option, Some, None, codes, decimal}
use Rattle.std.specs.List.{flat_map, range_with_len}
use Rattle.adg_base.specs.declared.answer.Cell.{Cell}
use Rattle.adg_base.specs.declared.command.Aggregate.TheVariants.{Count, Sum}
use Rattle.adg_base.specs.declared.command.Select.{Select as Query}
use Rattle.adg_base.specs.declared.command.What.TheVariants.{Aggregates}
use Rattle.adg_base.specs.declared.log.LogEntry.{LogEntry}
use Rattle.adg_base.specs.declared.vector.RedoRecord.{RedoRecord}
use Rattle.adg_model.specs.declared.delivery.RawDelivery.{RawDelivery}
use Rattle.adg_model.specs.Feed.{delivery_of}
use Rattle.adg_model.specs.Database.{Rows, Table, rows_at, table_at}
use Rattle.adg_model.specs.Log.{frontier, merged_log, ReceivedFrom}
use Rattle.adg_model.specs.Query.{answer_of, has_columns, has_types}
use Rattle.adg_model.specs.Reply.{cells_bytes, at_scn, newline}
use Rattle.feed_gen.specs.Generated.{threads, generated_deliveries}

-- the deliveries of the generated feed
abbrev pub soaked : (seed txns : ℕ) → List RawDelivery
soaked seed txns = map delivery_of (generated_deliveries seed txns)

-- the last question of the feed about a table: the number of rows of each branch, and the sum of their balances
abbrev pub balances_of : ℕ → Query
balances_of table = record { obj = table; what = Aggregates (Count ∷ Sum 2 ∷ []); conditions = []; group = Some 1 }

-- the answer of a SELECT over rows, where it has one
abbrev pub answer_over : Rows → Query → Option Table → List (List Cell)
answer_over rows select None = []
answer_over rows select (Some table) = if has_columns select table && has_types select table then answer_of rows select table else []

-- and over a log at an SCN
abbrev pub answer_at : List LogEntry → ℕ → Query → List (List Cell)
answer_at log scn select = answer_over (rows_at log scn) select (table_at log scn select.obj)

-- a table, the SCN, and each line of the answer behind a space
abbrev pub line_text : List Cell → List ℕ
line_text cells = codes " " ++ cells_bytes cells

abbrev pub table_text : List LogEntry → (scn table : ℕ) → List ℕ
table_text log scn table = codes "t" ++ decimal table ++ at_scn scn ++ flat_map line_text (answer_at log scn (balances_of table)) ++ newline

-- what was run, and the SCN
abbrev pub run_text : (seed txns scn : ℕ) → List ℕ
run_text seed txns scn = codes "soak seed=" ++ decimal seed ++ codes " txns=" ++ decimal txns ++ at_scn scn ++ newline

abbrev pub summary_text : (seed txns : ℕ) → List LogEntry → (scn : ℕ) → List ℕ
summary_text seed txns log scn = flat_map (table_text log scn) (range_with_len 1 20) ++ run_text seed txns scn

-- The summary of a run: the answers over the merged log of the generated feed at its last frontier.
pub record IsSummary (seed txns : ℕ) (text : List ℕ) : Type 0 where
  pub records : List (List RedoRecord)
  pub all : length records ≡ threads
  pub received : ReceivedFrom 1 (soaked seed txns) records
  pub is_text : text ≡ summary_text seed txns (merged_log records) (frontier records)
