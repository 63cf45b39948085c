-- What the four sessions ask in each delivery.
use Rattle.std.specs.Prelude.{ℕ, ◌%◌, Bool, ◌==◌, ◌&&◌, if◌then◌else◌, List, [], ◌∷◌, ◌++◌, map, filter, Some}
use Rattle.std.specs.List.{flat_map, range_with_len}
use Rattle.adg_base.specs.declared.command.Command.{Command}
use Rattle.adg_base.specs.declared.command.Command.TheVariants as command
use Rattle.feed_gen.specs.declared.question.Question.{Question}
use Rattle.feed_gen.specs.declared.question.Question.TheVariants.{Populate, Sums, CountsAndSums}
use Rattle.adg_base.specs.declared.command.What.TheVariants.{Aggregates}
use Rattle.adg_base.specs.declared.command.Aggregate.{Aggregate}
use Rattle.adg_base.specs.declared.command.Aggregate.TheVariants.{Count, Sum}

-- a command, and the session that asks it
pub record Asking : Type 0 where
  pub session : ℕ
  pub command : Command

abbrev pub ask : ℕ → Command → Asking
ask session command = record { session = session; command = command }

-- aggregates of a table by branch
abbrev pub by_branch : List Aggregate → ℕ → Command
by_branch aggregates table = command.Select (record { obj = table; what = Aggregates aggregates; conditions = []; group = Some 1 })

-- the sum of the balances of each branch, and their number beside it
abbrev pub sums : ℕ → Command
sums table = by_branch (Sum 2 ∷ []) table

abbrev pub counts_and_sums : ℕ → Command
counts_and_sums table = by_branch (Count ∷ Sum 2 ∷ []) table

-- what is asked of a table, as a command
abbrev pub command_of : Question → ℕ → Command
command_of Populate table = command.Populate table
command_of Sums table = sums table
command_of CountsAndSums table = counts_and_sums table

-- a session has the tables whose numbers leave the same rest by 4 as its own
abbrev pub is_own : ℕ → ℕ → Bool
is_own session table = (table % 4) == (session % 4)

-- it asks something of each of its tables
abbrev pub asks_own : Question → ℕ → List ℕ → List Asking
asks_own question session tables = map (λ k. ask session (command_of question k)) (filter (is_own session) tables)

unfoldable pub all_tables : List ℕ
all_tables = range_with_len 1 20

-- in the first delivery
unfoldable pub opening_asked : ℕ → List Asking
opening_asked session = ask session command.Sync ∷ asks_own Populate session all_tables

-- in the sixth delivery the second session aborts, and in the seventh the tables are populated again
abbrev pub again_asked : ℕ → ℕ → List Asking
again_asked delivery session = if delivery == 7 then asks_own Populate session all_tables else []

abbrev pub abort_asked : ℕ → ℕ → List Asking
abort_asked delivery session = if (delivery == 6) && (session == 2) then ask session command.Abort ∷ [] else []

-- in a delivery of transfers
unfoldable pub transfer_asked : ℕ → ℕ → List Asking
transfer_asked delivery session = again_asked delivery session ++ asks_own Sums session all_tables ++ abort_asked delivery session

-- in the last one
unfoldable pub closing_asked : List Asking
closing_asked = ask 1 command.Sync ∷ map (λ k. ask 1 (command_of CountsAndSums k)) all_tables

-- by session
abbrev pub of_sessions : (ℕ → List Asking) → List Asking
of_sessions asked = flat_map asked (range_with_len 1 4)
