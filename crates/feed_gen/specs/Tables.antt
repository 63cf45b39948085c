-- The twenty tables: where their rows lie, what a row holds, and the records that make and load them.
use Rattle.std.specs.Prelude.{ℕ, ◌+◌, ◌*◌, ◌/◌, ◌%◌, true, ℤ, pos, List, [], ◌∷◌, ◌++◌, map, codes, decimal}
use Rattle.std.specs.List.{flat_map, range_with_len}
use Rattle.adg_base.specs.declared.value.ColKind.{ColKind}
use Rattle.adg_base.specs.declared.value.ColKind.TheVariants as kind
use Rattle.adg_base.specs.declared.value.Value.{Value}
use Rattle.adg_base.specs.declared.value.Value.TheVariants.{Int, Text}
use Rattle.adg_base.specs.declared.vector.Vector.{Vector}
use Rattle.adg_base.specs.declared.vector.Vector.TheVariants.{Begin, Put, Undo, Commit, Create}
use Rattle.feed_gen.specs.declared.writing.Writing.{Writing}

-- the thread that writes a table
abbrev pub thread_of : ℕ → ℕ
thread_of table = 1 + table % 3

-- the vectors that a thread writes as one record
abbrev pub writing : ℕ → List Vector → Writing
writing thread vectors = record { thread = thread; vectors = vectors }

-- a table has twice as many extents as its number, and its rows go round them
abbrev pub extents_of : ℕ → ℕ
extents_of table = 2 * table

abbrev pub block_of : ℕ → ℕ → ℕ
block_of table row = 16 * (row % extents_of table)

abbrev pub slot_of : ℕ → ℕ → ℕ
slot_of table row = row / extents_of table

-- the branch, the balance, and a text
abbrev pub kinds : List ColKind
kinds = kind.Int ∷ kind.Int ∷ kind.Text ∷ []

unfoldable pub label : ℕ → List ℕ
label row = codes "r" ++ decimal row

abbrev pub values : ℕ → ℤ → List Value
values row balance = Int (pos (row % 5)) ∷ Int balance ∷ Text (label row) ∷ []

-- a transaction sets a row's balance, and takes its latest change of a row back
abbrev pub put : ℕ → ℕ → ℕ → ℤ → Vector
put txn table row balance = Put txn table (block_of table row) (slot_of table row) (values row balance)

abbrev pub undo : ℕ → ℕ → ℕ → Vector
undo txn table row = Undo txn table (block_of table row) (slot_of table row)

-- one record makes a table
abbrev pub create : ℕ → Writing
create table = writing (thread_of table) (Create table (extents_of table) true kinds ∷ [])

-- the puts of so many rows from one on, each with the balance that a row has at first
abbrev pub first_balance : ℤ
first_balance = pos 1000

abbrev pub puts : ℕ → ℕ → ℕ → List Vector
puts table row count = map (λ j. put table table j first_balance) (range_with_len row count)

-- two records load its hundred rows, by the transaction that has the number of the table
unfoldable pub first_load : ℕ → Writing
first_load table = writing (thread_of table) (Begin table ∷ puts table 0 50)

unfoldable pub second_load : ℕ → Writing
second_load table = writing (thread_of table) (puts table 50 50 ++ Commit table true ∷ [])

abbrev pub load : ℕ → List Writing
load table = first_load table ∷ second_load table ∷ []

-- all tables are made, and then all are loaded
unfoldable pub creates : List Writing
creates = map create (range_with_len 1 20)

unfoldable pub loads : List Writing
loads = flat_map load (range_with_len 1 20)
