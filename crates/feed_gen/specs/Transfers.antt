-- The transfers: a fold over what they draw.
use Rattle.std.specs.Prelude.{ℕ, zero, suc, ◌+◌, ◌-◌, ◌*◌, true, ◌==◌, if◌then◌else◌, ℤ, pos, ◌+ℤ◌, ◌-ℤ◌, List, [], ◌∷◌, ◌++◌, Option, Some, None, slice_index_or, slice_set, replicate}
use Rattle.adg_base.specs.declared.vector.Vector.{Vector}
use Rattle.adg_base.specs.declared.vector.Vector.TheVariants.{Begin, Commit, Abort, EndThread}
use Rattle.feed_gen.specs.declared.writing.Writing.{Writing}
use Rattle.feed_gen.specs.declared.transfer.Transfer.{Transfer}
use Rattle.feed_gen.specs.declared.second.Second.{Second}
use Rattle.feed_gen.specs.declared.second.Kept.{Kept}
use Rattle.feed_gen.specs.declared.bank.Bank.{Bank}
use Rattle.feed_gen.specs.Draws.{draws, drawn}
use Rattle.feed_gen.specs.Tables.{thread_of, writing, put, undo, first_balance}

-- the balances of the hundred rows of each table, table after table
abbrev pub place_of : ℕ → ℕ → ℕ
place_of table row = 100 * (table - 1) + row

abbrev pub balance_of : List ℤ → ℕ → ℕ → ℤ
balance_of balances table row = slice_index_or balances (place_of table row) (pos 0)

abbrev pub with_balance : ℕ → ℕ → ℤ → List ℤ → List ℤ
with_balance table row balance balances = slice_set balances (place_of table row) balance

-- what the row that gives has after the transfer, and what the row that gets has; the two may be one row
abbrev pub debited : List ℤ → Transfer → ℤ
debited balances t = balance_of balances t.table t.from -ℤ pos t.amount

abbrev pub standing : List ℤ → Transfer → ℤ
standing balances t = if t.to == t.from then debited balances t else balance_of balances t.table t.to

abbrev pub credited : List ℤ → Transfer → ℤ
credited balances t = standing balances t +ℤ pos t.amount

-- balances follow the transfers that commit
abbrev pub settled : List ℤ → Transfer → List ℤ
settled balances t =
    if t.aborts then balances
    else with_balance t.table t.to (credited balances t) (with_balance t.table t.from (debited balances t) balances)

-- the first record of a transfer
abbrev pub first_record : ℕ → Transfer → ℤ → Writing
first_record txn t balance = writing (thread_of t.table) (Begin txn ∷ put txn t.table t.from balance ∷ [])

-- the second one, which its thread keeps for later, ends with the commit, or takes both changes back and aborts
abbrev pub second_of : ℕ → Transfer → ℤ → Second
second_of txn t balance = record { txn = txn; table = t.table; from = t.from; to = t.to; balance = balance; aborts = t.aborts }

abbrev pub ending : Second → List Vector
ending s =
    if s.aborts then undo s.txn s.table s.to ∷ undo s.txn s.table s.from ∷ Abort s.txn ∷ []
    else Commit s.txn true ∷ []

abbrev pub second_vectors : Second → List Vector
second_vectors s = put s.txn s.table s.to s.balance ∷ ending s

-- what a thread has kept goes out, where it has kept something
abbrev pub kept_by : ℕ → Kept → Option Second
kept_by thread kept = if thread == 1 then kept.one else if thread == 2 then kept.two else kept.three

abbrev pub with_kept : ℕ → Second → Kept → Kept
with_kept thread s kept =
    if thread == 1 then record kept { one = Some s }
    else if thread == 2 then record kept { two = Some s }
    else record kept { three = Some s }

abbrev pub left_over : ℕ → Option Second → List Writing
left_over thread None = []
left_over thread (Some s) = writing thread (second_vectors s) ∷ []

-- the bank before the first transfer
abbrev pub nothing_kept : Kept
nothing_kept = record { one = None; two = None; three = None }

unfoldable pub first_balances : List ℤ
first_balances = replicate 2000 first_balance

abbrev pub opened : ℕ → Bank
opened seed = record { source = seed; balances = first_balances; kept = nothing_kept; made = 0 }

-- one transfer: what it writes, and how it leaves the bank
abbrev pub number_of : Bank → ℕ
number_of bank = 1001 + bank.made

unfoldable pub transfer_writings : Bank → List Writing
transfer_writings bank =
    let t = drawn bank.source in
    let thread = thread_of t.table in
    left_over thread (kept_by thread bank.kept) ++ first_record (number_of bank) t (debited bank.balances t) ∷ []

unfoldable pub after_transfer : Bank → Bank
after_transfer bank =
    let t = drawn bank.source in
    record {
      source = draws 6 bank.source;
      balances = settled bank.balances t;
      kept = with_kept (thread_of t.table) (second_of (number_of bank) t (credited bank.balances t)) bank.kept;
      made = bank.made + 1;
    }

-- so many transfers
abbrev pub transfers : ℕ → Bank → List Writing
transfers zero bank = []
transfers (suc n) bank = transfer_writings bank ++ transfers n (after_transfer bank)

abbrev pub after_transfers : ℕ → Bank → Bank
after_transfers zero bank = bank
after_transfers (suc n) bank = after_transfers n (after_transfer bank)

-- the end: what is still kept, by thread, and then the ends of the threads
abbrev pub all_kept : Kept → List Writing
all_kept kept = left_over 1 kept.one ++ left_over 2 kept.two ++ left_over 3 kept.three

abbrev pub end_of : ℕ → Writing
end_of thread = writing thread (EndThread ∷ [])

abbrev pub ends : List Writing
ends = end_of 1 ∷ end_of 2 ∷ end_of 3 ∷ []

abbrev pub closing : Kept → List Writing
closing kept = all_kept kept ++ ends
