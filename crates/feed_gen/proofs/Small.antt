-- Each record that is written can be read, and is short.
use Rattle.std.proofs.Common.{◌≡◌, ℕ, zero, suc, ◌+◌, ◌*◌, ◌<◌, ◌≤◌, Bool, true, false, cond, List, [], ◌∷◌, ◌++◌, length, map, Option, Some, None, refl, sym, subst, arith}
use Rattle.std.specs.Prelude.{ℤ, FitsSigned, ◌==◌}
use Rattle.std.specs.List.{AllByRecursion, flat_map, range_with_len}
use Rattle.std.specs.Int.{w64}
use Rattle.std.proofs.Math.Nat.{div-le_self}
use Rattle.std.proofs.lemmas.Int.{ints}
use Rattle.std.proofs.lemmas.List.{length-append}
use Rattle.std.proofs.lemmas.List.FromFn.{length-map-range_with_len}
use Rattle.adg_base.specs.declared.vector.Vector.{Vector}
use Rattle.adg_base.specs.declared.vector.Vector.TheVariants.{Begin, Commit, Abort, Create, EndThread}
use Rattle.adg_model.specs.Feed.{IsIn}
use Rattle.adg_model.specs.Spelling.{vector_bytes, vectors_bytes, IsTxn, IsVector, AreVectors}
use Rattle.adg_model.proofs.LogLaws.{each_append}
use Rattle.feed_gen.specs.declared.writing.Writing.{Writing}
use Rattle.feed_gen.specs.declared.transfer.Transfer.{Transfer}
use Rattle.feed_gen.specs.declared.second.Second.{Second}
use Rattle.feed_gen.specs.declared.second.Kept.{Kept}
use Rattle.feed_gen.specs.declared.bank.Bank.{Bank}
use Rattle.feed_gen.specs.Tables.{thread_of, writing, extents_of, block_of, slot_of, kinds, label, put, undo, create, first_balance, puts, first_load, second_load, load, creates, loads}
use Rattle.feed_gen.specs.Draws.{drawn}
use Rattle.feed_gen.specs.Transfers.{number_of, debited, credited, first_record, second_of, second_vectors, kept_by, with_kept, left_over, all_kept, end_of, ends, closing, opened, transfer_writings, after_transfer, transfers, after_transfers}
use Rattle.feed_gen.specs.Bounds.{IsTable, IsRowNumber, IsWithin, IsTransfer, IsSecond, IsGood}
use Rattle.feed_gen.proofs.Labels.{label_good}
use Rattle.feed_gen.proofs.Good.{drawn_good, second_good, debited_good, credited_good, good_after, made_after, first_within}

-- a vector of a record with so many, and of at most a hundred bytes
pub record IsSmall (count : ℕ) (v : Vector) : Type 0 where
  pub spelled : IsVector count v
  pub few : length (vector_bytes v) ≤ 100

pub small_spelled : (count : ℕ) (vs : List Vector) → AllByRecursion (IsSmall count) vs → AreVectors count vs
small_spelled count [] h = tt
small_spelled count (v ∷ vs) h = (h.0.spelled, small_spelled count vs h.1)

pub small_few : (count : ℕ) (vs : List Vector) → AllByRecursion (IsSmall count) vs → length (vectors_bytes vs) ≤ 100 * length vs
small_few count [] h = omega arith
small_few count (v ∷ vs) h = omega (arith, h.0.few, small_few count vs h.1, length-append (vector_bytes v) (vectors_bytes vs))

-- a record of one of the three threads whose vectors are all small
pub record IsWriting (w : Writing) : Type 0 where
  pub thread : IsIn 3 w.thread
  pub count : length w.vectors ≤ 60
  pub vectors : AllByRecursion (IsSmall (length w.vectors)) w.vectors

pub thread_in : (table : ℕ) → IsIn 3 (thread_of table)
thread_in table = (omega arith, omega arith)

-- ---- the vectors

pub fits_small : (b : ℤ) → IsWithin 20000000 b → FitsSigned w64 b
fits_small b h = omega (arith, ints, h.low, h.high)

slot_few : (table row : ℕ) → IsRowNumber row → slot_of table row < 100
slot_few table row lt = omega (arith, lt, div-le_self row (extents_of table))

block_few : (table row : ℕ) → IsTable table → block_of table row < 16 * (2 * table)
block_few table row h = let some : 1 ≤ table = h.0 in omega arith

put_len : (txn table row : ℕ) (balance : ℤ) → length (vector_bytes (put txn table row balance)) ≡ 35 + length (label row)
put_len txn table row balance = omega (arith, length-append (label row) [])

pub put_small : (count txn table row : ℕ) (balance : ℤ) → IsTxn txn → IsTable table → IsRowNumber row → IsWithin 20000000 balance → IsSmall count (put txn table row balance)
put_small count txn table row balance t o r b =
    let good = label_good row r in
    let block = block_few table row o in
    let slot = slot_few table row r in
    record {
      spelled = (
        record { good_txn = t; good_obj = (o.0, omega (arith, o.1)); good_block = omega (arith, block, o.1); good_slot = omega (arith, slot) },
        record { some = omega arith; few = omega arith; values = (omega (arith, ints), (fits_small balance b, (good.text, tt))) },
      );
      few = omega (arith, put_len txn table row balance, good.few);
    }

pub undo_small : (count txn table row : ℕ) → IsTxn txn → IsTable table → IsRowNumber row → IsSmall count (undo txn table row)
undo_small count txn table row t o r =
    let block = block_few table row o in
    let slot = slot_few table row r in
    record {
      spelled = record { good_txn = t; good_obj = (o.0, omega (arith, o.1)); good_block = omega (arith, block, o.1); good_slot = omega (arith, slot) };
      few = omega arith;
    }

begin_small : (count txn : ℕ) → IsTxn txn → IsSmall count (Begin txn)
begin_small count txn t = record { spelled = t; few = omega arith }

commit_small : (count txn : ℕ) → IsTxn txn → IsSmall count (Commit txn true)
commit_small count txn t = record { spelled = t; few = omega arith }

abort_small : (count txn : ℕ) → IsTxn txn → IsSmall count (Abort txn)
abort_small count txn t = record { spelled = t; few = omega arith }

create_small : (count table : ℕ) → IsTable table → IsSmall count (Create table (extents_of table) true kinds)
create_small count table o = record {
  spelled = record { good_obj = (o.0, omega (arith, o.1)); some_extents = omega (arith, o.0); few_extents = omega (arith, o.1); some_columns = omega arith; few_columns = omega arith };
  few = omega arith;
}

-- ---- what holds of each number of a range, of what is made of them

pub each_range : {X : Type 0} (P : X → Type 0) (f : ℕ → X) (a n : ℕ) → ((k : ℕ) → a ≤ k → k < a + n → P (f k)) → AllByRecursion P (map f (range_with_len a n))
each_range P f a zero h = tt
each_range P f a (suc n) h = (h a (omega arith) (omega arith), each_range P f (a + 1) n (λ k from to. h k (omega (arith, from)) (omega (arith, to))))

pub each_flat_range : {X : Type 0} (P : X → Type 0) (f : ℕ → List X) (a n : ℕ) → ((k : ℕ) → a ≤ k → k < a + n → AllByRecursion P (f k)) → AllByRecursion P (flat_map f (range_with_len a n))
each_flat_range P f a zero h = tt
each_flat_range P f a (suc n) h = each_append P (f a) (flat_map f (range_with_len (a + 1) n)) (h a (omega arith) (omega arith)) (each_flat_range P f (a + 1) n (λ k from to. h k (omega (arith, from)) (omega (arith, to))))

-- ---- the opening

first_balance_within : IsWithin 20000000 first_balance
first_balance_within = record { low = omega (arith, ints); high = omega (arith, ints) }

table_txn : (table : ℕ) → IsTable table → IsTxn table
table_txn table h = (h.0, omega (arith, h.1))

puts_small : (count table from n : ℕ) → IsTable table → from + n ≤ 100 → AllByRecursion (IsSmall count) (puts table from n)
puts_small count table from n h few =
    each_range (IsSmall count) (λ j. put table table j first_balance) from n (λ k a b. put_small count table table k first_balance (table_txn table h) h (omega (arith, b, few)) first_balance_within)

puts_len : (table from n : ℕ) → length (puts table from n) ≡ n
puts_len table from n = length-map-range_with_len (λ j. put table table j first_balance) from n

create_good : (table : ℕ) → IsTable table → IsWriting (create table)
create_good table h = record { thread = thread_in table; count = omega arith; vectors = (create_small 1 table h, tt) }

is_writing : (thread count : ℕ) (vs : List Vector) → IsIn 3 thread → count ≤ 60 → length vs ≡ count → AllByRecursion (IsSmall count) vs → IsWriting (writing thread vs)
is_writing thread count vs t few e h = record { thread = t; count = omega (arith, few, e); vectors = subst (λ n. AllByRecursion (IsSmall n) vs) (sym e) h }

load_first : (table : ℕ) → IsTable table → IsWriting (first_load table)
unfolding first_load
load_first table h =
    is_writing (thread_of table) 51 (Begin table ∷ puts table 0 50) (thread_in table) (omega arith) (omega (arith, puts_len table 0 50))
    (begin_small 51 table (table_txn table h), puts_small 51 table 0 50 h (omega arith))

load_second : (table : ℕ) → IsTable table → IsWriting (second_load table)
unfolding second_load
load_second table h =
    is_writing (thread_of table) 51 (puts table 50 50 ++ Commit table true ∷ []) (thread_in table) (omega arith) (omega (arith, puts_len table 50 50, length-append (puts table 50 50) (Commit table true ∷ [])))
    (each_append (IsSmall 51) (puts table 50 50) (Commit table true ∷ []) (puts_small 51 table 50 50 h (omega arith)) (commit_small 51 table (table_txn table h), tt))

pub creates_good : AllByRecursion IsWriting creates
unfolding creates
creates_good = each_range IsWriting create 1 20 (λ k a b. create_good k (a, omega (arith, b)))

pub loads_good : AllByRecursion IsWriting loads
unfolding loads
loads_good = each_flat_range IsWriting load 1 20 (λ k a b. (load_first k (a, omega (arith, b)), (load_second k (a, omega (arith, b)), tt)))

-- ---- the transfers

txn_of : (n : ℕ) → n ≤ 100000 → IsTxn (1001 + n)
txn_of n few = (omega arith, omega (arith, few))

first_good : (txn : ℕ) (t : Transfer) (balance : ℤ) → IsTxn txn → IsTransfer t → IsWithin 20000000 balance → IsWriting (first_record txn t balance)
first_good txn t balance x h b =
    is_writing (thread_of t.table) 2 (Begin txn ∷ put txn t.table t.from balance ∷ []) (thread_in t.table) (omega arith) refl
    (begin_small 2 txn x, (put_small 2 txn t.table t.from balance x h.table h.from b, tt))

-- a second record that can be written
pub record IsReady (s : Second) : Type 0 where
  pub txn : IsTxn s.txn
  pub good : IsSecond s
  pub balance : IsWithin 20000000 s.balance

pub second_writing : (thread : ℕ) (s : Second) → IsIn 3 thread → IsReady s → IsWriting (writing thread (second_vectors s))
second_writing thread s t h = by_fate s.aborts
  where
    by_fate : (b : Bool) → IsWriting (writing thread (put s.txn s.table s.to s.balance ∷ cond b (undo s.txn s.table s.to ∷ undo s.txn s.table s.from ∷ Abort s.txn ∷ []) (Commit s.txn true ∷ [])))
    by_fate true =
        is_writing thread 4 _ t (omega arith) refl
        (put_small 4 s.txn s.table s.to s.balance h.txn h.good.table h.good.to h.balance, (undo_small 4 s.txn s.table s.to h.txn h.good.table h.good.to, (undo_small 4 s.txn s.table s.from h.txn h.good.table h.good.from, (abort_small 4 s.txn h.txn, tt))))
    by_fate false =
        is_writing thread 2 _ t (omega arith) refl
        (put_small 2 s.txn s.table s.to s.balance h.txn h.good.table h.good.to h.balance, (commit_small 2 s.txn h.txn, tt))

abbrev pub IsReadyKept : Option Second → Type 0
IsReadyKept None = Unit {0}
IsReadyKept (Some s) = IsReady s

pub record AreReady (kept : Kept) : Type 0 where
  pub one : IsReadyKept kept.one
  pub two : IsReadyKept kept.two
  pub three : IsReadyKept kept.three

pub left_over_good : (thread : ℕ) (o : Option Second) → IsIn 3 thread → IsReadyKept o → AllByRecursion IsWriting (left_over thread o)
left_over_good thread None t h = tt
left_over_good thread (Some s) t h = (second_writing thread s t h, tt)

ready_by : (thread : ℕ) (kept : Kept) → AreReady kept → IsReadyKept (kept_by thread kept)
ready_by thread kept h = by_thread (thread == 1) (thread == 2)
  where
    by_thread : (a b : Bool) → IsReadyKept (cond a kept.one (cond b kept.two kept.three))
    by_thread true b = h.one
    by_thread false true = h.two
    by_thread false false = h.three

ready_with : (thread : ℕ) (s : Second) (kept : Kept) → IsReady s → AreReady kept → AreReady (with_kept thread s kept)
ready_with thread s kept h k = by_thread (thread == 1) (thread == 2)
  where
    by_thread : (a b : Bool) → AreReady (cond a (record kept { one = Some s }) (cond b (record kept { two = Some s }) (record kept { three = Some s })))
    by_thread true b = record { one = h; two = k.two; three = k.three }
    by_thread false true = record { one = k.one; two = h; three = k.three }
    by_thread false false = record { one = k.one; two = k.two; three = h }

-- a bank whose next transfers can all be written
pub record IsSteady (bank : Bank) : Type 0 where
  pub good : IsGood bank
  pub ready : AreReady bank.kept

pub few_within : (made : ℕ) (b : ℤ) → made < 100000 → IsWithin (1000 + 100 * made + 100) b → IsWithin 20000000 b
few_within made b few h = record { low = omega (arith, ints, h.low); high = omega (arith, ints, h.high) }

pub transfer_good : (bank : Bank) → bank.made < 100000 → IsSteady bank → AllByRecursion IsWriting (transfer_writings bank)
unfolding transfer_writings
transfer_good bank few h =
    let t = drawn bank.source in
    let good = drawn_good bank.source in
    let thread = thread_of t.table in
    let debit = debited_good (1000 + 100 * bank.made) bank.balances t good h.good.balances in
    let balance : IsWithin 20000000 (debited bank.balances t) = few_within bank.made _ few (record { low = debit.0; high = omega (arith, ints, debit.1) }) in
    each_append IsWriting (left_over thread (kept_by thread bank.kept)) (first_record (number_of bank) t (debited bank.balances t) ∷ [])
    (left_over_good thread (kept_by thread bank.kept) (thread_in t.table) (ready_by thread bank.kept h.ready))
    (first_good (number_of bank) t (debited bank.balances t) (txn_of bank.made (omega (arith, few))) good balance, tt)

pub steady_after : (bank : Bank) → bank.made < 100000 → IsSteady bank → IsSteady (after_transfer bank)
unfolding after_transfer
steady_after bank few h = record { good = good_after bank h.good; ready = ready }
  where
    ready : AreReady (after_transfer bank).kept
    ready =
        let t = drawn bank.source in
        let good = drawn_good bank.source in
        let credit = credited_good (1000 + 100 * bank.made) bank.balances t good h.good.balances in
        ready_with (thread_of t.table) (second_of (number_of bank) t (credited bank.balances t)) bank.kept
        (record { txn = txn_of bank.made (omega (arith, few)); good = second_good (number_of bank) t (credited bank.balances t) good; balance = few_within bank.made _ few credit })
        h.ready

pub transfers_good : (n : ℕ) (bank : Bank) → bank.made + n ≤ 100000 → IsSteady bank → AllByRecursion IsWriting (transfers n bank)
transfers_good zero bank few h = tt
transfers_good (suc n) bank few h =
    each_append IsWriting (transfer_writings bank) (transfers n (after_transfer bank)) (transfer_good bank (omega (arith, few)) h)
    (transfers_good n (after_transfer bank) (omega (arith, few, made_after bank)) (steady_after bank (omega (arith, few)) h))

pub made_by : (n : ℕ) (bank : Bank) → (after_transfers n bank).made ≡ bank.made + n
made_by zero bank = omega arith
made_by (suc n) bank = omega (arith, made_by n (after_transfer bank), made_after bank)

pub steady_by : (n : ℕ) (bank : Bank) → bank.made + n ≤ 100000 → IsSteady bank → IsSteady (after_transfers n bank)
steady_by zero bank few h = h
steady_by (suc n) bank few h = steady_by n (after_transfer bank) (omega (arith, few, made_after bank)) (steady_after bank (omega (arith, few)) h)

pub opened_steady : (seed : ℕ) → IsSteady (opened seed)
opened_steady seed = record { good = record { kept = record { one = tt; two = tt; three = tt }; balances = first_within }; ready = record { one = tt; two = tt; three = tt } }

-- ---- the end

end_good : (thread : ℕ) → IsIn 3 thread → IsWriting (end_of thread)
end_good thread t = is_writing thread 1 (EndThread ∷ []) t (omega arith) refl (record { spelled = refl; few = omega arith }, tt)

pub all_kept_good : (kept : Kept) → AreReady kept → AllByRecursion IsWriting (all_kept kept)
all_kept_good kept h =
    each_append IsWriting (left_over 1 kept.one ++ left_over 2 kept.two) (left_over 3 kept.three)
    (each_append IsWriting (left_over 1 kept.one) (left_over 2 kept.two) (left_over_good 1 kept.one (omega arith, omega arith) h.one) (left_over_good 2 kept.two (omega arith, omega arith) h.two))
    (left_over_good 3 kept.three (omega arith, omega arith) h.three)

pub closing_good : (kept : Kept) → AreReady kept → AllByRecursion IsWriting (closing kept)
closing_good kept h = each_append IsWriting (all_kept kept) ends (all_kept_good kept h) (end_good 1 (omega arith, omega arith), (end_good 2 (omega arith, omega arith), (end_good 3 (omega arith, omega arith), tt)))

-- ---- how many records there are

pub left_over_len : (thread : ℕ) (o : Option Second) → length (left_over thread o) ≤ 1
left_over_len thread None = omega arith
left_over_len thread (Some s) = omega arith

pub transfer_len : (bank : Bank) → length (transfer_writings bank) ≤ 2
unfolding transfer_writings
transfer_len bank =
    let t = drawn bank.source in
    let thread = thread_of t.table in
    omega (arith, left_over_len thread (kept_by thread bank.kept), length-append (left_over thread (kept_by thread bank.kept)) (first_record (number_of bank) t (debited bank.balances t) ∷ []))

pub transfers_len : (n : ℕ) (bank : Bank) → length (transfers n bank) ≤ 2 * n
transfers_len zero bank = omega arith
transfers_len (suc n) bank = omega (arith, transfer_len bank, transfers_len n (after_transfer bank), length-append (transfer_writings bank) (transfers n (after_transfer bank)))

-- what the rows of a transfer have after it fits, in a word too
pub debited_fits : (bank : Bank) (t : Transfer) (z : ℤ) → bank.made < 100000 → IsGood bank → IsTransfer t → z ≡ debited bank.balances t → FitsSigned w64 z
debited_fits bank t z few h good e =
    let d = debited_good (1000 + 100 * bank.made) bank.balances t good h.balances in
    subst (FitsSigned w64) (sym e) (fits_small (debited bank.balances t) (few_within bank.made (debited bank.balances t) few (record { low = d.0; high = omega (arith, ints, d.1) })))

pub credited_fits : (bank : Bank) (t : Transfer) (z : ℤ) → bank.made < 100000 → IsGood bank → IsTransfer t → z ≡ credited bank.balances t → FitsSigned w64 z
credited_fits bank t z few h good e =
    subst (FitsSigned w64) (sym e) (fits_small (credited bank.balances t) (few_within bank.made (credited bank.balances t) few (credited_good (1000 + 100 * bank.made) bank.balances t good h.balances)))
