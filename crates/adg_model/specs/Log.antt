-- The frontier and the merged log: a filter and an order.
use Rattle.std.specs.Prelude.{ℕ, ◌+◌, Bool, not, ◌==◌, nat_lt, nat_le, ◌&&◌, ◌||◌, if◌then◌else◌, List, [], ◌∷◌, ◌++◌, map, filter, min, max}
use Rattle.adg_base.specs.declared.vector.Vector.{Vector}
use Rattle.adg_base.specs.declared.vector.RedoRecord.{RedoRecord}
use Rattle.adg_base.specs.declared.log.LogEntry.{LogEntry}
use Rattle.adg_model.specs.declared.delivery.RawDelivery.{RawDelivery}
use Rattle.adg_model.specs.Records.{Mark, first_mark, mark_after, raw_of, HasRecords, thread_text}

-- where a thread stands after its records
abbrev pub thread_mark : List RedoRecord → Mark
thread_mark records = mark_after first_mark (map raw_of records)

-- the least of some numbers, and the greatest; 0 of none
abbrev pub least : List ℕ → ℕ
least [] = 0
least (n ∷ []) = n
least (n ∷ m ∷ more) = min n (least (m ∷ more))

abbrev pub greatest : List ℕ → ℕ
greatest [] = 0
greatest (n ∷ more) = max n (greatest more)

abbrev pub is_open : Mark → Bool
is_open mark = not mark.ended

abbrev pub scns_of : List Mark → List ℕ
scns_of marks = map (λ m. m.scn) marks

abbrev pub or_greatest : List ℕ → List ℕ → ℕ
or_greatest [] all = greatest all
or_greatest (n ∷ more) all = least (n ∷ more)

-- the frontier: the least last SCN over the threads that have not ended; where all have, the greatest
-- last SCN of any thread
unfoldable pub frontier : List (List RedoRecord) → ℕ
frontier threads =
    let marks = map thread_mark threads in
    or_greatest (scns_of (filter is_open marks)) (scns_of marks)

-- The vectors of a record as entries: the record's number and the vector's index count from 1. A
-- position is given once the entries stand in order.
abbrev pub record_entries : (thread number scn index : ℕ) → List Vector → List LogEntry
record_entries thread number scn index [] = []
record_entries thread number scn index (v ∷ vs) =
    record { pos = 0; scn = scn; thread = thread; number = number; index = index; vector = v }
    ∷ record_entries thread number scn (index + 1) vs

-- the vectors of a thread's records, the first of which has this number
abbrev pub thread_entries : (thread number : ℕ) → List RedoRecord → List LogEntry
thread_entries thread number [] = []
thread_entries thread number (r ∷ rs) = record_entries thread number r.scn 1 r.vectors ++ thread_entries thread (number + 1) rs

-- the vectors of the threads from one on
abbrev pub entries_from : ℕ → List (List RedoRecord) → List LogEntry
entries_from thread [] = []
entries_from thread (records ∷ more) = thread_entries thread 1 records ++ entries_from (thread + 1) more

-- by SCN, then by thread, then by place in the record
abbrev pub comes_before : LogEntry → LogEntry → Bool
comes_before a b =
    nat_lt a.scn b.scn || ((a.scn == b.scn) && (nat_lt a.thread b.thread || ((a.thread == b.thread) && nat_lt a.index b.index)))

-- entries put in that order
abbrev pub put_in : LogEntry → List LogEntry → List LogEntry
put_in e [] = e ∷ []
put_in e (x ∷ xs) = if comes_before e x then e ∷ x ∷ xs else x ∷ put_in e xs

abbrev pub in_order : List LogEntry → List LogEntry
in_order [] = []
in_order (e ∷ es) = put_in e (in_order es)

-- positions from one on
abbrev pub numbered : ℕ → List LogEntry → List LogEntry
numbered pos [] = []
numbered pos (e ∷ es) = record e { pos = pos } ∷ numbered (pos + 1) es

-- the entries with an SCN at most this one
abbrev pub upto : ℕ → List LogEntry → List LogEntry
upto scn entries = filter (λ e. nat_le e.scn scn) entries

-- the merged log: the vectors of all records with an SCN at most the frontier, in order
unfoldable pub merged_log : List (List RedoRecord) → List LogEntry
merged_log threads = numbered 0 (in_order (upto (frontier threads) (entries_from 1 threads)))

-- these are the records that the threads from one on have after some deliveries
abbrev pub ReceivedFrom : ℕ → List RawDelivery → List (List RedoRecord) → Type 0
ReceivedFrom thread deliveries [] = Unit {0}
ReceivedFrom thread deliveries (records ∷ more) =
    HasRecords (thread_text thread deliveries) records × ReceivedFrom (thread + 1) deliveries more
