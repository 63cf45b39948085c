-- Each delivery keeps within the limits of a feed, and no thread writes after its end.
use Rattle.std.proofs.Common.{◌≡◌, ℕ, zero, suc, ◌+◌, ◌-◌, ◌*◌, ◌≤◌, Bool, true, false, cond, min, List, [], ◌∷◌, ◌++◌, length, map, filter, Option, Some, None, refl, sym, ap, ◌∙◌, subst, arith, append-nil, true≢false}
use Rattle.std.specs.Prelude.{◌==◌, ◌&&◌}
use Rattle.std.specs.List.{AllByRecursion, flat_map, range_with_len}
use Rattle.std.specs.Int.{div_ceil}
use Rattle.std.proofs.lemmas.List.{length-append}
use Rattle.std.proofs.lemmas.Bool.Decides.{nat_tests}
use Rattle.std.proofs.lemmas.List.FromFn.{length-map-range_with_len, length-range_with_len}
use Rattle.adg_base.specs.declared.command.Command.TheVariants as command
use Rattle.adg_base.specs.declared.vector.Vector.TheVariants.{Commit, Abort}
use Rattle.adg_model.specs.Feed.{IsIn}
use Rattle.adg_model.specs.Records.{begins_with_end}
use Rattle.adg_model.specs.Spelling.{vectors_bytes}
use Rattle.adg_model.proofs.LogLaws.{each_append}
use Rattle.feed_gen.specs.declared.writing.Writing.{Writing}
use Rattle.feed_gen.specs.declared.question.Question.{Question}
use Rattle.feed_gen.specs.declared.question.Question.TheVariants.{Populate, Sums, CountsAndSums}
use Rattle.feed_gen.specs.declared.bank.Bank.{Bank}
use Rattle.feed_gen.specs.declared.second.Kept.{Kept}
use Rattle.feed_gen.specs.declared.second.Second.{Second}
use Rattle.feed_gen.specs.Draws.{drawn}
use Rattle.feed_gen.specs.Tables.{thread_of, writing, put, undo, first_balance, create, puts, first_load, second_load, load, creates, loads}
use Rattle.feed_gen.specs.Transfers.{debited, credited, number_of, first_record, second_of, second_vectors, kept_by, with_kept, left_over, all_kept, ends, closing, opened, transfer_writings, after_transfer, transfers, after_transfers}
use Rattle.feed_gen.specs.Commands.{Asking, ask, command_of, is_own, asks_own, all_tables, opening_asked, again_asked, abort_asked, transfer_asked, closing_asked, of_sessions}
use Rattle.feed_gen.specs.Generated.{Draft, portion_of, portions, opening, transfer_draft, last_draft, transfer_drafts, drafts}
use Rattle.feed_gen.proofs.Texts.{text_few}
use Rattle.feed_gen.proofs.Small.{IsWriting, creates_good, loads_good, transfers_good, closing_good, transfers_len, left_over_len, IsSteady, steady_by, made_by, opened_steady, each_flat_range}
use Rattle.feed_gen.proofs.Loops.{loaded_len, created_len}
use Rattle.feed_gen.proofs.Threads.{all_written, ends_thread, EndsLast}
use Rattle.feed_gen.proofs.Whole.{IsAsked, IsDraft}

-- ---- what is asked

abbrev AreTables : List ℕ → Type 0
AreTables tables = AllByRecursion (λ k. k ≤ 20) tables

tables_few : (a n : ℕ) → a + n ≤ 21 → AreTables (range_with_len a n)
tables_few a zero few = tt
tables_few a (suc n) few = (omega (arith, few), tables_few (a + 1) n (omega (arith, few)))

all_few : AreTables all_tables
unfolding all_tables
all_few = tables_few 1 20 (omega arith)

all_len : length all_tables ≡ 20
unfolding all_tables
all_len = length-range_with_len 1 20

ask_good : (s k : ℕ) (question : Question) → IsIn 4 s → k ≤ 20 → IsAsked (ask s (command_of question k))
ask_good s k question h few = record { session = h; few = text_few question k (omega (arith, few)) }

own_good : (s : ℕ) (question : Question) (tables : List ℕ) → IsIn 4 s → AreTables tables → AllByRecursion IsAsked (asks_own question s tables)
own_good s question [] h few = tt
own_good s question (k ∷ tables) h few = by_own (is_own s k) (own_good s question tables h few.1)
  where
    by_own : (b : Bool) → AllByRecursion IsAsked (asks_own question s tables) → AllByRecursion IsAsked (map (λ k. ask s (command_of question k)) (cond b (k ∷ filter (is_own s) tables) (filter (is_own s) tables)))
    by_own true ih = (ask_good s k question h few.0, ih)
    by_own false ih = ih

own_len : (s : ℕ) (question : Question) (tables : List ℕ) → length (asks_own question s tables) ≤ length tables
own_len s question [] = omega arith
own_len s question (k ∷ tables) = by_own (is_own s k) (own_len s question tables)
  where
    by_own : (b : Bool) → length (asks_own question s tables) ≤ length tables → length (map (λ k. ask s (command_of question k)) (cond b (k ∷ filter (is_own s) tables) (filter (is_own s) tables))) ≤ suc (length tables)
    by_own true ih = omega (arith, ih)
    by_own false ih = omega (arith, ih)

sync_good : (s : ℕ) → IsIn 4 s → IsAsked (ask s command.Sync)
sync_good s h = record { session = h; few = omega arith }

opening_asked_good : (s : ℕ) → IsIn 4 s → AllByRecursion IsAsked (opening_asked s) × (length (opening_asked s) ≤ 50)
unfolding opening_asked
opening_asked_good s h = ((sync_good s h, own_good s Populate all_tables h all_few), omega (arith, own_len s Populate all_tables, all_len))

again_good : (delivery s : ℕ) → IsIn 4 s → AllByRecursion IsAsked (again_asked delivery s) × (length (again_asked delivery s) ≤ 20)
again_good delivery s h = by_test (delivery == 7)
  where
    by_test : (b : Bool) → AllByRecursion IsAsked (cond b (asks_own Populate s all_tables) []) × (length (cond b (asks_own Populate s all_tables) []) ≤ 20)
    by_test true = (own_good s Populate all_tables h all_few, omega (arith, own_len s Populate all_tables, all_len))
    by_test false = (tt, omega arith)

abort_good : (delivery s : ℕ) → IsIn 4 s → AllByRecursion IsAsked (abort_asked delivery s) × (length (abort_asked delivery s) ≤ 1)
abort_good delivery s h = by_test ((delivery == 6) && (s == 2))
  where
    by_test : (b : Bool) → AllByRecursion IsAsked (cond b (ask s command.Abort ∷ []) []) × (length (cond b (ask s command.Abort ∷ []) []) ≤ 1)
    by_test true = ((record { session = h; few = omega arith }, tt), omega arith)
    by_test false = (tt, omega arith)

transfer_asked_good : (delivery s : ℕ) → IsIn 4 s → AllByRecursion IsAsked (transfer_asked delivery s) × (length (transfer_asked delivery s) ≤ 50)
unfolding transfer_asked
transfer_asked_good delivery s h =
    let again = again_good delivery s h in
    let abort = abort_good delivery s h in
    let own = asks_own Sums s all_tables in (
      each_append IsAsked (again_asked delivery s ++ own) (abort_asked delivery s) (each_append IsAsked (again_asked delivery s) own again.0 (own_good s Sums all_tables h all_few)) abort.0,
      omega (arith, again.1, abort.1, own_len s Sums all_tables, all_len, length-append (again_asked delivery s ++ own) (abort_asked delivery s), length-append (again_asked delivery s) own),
    )

sessions_good : (f : ℕ → List Asking) → ((s : ℕ) → IsIn 4 s → AllByRecursion IsAsked (f s) × (length (f s) ≤ 50)) → AllByRecursion IsAsked (of_sessions f) × (length (of_sessions f) ≤ 200)
sessions_good f h = (
  each_flat_range IsAsked f 1 4 (λ s a b. (h s (a, omega (arith, b))).0),
  omega (
    arith,
    (h 1 (omega arith, omega arith)).1,
    (h 2 (omega arith, omega arith)).1,
    (h 3 (omega arith, omega arith)).1,
    (h 4 (omega arith, omega arith)).1,
    length-append (f 1) (f 2 ++ (f 3 ++ (f 4 ++ []))),
    length-append (f 2) (f 3 ++ (f 4 ++ [])),
    length-append (f 3) (f 4 ++ []),
    length-append (f 4) [],
  ),
)

counts_good : (tables : List ℕ) → AreTables tables → AllByRecursion IsAsked (map (λ k. ask 1 (command_of CountsAndSums k)) tables)
counts_good [] few = tt
counts_good (k ∷ tables) few = (ask_good 1 k CountsAndSums (omega arith, omega arith) few.0, counts_good tables few.1)

counts_len : (tables : List ℕ) → length (map (λ k. ask 1 (command_of CountsAndSums k)) tables) ≡ length tables
counts_len [] = refl
counts_len (k ∷ tables) = omega (arith, counts_len tables)

closing_asked_good : AllByRecursion IsAsked closing_asked × (length closing_asked ≤ 200)
unfolding closing_asked
closing_asked_good = ((sync_good 1 (omega arith, omega arith), counts_good all_tables all_few), omega (arith, counts_len all_tables, all_len))

-- ---- the deliveries

opening_len : length (creates ++ loads) ≡ 60
unfolding creates loads
opening_len = omega (arith, created_len 20, loaded_len 1 20, length-append (map create (range_with_len 1 20)) (flat_map load (range_with_len 1 20)))

opening_good : IsDraft opening
opening_good =
    let asked = sessions_good opening_asked opening_asked_good in
    record { written = each_append IsWriting creates loads creates_good loads_good; few_written = omega (arith, opening_len); asked = asked.0; few_asked = asked.1 }

kept_len : (kept : Kept) → length (all_kept kept) ≤ 3
kept_len kept =
    omega (
      arith,
      left_over_len 1 kept.one,
      left_over_len 2 kept.two,
      left_over_len 3 kept.three,
      length-append (left_over 1 kept.one ++ left_over 2 kept.two) (left_over 3 kept.three),
      length-append (left_over 1 kept.one) (left_over 2 kept.two),
    )

last_good : (bank : Bank) → IsSteady bank → IsDraft (last_draft bank.kept)
last_good bank h = record {
  written = closing_good bank.kept h.ready;
  few_written = omega (arith, kept_len bank.kept, length-append (all_kept bank.kept) ends);
  asked = closing_asked_good.0;
  few_asked = closing_asked_good.1;
}

abbrev total : List ℕ → ℕ
total [] = 0
total (n ∷ ns) = n + total ns

abbrev ArePortions : List ℕ → Type 0
ArePortions ns = AllByRecursion (λ n. n ≤ 500) ns

transfer_good : (delivery n : ℕ) (bank : Bank) → n ≤ 500 → bank.made + n ≤ 100000 → IsSteady bank → IsDraft (transfer_draft delivery n bank)
transfer_good delivery n bank few all h =
    let asked = sessions_good (transfer_asked delivery) (transfer_asked_good delivery) in
    record { written = transfers_good n bank all h; few_written = omega (arith, transfers_len n bank, few); asked = asked.0; few_asked = asked.1 }

transfer_drafts_good : (ns : List ℕ) (delivery : ℕ) (bank : Bank) → ArePortions ns → bank.made + total ns ≤ 100000 → IsSteady bank → AllByRecursion IsDraft (transfer_drafts delivery ns bank)
transfer_drafts_good [] delivery bank few all h = (last_good bank h, tt)
transfer_drafts_good (n ∷ ns) delivery bank few all h = (
  transfer_good delivery n bank few.0 (omega (arith, all)) h,
  transfer_drafts_good ns (delivery + 1) (after_transfers n bank) few.1 (omega (arith, all, made_by n bank)) (steady_by n bank (omega (arith, all)) h),
)

drafts_len : (ns : List ℕ) (delivery : ℕ) (bank : Bank) → length (transfer_drafts delivery ns bank) ≡ length ns + 1
drafts_len [] delivery bank = refl
drafts_len (n ∷ ns) delivery bank = omega (arith, drafts_len ns (delivery + 1) (after_transfers n bank))

-- ---- the portions

portions_few : (txns i n : ℕ) → ArePortions (map (portion_of txns) (range_with_len i n))
portions_few txns i zero = tt
portions_few txns i (suc n) = (omega arith, portions_few txns (i + 1) n)

portions_sum_from : (txns i n : ℕ) → total (map (portion_of txns) (range_with_len i n)) ≡ min (500 * n) (txns - 500 * i)
portions_sum_from txns i zero = omega arith
portions_sum_from txns i (suc n) = omega (arith, portions_sum_from txns (i + 1) n)

pub portions_sum : (txns : ℕ) → total (portions txns) ≡ txns
portions_sum txns = omega (arith, portions_sum_from txns 0 (div_ceil txns 500))

portions_len : (txns : ℕ) → txns ≤ 100000 → length (portions txns) ≤ 200
portions_len txns few = omega (arith, few, length-map-range_with_len (portion_of txns) 0 (div_ceil txns 500))

pub all_drafts_good : (seed txns : ℕ) → txns ≤ 100000 → AllByRecursion IsDraft (drafts seed txns)
unfolding drafts
all_drafts_good seed txns few =
    (opening_good, transfer_drafts_good (portions txns) 2 (opened seed) (portions_few txns 0 (div_ceil txns 500)) (omega (arith, few, portions_sum txns)) (opened_steady seed))

pub all_drafts_len : (seed txns : ℕ) → txns ≤ 100000 → length (drafts seed txns) ≤ 202
unfolding drafts
all_drafts_len seed txns few = omega (arith, drafts_len (portions txns) 2 (opened seed), portions_len txns few)

pub written_good : (ds : List Draft) → AllByRecursion IsDraft ds → AllByRecursion IsWriting (all_written ds)
written_good [] h = tt
written_good (d ∷ ds) h = each_append IsWriting d.written (all_written ds) h.0.written (written_good ds h.1)

pub written_few : (ds : List Draft) → AllByRecursion IsDraft ds → length (all_written ds) ≤ 1000 * length ds
written_few [] h = omega arith
written_few (d ∷ ds) h = omega (arith, h.0.few_written, written_few ds h.1, length-append d.written (all_written ds))

-- ---- no thread writes after its end

abbrev NoEnd : Writing → Type 0
NoEnd w = ends_thread w ≡ false

not_one : (n : ℕ) → 2 ≤ n → (n == 1) ≡ false
not_one n some = grind (arith, nat_tests)

long_no_end : (w : Writing) → 2 ≤ length w.vectors → NoEnd w
long_no_end w some = ap (λ b. b && begins_with_end (vectors_bytes w.vectors)) (not_one (length w.vectors) some)

create_no_end : (a n : ℕ) → AllByRecursion NoEnd (map create (range_with_len a n))
create_no_end a zero = tt
create_no_end a (suc n) = (refl, create_no_end (a + 1) n)

puts_length : (k from n : ℕ) → length (puts k from n) ≡ n
puts_length k from n = length-map-range_with_len (λ j. put k k j first_balance) from n

load_no_end : (k : ℕ) → AllByRecursion NoEnd (load k)
unfolding first_load second_load
load_no_end k =
    (long_no_end (first_load k) (omega (arith, puts_length k 0 50)), (long_no_end (second_load k) (omega (arith, puts_length k 50 50, length-append (puts k 50 50) (Commit k true ∷ []))), tt))

loads_no_end : (a n : ℕ) → AllByRecursion NoEnd (flat_map load (range_with_len a n))
loads_no_end a n = each_flat_range NoEnd load a n (λ k from to. load_no_end k)

second_no_end : (thread : ℕ) (s : Second) → NoEnd (writing thread (second_vectors s))
second_no_end thread s = long_no_end (writing thread (second_vectors s)) (by_fate s.aborts)
  where
    by_fate : (b : Bool) → 2 ≤ length (put s.txn s.table s.to s.balance ∷ cond b (undo s.txn s.table s.to ∷ undo s.txn s.table s.from ∷ Abort s.txn ∷ []) (Commit s.txn true ∷ []))
    by_fate true = omega arith
    by_fate false = omega arith

left_no_end : (thread : ℕ) (o : Option Second) → AllByRecursion NoEnd (left_over thread o)
left_no_end thread None = tt
left_no_end thread (Some s) = (second_no_end thread s, tt)

transfer_no_end : (bank : Bank) → AllByRecursion NoEnd (transfer_writings bank)
unfolding transfer_writings
transfer_no_end bank =
    let t = drawn bank.source in
    let thread = thread_of t.table in
    let first = first_record (number_of bank) t (debited bank.balances t) in
    each_append NoEnd (left_over thread (kept_by thread bank.kept)) (first ∷ []) (left_no_end thread (kept_by thread bank.kept)) (long_no_end first (omega arith), tt)

transfers_no_end : (n : ℕ) (bank : Bank) → AllByRecursion NoEnd (transfers n bank)
transfers_no_end zero bank = tt
transfers_no_end (suc n) bank = each_append NoEnd (transfer_writings bank) (transfers n (after_transfer bank)) (transfer_no_end bank) (transfers_no_end n (after_transfer bank))

kept_no_end : (kept : Kept) → AllByRecursion NoEnd (all_kept kept)
kept_no_end kept =
    each_append NoEnd (left_over 1 kept.one ++ left_over 2 kept.two) (left_over 3 kept.three)
    (each_append NoEnd (left_over 1 kept.one) (left_over 2 kept.two) (left_no_end 1 kept.one) (left_no_end 2 kept.two)) (left_no_end 3 kept.three)

ends_behind : (ws vs : List Writing) → AllByRecursion NoEnd ws → EndsLast vs → EndsLast (ws ++ vs)
ends_behind [] vs h e = e
ends_behind (w ∷ ws) vs h e = ((λ t. absurd (true≢false (sym t ∙ h.0))), ends_behind ws vs h.1 e)

ends_last : EndsLast ends
ends_last = ((λ t. ((λ e. omega (arith, e)), ((λ e. omega (arith, e)), tt))), ((λ t. ((λ e. omega (arith, e)), tt)), ((λ t. tt), tt)))

closing_ends : (kept : Kept) → EndsLast (closing kept)
closing_ends kept = ends_behind (all_kept kept) ends (kept_no_end kept) ends_last

drafts_end : (ns : List ℕ) (delivery : ℕ) (bank : Bank) → EndsLast (all_written (transfer_drafts delivery ns bank))
drafts_end [] delivery bank = subst EndsLast (sym (append-nil (closing bank.kept))) (closing_ends bank.kept)
drafts_end (n ∷ ns) delivery bank =
    ends_behind (transfers n bank) (all_written (transfer_drafts (delivery + 1) ns (after_transfers n bank))) (transfers_no_end n bank) (drafts_end ns (delivery + 1) (after_transfers n bank))

pub all_end : (seed txns : ℕ) → EndsLast (all_written (drafts seed txns))
unfolding drafts creates loads
all_end seed txns =
    ends_behind (creates ++ loads) (all_written (transfer_drafts 2 (portions txns) (opened seed)))
    (each_append NoEnd creates loads (create_no_end 1 20) (loads_no_end 1 20)) (drafts_end (portions txns) 2 (opened seed))

-- ---- how many records there are

abbrev count_of : Option Second → ℕ
count_of None = 0
count_of (Some s) = 1

abbrev kept_count : Kept → ℕ
kept_count kept = count_of kept.one + count_of kept.two + count_of kept.three

left_count : (thread : ℕ) (o : Option Second) → length (left_over thread o) ≡ count_of o
left_count thread None = refl
left_count thread (Some s) = refl

keep_count : (thread : ℕ) (s : Second) (kept : Kept) → count_of (kept_by thread kept) + kept_count (with_kept thread s kept) ≡ kept_count kept + 1
keep_count thread s kept = by_thread (thread == 1) (thread == 2)
  where
    by_thread : (a b : Bool) → count_of (cond a kept.one (cond b kept.two kept.three)) + kept_count (cond a (record kept { one = Some s }) (cond b (record kept { two = Some s }) (record kept { three = Some s }))) ≡ kept_count kept + 1
    by_thread true b = omega arith
    by_thread false true = omega arith
    by_thread false false = omega arith

transfer_count : (bank : Bank) → length (transfer_writings bank) + kept_count (after_transfer bank).kept ≡ kept_count bank.kept + 2
unfolding transfer_writings after_transfer
transfer_count bank =
    let t = drawn bank.source in
    let thread = thread_of t.table in
    let first = first_record (number_of bank) t (debited bank.balances t) in
    omega (arith, left_count thread (kept_by thread bank.kept), keep_count thread (second_of (number_of bank) t (credited bank.balances t)) bank.kept, length-append (left_over thread (kept_by thread bank.kept)) (first ∷ []))

transfers_count : (n : ℕ) (bank : Bank) → length (transfers n bank) + kept_count (after_transfers n bank).kept ≡ kept_count bank.kept + 2 * n
transfers_count zero bank = omega arith
transfers_count (suc n) bank = omega (arith, transfer_count bank, transfers_count n (after_transfer bank), length-append (transfer_writings bank) (transfers n (after_transfer bank)))

closing_count : (kept : Kept) → length (closing kept) ≡ kept_count kept + 3
closing_count kept =
    omega (
      arith,
      left_count 1 kept.one,
      left_count 2 kept.two,
      left_count 3 kept.three,
      length-append (all_kept kept) ends,
      length-append (left_over 1 kept.one ++ left_over 2 kept.two) (left_over 3 kept.three),
      length-append (left_over 1 kept.one) (left_over 2 kept.two),
    )

drafts_count : (ns : List ℕ) (delivery : ℕ) (bank : Bank) → length (all_written (transfer_drafts delivery ns bank)) ≡ kept_count bank.kept + 2 * total ns + 3
drafts_count [] delivery bank = omega (arith, closing_count bank.kept, length-append (closing bank.kept) [])
drafts_count (n ∷ ns) delivery bank =
    omega (arith, transfers_count n bank, drafts_count ns (delivery + 1) (after_transfers n bank), length-append (transfers n bank) (all_written (transfer_drafts (delivery + 1) ns (after_transfers n bank))))

pub all_count : (seed txns : ℕ) → length (all_written (drafts seed txns)) ≡ 63 + 2 * txns
unfolding drafts
all_count seed txns =
    let rest = all_written (transfer_drafts 2 (portions txns) (opened seed)) in
    omega (arith, opening_len, drafts_count (portions txns) 2 (opened seed), portions_sum txns, length-append (creates ++ loads) rest)
