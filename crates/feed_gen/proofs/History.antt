-- All that is written passes the checks of a log.
use Rattle.std.proofs.Common.{◌≡◌, ℕ, zero, suc, ◌+◌, ◌≤◌, Bool, true, false, cond, List, [], ◌∷◌, ◌++◌, map, Option, Some, None, refl, sym, ap, ap₂, ◌∙◌, subst, arith, append_assoc, append-nil}
use Rattle.std.specs.Prelude.{◌==◌, ℤ}
use Rattle.std.specs.List.{flat_map, range_with_len}
use Rattle.std.proofs.lemmas.Grind.{flat_map-append}
use Rattle.adg_base.specs.declared.vector.Vector.{Vector}
use Rattle.adg_base.specs.declared.vector.Vector.TheVariants.{Create, Commit, EndThread}
use Rattle.adg_model.specs.Database.{Database, no_database}
use Rattle.feed_gen.specs.declared.writing.Writing.{Writing}
use Rattle.feed_gen.specs.declared.transfer.Transfer.{Transfer}
use Rattle.feed_gen.specs.declared.second.Second.{Second}
use Rattle.feed_gen.specs.declared.second.Kept.{Kept}
use Rattle.feed_gen.specs.declared.bank.Bank.{Bank}
use Rattle.feed_gen.specs.Draws.{drawn}
use Rattle.feed_gen.specs.Tables.{thread_of, extents_of, kinds, puts, create, first_load, second_load, load, creates, loads}
use Rattle.feed_gen.specs.Transfers.{debited, credited, second_of, first_record, number_of, kept_by, with_kept, left_over, all_kept, ends, closing, nothing_kept, opened, transfer_writings, after_transfer, transfers, after_transfers}
use Rattle.feed_gen.specs.Generated.{portions, transfer_drafts, drafts}
use Rattle.feed_gen.specs.Bounds.{IsTransfer}
use Rattle.feed_gen.proofs.Good.{drawn_good, made_after}
use Rattle.feed_gen.proofs.Threads.{all_written}
use Rattle.feed_gen.proofs.Merged.{all_vectors}
use Rattle.feed_gen.proofs.Passing.{Passes, made_by, passes_append, made_append, Stands, creates_of, creates_pass, created_first, created_stands, load_of, load_passes}
use Rattle.feed_gen.proofs.Running.{Open, IsNot, Apart, apart_turned, left_vectors, left_passes, first_vectors, first_passes}

pub vectors_append : (a b : List Writing) → all_vectors (a ++ b) ≡ all_vectors a ++ all_vectors b
vectors_append a b = flat_map-append (λ (w : Writing). w.vectors) a b

left_over_vectors : (thread : ℕ) (o : Option Second) → all_vectors (left_over thread o) ≡ left_vectors o
left_over_vectors thread None = refl
left_over_vectors thread (Some s) = append-nil (left_vectors (Some s))

-- ---- a transfer of a thread, beside what the two others keep

record Lane (n : ℕ) (t : Transfer) (balance credit : ℤ) (mine a b : Option Second) (db : Database) : Type 0 where
  passes : Passes db (left_vectors mine ++ first_vectors n t balance)
  stands : Stands (n + 1) (made_by db (left_vectors mine ++ first_vectors n t balance))
  new_open : Open (n + 1) (Some (second_of n t credit)) (made_by db (left_vectors mine ++ first_vectors n t balance))
  a_open : Open (n + 1) a (made_by db (left_vectors mine ++ first_vectors n t balance))
  b_open : Open (n + 1) b (made_by db (left_vectors mine ++ first_vectors n t balance))
  a_apart : IsNot n a
  b_apart : IsNot n b

lane : (n : ℕ) (t : Transfer) (balance credit : ℤ) (mine a b : Option Second) (db : Database) → IsTransfer t → Stands n db → Open n mine db → Open n a db → Open n b db → Apart mine a → Apart mine b → Lane n t balance credit mine a b db
lane n t balance credit mine a b db good stands m x y p q =
    let left = left_passes n mine a b db stands m x y p q in
    let db1 = made_by db (left_vectors mine) in
    let begun = first_passes n t balance credit a b db1 good left.stands left.a_open left.b_open in
    let e : made_by db1 (first_vectors n t balance) ≡ made_by db (left_vectors mine ++ first_vectors n t balance) = sym (made_append db (left_vectors mine) (first_vectors n t balance)) in
    record {
      passes = passes_append db (left_vectors mine) (first_vectors n t balance) left.passes begun.passes;
      stands = subst (λ d. Stands (n + 1) d) e begun.stands;
      new_open = subst (λ d. Open (n + 1) (Some (second_of n t credit)) d) e begun.mine;
      a_open = subst (λ d. Open (n + 1) a d) e begun.a_open;
      b_open = subst (λ d. Open (n + 1) b d) e begun.b_open;
      a_apart = begun.a_apart;
      b_apart = begun.b_apart;
    }

-- all transfers from a number on have not begun, and what is kept is open
record Holds (from : ℕ) (kept : Kept) (db : Database) : Type 0 where
  stands : Stands from db
  one : Open from kept.one db
  two : Open from kept.two db
  three : Open from kept.three db
  one_two : Apart kept.one kept.two
  one_three : Apart kept.one kept.three
  two_three : Apart kept.two kept.three

abbrev GoesOn : (n : ℕ) (kept : Kept) (db : Database) → List Vector → Type 0
GoesOn n kept db vs = Passes db vs × Holds n kept (made_by db vs)

transfer_goes : (n : ℕ) (t : Transfer) (balance credit : ℤ) (kept : Kept) (db : Database) → IsTransfer t → Holds n kept db → (thread : ℕ) → GoesOn (n + 1) (with_kept thread (second_of n t credit) kept) db (left_vectors (kept_by thread kept) ++ first_vectors n t balance)
transfer_goes n t balance credit kept db good h thread = by_thread (thread == 1) (thread == 2)
  where
    s : Second
    s = second_of n t credit

    by_thread : (a b : Bool) → GoesOn (n + 1) (cond a (record kept { one = Some s }) (cond b (record kept { two = Some s }) (record kept { three = Some s }))) db (left_vectors (cond a kept.one (cond b kept.two kept.three)) ++ first_vectors n t balance)
    by_thread true b =
        let l = lane n t balance credit kept.one kept.two kept.three db good h.stands h.one h.two h.three h.one_two h.one_three in
        (l.passes, record { stands = l.stands; one = l.new_open; two = l.a_open; three = l.b_open; one_two = l.a_apart; one_three = l.b_apart; two_three = h.two_three })
    by_thread false true =
        let l = lane n t balance credit kept.two kept.one kept.three db good h.stands h.two h.one h.three (apart_turned kept.one kept.two h.one_two) h.two_three in
        (l.passes, record { stands = l.stands; one = l.a_open; two = l.new_open; three = l.b_open; one_two = apart_turned (Some s) kept.one l.a_apart; one_three = h.one_three; two_three = l.b_apart })
    by_thread false false =
        let l = lane n t balance credit kept.three kept.one kept.two db good h.stands h.three h.one h.two (apart_turned kept.one kept.three h.one_three) (apart_turned kept.two kept.three h.two_three) in
        (l.passes, record { stands = l.stands; one = l.a_open; two = l.b_open; three = l.new_open; one_two = h.one_two; one_three = apart_turned (Some s) kept.one l.a_apart; two_three = apart_turned (Some s) kept.two l.b_apart })

transfer_vectors : (bank : Bank) → all_vectors (transfer_writings bank) ≡ left_vectors (kept_by (thread_of (drawn bank.source).table) bank.kept) ++ first_vectors (number_of bank) (drawn bank.source) (debited bank.balances (drawn bank.source))
unfolding transfer_writings
transfer_vectors bank =
    let t = drawn bank.source in
    let thread = thread_of t.table in
    let balance = debited bank.balances t in
    vectors_append (left_over thread (kept_by thread bank.kept)) (first_record (number_of bank) t balance ∷ [])
    ∙ ap₂ (λ x y. x ++ y) (left_over_vectors thread (kept_by thread bank.kept)) (append-nil (first_vectors (number_of bank) t balance))

one_transfer : (bank : Bank) (db : Database) → Holds (number_of bank) bank.kept db → GoesOn (number_of bank + 1) (after_transfer bank).kept db (all_vectors (transfer_writings bank))
unfolding after_transfer
one_transfer bank db h =
    let t = drawn bank.source in
    subst (λ vs. GoesOn (number_of bank + 1) (with_kept (thread_of t.table) (second_of (number_of bank) t (credited bank.balances t)) bank.kept) db vs) (sym (transfer_vectors bank))
    (transfer_goes (number_of bank) t (debited bank.balances t) (credited bank.balances t) bank.kept db (drawn_good bank.source) h (thread_of t.table))

goes_then : (m n : ℕ) (kept later : Kept) (db : Database) (vs ws : List Vector) → GoesOn m kept db vs → GoesOn n later (made_by db vs) ws → GoesOn n later db (vs ++ ws)
goes_then m n kept later db vs ws h k = (passes_append db vs ws h.0 k.0, subst (Holds n later) (sym (made_append db vs ws)) k.1)

many_transfers : (n : ℕ) (bank : Bank) (db : Database) → Holds (number_of bank) bank.kept db → GoesOn (number_of (after_transfers n bank)) (after_transfers n bank).kept db (all_vectors (transfers n bank))
many_transfers zero bank db h = (tt, h)
many_transfers (suc n) bank db h =
    let first = one_transfer bank db h in
    let e : number_of bank + 1 ≡ number_of (after_transfer bank) = omega (arith, made_after bank) in
    let next = subst (λ m. Holds m (after_transfer bank).kept (made_by db (all_vectors (transfer_writings bank)))) e first.1 in
    let later = many_transfers n (after_transfer bank) (made_by db (all_vectors (transfer_writings bank))) next in
    subst (λ vs. GoesOn (number_of (after_transfers n (after_transfer bank))) (after_transfers n (after_transfer bank)).kept db vs) (sym (vectors_append (transfer_writings bank) (transfers n (after_transfer bank))))
    (goes_then (number_of bank + 1) (number_of (after_transfers n (after_transfer bank))) (after_transfer bank).kept (after_transfers n (after_transfer bank)).kept db (all_vectors (transfer_writings bank)) (all_vectors (transfers n (after_transfer bank))) first later)

-- ---- the end

ends_pass : (db : Database) → Passes db (EndThread ∷ EndThread ∷ EndThread ∷ [])
ends_pass db = (refl, (refl, (refl, tt)))

closing_vectors : (kept : Kept) → all_vectors (closing kept) ≡ left_vectors kept.one ++ (left_vectors kept.two ++ (left_vectors kept.three ++ (EndThread ∷ EndThread ∷ EndThread ∷ [])))
closing_vectors kept =
    let last = EndThread ∷ EndThread ∷ EndThread ∷ [] in
    vectors_append (all_kept kept) ends
    ∙ ap (λ l. l ++ last) (vectors_append (left_over 1 kept.one ++ left_over 2 kept.two) (left_over 3 kept.three)
    ∙ ap₂ (λ x y. x ++ y) (vectors_append (left_over 1 kept.one) (left_over 2 kept.two) ∙ ap₂ (λ x y. x ++ y) (left_over_vectors 1 kept.one) (left_over_vectors 2 kept.two)) (left_over_vectors 3 kept.three))
    ∙ append_assoc (left_vectors kept.one ++ left_vectors kept.two) (left_vectors kept.three) last
    ∙ append_assoc (left_vectors kept.one) (left_vectors kept.two) (left_vectors kept.three ++ last)

closing_passes : (from : ℕ) (kept : Kept) (db : Database) → Holds from kept db → Passes db (all_vectors (closing kept))
closing_passes from kept db h =
    let first = left_passes from kept.one kept.two kept.three db h.stands h.one h.two h.three h.one_two h.one_three in
    let db1 = made_by db (left_vectors kept.one) in
    let second = left_passes from kept.two kept.three None db1 first.stands first.a_open first.b_open tt h.two_three (none_apart kept.two) in
    let db2 = made_by db1 (left_vectors kept.two) in
    let third = left_passes from kept.three None None db2 second.stands second.a_open tt tt (none_apart kept.three) (none_apart kept.three) in
    let db3 = made_by db2 (left_vectors kept.three) in
    subst (Passes db) (sym (closing_vectors kept))
    (passes_append db (left_vectors kept.one) _ first.passes
    (passes_append db1 (left_vectors kept.two) _ second.passes
    (passes_append db2 (left_vectors kept.three) _ third.passes (ends_pass db3))))
  where
    none_apart : (o : Option Second) → Apart o None
    none_apart None = tt
    none_apart (Some s) = tt

-- ---- all of it

drafts_pass : (ns : List ℕ) (delivery : ℕ) (bank : Bank) (db : Database) → Holds (number_of bank) bank.kept db → Passes db (all_vectors (all_written (transfer_drafts delivery ns bank)))
drafts_pass [] delivery bank db h = subst (λ ws. Passes db (all_vectors ws)) (sym (append-nil (closing bank.kept))) (closing_passes (number_of bank) bank.kept db h)
drafts_pass (n ∷ ns) delivery bank db h =
    let first = many_transfers n bank db h in
    let later = drafts_pass ns (delivery + 1) (after_transfers n bank) (made_by db (all_vectors (transfers n bank))) first.1 in
    subst (Passes db) (sym (vectors_append (transfers n bank) (all_written (transfer_drafts (delivery + 1) ns (after_transfers n bank)))))
    (passes_append db (all_vectors (transfers n bank)) _ first.0 later)

creates_vectors : (a n : ℕ) → all_vectors (map create (range_with_len a n)) ≡ creates_of a n
creates_vectors a zero = refl
creates_vectors a (suc n) = ap (λ l. Create a (extents_of a) true kinds ∷ l) (creates_vectors (a + 1) n)

load_vectors : (k : ℕ) → all_vectors (load k) ≡ load_of k 50 50
unfolding first_load second_load
load_vectors k = ap (λ l. (first_load k).vectors ++ l) (append-nil (puts k 50 50 ++ Commit k true ∷ []))

loads_pass : (a n : ℕ) (db : Database) → 1 ≤ a → a + n ≤ 21 → Stands a db → Passes db (all_vectors (flat_map load (range_with_len a n))) × Stands (a + n) (made_by db (all_vectors (flat_map load (range_with_len a n))))
loads_pass a zero db some few h = (tt, let e : a ≡ a + 0 = omega arith in subst (λ m. Stands m db) e h)
loads_pass a (suc n) db some few h =
    let rest = flat_map load (range_with_len (a + 1) n) in
    let first = load_passes a 50 50 db (some, omega (arith, few)) (omega arith) (omega arith) h in
    let db1 = made_by db (load_of a 50 50) in
    let later = loads_pass (a + 1) n db1 (omega arith) (omega (arith, few)) first.1 in
    let e : a + 1 + n ≡ a + suc n = omega arith in
    let split : all_vectors (load a ++ rest) ≡ load_of a 50 50 ++ all_vectors rest = vectors_append (load a) rest ∙ ap (λ l. l ++ all_vectors rest) (load_vectors a) in (
      subst (Passes db) (sym split) (passes_append db (load_of a 50 50) (all_vectors rest) first.0 later.0),
      subst (λ vs. Stands (a + suc n) (made_by db vs)) (sym split) (subst (Stands (a + suc n)) (sym (made_append db (load_of a 50 50) (all_vectors rest))) (subst (λ m. Stands m (made_by db1 (all_vectors rest))) e later.1)),
    )

opening_passes : Passes no_database (all_vectors (creates ++ loads)) × Stands 21 (made_by no_database (all_vectors (creates ++ loads)))
unfolding creates loads
opening_passes =
    let made = map create (range_with_len 1 20) in
    let loaded = flat_map load (range_with_len 1 20) in
    let first = creates_pass 1 20 no_database created_first in
    let db1 = made_by no_database (creates_of 1 20) in
    let later = loads_pass 1 20 db1 (omega arith) (omega arith) (created_stands db1 first.1) in
    let split : all_vectors (made ++ loaded) ≡ creates_of 1 20 ++ all_vectors loaded = vectors_append made loaded ∙ ap (λ l. l ++ all_vectors loaded) (creates_vectors 1 20) in (
      subst (Passes no_database) (sym split) (passes_append no_database (creates_of 1 20) (all_vectors loaded) first.0 later.0),
      subst (λ vs. Stands 21 (made_by no_database vs)) (sym split) (subst (Stands 21) (sym (made_append no_database (creates_of 1 20) (all_vectors loaded))) later.1),
    )

opened_holds : (seed : ℕ) (db : Database) → Stands 21 db → Holds (number_of (opened seed)) nothing_kept db
opened_holds seed db h = record {
  stands = record { tables = h.tables; begun = λ t i. h.begun t (omega (arith, i)); ended = λ t i. h.ended t (omega (arith, i)) };
  one = tt;
  two = tt;
  three = tt;
  one_two = tt;
  one_three = tt;
  two_three = tt;
}

pub history_passes : (seed txns : ℕ) → Passes no_database (all_vectors (all_written (drafts seed txns)))
unfolding drafts
history_passes seed txns =
    let front = creates ++ loads in
    let rest = all_written (transfer_drafts 2 (portions txns) (opened seed)) in
    subst (Passes no_database) (sym (vectors_append front rest))
    (passes_append no_database (all_vectors front) (all_vectors rest) opening_passes.0
    (drafts_pass (portions txns) 2 (opened seed) (made_by no_database (all_vectors front)) (opened_holds seed (made_by no_database (all_vectors front)) opening_passes.1)))
