-- What a merger stands for, and what each call does to it.
use Rattle.std.proofs.Common.{◌≡◌, ℕ, ◌+◌, ◌<◌, ◌≤◌, Bool, true, false, cond, not, nat_lt, true≢false, List, [], ◌∷◌, ◌++◌, length, get_or, map, filter, zero, suc, Option, inl, inr, refl, sym, ap, ap₂, ◌∙◌, subst, arith, append_assoc, append-nil, length-append}
use Rattle.std.proofs.Math.ListN.{set}
use Rattle.std.specs.List.{AllByRecursion, AllZip}
use Rattle.std.proofs.lemmas.Bool.{eq-eqb, ne_eqb}
use Rattle.std.proofs.lemmas.List.{map-append}
use Rattle.adg_base.specs.declared.vector.RedoRecord.{RedoRecord}
use Rattle.adg_base.specs.declared.log.LogEntry.{LogEntry}
use Rattle.adg_model.specs.declared.fault.RedoFault.{RedoFault}
use Rattle.adg_model.specs.Laws.{Continues}
use Rattle.adg_model.specs.Records.{Mark, first_mark, mark_after, raw_of, AreRaws, HasBadRecord}
use Rattle.adg_model.specs.Log.{thread_mark, least, is_open, scns_of, or_greatest, frontier, thread_entries, entries_from, in_order, numbered, upto, merged_log}
use Rattle.adg_model.proofs.LogLaws.{each_weaker, thread_entries_append, numbered_append, upto_append, upto_none, upto_upto, IsWithin, thread_entries_within, thread_entries_ordered, OpenFrom, log_grows}
use Rattle.log_merger.specs.Thread.{Receiving, raws, HasRead, ReadsOn, IsRead}
use Rattle.log_merger.specs.Merge.{above, all_waiting, marks_of, Rises, AreQueues, KeepsRest, TakesAll, frontier_of}
use Rattle.log_merger.specs.Merger.{Merging, with_piece, no_texts, RecordsFrom, IsFirstBad, Part, IsThread, ThreadsFrom, shown_of, records_of, StandsFor, IsMerged, RefusesFirst}
use Rattle.log_merger.proofs.ThreadLaws.{front_of, raws_front, raws_back, all_read}
use Rattle.log_merger.proofs.Orders.{each_filter, rises_filter, rises_ordered, above_append, above_all, above_above, upto_above, in_order_parts, length_numbered}

-- ---- nothing accepted

pub record IsFresh (t : Receiving) (number : ℕ) : Type 0 where
  pub number_is : t.number ≡ number
  pub read : HasRead t [] []
  pub waiting : t.waiting ≡ []

abbrev pub FreshFrom : ℕ → List Receiving → Type 0
FreshFrom number [] = Unit {0}
FreshFrom number (t ∷ ts) = IsFresh t number × FreshFrom (number + 1) ts

pub fresh_push : (n m : ℕ) (ts : List Receiving) (t : Receiving) → FreshFrom n ts → m ≡ n + length ts → IsFresh t m → FreshFrom n (ts ++ t ∷ [])
fresh_push n m [] t h e k = let same : m ≡ n = omega arith in (subst (IsFresh t) same k, tt)
fresh_push n m (x ∷ xs) t h e k = (h.0, fresh_push (n + 1) m xs t h.1 (omega arith) k)

abbrev no_part : Receiving → Part
no_part t = record { shown = []; more = [] }

fresh_threads : (n low : ℕ) (ts : List Receiving) → FreshFrom n ts → ThreadsFrom n low no_texts ts (map no_part ts)
fresh_threads n low [] h = tt
fresh_threads n low (t ∷ ts) h = (record { number = h.0.number_is; read = h.0.read; waiting = h.0.waiting }, fresh_threads (n + 1) low ts h.1)

no_entries : (n : ℕ) (ts : List Receiving) → entries_from n (shown_of (map no_part ts)) ≡ []
no_entries n [] = refl
no_entries n (t ∷ ts) = no_entries (n + 1) ts

no_log : (ts : List Receiving) → [] ≡ merged_log (shown_of (map no_part ts))
unfolding merged_log
no_log ts = let none = no_entries 1 ts in sym (ap (λ (l : List LogEntry). numbered 0 (in_order (upto (frontier (shown_of (map no_part ts))) l))) none)

pub stands_new : (ts : List Receiving) (refused : Option RedoFault) → FreshFrom 1 ts → StandsFor (record { threads = ts; given = 0; refused = refused }) no_texts []
stands_new ts refused h = record {
  parts = map no_part ts;
  threads = fresh_threads 1 (frontier (shown_of (map no_part ts))) ts h;
  log = no_log ts;
  count = refl;
}

-- ---- a thread changes

pub threads_same : (n low : ℕ) (texts other : ℕ → List ℕ) (ts : List Receiving) (ps : List Part) → ((k : ℕ) → n ≤ k → texts k ≡ other k) → ThreadsFrom n low texts ts ps → ThreadsFrom n low other ts ps
threads_same n low texts other [] [] same h = tt
threads_same n low texts other [] (p ∷ ps) same h = absurd h
threads_same n low texts other (t ∷ ts) [] same h = absurd h
threads_same n low texts other (t ∷ ts) (p ∷ ps) same h =
    (subst (λ (text : List ℕ). IsThread n low text t p) (same n (omega arith)) h.0, threads_same (n + 1) low texts other ts ps (λ k le. same k (omega (arith, le))) h.1)

pub threads_set : (n low j i : ℕ) (texts other : ℕ → List ℕ) (ts : List Receiving) (ps : List Part) (d m : Receiving) → j ≡ n + i → i < length ts → ((k : ℕ) → (k ≡ j → ⊥) → texts k ≡ other k)
    → m.number ≡ (get_or ts i d).number → m.waiting ≡ (get_or ts i d).waiting → ((records : List RedoRecord) → HasRead (get_or ts i d) (texts j) records → HasRead m (other j) records)
    → ThreadsFrom n low texts ts ps → ThreadsFrom n low other (set ts i m) ps
threads_set n low j i texts other [] ps d m at lt same number waiting read h = absurd (omega (arith, lt))
threads_set n low j i texts other (t ∷ ts) [] d m at lt same number waiting read h = absurd h
threads_set n low j zero texts other (t ∷ ts) (p ∷ ps) d m at lt same number waiting read h =
    let here : j ≡ n = omega arith in
    let old : HasRead t (texts j) (p.shown ++ p.more) = subst (λ (k : ℕ). HasRead t (texts k) (p.shown ++ p.more)) (sym here) h.0.read in (
      record {
        number = number ∙ h.0.number;
        read = subst (λ (k : ℕ). HasRead m (other k) (p.shown ++ p.more)) here (read (p.shown ++ p.more) old);
        waiting = waiting ∙ h.0.waiting;
      },
      threads_same (n + 1) low texts other ts ps (λ k le. same k (λ e. omega (arith, e, here, le))) h.1,
    )
threads_set n low j (suc i) texts other (t ∷ ts) (p ∷ ps) d m at lt same number waiting read h = (
  subst (λ (text : List ℕ). IsThread n low text t p) (same n (λ e. omega (arith, e, at))) h.0,
  threads_set (n + 1) low j i texts other ts ps d m (omega (arith, at)) (omega (arith, lt)) same number waiting read h.1,
)

pub piece_other : (j : ℕ) (piece : List ℕ) (texts : ℕ → List ℕ) (k : ℕ) → (k ≡ j → ⊥) → texts k ≡ with_piece j piece texts k
piece_other j piece texts k ne = sym (ap (λ (b : Bool). cond b (texts k ++ piece) (texts k)) (ne_eqb k j ne))

pub piece_own : (j : ℕ) (piece : List ℕ) (texts : ℕ → List ℕ) → texts j ++ piece ≡ with_piece j piece texts j
piece_own j piece texts = sym (ap (λ (b : Bool). cond b (texts j ++ piece) (texts j)) (eq-eqb j j refl))

-- one thread received bytes
pub stands_set : (old new : Merging) (texts other : ℕ → List ℕ) (given : List LogEntry) (j i : ℕ) (d m : Receiving) → new.threads ≡ set old.threads i m → new.given ≡ old.given → j ≡ 1 + i → i < length old.threads
    → ((k : ℕ) → (k ≡ j → ⊥) → texts k ≡ other k) → m.number ≡ (get_or old.threads i d).number → m.waiting ≡ (get_or old.threads i d).waiting
    → ((records : List RedoRecord) → HasRead (get_or old.threads i d) (texts j) records → HasRead m (other j) records) → StandsFor old texts given → StandsFor new other given
stands_set old new texts other given j i d m threads count at lt same number waiting read s = record {
  parts = s.parts;
  threads = subst (λ (ts : List Receiving). ThreadsFrom 1 (frontier (shown_of s.parts)) other ts s.parts) (sym threads)
      (threads_set 1 (frontier (shown_of s.parts)) j i texts other old.threads s.parts d m at lt same number waiting read s.threads);
  log = s.log;
  count = count ∙ s.count;
}

-- ---- all threads are read

read_part : (t : Receiving) (u : Receiving) (n low : ℕ) (text : List ℕ) (p : Part) → IsThread n low text t p → ReadsOn t u → (q : Part) × (q.shown ≡ p.shown) × IsThread n low text u q
read_part t u n low text p h on =
    let s = on.reads text (p.shown ++ p.more) h.read in
    let number : length (p.shown ++ p.more) + 1 ≡ length p.shown + 1 + length p.more = omega (arith, length-append p.shown p.more) in
    let later : thread_entries t.number (length (p.shown ++ p.more) + 1) s.more ≡ thread_entries n (length p.shown + 1 + length p.more) s.more =
    ap₂ (λ (a b : ℕ). thread_entries a b s.more) h.number number in
    let front = above low (thread_entries n 1 p.shown) in
    let back = thread_entries n (length p.shown + 1) p.more in (
      record { shown = p.shown; more = p.more ++ s.more },
      refl,
      record {
        number = on.number ∙ h.number;
        read = subst (HasRead u text) (append_assoc p.shown p.more s.more) s.read;
        waiting = s.entries ∙ ap₂ (λ (x y : List LogEntry). x ++ y) h.waiting later ∙ append_assoc front back _ ∙ ap (λ (l : List LogEntry). front ++ l) (sym (thread_entries_append n (length p.shown + 1) p.more s.more));
      },
    )

read_threads : (n low : ℕ) (texts : ℕ → List ℕ) (ts us : List Receiving) (ps : List Part) → AllZip ReadsOn ts us → ThreadsFrom n low texts ts ps → (qs : List Part) × (shown_of qs ≡ shown_of ps) × ThreadsFrom n low texts us qs
read_threads n low texts [] [] [] on h = ([], refl, tt)
read_threads n low texts [] [] (p ∷ ps) on h = absurd h
read_threads n low texts [] (u ∷ us) ps on h = absurd on
read_threads n low texts (t ∷ ts) [] ps on h = absurd on
read_threads n low texts (t ∷ ts) (u ∷ us) [] on h = absurd h
read_threads n low texts (t ∷ ts) (u ∷ us) (p ∷ ps) on h =
    let here = read_part t u n low (texts n) p h.0 on.0 in
    let later = read_threads (n + 1) low texts ts us ps on.1 h.1 in
    (here.0 ∷ later.0, ap₂ (λ (x : List RedoRecord) (xs : List (List RedoRecord)). x ∷ xs) here.1 later.1, (here.2, later.2))

pub stands_read : (old new : Merging) (texts : ℕ → List ℕ) (given : List LogEntry) → AllZip ReadsOn old.threads new.threads → new.given ≡ old.given → StandsFor old texts given → StandsFor new texts given
stands_read old new texts given on count s =
    let r = read_threads 1 (frontier (shown_of s.parts)) texts old.threads new.threads s.parts on s.threads in
    record {
      parts = r.0;
      threads = subst (λ (l : List (List RedoRecord)). ThreadsFrom 1 (frontier l) texts new.threads r.0) (sym r.1) r.2;
      log = s.log ∙ ap merged_log (sym r.1);
      count = count ∙ s.count;
    }

-- ---- the first bad record

record BadFrom (n : ℕ) (texts : ℕ → List ℕ) (threads : ℕ) (fault : RedoFault) : Type 0 where
  below : List (List RedoRecord)
  records : List RedoRecord
  good : RecordsFrom n texts below
  thread : fault.thread ≡ n + length below
  is_thread : length below < threads
  number : fault.number ≡ length records + 1
  bad : HasBadRecord (texts fault.thread) records fault.kind

bad_from : (n low : ℕ) (texts : ℕ → List ℕ) (ts us : List Receiving) (ps : List Part) (fault : RedoFault) → AllZip ReadsOn ts us → ThreadsFrom n low texts ts ps → RefusesFirst ts us fault → BadFrom n texts (length ts) fault
bad_from n low texts [] us ps fault on h first = absurd first
bad_from n low texts (t ∷ ts) [] ps fault on h first = absurd first
bad_from n low texts (t ∷ ts) (u ∷ us) [] fault on h first = absurd h
bad_from n low texts (t ∷ ts) (u ∷ us) (p ∷ ps) fault on h (inl here) =
    let b = here (texts n) (p.shown ++ p.more) h.0.read in
    let thread : fault.thread ≡ n = b.thread_is ∙ h.0.number in
    record {
      below = [];
      records = b.records;
      good = tt;
      thread = omega (arith, thread);
      is_thread = omega arith;
      number = b.number;
      bad = subst (λ (k : ℕ). HasBadRecord (texts k) b.records fault.kind) (sym thread) b.bad;
    }
bad_from n low texts (t ∷ ts) (u ∷ us) (p ∷ ps) fault on h (inr later) =
    let b = bad_from (n + 1) low texts ts us ps fault on.1 h.1 later.1 in
    let r = on.0.reads (texts n) (p.shown ++ p.more) h.0.read in
    record {
      below = ((p.shown ++ p.more) ++ r.more) ∷ b.below;
      records = b.records;
      good = (all_read u (texts n) ((p.shown ++ p.more) ++ r.more) r.read later.0, b.good);
      thread = omega (arith, b.thread);
      is_thread = omega (arith, b.is_thread);
      number = b.number;
      bad = b.bad;
    }

pub first_bad : (old : Merging) (us : List Receiving) (texts : ℕ → List ℕ) (given : List LogEntry) (fault : RedoFault) → AllZip ReadsOn old.threads us → RefusesFirst old.threads us fault → StandsFor old texts given → IsFirstBad (length old.threads) texts fault
first_bad old us texts given fault on first s =
    let b = bad_from 1 (frontier (shown_of s.parts)) texts old.threads us s.parts fault on s.threads first in
    record { below = b.below; records = b.records; good = b.good; thread = omega (arith, b.thread); is_thread = b.is_thread; number = b.number; bad = b.bad }

-- ---- the records of threads that are read whole

pub records_whole : (n low : ℕ) (texts : ℕ → List ℕ) (us : List Receiving) (qs : List Part) → AllByRecursion IsRead us → ThreadsFrom n low texts us qs → RecordsFrom n texts (records_of qs)
records_whole n low texts [] [] whole h = tt
records_whole n low texts [] (q ∷ qs) whole h = absurd h
records_whole n low texts (u ∷ us) [] whole h = absurd h
records_whole n low texts (u ∷ us) (q ∷ qs) whole h =
    (all_read u (texts n) (q.shown ++ q.more) h.0.read whole.0, records_whole (n + 1) low texts us qs whole.1 h.1)

pub parts_many : (n low : ℕ) (texts : ℕ → List ℕ) (us : List Receiving) (qs : List Part) → ThreadsFrom n low texts us qs → length (records_of qs) ≡ length us
parts_many n low texts [] [] h = refl
parts_many n low texts [] (q ∷ qs) h = absurd h
parts_many n low texts (u ∷ us) [] h = absurd h
parts_many n low texts (u ∷ us) (q ∷ qs) h = ap suc (parts_many (n + 1) low texts us qs h.1)

mark_whole : (u : Receiving) (text : List ℕ) (records : List RedoRecord) → HasRead u text records → IsRead u → u.mark ≡ thread_mark records
mark_whole u text records h whole =
    let none : (map raw_of records ++ raws u.unread) ++ u.assembly.held ≡ map raw_of records =
    ap₂ (λ l k. (map raw_of records ++ raws l) ++ k) whole.unread h.none_held ∙ append-nil (map raw_of records ++ []) ∙ append-nil (map raw_of records) in
    h.mark ∙ h.holds.mark ∙ ap (mark_after first_mark) none

marks_whole : (n low : ℕ) (texts : ℕ → List ℕ) (us : List Receiving) (qs : List Part) → AllByRecursion IsRead us → ThreadsFrom n low texts us qs → marks_of us ≡ map thread_mark (records_of qs)
marks_whole n low texts [] [] whole h = refl
marks_whole n low texts [] (q ∷ qs) whole h = absurd h
marks_whole n low texts (u ∷ us) [] whole h = absurd h
marks_whole n low texts (u ∷ us) (q ∷ qs) whole h =
    ap₂ (λ (m : Mark) (ms : List Mark). m ∷ ms) (mark_whole u (texts n) (q.shown ++ q.more) h.0.read whole.0) (marks_whole (n + 1) low texts us qs whole.1 h.1)

pub frontier_whole : (n low : ℕ) (texts : ℕ → List ℕ) (us : List Receiving) (qs : List Part) → AllByRecursion IsRead us → ThreadsFrom n low texts us qs → frontier_of (marks_of us) ≡ frontier (records_of qs)
unfolding frontier
frontier_whole n low texts us qs whole h = ap frontier_of (marks_whole n low texts us qs whole h)

-- ---- the frontier is at or below where each open thread stands

scns_open : (scn : ℕ) (marks : List Mark) → AllByRecursion (λ n. scn ≤ n) (scns_of (filter is_open marks)) → OpenFrom scn marks
scns_open scn [] h = tt
scns_open scn (m ∷ ms) h = by_end m.ended refl h (scns_open scn ms)
  where
    by_end : (b : Bool) → m.ended ≡ b → AllByRecursion (λ n. scn ≤ n) (scns_of (cond (not b) (m ∷ filter is_open ms) (filter is_open ms))) → (AllByRecursion (λ n. scn ≤ n) (scns_of (filter is_open ms)) → OpenFrom scn ms) → OpenFrom scn (m ∷ ms)
    by_end true t k later = (λ e. absurd (true≢false (sym t ∙ e)), later k)
    by_end false t k later = (λ e. k.0, later k.1)

least_lower : (ns : List ℕ) → AllByRecursion (λ n. least ns ≤ n) ns
least_lower [] = tt
least_lower (n ∷ []) = (omega arith, tt)
least_lower (n ∷ m ∷ more) = (omega arith, each_weaker (λ k. least (m ∷ more) ≤ k) (λ k. least (n ∷ m ∷ more) ≤ k) (λ k h. omega (arith, h)) (m ∷ more) (least_lower (m ∷ more)))

or_greatest_lower : (ns all : List ℕ) → AllByRecursion (λ n. or_greatest ns all ≤ n) ns
or_greatest_lower [] all = tt
or_greatest_lower (n ∷ more) all = least_lower (n ∷ more)

frontier_open : (threads : List (List RedoRecord)) → OpenFrom (frontier threads) (map thread_mark threads)
unfolding frontier
frontier_open threads =
    let marks = map thread_mark threads in
    scns_open (frontier_of marks) marks (or_greatest_lower (scns_of (filter is_open marks)) (scns_of marks))

-- ---- what follows the records shown

follows : (u : Receiving) (text : List ℕ) (records : List RedoRecord) → HasRead u text records → AreRaws first_mark (map raw_of records)
follows u text records h =
    let front = front_of u.assembly.refused first_mark text _ u.assembly.rest h.holds.stands in
    raws_front first_mark (map raw_of records) (raws u.unread) (raws_front first_mark (map raw_of records ++ raws u.unread) u.assembly.held front.follow)

continues : (n low : ℕ) (texts : ℕ → List ℕ) (us : List Receiving) (qs : List Part) → ThreadsFrom n low texts us qs → AllZip Continues (shown_of qs) (records_of qs)
continues n low texts [] [] h = tt
continues n low texts [] (q ∷ qs) h = absurd h
continues n low texts (u ∷ us) [] h = absurd h
continues n low texts (u ∷ us) (q ∷ qs) h =
    (record { more = q.more; longer = refl; follow = follows u (texts n) (q.shown ++ q.more) h.0.read }, continues (n + 1) low texts us qs h.1)

late : (low n number : ℕ) (mark : Mark) (more : List RedoRecord) → AreRaws mark (map raw_of more) → (mark.ended ≡ false → low ≤ mark.scn) → AllByRecursion (λ e. low < e.scn) (thread_entries n number more)
late low n number mark [] h k = tt
late low n number mark (r ∷ rs) h k =
    let le = k h.1 in
    each_weaker (IsWithin n mark.scn (mark_after mark (map raw_of (r ∷ rs))).scn) (λ e. low < e.scn) (λ e j. omega (arith, j.above, le)) (thread_entries n number (r ∷ rs)) (thread_entries_within n number mark (r ∷ rs) h)

-- the entries of the records of a part
part_entries : (n : ℕ) (q : Part) → thread_entries n 1 (q.shown ++ q.more) ≡ thread_entries n 1 q.shown ++ thread_entries n (length q.shown + 1) q.more
part_entries n q =
    let number : 1 + length q.shown ≡ length q.shown + 1 = omega arith in
    thread_entries_append n 1 q.shown q.more ∙ ap (λ (k : ℕ). thread_entries n 1 q.shown ++ thread_entries n k q.more) number

part_late : (n low : ℕ) (text : List ℕ) (u : Receiving) (q : Part) → IsThread n low text u q → ((thread_mark q.shown).ended ≡ false → low ≤ (thread_mark q.shown).scn) → AllByRecursion (λ e. low < e.scn) (thread_entries n (length q.shown + 1) q.more)
part_late n low text u q h open_mark =
    late low n (length q.shown + 1) (thread_mark q.shown) q.more
    (raws_back first_mark (map raw_of q.shown) (map raw_of q.more) (subst (AreRaws first_mark) (map-append raw_of q.shown q.more) (follows u text (q.shown ++ q.more) h.read))) open_mark

part_waiting : (n low : ℕ) (text : List ℕ) (u : Receiving) (q : Part) → IsThread n low text u q → ((thread_mark q.shown).ended ≡ false → low ≤ (thread_mark q.shown).scn) → u.waiting ≡ above low (thread_entries n 1 (q.shown ++ q.more))
part_waiting n low text u q h open_mark =
    let back = thread_entries n (length q.shown + 1) q.more in
    h.waiting
    ∙ sym (ap (above low) (part_entries n q) ∙ above_append low (thread_entries n 1 q.shown) back ∙ ap (λ l. above low (thread_entries n 1 q.shown) ++ l) (above_all low back (part_late n low text u q h open_mark)))

all_waiting_above : (n low : ℕ) (texts : ℕ → List ℕ) (us : List Receiving) (qs : List Part) → ThreadsFrom n low texts us qs → OpenFrom low (map thread_mark (shown_of qs)) → all_waiting us ≡ above low (entries_from n (records_of qs))
all_waiting_above n low texts [] [] h o = refl
all_waiting_above n low texts [] (q ∷ qs) h o = absurd h
all_waiting_above n low texts (u ∷ us) [] h o = absurd h
all_waiting_above n low texts (u ∷ us) (q ∷ qs) h o =
    ap₂ (λ a b. a ++ b) (part_waiting n low (texts n) u q h.0 o.0) (all_waiting_above (n + 1) low texts us qs h.1 o.1) ∙ sym (above_append low (thread_entries n 1 (q.shown ++ q.more)) (entries_from (n + 1) (records_of qs)))

low_same : (n low : ℕ) (texts : ℕ → List ℕ) (us : List Receiving) (qs : List Part) → ThreadsFrom n low texts us qs → OpenFrom low (map thread_mark (shown_of qs)) → upto low (entries_from n (records_of qs)) ≡ upto low (entries_from n (shown_of qs))
low_same n low texts [] [] h o = refl
low_same n low texts [] (q ∷ qs) h o = absurd h
low_same n low texts (u ∷ us) [] h o = absurd h
low_same n low texts (u ∷ us) (q ∷ qs) h o =
    let front = thread_entries n 1 q.shown in
    let back = thread_entries n (length q.shown + 1) q.more in
    let here : upto low (thread_entries n 1 (q.shown ++ q.more)) ≡ upto low front =
    ap (upto low) (part_entries n q) ∙ upto_append low front back ∙ ap (λ l. upto low front ++ l) (upto_none low back (part_late n low (texts n) u q h.0 o.0)) ∙ append-nil (upto low front) in
    upto_append low (thread_entries n 1 (q.shown ++ q.more)) (entries_from (n + 1) (records_of qs))
    ∙ ap₂ (λ a b. a ++ b) here (low_same (n + 1) low texts us qs h.1 o.1)
    ∙ sym (upto_append low front (entries_from (n + 1) (shown_of qs)))

are_queues : (n low : ℕ) (texts : ℕ → List ℕ) (us : List Receiving) (qs : List Part) → ThreadsFrom n low texts us qs → OpenFrom low (map thread_mark (shown_of qs)) → AreQueues n us
are_queues n low texts [] [] h o = tt
are_queues n low texts [] (q ∷ qs) h o = absurd h
are_queues n low texts (u ∷ us) [] h o = absurd h
are_queues n low texts (u ∷ us) (q ∷ qs) h o =
    let rs = q.shown ++ q.more in
    let es = thread_entries n 1 rs in
    let raw = follows u (texts n) rs h.0.read in
    let waiting = part_waiting n low (texts n) u q h.0 o.0 in
    let own = each_weaker (IsWithin n 0 (mark_after first_mark (map raw_of rs)).scn) (λ e. e.thread ≡ n) (λ e k. k.same_thread) es (thread_entries_within n 1 first_mark rs raw) in (
      subst Rises (sym waiting) (rises_filter (λ e. nat_lt low e.scn) es (rises_ordered es (thread_entries_ordered n 1 first_mark rs raw))),
      subst (AllByRecursion (λ e. e.thread ≡ n)) (sym waiting) (each_filter (λ e. e.thread ≡ n) (λ e. nat_lt low e.scn) es own),
      are_queues (n + 1) low texts us qs h.1 o.1,
    )

-- ---- a merge

abbrev shown_whole : Part → Part
shown_whole q = record { shown = q.shown ++ q.more; more = [] }

shown_whole_of : (qs : List Part) → shown_of (map shown_whole qs) ≡ records_of qs
shown_whole_of [] = refl
shown_whole_of (q ∷ qs) = ap (λ (l : List (List RedoRecord)). (q.shown ++ q.more) ∷ l) (shown_whole_of qs)

merged_threads : (n low high : ℕ) (texts : ℕ → List ℕ) (us vs : List Receiving) (qs : List Part) → low ≤ high → ThreadsFrom n low texts us qs → OpenFrom low (map thread_mark (shown_of qs)) → AllZip KeepsRest us vs
    → AllZip (λ o v. v.waiting ≡ above high o.waiting) us vs → ThreadsFrom n high texts vs (map shown_whole qs)
merged_threads n low high texts [] [] [] le h o keeps later = tt
merged_threads n low high texts [] [] (q ∷ qs) le h o keeps later = absurd h
merged_threads n low high texts [] (v ∷ vs) qs le h o keeps later = absurd keeps
merged_threads n low high texts (u ∷ us) [] qs le h o keeps later = absurd keeps
merged_threads n low high texts (u ∷ us) (v ∷ vs) [] le h o keeps later = absurd h
merged_threads n low high texts (u ∷ us) (v ∷ vs) (q ∷ qs) le h o keeps later =
    let rs = q.shown ++ q.more in
    let es = thread_entries n 1 rs in
    let read : HasRead v (texts n) rs = kept_read u v (texts n) rs keeps.0 h.0.read in (
      record {
        number = ap (λ (t : Receiving). t.number) keeps.0 ∙ h.0.number;
        read = subst (HasRead v (texts n)) (sym (append-nil rs)) read;
        waiting = later.0 ∙ ap (above high) (part_waiting n low (texts n) u q h.0 o.0) ∙ above_above low high es le ∙ sym (append-nil (above high es));
      },
      merged_threads (n + 1) low high texts us vs qs le h.1 o.1 keeps.1 later.1,
    )
  where
    kept_read : (a b : Receiving) (text : List ℕ) (records : List RedoRecord) → KeepsRest a b → HasRead a text records → HasRead b text records
    kept_read a b text records keep r = subst (λ (t : Receiving). HasRead t text records) (sym keep) (record { holds = r.holds; none_held = r.none_held; readable = r.readable; numbers = r.numbers; mark = r.mark })

log_more : (low high n : ℕ) (all shown : List LogEntry) → low ≤ high → upto low all ≡ upto low shown
    → numbered n (in_order (upto high all)) ≡ numbered n (in_order (upto low shown)) ++ numbered (n + length (in_order (upto low shown))) (in_order (upto high (above low all)))
log_more low high n all shown le same =
    let kept = upto high all in
    let front : in_order (upto low kept) ≡ in_order (upto low shown) = ap in_order (upto_upto low high all le ∙ same) in
    let back : in_order (above low kept) ≡ in_order (upto high (above low all)) = ap in_order (sym (upto_above low high all)) in
    ap (numbered n) (in_order_parts low kept ∙ ap₂ (λ a b. a ++ b) front back) ∙ numbered_append n (in_order (upto low shown)) (in_order (upto high (above low all)))

-- the log of all records is what was given and what a merge gives
merged_more : (qs : List Part) (waiting given entries : List LogEntry) → frontier (shown_of qs) ≤ frontier (records_of qs) → upto (frontier (shown_of qs)) (entries_from 1 (records_of qs)) ≡ upto (frontier (shown_of qs)) (entries_from 1 (shown_of qs))
    → waiting ≡ above (frontier (shown_of qs)) (entries_from 1 (records_of qs)) → given ≡ merged_log (shown_of qs) → entries ≡ numbered (length given) (in_order (upto (frontier (records_of qs)) waiting)) → given ++ entries ≡ merged_log (records_of qs)
unfolding merged_log
merged_more qs waiting given entries le same w log e =
    let low = frontier (shown_of qs) in
    let high = frontier (records_of qs) in
    let front = in_order (upto low (entries_from 1 (shown_of qs))) in
    let count : length given ≡ 0 + length front = ap length log ∙ length_numbered 0 front ∙ (omega arith) in
    let later : entries ≡ numbered (0 + length front) (in_order (upto high (above low (entries_from 1 (records_of qs))))) =
    e ∙ ap₂ (λ (k : ℕ) (l : List LogEntry). numbered k (in_order (upto high l))) count w in
    ap₂ (λ a b. a ++ b) log later ∙ sym (log_more low high 0 (entries_from 1 (records_of qs)) (entries_from 1 (shown_of qs)) le same)

-- a merge up to the frontier of threads that are read whole
pub record Merged (m : Merging) (us vs : List Receiving) (texts : ℕ → List ℕ) (given entries : List LogEntry) : Type 0 where
  pub stands : (new : Merging) → new.threads ≡ vs → new.given ≡ length (given ++ entries) → StandsFor new texts (given ++ entries)
  pub merged : IsMerged (length us) texts (given ++ entries)

pub queues_whole : (m : Merging) (texts : ℕ → List ℕ) (given : List LogEntry) → StandsFor m texts given → AreQueues 1 m.threads
queues_whole m texts given s = are_queues 1 (frontier (shown_of s.parts)) texts m.threads s.parts s.threads (frontier_open (shown_of s.parts))

pub merged_whole : (m : Merging) (vs : List Receiving) (texts : ℕ → List ℕ) (given entries : List LogEntry) (through : ℕ) → StandsFor m texts given → AllByRecursion IsRead m.threads → through ≡ frontier_of (marks_of m.threads)
    → AllZip KeepsRest m.threads vs → TakesAll through m.given m.threads vs entries → Merged m m.threads vs texts given entries
merged_whole m vs texts given entries through s whole at keeps merge =
    let us = m.threads in
    let qs = s.parts in
    let low = frontier (shown_of qs) in
    let high = frontier (records_of qs) in
    let o = frontier_open (shown_of qs) in
    let high_is : through ≡ high = at ∙ frontier_whole 1 low texts us qs whole s.threads in
    let grown = log_grows (shown_of qs) (records_of qs) (continues 1 low texts us qs s.threads) in
    let le : low ≤ high = grown.3 in
    let shown : entries ≡ numbered (length given) (in_order (upto high (all_waiting us))) = merge.given ∙ ap₂ (λ (k n : ℕ). numbered k (in_order (upto n (all_waiting us)))) s.count high_is in
    let log : given ++ entries ≡ merged_log (records_of qs) = merged_more qs (all_waiting us) given entries le (low_same 1 low texts us qs s.threads o) (all_waiting_above 1 low texts us qs s.threads o) s.log shown in
    let later = subst (λ (n : ℕ). AllZip (λ (x v : Receiving). v.waiting ≡ above n x.waiting) us vs) high_is merge.later in
    record {
      stands = λ new threads count. record {
        parts = map shown_whole qs;
        threads = subst (λ (ts : List Receiving). ThreadsFrom 1 (frontier (shown_of (map shown_whole qs))) texts ts (map shown_whole qs)) (sym threads)
            (subst (λ (l : List (List RedoRecord)). ThreadsFrom 1 (frontier l) texts vs (map shown_whole qs)) (sym (shown_whole_of qs)) (merged_threads 1 low high texts us vs qs le s.threads o keeps later));
        log = log ∙ ap merged_log (sym (shown_whole_of qs));
        count = count;
      };
      merged = record {
        records = records_of qs;
        all = parts_many 1 low texts us qs s.threads;
        received = records_whole 1 low texts us qs whole s.threads;
        log = log;
      };
    }
