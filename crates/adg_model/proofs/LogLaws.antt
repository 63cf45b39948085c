-- Lemmas on the frontier and the merged log.
use Rattle.std.proofs.Common.{◌≡◌, ℕ, ◌+◌, ◌<◌, ◌≤◌, Bool, true, false, cond, not, nat_le, List, [], ◌∷◌, ◌++◌, map, length, filter, ◌⊎◌, inl, inr, refl, sym, ap, ap₂, ◌∙◌, subst, arith, append_assoc, append-nil, true≢false, AllPairs, IsPermutation}
use Rattle.std.specs.List.{AllByRecursion, AllZip, range_with_len}
use Rattle.std.proofs.lemmas.Bool.{le-leb, lt-leb, leb-true, leb-false, cases_order}
use Rattle.std.proofs.lemmas.List.Kept.{AllPairs-cons}
use Rattle.std.proofs.lemmas.List.Sorted.{IsPermutation-refl, IsPermutation-cons, IsPermutation-trans, IsPermutation-middle}
use Rattle.std.proofs.lemmas.Bool.Decides.{nat_tests}
use Rattle.adg_base.specs.declared.vector.Vector.{Vector}
use Rattle.adg_base.specs.declared.vector.RedoRecord.{RedoRecord}
use Rattle.adg_base.specs.declared.log.LogEntry.{LogEntry}
use Rattle.adg_model.specs.Records.{Mark, Raw, first_mark, mark_of, mark_after, raw_of, AreRaws}
use Rattle.adg_model.specs.Laws.{Continues, LogGrows, unplaced, LogIsOrdered}
use Rattle.std.proofs.lemmas.List.{map-append}
use Rattle.std.proofs.lemmas.List.Elements.{filter-append, All-from_recursion}
use Rattle.adg_model.specs.Log.{thread_mark, least, greatest, is_open, scns_of, or_greatest, frontier, record_entries, thread_entries, entries_from, comes_before, put_in, in_order, numbered, upto, merged_log}

-- what holds of each element, over `++`
pub each_append : {X : Type 0} (P : X → Type 0) (xs ys : List X) → AllByRecursion P xs → AllByRecursion P ys → AllByRecursion P (xs ++ ys)
each_append P [] ys h k = k
each_append P (x ∷ xs) ys h k = (h.0, each_append P xs ys h.1 k)

pub each_weaker : {X : Type 0} (P Q : X → Type 0) → ((x : X) → P x → Q x) → (xs : List X) → AllByRecursion P xs → AllByRecursion Q xs
each_weaker P Q f [] h = tt
each_weaker P Q f (x ∷ xs) h = (f x h.0, each_weaker P Q f xs h.1)

-- `thread_entries` and `numbered` over `++`
pub thread_entries_append : (thread number : ℕ) (xs ys : List RedoRecord) → thread_entries thread number (xs ++ ys) ≡ thread_entries thread number xs ++ thread_entries thread (number + length xs) ys
thread_entries_append thread number [] ys = let e : number ≡ number + 0 = omega arith in ap (λ n. thread_entries thread n ys) e
thread_entries_append thread number (r ∷ rs) ys =
    let e : number + 1 + length rs ≡ number + length (r ∷ rs) = omega arith in
    let ih = thread_entries_append thread (number + 1) rs ys in
    let ih' = subst (λ n. thread_entries thread (number + 1) (rs ++ ys) ≡ thread_entries thread (number + 1) rs ++ thread_entries thread n ys) e ih in
    ap (λ es. record_entries thread number r.scn 1 r.vectors ++ es) ih' ∙ sym (append_assoc (record_entries thread number r.scn 1 r.vectors) (thread_entries thread (number + 1) rs) (thread_entries thread (number + length (r ∷ rs)) ys))

pub numbered_append : (pos : ℕ) (xs ys : List LogEntry) → numbered pos (xs ++ ys) ≡ numbered pos xs ++ numbered (pos + length xs) ys
numbered_append pos [] ys = let e : pos ≡ pos + 0 = omega arith in ap (λ n. numbered n ys) e
numbered_append pos (x ∷ xs) ys =
    let e : pos + 1 + length xs ≡ pos + length (x ∷ xs) = omega arith in
    let ih = subst (λ n. numbered (pos + 1) (xs ++ ys) ≡ numbered (pos + 1) xs ++ numbered n ys) e (numbered_append (pos + 1) xs ys) in
    ap (λ es. record x { pos = pos } ∷ es) ih

-- entries up to an SCN: all, where none is above it, and none, where all are
pub upto_all : (scn : ℕ) (es : List LogEntry) → AllByRecursion (λ e. e.scn ≤ scn) es → upto scn es ≡ es
upto_all scn [] h = refl
upto_all scn (e ∷ es) h = rw (le-leb e.scn scn h.0) (ap (λ l. e ∷ l) (upto_all scn es h.1))

pub upto_none : (scn : ℕ) (es : List LogEntry) → AllByRecursion (λ e. scn < e.scn) es → upto scn es ≡ []
upto_none scn [] h = refl
upto_none scn (e ∷ es) h = rw (lt-leb e.scn scn h.0) (upto_none scn es h.1)

pub upto_append : (scn : ℕ) (xs ys : List LogEntry) → upto scn (xs ++ ys) ≡ upto scn xs ++ upto scn ys
upto_append scn xs ys = filter-append (λ e. nat_le e.scn scn) xs ys

-- each entry comes before all that follow it
abbrev pub Ordered : List LogEntry → Type 0
Ordered [] = Unit {0}
Ordered (e ∷ es) = AllByRecursion (λ x. comes_before e x ≡ true) es × Ordered es

-- what is in order stays as it is
pub put_in_first : (e : LogEntry) (es : List LogEntry) → AllByRecursion (λ x. comes_before e x ≡ true) es → put_in e es ≡ e ∷ es
put_in_first e [] h = refl
put_in_first e (x ∷ xs) h = rw h.0 refl

pub in_order_same : (es : List LogEntry) → Ordered es → in_order es ≡ es
in_order_same [] h = refl
in_order_same (e ∷ es) h = ap (put_in e) (in_order_same es h.1) ∙ put_in_first e es h.0

pub Ordered_append : (xs ys : List LogEntry) → Ordered xs → Ordered ys → AllByRecursion (λ x. AllByRecursion (λ y. comes_before x y ≡ true) ys) xs → Ordered (xs ++ ys)
Ordered_append [] ys h k between = k
Ordered_append (x ∷ xs) ys h k between = (each_append (λ y. comes_before x y ≡ true) xs ys h.0 between.0, Ordered_append xs ys h.1 k between.1)

-- what decides the order
pub before_by_scn : (a b : LogEntry) → a.scn < b.scn → comes_before a b ≡ true
before_by_scn a b h = grind (arith, nat_tests)

pub before_by_thread : (a b : LogEntry) → a.scn ≡ b.scn → a.thread < b.thread → comes_before a b ≡ true
before_by_thread a b e h = grind (arith, nat_tests)

pub before_by_index : (a b : LogEntry) → a.scn ≡ b.scn → a.thread ≡ b.thread → a.index < b.index → comes_before a b ≡ true
before_by_index a b e t h = grind (arith, nat_tests)

-- an entry of a record: from an index of the record on
pub record IsOf (thread scn index : ℕ) (e : LogEntry) : Type 0 where
  pub same_scn : e.scn ≡ scn
  pub same_thread : e.thread ≡ thread
  pub from : index ≤ e.index

pub record_entries_are : (thread number scn index : ℕ) (vs : List Vector) → AllByRecursion (IsOf thread scn index) (record_entries thread number scn index vs)
record_entries_are thread number scn index [] = tt
record_entries_are thread number scn index (v ∷ vs) =
    (record { same_scn = refl; same_thread = refl; from = omega arith }, each_weaker (IsOf thread scn (index + 1)) (IsOf thread scn index) (λ e h. record { same_scn = h.same_scn; same_thread = h.same_thread; from = omega (arith, h.from) }) _ (record_entries_are thread number scn (index + 1) vs))

pub record_entries_ordered : (thread number scn index : ℕ) (vs : List Vector) → Ordered (record_entries thread number scn index vs)
record_entries_ordered thread number scn index [] = tt
record_entries_ordered thread number scn index (v ∷ vs) =
    let first : LogEntry = record { pos = 0; scn = scn; thread = thread; number = number; index = index; vector = v } in
    (each_weaker (IsOf thread scn (index + 1)) (λ x. comes_before first x ≡ true) (λ x h. before_by_index first x (sym h.same_scn) (sym h.same_thread) (omega (arith, h.from))) _ (record_entries_are thread number scn (index + 1) vs), record_entries_ordered thread number scn (index + 1) vs)

-- an entry of a thread, above one SCN and up to another
pub record IsWithin (thread low high : ℕ) (e : LogEntry) : Type 0 where
  pub same_thread : e.thread ≡ thread
  pub above : low < e.scn
  pub upto : e.scn ≤ high

pub mark_rises : (mark : Mark) (rs : List Raw) → AreRaws mark rs → mark.scn ≤ (mark_after mark rs).scn
mark_rises mark [] h = omega arith
mark_rises mark (r ∷ rs) h = omega (arith, h.2, mark_rises (mark_of r) rs h.3)

pub thread_entries_within : (thread number : ℕ) (mark : Mark) (rs : List RedoRecord) → AreRaws mark (map raw_of rs) → AllByRecursion (IsWithin thread mark.scn (mark_after mark (map raw_of rs)).scn) (thread_entries thread number rs)
thread_entries_within thread number mark [] h = tt
thread_entries_within thread number mark (r ∷ rs) h =
    let next = mark_of (raw_of r) in
    let high = (mark_after next (map raw_of rs)).scn in
    let rise = mark_rises next (map raw_of rs) h.3 in
    let here = each_weaker (IsOf thread r.scn 1) (IsWithin thread mark.scn high) (λ e k. record { same_thread = k.same_thread; above = omega (arith, k.same_scn, h.2); upto = omega (arith, k.same_scn, rise) }) _ (record_entries_are thread number r.scn 1 r.vectors) in
    let later = each_weaker (IsWithin thread next.scn high) (IsWithin thread mark.scn high) (λ e k. record { same_thread = k.same_thread; above = omega (arith, k.above, h.2); upto = k.upto }) _ (thread_entries_within thread (number + 1) next rs h.3) in
    each_append (IsWithin thread mark.scn high) (record_entries thread number r.scn 1 r.vectors) (thread_entries thread (number + 1) rs) here later

pub thread_entries_ordered : (thread number : ℕ) (mark : Mark) (rs : List RedoRecord) → AreRaws mark (map raw_of rs) → Ordered (thread_entries thread number rs)
thread_entries_ordered thread number mark [] h = tt
thread_entries_ordered thread number mark (r ∷ rs) h =
    let next = mark_of (raw_of r) in
    let high = (mark_after next (map raw_of rs)).scn in
    let later = thread_entries_within thread (number + 1) next rs h.3 in
    let front = record_entries thread number r.scn 1 r.vectors in
    let back = thread_entries thread (number + 1) rs in
    Ordered_append front back (record_entries_ordered thread number r.scn 1 r.vectors) (thread_entries_ordered thread (number + 1) next rs h.3)
    (each_weaker (IsOf thread r.scn 1) (λ x. AllByRecursion (λ y. comes_before x y ≡ true) back) (λ x k. each_weaker (IsWithin thread next.scn high) (λ y. comes_before x y ≡ true) (λ y j. before_by_scn x y (omega (arith, k.same_scn, j.above))) back later) front (record_entries_are thread number r.scn 1 r.vectors))

-- one thread: the frontier is where it stands, and the log is its entries
frontier_of_one : (mark : Mark) → or_greatest (scns_of (filter is_open (mark ∷ []))) (scns_of (mark ∷ [])) ≡ mark.scn
frontier_of_one mark = by_end mark.ended
  where
    by_end : (ended : Bool) → or_greatest (scns_of (cond (not ended) (mark ∷ []) [])) (mark.scn ∷ []) ≡ mark.scn
    by_end true = omega arith
    by_end false = refl

pub frontier_one : (rs : List RedoRecord) → frontier (rs ∷ []) ≡ (thread_mark rs).scn
unfolding frontier
frontier_one rs = frontier_of_one (thread_mark rs)

pub merged_one : (rs : List RedoRecord) → AreRaws first_mark (map raw_of rs) → merged_log (rs ∷ []) ≡ numbered 0 (thread_entries 1 1 rs)
unfolding merged_log
merged_one rs h =
    let es = thread_entries 1 1 rs in
    let all : upto (frontier (rs ∷ [])) es ≡ es = rw (frontier_one rs) (upto_all (thread_mark rs).scn es (each_weaker (IsWithin 1 0 (thread_mark rs).scn) (λ e. e.scn ≤ (thread_mark rs).scn) (λ e k. k.upto) es (thread_entries_within 1 1 first_mark rs h))) in
    let whole : es ++ [] ≡ es = append-nil es in
    ap (λ l. numbered 0 (in_order (upto (frontier (rs ∷ [])) l))) whole ∙ ap (λ l. numbered 0 (in_order l)) all ∙ ap (numbered 0) (in_order_same es (thread_entries_ordered 1 1 first_mark rs h))

-- no entry's SCN is above a later one's
abbrev pub ScnsRise : List LogEntry → Type 0
ScnsRise [] = Unit {0}
ScnsRise (e ∷ es) = AllByRecursion (λ x. e.scn ≤ x.scn) es × ScnsRise es

scn_if_before : (a b : LogEntry) → comes_before a b ≡ true → a.scn ≤ b.scn
scn_if_before a b h = grind (arith, nat_tests)

scn_if_not : (a b : LogEntry) → comes_before a b ≡ false → b.scn ≤ a.scn
scn_if_not a b h = grind (arith, nat_tests)

pub each_put_in : (P : LogEntry → Type 0) (e : LogEntry) (es : List LogEntry) → P e → AllByRecursion P es → AllByRecursion P (put_in e es)
each_put_in P e [] p h = (p, tt)
each_put_in P e (x ∷ xs) p h = by_test (comes_before e x) (each_put_in P e xs p h.1)
  where
    by_test : (b : Bool) → AllByRecursion P (put_in e xs) → AllByRecursion P (cond b (e ∷ x ∷ xs) (x ∷ put_in e xs))
    by_test true k = (p, h)
    by_test false k = (h.0, k)

pub scns_rise_put_in : (e : LogEntry) (es : List LogEntry) → ScnsRise es → ScnsRise (put_in e es)
scns_rise_put_in e [] h = (tt, tt)
scns_rise_put_in e (x ∷ xs) h = by_test (comes_before e x) refl (scns_rise_put_in e xs h.1)
  where
    by_test : (b : Bool) → comes_before e x ≡ b → ScnsRise (put_in e xs) → ScnsRise (cond b (e ∷ x ∷ xs) (x ∷ put_in e xs))
    by_test true t k =
        let le = scn_if_before e x t in
        ((le, each_weaker (λ y. x.scn ≤ y.scn) (λ y. e.scn ≤ y.scn) (λ y j. omega (arith, j, le)) xs h.0), h)
    by_test false t k = (each_put_in (λ y. x.scn ≤ y.scn) e xs (scn_if_not e x t) h.0, k)

pub scns_rise_in_order : (es : List LogEntry) → ScnsRise (in_order es)
scns_rise_in_order [] = tt
scns_rise_in_order (e ∷ es) = scns_rise_put_in e (in_order es) (scns_rise_in_order es)

-- to keep the entries up to an SCN, before the order or after it
upto_put_in : (scn : ℕ) (e : LogEntry) (es : List LogEntry) → ScnsRise es → e.scn ≤ scn → upto scn (put_in e es) ≡ put_in e (upto scn es)
upto_put_in scn e [] h le = rw (le-leb e.scn scn le) refl
upto_put_in scn e (x ∷ xs) h le = by_tests (comes_before e x) refl (nat_le x.scn scn) refl (upto_put_in scn e xs h.1 le)
  where
    by_tests : (b : Bool) → comes_before e x ≡ b → (c : Bool) → nat_le x.scn scn ≡ c → upto scn (put_in e xs) ≡ put_in e (upto scn xs) → upto scn (cond b (e ∷ x ∷ xs) (x ∷ put_in e xs)) ≡ put_in e (cond c (x ∷ upto scn xs) (upto scn xs))
    by_tests true t true k ih = rw (le-leb e.scn scn le, k, t) refl
    by_tests true t false k ih =
        let above = leb-false x.scn scn k in
        let none : upto scn xs ≡ [] = upto_none scn xs (each_weaker (λ y. x.scn ≤ y.scn) (λ y. scn < y.scn) (λ y j. omega (arith, j, above)) xs h.0) in
        rw (le-leb e.scn scn le, k, none) refl
    by_tests false t true k ih = rw (k, t) (ap (λ l. x ∷ l) ih)
    by_tests false t false k ih = absurd (omega (arith, leb-false x.scn scn k, scn_if_not e x t, le))

upto_put_in_above : (scn : ℕ) (e : LogEntry) (es : List LogEntry) → scn < e.scn → upto scn (put_in e es) ≡ upto scn es
upto_put_in_above scn e [] l = rw (lt-leb e.scn scn l) refl
upto_put_in_above scn e (x ∷ xs) l = by_test (comes_before e x) (upto_put_in_above scn e xs l)
  where
    by_test : (b : Bool) → upto scn (put_in e xs) ≡ upto scn xs → upto scn (cond b (e ∷ x ∷ xs) (x ∷ put_in e xs)) ≡ upto scn (x ∷ xs)
    by_test true ih = rw (lt-leb e.scn scn l) refl
    by_test false ih = ap (λ l. cond (nat_le x.scn scn) (x ∷ l) l) ih

pub upto_in_order : (scn : ℕ) (es : List LogEntry) → upto scn (in_order es) ≡ in_order (upto scn es)
upto_in_order scn [] = refl
upto_in_order scn (e ∷ es) = by_test (nat_le e.scn scn) refl (upto_in_order scn es)
  where
    by_test : (b : Bool) → nat_le e.scn scn ≡ b → upto scn (in_order es) ≡ in_order (upto scn es) → upto scn (put_in e (in_order es)) ≡ in_order (cond b (e ∷ upto scn es) (upto scn es))
    by_test true t ih = upto_put_in scn e (in_order es) (scns_rise_in_order es) (leb-true e.scn scn t) ∙ ap (put_in e) ih
    by_test false t ih = upto_put_in_above scn e (in_order es) (leb-false e.scn scn t) ∙ ih

pub upto_upto : (low high : ℕ) (es : List LogEntry) → low ≤ high → upto low (upto high es) ≡ upto low es
upto_upto low high [] le = refl
upto_upto low high (e ∷ es) le = by_tests (nat_le e.scn high) refl (nat_le e.scn low) refl (upto_upto low high es le)
  where
    by_tests : (b : Bool) → nat_le e.scn high ≡ b → (c : Bool) → nat_le e.scn low ≡ c → upto low (upto high es) ≡ upto low es → upto low (cond b (e ∷ upto high es) (upto high es)) ≡ cond c (e ∷ upto low es) (upto low es)
    by_tests true t true k ih = rw k (ap (λ l. e ∷ l) ih)
    by_tests true t false k ih = rw k ih
    by_tests false t true k ih = absurd (omega (arith, leb-false e.scn high t, leb-true e.scn low k, le))
    by_tests false t false k ih = ih

-- what follows the entries up to an SCN, where SCNs rise
pub scns_split : (scn : ℕ) (es : List LogEntry) → ScnsRise es → (rest : List LogEntry) × (es ≡ upto scn es ++ rest) × AllByRecursion (λ e. scn < e.scn) rest
scns_split scn [] h = ([], refl, tt)
scns_split scn (e ∷ es) h = by_test (nat_le e.scn scn) refl (scns_split scn es h.1)
  where
    by_test : (b : Bool) → nat_le e.scn scn ≡ b → (rest : List LogEntry) × (es ≡ upto scn es ++ rest) × AllByRecursion (λ x. scn < x.scn) rest → (rest : List LogEntry) × (e ∷ es ≡ cond b (e ∷ upto scn es) (upto scn es) ++ rest) × AllByRecursion (λ x. scn < x.scn) rest
    by_test true t ih = (ih.0, ap (λ l. e ∷ l) ih.1, ih.2)
    by_test false t ih =
        let above = leb-false e.scn scn t in
        let all = each_weaker (λ x. e.scn ≤ x.scn) (λ x. scn < x.scn) (λ x j. omega (arith, j, above)) es h.0 in
        (e ∷ es, ap (λ l. l ++ e ∷ es) (sym (upto_none scn es all)), (above, all))

pub each_numbered : (P : ℕ → Type 0) (pos : ℕ) (es : List LogEntry) → AllByRecursion (λ e. P e.scn) es → AllByRecursion (λ e. P e.scn) (numbered pos es)
each_numbered P pos [] h = tt
each_numbered P pos (e ∷ es) h = (h.0, each_numbered P (pos + 1) es h.1)

-- what the frontier is below, and what is below it
abbrev pub OpenFrom : ℕ → List Mark → Type 0
OpenFrom scn marks = AllByRecursion (λ m. m.ended ≡ false → scn ≤ m.scn) marks

scns_from_open : (scn : ℕ) (marks : List Mark) → OpenFrom scn marks → AllByRecursion (λ n. scn ≤ n) (scns_of (filter is_open marks))
scns_from_open scn [] h = tt
scns_from_open scn (m ∷ ms) h = by_end m.ended refl (scns_from_open scn ms h.1)
  where
    by_end : (b : Bool) → m.ended ≡ b → AllByRecursion (λ n. scn ≤ n) (scns_of (filter is_open ms)) → AllByRecursion (λ n. scn ≤ n) (scns_of (cond (not b) (m ∷ filter is_open ms) (filter is_open ms)))
    by_end true t ih = ih
    by_end false t ih = (h.0 t, ih)

open_from_scns : (scn : ℕ) (marks : List Mark) → AllByRecursion (λ n. scn ≤ n) (scns_of (filter is_open marks)) → OpenFrom scn marks
open_from_scns scn [] h = tt
open_from_scns scn (m ∷ ms) h = by_end m.ended refl h (open_from_scns scn ms)
  where
    by_end : (b : Bool) → m.ended ≡ b → AllByRecursion (λ n. scn ≤ n) (scns_of (cond (not b) (m ∷ filter is_open ms) (filter is_open ms))) → (AllByRecursion (λ n. scn ≤ n) (scns_of (filter is_open ms)) → OpenFrom scn ms) → OpenFrom scn (m ∷ ms)
    by_end true t k rec = (λ e. absurd (true≢false (sym t ∙ e)), rec k)
    by_end false t k rec = (λ e. k.0, rec k.1)

least_lower : (ns : List ℕ) → AllByRecursion (λ n. least ns ≤ n) ns
least_lower [] = tt
least_lower (n ∷ []) = (omega arith, tt)
least_lower (n ∷ m ∷ more) =
    (omega arith, each_weaker (λ k. least (m ∷ more) ≤ k) (λ k. least (n ∷ m ∷ more) ≤ k) (λ k h. omega (arith, h)) (m ∷ more) (least_lower (m ∷ more)))

least_above : (low n : ℕ) (more : List ℕ) → AllByRecursion (λ k. low ≤ k) (n ∷ more) → low ≤ least (n ∷ more)
least_above low n [] h = h.0
least_above low n (m ∷ more) h = let ih = least_above low m more h.1 in omega (arith, h.0, ih)

greatest_upper : (ns : List ℕ) → AllByRecursion (λ n. n ≤ greatest ns) ns
greatest_upper [] = tt
greatest_upper (n ∷ more) = (omega arith, each_weaker (λ k. k ≤ greatest more) (λ k. k ≤ greatest (n ∷ more)) (λ k h. omega (arith, h)) more (greatest_upper more))

or_greatest_lower : (ns all : List ℕ) → AllByRecursion (λ n. or_greatest ns all ≤ n) ns
or_greatest_lower [] all = tt
or_greatest_lower (n ∷ more) all = least_lower (n ∷ more)

or_greatest_above : (low : ℕ) (ns all : List ℕ) → AllByRecursion (λ n. low ≤ n) ns → low ≤ greatest all → low ≤ or_greatest ns all
or_greatest_above low [] all h le = le
or_greatest_above low (n ∷ more) all h le = least_above low n more h

or_greatest_upto : (ns all : List ℕ) → AllByRecursion (λ n. n ≤ greatest all) ns → or_greatest ns all ≤ greatest all
or_greatest_upto [] all h = omega arith
or_greatest_upto (n ∷ more) all h = let low = (least_lower (n ∷ more)).0 in omega (arith, h.0, low)

each_scns_open : (P : ℕ → Type 0) (marks : List Mark) → AllByRecursion P (scns_of marks) → AllByRecursion P (scns_of (filter is_open marks))
each_scns_open P [] h = tt
each_scns_open P (m ∷ ms) h = by_test (is_open m) (each_scns_open P ms h.1)
  where
    by_test : (b : Bool) → AllByRecursion P (scns_of (filter is_open ms)) → AllByRecursion P (scns_of (cond b (m ∷ filter is_open ms) (filter is_open ms)))
    by_test true ih = (h.0, ih)
    by_test false ih = ih

-- a later mark of a thread
pub record IsLater (before now : Mark) : Type 0 where
  pub rises : before.scn ≤ now.scn
  pub was_open : now.ended ≡ false → before.ended ≡ false

later_open : (scn : ℕ) (ms ns : List Mark) → AllZip IsLater ms ns → OpenFrom scn ms → OpenFrom scn ns
later_open scn [] [] h k = tt
later_open scn [] (n ∷ ns) h k = absurd h
later_open scn (m ∷ ms) [] h k = absurd h
later_open scn (m ∷ ms) (n ∷ ns) h k = (λ e. let o = k.0 (h.0.was_open e) in omega (arith, o, h.0.rises), later_open scn ms ns h.1 k.1)

later_greatest : (ms ns : List Mark) → AllZip IsLater ms ns → greatest (scns_of ms) ≤ greatest (scns_of ns)
later_greatest [] [] h = omega arith
later_greatest [] (n ∷ ns) h = absurd h
later_greatest (m ∷ ms) [] h = absurd h
later_greatest (m ∷ ms) (n ∷ ns) h = let ih = later_greatest ms ns h.1 in omega (arith, ih, h.0.rises)

-- the frontier of marks
abbrev front_of : List Mark → ℕ
front_of marks = or_greatest (scns_of (filter is_open marks)) (scns_of marks)

front_open : (marks : List Mark) → OpenFrom (front_of marks) marks
front_open marks = open_from_scns (front_of marks) marks (or_greatest_lower (scns_of (filter is_open marks)) (scns_of marks))

later_front : (ms ns : List Mark) → AllZip IsLater ms ns → front_of ms ≤ front_of ns
later_front ms ns h =
    let within = or_greatest_upto (scns_of (filter is_open ms)) (scns_of ms) (each_scns_open (λ n. n ≤ greatest (scns_of ms)) ms (greatest_upper (scns_of ms))) in
    let rise = later_greatest ms ns h in
    or_greatest_above (front_of ms) (scns_of (filter is_open ns)) (scns_of ns) (scns_from_open (front_of ms) ns (later_open (front_of ms) ms ns h (front_open ms))) (omega (arith, within, rise))

-- records of a thread and more after them
pub mark_after_append : (mark : Mark) (xs ys : List Raw) → mark_after mark (xs ++ ys) ≡ mark_after (mark_after mark xs) ys
mark_after_append mark [] ys = refl
mark_after_append mark (x ∷ xs) ys = mark_after_append (mark_of x) xs ys

pub raws_after : (mark : Mark) (xs ys : List Raw) → AreRaws mark (xs ++ ys) → AreRaws (mark_after mark xs) ys
raws_after mark [] ys h = h
raws_after mark (x ∷ xs) ys h = raws_after (mark_of x) xs ys h.3

more_later : (mark : Mark) (more : List Raw) → AreRaws mark more → IsLater mark (mark_after mark more)
more_later mark [] h = record { rises = omega arith; was_open = λ e. e }
more_later mark (r ∷ rs) h = record { rises = mark_rises mark (r ∷ rs) h; was_open = λ e. h.1 }

-- the records after those of a thread, where the thread stood then
continues_raws : (old new : List RedoRecord) (c : Continues old new) → AreRaws (thread_mark old) (map raw_of c.more)
continues_raws old new c =
    let e : map raw_of new ≡ map raw_of old ++ map raw_of c.more = ap (map raw_of) c.longer ∙ map-append raw_of old c.more in
    raws_after first_mark (map raw_of old) (map raw_of c.more) (subst (AreRaws first_mark) e c.follow)

continues_later : (old new : List RedoRecord) → Continues old new → IsLater (thread_mark old) (thread_mark new)
continues_later old new c =
    let e : thread_mark new ≡ mark_after (thread_mark old) (map raw_of c.more) = ap (λ rs. mark_after first_mark (map raw_of rs)) c.longer ∙ ap (mark_after first_mark) (map-append raw_of old c.more) ∙ mark_after_append first_mark (map raw_of old) (map raw_of c.more) in
    subst (IsLater (thread_mark old)) (sym e) (more_later (thread_mark old) (map raw_of c.more) (continues_raws old new c))

threads_later : (old new : List (List RedoRecord)) → AllZip Continues old new → AllZip IsLater (map thread_mark old) (map thread_mark new)
threads_later [] [] h = tt
threads_later [] (n ∷ ns) h = absurd h
threads_later (o ∷ os) [] h = absurd h
threads_later (o ∷ os) (n ∷ ns) h = (continues_later o n h.0, threads_later os ns h.1)

-- no new entry is at or below what each open thread had reached
more_above : (scn thread number : ℕ) (mark : Mark) (more : List RedoRecord) → AreRaws mark (map raw_of more) → (mark.ended ≡ false → scn ≤ mark.scn) → upto scn (thread_entries thread number more) ≡ []
more_above scn thread number mark [] h k = refl
more_above scn thread number mark (r ∷ rs) h k =
    let le = k h.1 in
    upto_none scn (thread_entries thread number (r ∷ rs)) (each_weaker (IsWithin thread mark.scn (mark_after mark (map raw_of (r ∷ rs))).scn) (λ e. scn < e.scn) (λ e j. omega (arith, j.above, le)) _ (thread_entries_within thread number mark (r ∷ rs) h))

thread_same : (scn thread : ℕ) (old new : List RedoRecord) → Continues old new → ((thread_mark old).ended ≡ false → scn ≤ (thread_mark old).scn) → upto scn (thread_entries thread 1 new) ≡ upto scn (thread_entries thread 1 old)
thread_same scn thread old new c k =
    let front = thread_entries thread 1 old in
    let back = thread_entries thread (1 + length old) c.more in
    ap (λ rs. upto scn (thread_entries thread 1 rs)) c.longer
    ∙ ap (upto scn) (thread_entries_append thread 1 old c.more)
    ∙ upto_append scn front back
    ∙ ap (λ l. upto scn front ++ l) (more_above scn thread (1 + length old) (thread_mark old) c.more (continues_raws old new c) k)
    ∙ append-nil (upto scn front)

entries_same : (scn thread : ℕ) (old new : List (List RedoRecord)) → AllZip Continues old new → OpenFrom scn (map thread_mark old) → upto scn (entries_from thread new) ≡ upto scn (entries_from thread old)
entries_same scn thread [] [] h k = refl
entries_same scn thread [] (n ∷ ns) h k = absurd h
entries_same scn thread (o ∷ os) [] h k = absurd h
entries_same scn thread (o ∷ os) (n ∷ ns) h k =
    upto_append scn (thread_entries thread 1 n) (entries_from (thread + 1) ns)
    ∙ ap₂ (λ a b. a ++ b) (thread_same scn thread o n h.0 k.0) (entries_same scn (thread + 1) os ns h.1 k.1)
    ∙ sym (upto_append scn (thread_entries thread 1 o) (entries_from (thread + 1) os))

pub log_grows : LogGrows
unfolding frontier merged_log
log_grows old new h =
    let low = frontier old in
    let high = frontier new in
    let le : low ≤ high = later_front (map thread_mark old) (map thread_mark new) (threads_later old new h) in
    let all = entries_from 1 new in
    let log = in_order (upto high all) in
    let split = scns_split low log (scns_rise_in_order (upto high all)) in
    let e : upto low log ≡ in_order (upto low (entries_from 1 old)) =
    upto_in_order low (upto high all) ∙ ap in_order (upto_upto low high all le) ∙ ap in_order (entries_same low 1 old new h (front_open (map thread_mark old))) in
    let was = in_order (upto low (entries_from 1 old)) in
    let whole : log ≡ was ++ split.0 = split.1 ∙ ap (λ l. l ++ split.0) e in
    (numbered (0 + length was) split.0, ap (numbered 0) whole ∙ numbered_append 0 was split.0, each_numbered (λ scn. low < scn) (0 + length was) split.0 split.2, le)

-- two entries of which one comes before the other
abbrev pub Apart : LogEntry → LogEntry → Type 0
Apart a b = (comes_before a b ≡ true) ⊎ (comes_before b a ≡ true)

abbrev pub AllApart : List LogEntry → Type 0
AllApart [] = Unit {0}
AllApart (e ∷ es) = AllByRecursion (Apart e) es × AllApart es

apart_by_thread : (a b : LogEntry) → a.thread < b.thread → Apart a b
apart_by_thread a b h = by_scn (cases_order a.scn b.scn)
  where
    by_scn : (a.scn ≡ b.scn) ⊎ ((a.scn < b.scn) ⊎ (b.scn < a.scn)) → Apart a b
    by_scn (inl e) = inl (before_by_thread a b e h)
    by_scn (inr (inl l)) = inl (before_by_scn a b l)
    by_scn (inr (inr l)) = inr (before_by_scn b a l)

apart_from_ordered : (es : List LogEntry) → Ordered es → AllApart es
apart_from_ordered [] h = tt
apart_from_ordered (e ∷ es) h = (each_weaker (λ x. comes_before e x ≡ true) (Apart e) (λ x k. inl k) es h.0, apart_from_ordered es h.1)

apart_append : (xs ys : List LogEntry) → AllApart xs → AllApart ys → AllByRecursion (λ x. AllByRecursion (Apart x) ys) xs → AllApart (xs ++ ys)
apart_append [] ys h k between = k
apart_append (x ∷ xs) ys h k between = (each_append (Apart x) xs ys h.0 between.0, apart_append xs ys h.1 k between.1)

pub each_upto : (P : LogEntry → Type 0) (scn : ℕ) (es : List LogEntry) → AllByRecursion P es → AllByRecursion P (upto scn es)
each_upto P scn [] h = tt
each_upto P scn (e ∷ es) h = by_test (nat_le e.scn scn) (each_upto P scn es h.1)
  where
    by_test : (b : Bool) → AllByRecursion P (upto scn es) → AllByRecursion P (cond b (e ∷ upto scn es) (upto scn es))
    by_test true ih = (h.0, ih)
    by_test false ih = ih

pub apart_upto : (scn : ℕ) (es : List LogEntry) → AllApart es → AllApart (upto scn es)
apart_upto scn [] h = tt
apart_upto scn (e ∷ es) h = by_test (nat_le e.scn scn) (apart_upto scn es h.1)
  where
    by_test : (b : Bool) → AllApart (upto scn es) → AllApart (cond b (e ∷ upto scn es) (upto scn es))
    by_test true ih = (each_upto (Apart e) scn es h.0, ih)
    by_test false ih = ih

-- the entries of sound threads, any two of which are apart
abbrev AreThreads : List (List RedoRecord) → Type 0
AreThreads threads = AllByRecursion (λ records. AreRaws first_mark (map raw_of records)) threads

from_threads : (thread : ℕ) (threads : List (List RedoRecord)) → AreThreads threads → AllByRecursion (λ e. thread ≤ e.thread) (entries_from thread threads)
from_threads thread [] h = tt
from_threads thread (rs ∷ more) h =
    let here = thread_entries_within thread 1 first_mark rs h.0 in
    let later = from_threads (thread + 1) more h.1 in
    each_append (λ e. thread ≤ e.thread) (thread_entries thread 1 rs) (entries_from (thread + 1) more)
    (each_weaker (IsWithin thread 0 (thread_mark rs).scn) (λ e. thread ≤ e.thread) (λ e k. omega (arith, k.same_thread)) _ here)
    (each_weaker (λ e. thread + 1 ≤ e.thread) (λ e. thread ≤ e.thread) (λ e k. omega (arith, k)) _ later)

pub apart_threads : (thread : ℕ) (threads : List (List RedoRecord)) → AreThreads threads → AllApart (entries_from thread threads)
apart_threads thread [] h = tt
apart_threads thread (rs ∷ more) h =
    let front = thread_entries thread 1 rs in
    let back = entries_from (thread + 1) more in
    let later = from_threads (thread + 1) more h.1 in
    apart_append front back (apart_from_ordered front (thread_entries_ordered thread 1 first_mark rs h.0)) (apart_threads (thread + 1) more h.1)
    (each_weaker (IsWithin thread 0 (thread_mark rs).scn) (λ x. AllByRecursion (Apart x) back) (λ x k. each_weaker (λ y. thread + 1 ≤ y.thread) (Apart x) (λ y j. apart_by_thread x y (omega (arith, k.same_thread, j))) back later) front (thread_entries_within thread 1 first_mark rs h.0))

-- entries that are apart are put in order
before_trans : (a b c : LogEntry) → comes_before a b ≡ true → comes_before b c ≡ true → comes_before a c ≡ true
before_trans a b c h k = grind (arith, nat_tests)

ordered_put_in : (e : LogEntry) (es : List LogEntry) → Ordered es → AllByRecursion (Apart e) es → Ordered (put_in e es)
ordered_put_in e [] h k = (tt, tt)
ordered_put_in e (x ∷ xs) h k = by_test (comes_before e x) refl k.0 (ordered_put_in e xs h.1 k.1)
  where
    by_test : (b : Bool) → comes_before e x ≡ b → Apart e x → Ordered (put_in e xs) → Ordered (cond b (e ∷ x ∷ xs) (x ∷ put_in e xs))
    by_test true t a ih = ((t, each_weaker (λ y. comes_before x y ≡ true) (λ y. comes_before e y ≡ true) (λ y j. before_trans e x y t j) xs h.0), h)
    by_test false t (inl a) ih = absurd (true≢false (sym a ∙ t))
    by_test false t (inr a) ih = (each_put_in (λ y. comes_before x y ≡ true) e xs a h.0, ih)

pub each_in_order : (P : LogEntry → Type 0) (es : List LogEntry) → AllByRecursion P es → AllByRecursion P (in_order es)
each_in_order P [] h = tt
each_in_order P (e ∷ es) h = each_put_in P e (in_order es) h.0 (each_in_order P es h.1)

pub ordered_in_order : (es : List LogEntry) → AllApart es → Ordered (in_order es)
ordered_in_order [] h = tt
ordered_in_order (e ∷ es) h = ordered_put_in e (in_order es) (ordered_in_order es h.1) (each_in_order (Apart e) es h.0)

before_numbered : (x : LogEntry) (pos : ℕ) (es : List LogEntry) → AllByRecursion (λ e. comes_before x e ≡ true) es → AllByRecursion (λ e. comes_before x e ≡ true) (numbered pos es)
before_numbered x pos [] h = tt
before_numbered x pos (e ∷ es) h = (h.0, before_numbered x (pos + 1) es h.1)

pub ordered_numbered : (pos : ℕ) (es : List LogEntry) → Ordered es → Ordered (numbered pos es)
ordered_numbered pos [] h = tt
ordered_numbered pos (e ∷ es) h = (before_numbered (record e { pos = pos }) (pos + 1) es h.0, ordered_numbered (pos + 1) es h.1)

pairs_from_ordered : (es : List LogEntry) → Ordered es → AllPairs (λ a b. comes_before a b ≡ true) es
pairs_from_ordered [] h = λ i j d l within. absurd (omega (arith, within))
pairs_from_ordered (e ∷ es) h = AllPairs-cons (λ a b. comes_before a b ≡ true) e es (All-from_recursion (λ x. comes_before e x ≡ true) es h.0) (pairs_from_ordered es h.1)

-- the order moves entries, and a position changes nothing else
permutation_put_in : (e : LogEntry) (es : List LogEntry) → IsPermutation (e ∷ es) (put_in e es)
permutation_put_in e [] = IsPermutation-refl (e ∷ [])
permutation_put_in e (x ∷ xs) = by_test (comes_before e x) (permutation_put_in e xs)
  where
    by_test : (b : Bool) → IsPermutation (e ∷ xs) (put_in e xs) → IsPermutation (e ∷ x ∷ xs) (cond b (e ∷ x ∷ xs) (x ∷ put_in e xs))
    by_test true ih = IsPermutation-refl (e ∷ x ∷ xs)
    by_test false ih = IsPermutation-trans (e ∷ x ∷ xs) (x ∷ e ∷ xs) (x ∷ put_in e xs) (IsPermutation-middle (e ∷ []) x xs) (IsPermutation-cons x (e ∷ xs) (put_in e xs) ih)

pub permutation_in_order : (es : List LogEntry) → IsPermutation es (in_order es)
permutation_in_order [] = IsPermutation-refl []
permutation_in_order (e ∷ es) =
    IsPermutation-trans (e ∷ es) (e ∷ in_order es) (put_in e (in_order es)) (IsPermutation-cons e es (in_order es) (permutation_in_order es)) (permutation_put_in e (in_order es))

record_unplaced : (thread number scn index : ℕ) (vs : List Vector) → AllByRecursion (λ e. e.pos ≡ 0) (record_entries thread number scn index vs)
record_unplaced thread number scn index [] = tt
record_unplaced thread number scn index (v ∷ vs) = (refl, record_unplaced thread number scn (index + 1) vs)

thread_unplaced : (thread number : ℕ) (rs : List RedoRecord) → AllByRecursion (λ e. e.pos ≡ 0) (thread_entries thread number rs)
thread_unplaced thread number [] = tt
thread_unplaced thread number (r ∷ rs) = each_append (λ e. e.pos ≡ 0) (record_entries thread number r.scn 1 r.vectors) (thread_entries thread (number + 1) rs) (record_unplaced thread number r.scn 1 r.vectors) (thread_unplaced thread (number + 1) rs)

all_unplaced : (thread : ℕ) (threads : List (List RedoRecord)) → AllByRecursion (λ e. e.pos ≡ 0) (entries_from thread threads)
all_unplaced thread [] = tt
all_unplaced thread (rs ∷ more) = each_append (λ e. e.pos ≡ 0) (thread_entries thread 1 rs) (entries_from (thread + 1) more) (thread_unplaced thread 1 rs) (all_unplaced (thread + 1) more)

unplaced_numbered : (pos : ℕ) (es : List LogEntry) → AllByRecursion (λ e. e.pos ≡ 0) es → map unplaced (numbered pos es) ≡ es
unplaced_numbered pos [] h = refl
unplaced_numbered pos (e ∷ es) h = ap₂ (λ (x : LogEntry) (xs : List LogEntry). x ∷ xs) (ap (λ (n : ℕ). record e { pos = n }) (sym h.0)) (unplaced_numbered (pos + 1) es h.1)

pos_numbered : (pos : ℕ) (es : List LogEntry) → map (λ e. e.pos) (numbered pos es) ≡ range_with_len pos (length (numbered pos es))
pos_numbered pos [] = refl
pos_numbered pos (e ∷ es) = ap (λ l. pos ∷ l) (pos_numbered (pos + 1) es)

pub log_is_ordered : LogIsOrdered
unfolding merged_log
log_is_ordered threads h =
    let kept = upto (frontier threads) (entries_from 1 threads) in
    let apart = apart_upto (frontier threads) (entries_from 1 threads) (apart_threads 1 threads h) in
    let clear = each_in_order (λ e. e.pos ≡ 0) kept (each_upto (λ e. e.pos ≡ 0) (frontier threads) (entries_from 1 threads) (all_unplaced 1 threads)) in
    record {
      rises = pairs_from_ordered (numbered 0 (in_order kept)) (ordered_numbered 0 (in_order kept) (ordered_in_order kept apart));
      positions = pos_numbered 0 (in_order kept);
      once = subst (IsPermutation kept) (sym (unplaced_numbered 0 (in_order kept) clear)) (permutation_in_order kept);
    }
