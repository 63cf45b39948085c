-- The order of entries, and the entries up to an SCN and above it.
use Rattle.std.proofs.Common.{◌≡◌, ℕ, ◌+◌, ◌<◌, ◌≤◌, Bool, true, false, cond, nat_le, nat_lt, List, [], ◌∷◌, ◌++◌, length, filter, ◌⊎◌, inl, inr, refl, ap, ◌∙◌, arith}
use Rattle.std.specs.List.{AllByRecursion}
use Rattle.std.proofs.lemmas.Bool.{le-leb, lt-leb, lt-ltb, le-ltb, leb-true, leb-false, ltb-true, cases_order}
use Rattle.std.proofs.lemmas.Bool.Decides.{nat_tests}
use Rattle.std.proofs.lemmas.List.Elements.{filter-append}
use Rattle.adg_base.specs.declared.log.LogEntry.{LogEntry}
use Rattle.adg_model.specs.Log.{comes_before, put_in, in_order, numbered, upto}
use Rattle.adg_model.proofs.LogLaws.{each_weaker, each_put_in, put_in_first, numbered_append, before_by_scn, before_by_thread, Ordered}
use Rattle.log_merger.specs.Merge.{above, Rises}

pub each_filter : {X : Type 0} (P : X → Type 0) (p : X → Bool) (xs : List X) → AllByRecursion P xs → AllByRecursion P (filter p xs)
each_filter P p [] h = tt
each_filter P p (x ∷ xs) h = by_test (p x) (each_filter P p xs h.1)
  where
    by_test : (b : Bool) → AllByRecursion P (filter p xs) → AllByRecursion P (cond b (x ∷ filter p xs) (filter p xs))
    by_test true k = (h.0, k)
    by_test false k = k

pub rises_filter : (p : LogEntry → Bool) (es : List LogEntry) → Rises es → Rises (filter p es)
rises_filter p [] h = tt
rises_filter p (e ∷ es) h = by_test (p e) (rises_filter p es h.1)
  where
    by_test : (b : Bool) → Rises (filter p es) → Rises (cond b (e ∷ filter p es) (filter p es))
    by_test true k = (each_filter (λ x. comes_before e x ≡ true) p es h.0, k)
    by_test false k = k

pub rises_ordered : (es : List LogEntry) → Ordered es → Rises es
rises_ordered [] h = tt
rises_ordered (e ∷ es) h = (h.0, rises_ordered es h.1)

-- ---- what comes before what

pub scn_if_before : (a b : LogEntry) → comes_before a b ≡ true → a.scn ≤ b.scn
scn_if_before a b h = grind (arith, nat_tests)

pub not_after : (a b : LogEntry) → comes_before a b ≡ true → comes_before b a ≡ false
not_after a b h = grind (arith, nat_tests)

pub not_itself : (a : LogEntry) → comes_before a a ≡ false
not_itself a = grind (arith, nat_tests)

pub not_before_lower : (a b : LogEntry) → b.scn < a.scn → comes_before a b ≡ false
not_before_lower a b h = grind (arith, nat_tests)

pub before_by_place : (a b : LogEntry) → a.scn ≤ b.scn → a.thread < b.thread → comes_before a b ≡ true
before_by_place a b h k =
    elim (cases_order a.scn b.scn) [
      | inl same ↦ before_by_thread a b same k
      | inr other ↦ elim other [
        | inl less ↦ before_by_scn a b less
        | inr more ↦ absurd (omega (arith, more, h))
      ]
    ]

-- ---- the order

pub each_in_order : (P : LogEntry → Type 0) (es : List LogEntry) → AllByRecursion P es → AllByRecursion P (in_order es)
each_in_order P [] h = tt
each_in_order P (e ∷ es) h = each_put_in P e (in_order es) h.0 (each_in_order P es h.1)

length_put_in : (e : LogEntry) (es : List LogEntry) → length (put_in e es) ≡ length es + 1
length_put_in e [] = refl
length_put_in e (x ∷ xs) = by_test (comes_before e x) (length_put_in e xs)
  where
    by_test : (b : Bool) → length (put_in e xs) ≡ length xs + 1 → length (cond b (e ∷ x ∷ xs) (x ∷ put_in e xs)) ≡ length (x ∷ xs) + 1
    by_test true ih = omega arith
    by_test false ih = omega (arith, ih)

pub length_in_order : (es : List LogEntry) → length (in_order es) ≡ length es
length_in_order [] = refl
length_in_order (e ∷ es) = omega (arith, length_put_in e (in_order es), length_in_order es)

-- an entry that comes before all others is the first
pub in_order_first : (e : LogEntry) (front back : List LogEntry) → AllByRecursion (λ x. comes_before e x ≡ true) front → AllByRecursion (λ x. comes_before e x ≡ true) back → in_order (front ++ e ∷ back) ≡ e ∷ in_order (front ++ back)
in_order_first e [] back h k = put_in_first e (in_order back) (each_in_order (λ x. comes_before e x ≡ true) back k)
in_order_first e (x ∷ xs) back h k =
    let after = not_after e x h.0 in
    ap (put_in x) (in_order_first e xs back h.1 k) ∙ (rw after refl)

-- entries up to an SCN come before those above it
put_in_low : (low : ℕ) (e : LogEntry) (xs ys : List LogEntry) → e.scn ≤ low → AllByRecursion (λ y. low < y.scn) ys → put_in e (xs ++ ys) ≡ put_in e xs ++ ys
put_in_low low e [] ys le h = put_in_first e ys (each_weaker (λ y. low < y.scn) (λ y. comes_before e y ≡ true) (λ y k. before_by_scn e y (omega (arith, k, le))) ys h)
put_in_low low e (x ∷ xs) ys le h = by_test (comes_before e x) (put_in_low low e xs ys le h)
  where
    by_test : (b : Bool) → put_in e (xs ++ ys) ≡ put_in e xs ++ ys → cond b (e ∷ x ∷ (xs ++ ys)) (x ∷ put_in e (xs ++ ys)) ≡ cond b (e ∷ x ∷ xs) (x ∷ put_in e xs) ++ ys
    by_test true ih = refl
    by_test false ih = ap (λ l. x ∷ l) ih

put_in_high : (low : ℕ) (e : LogEntry) (xs ys : List LogEntry) → low < e.scn → AllByRecursion (λ x. x.scn ≤ low) xs → put_in e (xs ++ ys) ≡ xs ++ put_in e ys
put_in_high low e [] ys lt h = refl
put_in_high low e (x ∷ xs) ys lt h =
    let later = not_before_lower e x (omega (arith, lt, h.0)) in
    rw later (ap (λ l. x ∷ l) (put_in_high low e xs ys lt h.1))

each_low : (low : ℕ) (es : List LogEntry) → AllByRecursion (λ e. e.scn ≤ low) (upto low es)
each_low low [] = tt
each_low low (e ∷ es) = by_test (nat_le e.scn low) refl (each_low low es)
  where
    by_test : (b : Bool) → nat_le e.scn low ≡ b → AllByRecursion (λ x. x.scn ≤ low) (upto low es) → AllByRecursion (λ x. x.scn ≤ low) (cond b (e ∷ upto low es) (upto low es))
    by_test true t ih = (leb-true e.scn low t, ih)
    by_test false t ih = ih

each_high : (low : ℕ) (es : List LogEntry) → AllByRecursion (λ e. low < e.scn) (above low es)
each_high low [] = tt
each_high low (e ∷ es) = by_test (nat_lt low e.scn) refl (each_high low es)
  where
    by_test : (b : Bool) → nat_lt low e.scn ≡ b → AllByRecursion (λ x. low < x.scn) (above low es) → AllByRecursion (λ x. low < x.scn) (cond b (e ∷ above low es) (above low es))
    by_test true t ih = (ltb-true low e.scn t, ih)
    by_test false t ih = ih

-- the tests of an entry
pub tests_low : (low : ℕ) (e : LogEntry) → e.scn ≤ low → (nat_le e.scn low ≡ true) × (nat_lt low e.scn ≡ false)
tests_low low e h = (le-leb e.scn low h, le-ltb low e.scn h)

pub tests_high : (low : ℕ) (e : LogEntry) → low < e.scn → (nat_le e.scn low ≡ false) × (nat_lt low e.scn ≡ true)
tests_high low e h = (lt-leb e.scn low h, lt-ltb low e.scn h)

pub low_or_high : (low : ℕ) (e : LogEntry) → (e.scn ≤ low) ⊎ (low < e.scn)
low_or_high low e = by_test (nat_le e.scn low) refl
  where
    by_test : (b : Bool) → nat_le e.scn low ≡ b → (e.scn ≤ low) ⊎ (low < e.scn)
    by_test true t = inl (leb-true e.scn low t)
    by_test false t = inr (leb-false e.scn low t)

pub in_order_parts : (low : ℕ) (es : List LogEntry) → in_order es ≡ in_order (upto low es) ++ in_order (above low es)
in_order_parts low [] = refl
in_order_parts low (e ∷ es) = by_scn (low_or_high low e) (ap (put_in e) (in_order_parts low es))
  where
    a : List LogEntry
    a = in_order (upto low es)

    b : List LogEntry
    b = in_order (above low es)

    by_scn : (e.scn ≤ low) ⊎ (low < e.scn) → put_in e (in_order es) ≡ put_in e (in_order (upto low es) ++ in_order (above low es)) → in_order (e ∷ es) ≡ in_order (upto low (e ∷ es)) ++ in_order (above low (e ∷ es))
    by_scn (inl le) ih =
        let t = tests_low low e le in
        rw (t.0, t.1) (ih ∙ put_in_low low e (in_order (upto low es)) (in_order (above low es)) le (each_in_order (λ x. low < x.scn) (above low es) (each_high low es)))
    by_scn (inr lt) ih =
        let t = tests_high low e lt in
        rw (t.0, t.1) (ih ∙ put_in_high low e (in_order (upto low es)) (in_order (above low es)) lt (each_in_order (λ x. x.scn ≤ low) (upto low es) (each_low low es)))

-- ---- up to an SCN and above it

pub above_append : (low : ℕ) (xs ys : List LogEntry) → above low (xs ++ ys) ≡ above low xs ++ above low ys
above_append low xs ys = filter-append (λ e. nat_lt low e.scn) xs ys

pub above_all : (low : ℕ) (es : List LogEntry) → AllByRecursion (λ e. low < e.scn) es → above low es ≡ es
above_all low [] h = refl
above_all low (e ∷ es) h = rw (lt-ltb low e.scn h.0) (ap (λ l. e ∷ l) (above_all low es h.1))

pub above_above : (low high : ℕ) (es : List LogEntry) → low ≤ high → above high (above low es) ≡ above high es
above_above low high [] le = refl
above_above low high (e ∷ es) le = by_scn (low_or_high low e) (low_or_high high e) (above_above low high es le)
  where
    by_scn : (e.scn ≤ low) ⊎ (low < e.scn) → (e.scn ≤ high) ⊎ (high < e.scn) → above high (above low es) ≡ above high es → above high (above low (e ∷ es)) ≡ above high (e ∷ es)
    by_scn (inl p) (inl q) ih = rw ((tests_low low e p).1, (tests_low high e q).1) ih
    by_scn (inl p) (inr q) ih = absurd (omega (arith, p, q, le))
    by_scn (inr p) (inl q) ih = rw ((tests_high low e p).1, (tests_low high e q).1) ih
    by_scn (inr p) (inr q) ih = rw ((tests_high low e p).1, (tests_high high e q).1) (ap (λ l. e ∷ l) ih)

pub upto_above : (low high : ℕ) (es : List LogEntry) → upto high (above low es) ≡ above low (upto high es)
upto_above low high [] = refl
upto_above low high (e ∷ es) = by_scn (low_or_high low e) (low_or_high high e) (upto_above low high es)
  where
    by_scn : (e.scn ≤ low) ⊎ (low < e.scn) → (e.scn ≤ high) ⊎ (high < e.scn) → upto high (above low es) ≡ above low (upto high es) → upto high (above low (e ∷ es)) ≡ above low (upto high (e ∷ es))
    by_scn (inl p) (inl q) ih = simp ((tests_low low e p).1, (tests_low high e q).0) ih
    by_scn (inl p) (inr q) ih = simp ((tests_low low e p).1, (tests_high high e q).0) ih
    by_scn (inr p) (inl q) ih = simp ((tests_high low e p).1, (tests_low high e q).0) (ap (λ l. e ∷ l) ih)
    by_scn (inr p) (inr q) ih = simp ((tests_high low e p).1, (tests_high high e q).0) ih

-- where nothing is up to an SCN all is above it
pub all_above : (scn : ℕ) (es : List LogEntry) → upto scn es ≡ [] → above scn es ≡ es
all_above scn [] h = refl
all_above scn (e ∷ es) h = by_scn (low_or_high scn e) h (all_above scn es)
  where
    by_scn : (e.scn ≤ scn) ⊎ (scn < e.scn) → upto scn (e ∷ es) ≡ [] → (upto scn es ≡ [] → above scn es ≡ es) → above scn (e ∷ es) ≡ e ∷ es
    by_scn (inl p) k ih = let k' = rw (tests_low scn e p).0 at k in absurd cc
    by_scn (inr p) k ih = let k' = rw (tests_high scn e p).0 at k in rw (tests_high scn e p).1 (ap (λ l. e ∷ l) (ih k'))

-- ---- positions

pub length_numbered : (pos : ℕ) (es : List LogEntry) → length (numbered pos es) ≡ length es
length_numbered pos [] = refl
length_numbered pos (e ∷ es) = omega (arith, length_numbered (pos + 1) es)

pub numbered_push : (pos : ℕ) (es : List LogEntry) (e : LogEntry) → numbered pos (es ++ e ∷ []) ≡ numbered pos es ++ (record e { pos = pos + length es }) ∷ []
numbered_push pos es e = numbered_append pos es (e ∷ [])
