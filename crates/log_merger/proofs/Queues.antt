-- Taking the first entry of several queues.
use Rattle.std.proofs.Common.{◌≡◌, ℕ, ◌+◌, ◌<◌, ◌≤◌, Bool, true, false, cond, nat_le, List, [], ◌∷◌, ◌++◌, length, get_or, zero, suc, Option, Some, None, MatchOption, inl, inr, refl, sym, ap, ap₂, ◌∙◌, subst, arith, append_assoc, append-nil, length-append}
use Rattle.std.proofs.Math.ListN.{set}
use Rattle.std.specs.List.{AllByRecursion, AllZip}
use Rattle.std.proofs.lemmas.Bool.{le-leb, leb-false, cases_lt}
use Rattle.std.proofs.lemmas.List.{nil_from_length, get_or-map, length-map}
use Rattle.std.proofs.lemmas.List.Sums.{sum_by-cons}
use Rattle.adg_base.specs.declared.log.LogEntry.{LogEntry}
use Rattle.adg_model.specs.Log.{comes_before, in_order, numbered, upto}
use Rattle.adg_model.proofs.LogLaws.{each_append, each_weaker, upto_none, upto_append, before_by_scn}
use Rattle.log_merger.specs.Thread.{Receiving}
use Rattle.log_merger.specs.Merge.{above, all_waiting, Rises, AreQueues, count_upto, count_all, first_scn, first_scns, IsFirstLeast, KeepsRest, TakesFirst, TakesNext, TakesAll}
use Rattle.log_merger.proofs.Orders.{each_filter, scn_if_before, before_by_place, in_order_first, length_in_order, tests_low, all_above, numbered_push, length_numbered}

-- all entries of a queue are at or above its first
first_least : (none : ℕ) (es : List LogEntry) → Rises es → AllByRecursion (λ x. first_scn none es ≤ x.scn) es
first_least none [] h = tt
first_least none (e ∷ es) h = (omega arith, each_weaker (λ x. comes_before e x ≡ true) (λ x. e.scn ≤ x.scn) (λ x k. scn_if_before e x k) es h.0)

-- what waits, where one entry was taken out
record Split (e : LogEntry) (all rest : List LogEntry) : Type 0 where
  front : List LogEntry
  back : List LogEntry
  all_is : all ≡ front ++ e ∷ back
  rest_is : rest ≡ front ++ back
  before : AllByRecursion (λ x. comes_before e x ≡ true) front
  after : AllByRecursion (λ x. comes_before e x ≡ true) back

-- the SCNs at the front of the queues, from one on
abbrev AtLeast : ℕ → ℕ → List Receiving → Type 0
AtLeast none scn ts = AllByRecursion (λ t. scn ≤ first_scn none t.waiting) ts

behind : (none thread : ℕ) (e : LogEntry) (ts : List Receiving) → AreQueues thread ts → e.thread < thread → AtLeast none e.scn ts → AllByRecursion (λ x. comes_before e x ≡ true) (all_waiting ts)
behind none thread e [] h lt least = tt
behind none thread e (t ∷ ts) h lt least =
    let scns = each_weaker (λ x. first_scn none t.waiting ≤ x.scn) (λ x. e.scn ≤ x.scn) (λ x k. omega (arith, k, least.0)) t.waiting (first_least none t.waiting h.0) in
    each_append (λ x. comes_before e x ≡ true) t.waiting (all_waiting ts) (by_place t.waiting scns h.1) (behind none (thread + 1) e ts h.2 (omega arith) least.1)
  where
    by_place : (es : List LogEntry) → AllByRecursion (λ x. e.scn ≤ x.scn) es → AllByRecursion (λ x. x.thread ≡ thread) es → AllByRecursion (λ x. comes_before e x ≡ true) es
    by_place [] p q = tt
    by_place (x ∷ xs) p q = (before_by_place e x p.0 (omega (arith, q.0, lt)), by_place xs p.1 q.1)

-- the queues before one begin above an SCN, and those from it on at or above it
abbrev Leads : ℕ → ℕ → List Receiving → ℕ → Type 0
Leads none scn [] i = Unit {0}
Leads none scn (t ∷ ts) zero = AtLeast none scn (t ∷ ts)
Leads none scn (t ∷ ts) (suc i) = (scn < first_scn none t.waiting) × Leads none scn ts i

split_at : (none thread : ℕ) (ts : List Receiving) (i : ℕ) (d m : Receiving) (e : LogEntry) → AreQueues thread ts → i < length ts → (get_or ts i d).waiting ≡ e ∷ m.waiting → Leads none e.scn ts i → Split e (all_waiting ts) (all_waiting (set ts i m))
split_at none thread [] i d m e h lt first leads = absurd (omega (arith, lt))
split_at none thread (t ∷ ts) zero d m e h lt first leads =
    let own : e.thread ≡ thread = (subst (AllByRecursion (λ x. x.thread ≡ thread)) first h.1).0 in
    let rises : Rises (e ∷ m.waiting) = subst Rises first h.0 in
    record {
      front = [];
      back = m.waiting ++ all_waiting ts;
      all_is = ap (λ l. l ++ all_waiting ts) first;
      rest_is = refl;
      before = tt;
      after = each_append (λ x. comes_before e x ≡ true) m.waiting (all_waiting ts) rises.0 (behind none (thread + 1) e ts h.2 (omega (arith, own)) leads.1);
    }
split_at none thread (t ∷ ts) (suc i) d m e h lt first leads =
    let s = split_at none (thread + 1) ts i d m e h.2 (omega (arith, lt)) first leads.1 in
    let scns = each_weaker (λ x. first_scn none t.waiting ≤ x.scn) (λ x. comes_before e x ≡ true) (λ x k. before_by_scn e x (omega (arith, k, leads.0))) t.waiting (first_least none t.waiting h.0) in
    record {
      front = t.waiting ++ s.front;
      back = s.back;
      all_is = ap (λ l. t.waiting ++ l) s.all_is ∙ sym (append_assoc t.waiting s.front (e ∷ s.back));
      rest_is = ap (λ l. t.waiting ++ l) s.rest_is ∙ sym (append_assoc t.waiting s.front s.back);
      before = each_append (λ x. comes_before e x ≡ true) t.waiting s.front scns s.before;
      after = s.after;
    }

split_first : (scn : ℕ) (e : LogEntry) (all rest : List LogEntry) → e.scn ≤ scn → Split e all rest → in_order (upto scn all) ≡ e ∷ in_order (upto scn rest)
split_first scn e all rest le s =
    let f = upto scn s.front in
    let b = upto scn s.back in
    let whole : upto scn all ≡ f ++ e ∷ b = ap (upto scn) s.all_is ∙ upto_append scn s.front (e ∷ s.back) ∙ ap (λ c. f ++ cond c (e ∷ b) b) (le-leb e.scn scn le) in
    let left : upto scn rest ≡ f ++ b = ap (upto scn) s.rest_is ∙ upto_append scn s.front s.back in
    ap in_order whole
    ∙ in_order_first e f b (each_filter (λ x. comes_before e x ≡ true) (λ x. nat_le x.scn scn) s.front s.before) (each_filter (λ x. comes_before e x ≡ true) (λ x. nat_le x.scn scn) s.back s.after)
    ∙ ap (λ l. e ∷ in_order l) (sym left)

queues_set : (thread : ℕ) (ts : List Receiving) (i : ℕ) (d m : Receiving) (e : LogEntry) → AreQueues thread ts → i < length ts → (get_or ts i d).waiting ≡ e ∷ m.waiting → AreQueues thread (set ts i m)
queues_set thread [] i d m e h lt first = absurd (omega (arith, lt))
queues_set thread (t ∷ ts) zero d m e h lt first =
    ((subst Rises first h.0).1, (subst (AllByRecursion (λ x. x.thread ≡ thread)) first h.1).1, h.2)
queues_set thread (t ∷ ts) (suc i) d m e h lt first = (h.0, h.1, queues_set (thread + 1) ts i d m e h.2 (omega (arith, lt)) first)

pub zip_same : {X : Type 0} (R : X → X → Type 0) → ((x : X) → R x x) → (xs : List X) → AllZip R xs xs
zip_same R r [] = tt
zip_same R r (x ∷ xs) = (r x, zip_same R r xs)

pub zip_set : {X : Type 0} (R : X → X → Type 0) → ((x : X) → R x x) → (xs : List X) (i : ℕ) (d y : X) → R (get_or xs i d) y → AllZip R xs (set xs i y)
zip_set R r [] i d y h = tt
zip_set R r (x ∷ xs) zero d y h = (h, zip_same R r xs)
zip_set R r (x ∷ xs) (suc i) d y h = (r x, zip_set R r xs i d y h)

pub zip_trans : {X : Type 0} (R : X → X → Type 0) → ((x y z : X) → R x y → R y z → R x z) → (xs ys zs : List X) → AllZip R xs ys → AllZip R ys zs → AllZip R xs zs
zip_trans R r [] [] [] h k = tt
zip_trans R r [] [] (z ∷ zs) h k = absurd k
zip_trans R r [] (y ∷ ys) zs h k = absurd h
zip_trans R r (x ∷ xs) [] zs h k = absurd h
zip_trans R r (x ∷ xs) (y ∷ ys) [] h k = absurd k
zip_trans R r (x ∷ xs) (y ∷ ys) (z ∷ zs) h k = (r x y z h.0 k.0, zip_trans R r xs ys zs h.1 k.1)

pub zip_weaker : {X : Type 0} (R S : X → X → Type 0) → ((x y : X) → R x y → S x y) → (xs ys : List X) → AllZip R xs ys → AllZip S xs ys
zip_weaker R S f [] [] h = tt
zip_weaker R S f [] (y ∷ ys) h = absurd h
zip_weaker R S f (x ∷ xs) [] h = absurd h
zip_weaker R S f (x ∷ xs) (y ∷ ys) h = (f x y h.0, zip_weaker R S f xs ys h.1)

-- what the search found, as facts on the queues
at_least : (none scn : ℕ) (ts : List Receiving) → ((k : ℕ) → k < length (first_scns none ts) → scn ≤ get_or (first_scns none ts) k 0) → AtLeast none scn ts
at_least none scn [] h = tt
at_least none scn (t ∷ ts) h = (h 0 (omega arith), at_least none scn ts (λ k lt. h (suc k) (omega (arith, lt))))

leads_from : (none scn : ℕ) (ts : List Receiving) (i : ℕ) → ((k : ℕ) → k < length (first_scns none ts) → scn ≤ get_or (first_scns none ts) k 0) → ((k : ℕ) → k < i → scn < get_or (first_scns none ts) k 0) → Leads none scn ts i
leads_from none scn [] i h k = tt
leads_from none scn (t ∷ ts) zero h k = at_least none scn (t ∷ ts) h
leads_from none scn (t ∷ ts) (suc i) h k = (k 0 (omega arith), leads_from none scn ts i (λ n lt. h (suc n) (omega (arith, lt))) (λ n lt. k (suc n) (omega (arith, lt))))

none_waits : (scn thread : ℕ) (ts : List Receiving) → AreQueues thread ts → AtLeast (scn + 1) (scn + 1) ts → upto scn (all_waiting ts) ≡ []
none_waits scn thread [] h least = refl
none_waits scn thread (t ∷ ts) h least =
    let scns = each_weaker (λ x. first_scn (scn + 1) t.waiting ≤ x.scn) (λ x. scn < x.scn) (λ x k. omega (arith, k, least.0)) t.waiting (first_least (scn + 1) t.waiting h.0) in
    upto_append scn t.waiting (all_waiting ts) ∙ ap₂ (λ a b. a ++ b) (upto_none scn t.waiting scns) (none_waits scn (thread + 1) ts h.2 least.1)

pub takes_none : (scn : ℕ) (ts : List Receiving) → AreQueues 1 ts → IsFirstLeast (scn + 1) (first_scns (scn + 1) ts) None → TakesNext scn ts ts None
takes_none scn ts h least = (refl, none_waits scn 1 ts h (at_least (scn + 1) (scn + 1) ts least))

pub takes_first : (scn : ℕ) (ts : List Receiving) (i : ℕ) (d m : Receiving) (e : LogEntry) → AreQueues 1 ts → i < length ts → (get_or ts i d).waiting ≡ e ∷ m.waiting → e.scn ≤ scn
    → ((k : ℕ) → k < length (first_scns (scn + 1) ts) → e.scn ≤ get_or (first_scns (scn + 1) ts) k 0) → ((k : ℕ) → k < i → e.scn < get_or (first_scns (scn + 1) ts) k 0) → TakesFirst scn ts (set ts i m) e
takes_first scn ts i d m e h lt first le least before = record {
  first = split_first scn e (all_waiting ts) (all_waiting (set ts i m)) le (split_at (scn + 1) 1 ts i d m e h lt first (leads_from (scn + 1) e.scn ts i least before));
  queues = queues_set 1 ts i d m e h lt first;
  later = zip_set (λ o n. above scn n.waiting ≡ above scn o.waiting) (λ x. refl) ts i d m
      (sym (ap (above scn) first ∙ ap (λ c. cond c (e ∷ above scn m.waiting) (above scn m.waiting)) (tests_low scn e le).1));
}

-- what was taken from the thread that the search found
pub takes_next : (scn : ℕ) (ts : List Receiving) (i : ℕ) (d m : Receiving) (r : Option LogEntry) → AreQueues 1 ts → IsFirstLeast (scn + 1) (first_scns (scn + 1) ts) (Some i)
    → MatchOption r (((get_or ts i d).waiting ≡ []) × (m.waiting ≡ [])) (λ e. (get_or ts i d).waiting ≡ e ∷ m.waiting) → TakesNext scn ts (set ts i m) r
takes_next scn ts i d m r h least given = by_result r given
  where
    within : i < length ts
    within = omega (arith, least.0, length-map ts (λ (t : Receiving). first_scn (scn + 1) t.waiting))

    front : get_or (first_scns (scn + 1) ts) i 0 ≡ first_scn (scn + 1) (get_or ts i d).waiting
    front = get_or-map (λ (t : Receiving). first_scn (scn + 1) t.waiting) ts i d 0 within

    by_result : (o : Option LogEntry) → MatchOption o (((get_or ts i d).waiting ≡ []) × (m.waiting ≡ [])) (λ e. (get_or ts i d).waiting ≡ e ∷ m.waiting) → TakesNext scn ts (set ts i m) o
    by_result None k =
        let none : first_scn (scn + 1) (get_or ts i d).waiting ≡ scn + 1 = ap (first_scn (scn + 1)) k.0 in
        absurd (omega (arith, least.1, front, none))
    by_result (Some e) k =
        let scn_is : get_or (first_scns (scn + 1) ts) i 0 ≡ e.scn = front ∙ ap (first_scn (scn + 1)) k in
        takes_first scn ts i d m e h within k (omega (arith, scn_is, least.1))
        (λ n lt. omega (arith, scn_is, least.2 n lt)) (λ n lt. omega (arith, scn_is, least.3 n lt))

-- ---- the search

-- the first of the least among the first numbers, where it is below a limit
pub record Searching (limit : ℕ) (ns : List ℕ) (i least : ℕ) (found : Option ℕ) : Type 0 where
  pub low : (k : ℕ) → k < i → least ≤ get_or ns k 0
  pub found_is : MatchOption found (least ≡ limit) (λ j. (j < i) × (least < limit) × (least ≡ get_or ns j 0) × ((k : ℕ) → k < j → least < get_or ns k 0))

pub searching_start : (limit : ℕ) (ns : List ℕ) → Searching limit ns 0 limit None
searching_start limit ns = record { low = λ k lt. absurd (omega (arith, lt)); found_is = refl }

searching_limit : (limit : ℕ) (ns : List ℕ) (i least : ℕ) (found : Option ℕ) → Searching limit ns i least found → least ≤ limit
searching_limit limit ns i least None s = omega (arith, s.found_is)
searching_limit limit ns i least (Some j) s = omega (arith, s.found_is.1)

pub searching_less : (limit : ℕ) (ns : List ℕ) (i least scn : ℕ) (found : Option ℕ) → Searching limit ns i least found → scn ≡ get_or ns i 0 → scn < least → Searching limit ns (i + 1) scn (Some i)
searching_less limit ns i least scn found s at less =
    let below = searching_limit limit ns i least found s in
    record {
      low = λ k lt. elim (cases_lt k i) [
        | inl earlier ↦ omega (arith, s.low k earlier, less)
        | inr same ↦ (let e : k ≡ i = omega (arith, lt, same) in subst (λ (n : ℕ). scn ≤ get_or ns n 0) (sym e) (omega (arith, at)))
      ];
      found_is = (omega arith, omega (arith, below, less), at, λ k lt. omega (arith, s.low k lt, less));
    }

pub searching_more : (limit : ℕ) (ns : List ℕ) (i least scn : ℕ) (found : Option ℕ) → Searching limit ns i least found → scn ≡ get_or ns i 0 → least ≤ scn → Searching limit ns (i + 1) least found
searching_more limit ns i least scn found s at more = record {
  low = λ k lt. elim (cases_lt k i) [
    | inl earlier ↦ s.low k earlier
    | inr same ↦ (let e : k ≡ i = omega (arith, lt, same) in subst (λ (n : ℕ). least ≤ get_or ns n 0) (sym e) (omega (arith, at, more)))
  ];
  found_is = by_found found s.found_is;
}
  where
    by_found : (o : Option ℕ) → MatchOption o (least ≡ limit) (λ j. (j < i) × (least < limit) × (least ≡ get_or ns j 0) × ((k : ℕ) → k < j → least < get_or ns k 0))
        → MatchOption o (least ≡ limit) (λ j. (j < i + 1) × (least < limit) × (least ≡ get_or ns j 0) × ((k : ℕ) → k < j → least < get_or ns k 0))
    by_found None k = k
    by_found (Some j) k = (omega (arith, k.0), k.1, k.2, k.3)

pub searching_end : (limit : ℕ) (ns : List ℕ) (i least : ℕ) (found : Option ℕ) → Searching limit ns i least found → i ≡ length ns → IsFirstLeast limit ns found
searching_end limit ns i least None s all = λ k lt. omega (arith, s.low k (omega (arith, lt, all)), s.found_is)
searching_end limit ns i least (Some j) s all =
    let f = s.found_is in
    (omega (arith, f.0, all), omega (arith, f.1, f.2), λ k lt. omega (arith, s.low k (omega (arith, lt, all)), f.2), λ k lt. omega (arith, f.3 k lt, f.2))

pub keeps_same : (ts : List Receiving) → AllZip KeepsRest ts ts
keeps_same ts = zip_same KeepsRest (λ x. refl) ts

pub keeps_trans : (xs ys zs : List Receiving) → AllZip KeepsRest xs ys → AllZip KeepsRest ys zs → AllZip KeepsRest xs zs
keeps_trans xs ys zs h k = zip_trans KeepsRest (λ x y z p q. q ∙ ap (λ (t : Receiving). record t { waiting = z.waiting }) p) xs ys zs h k

-- ---- counting

count_ordered : (scn : ℕ) (es : List LogEntry) → Rises es → count_upto scn es ≡ length (upto scn es)
count_ordered scn [] h = refl
count_ordered scn (e ∷ es) h = by_test (nat_le e.scn scn) refl (count_ordered scn es h.1)
  where
    by_test : (b : Bool) → nat_le e.scn scn ≡ b → count_upto scn es ≡ length (upto scn es) → cond b (count_upto scn es + 1) 0 ≡ length (cond b (e ∷ upto scn es) (upto scn es))
    by_test true t ih = omega (arith, ih)
    by_test false t ih =
        let above_it = each_weaker (λ x. comes_before e x ≡ true) (λ x. scn < x.scn) (λ x k. omega (arith, scn_if_before e x k, leb-false e.scn scn t)) es h.0 in
        ap length (sym (upto_none scn es above_it))

pub count_waiting : (scn thread : ℕ) (ts : List Receiving) → AreQueues thread ts → count_all scn ts ≡ length (upto scn (all_waiting ts))
count_waiting scn thread [] h = refl
count_waiting scn thread (t ∷ ts) h =
    let here = count_ordered scn t.waiting h.0 in
    let later = count_waiting scn (thread + 1) ts h.2 in
    let both = ap length (upto_append scn t.waiting (all_waiting ts)) in
    let sum = sum_by-cons (λ (r : Receiving). count_upto scn r.waiting) t ts in
    omega (arith, here, later, both, sum, length-append (upto scn t.waiting) (upto scn (all_waiting ts)))

-- ---- the loop of a merge

-- some entries were given in order, and the others wait
pub record Giving (scn first : ℕ) (old now : List Receiving) (entries : List LogEntry) : Type 0 where
  pub given : List LogEntry
  pub shown : entries ≡ numbered first given
  pub order : in_order (upto scn (all_waiting old)) ≡ given ++ in_order (upto scn (all_waiting now))
  pub queues : AreQueues 1 now
  pub later : AllZip (λ o n. above scn n.waiting ≡ above scn o.waiting) old now

pub giving_start : (scn first : ℕ) (ts : List Receiving) → AreQueues 1 ts → Giving scn first ts ts []
giving_start scn first ts h = record {
  given = [];
  shown = refl;
  order = refl;
  queues = h;
  later = zip_same (λ o n. above scn n.waiting ≡ above scn o.waiting) (λ x. refl) ts;
}

pub giving_next : (scn first place : ℕ) (old now new : List Receiving) (entries all : List LogEntry) (e : LogEntry) → Giving scn first old now entries → TakesFirst scn now new e → length entries ≡ place
    → all ≡ entries ++ (record e { pos = first + place }) ∷ [] → Giving scn first old new all
giving_next scn first place old now new entries all e g t many push =
    let place_is : place ≡ length g.given = sym many ∙ ap length g.shown ∙ length_numbered first g.given in
    record {
      given = g.given ++ e ∷ [];
      shown = push ∙ ap₂ (λ (l : List LogEntry) (n : ℕ). l ++ (record e { pos = first + n }) ∷ []) g.shown place_is ∙ sym (numbered_push first g.given e);
      order = g.order ∙ ap (λ l. g.given ++ l) t.first ∙ sym (append_assoc g.given (e ∷ []) (in_order (upto scn (all_waiting new))));
      queues = t.queues;
      later = zip_trans (λ o n. above scn n.waiting ≡ above scn o.waiting) (λ x y z p q. q ∙ p) old now new g.later t.later;
    }

left_waiting : (scn : ℕ) (old now : List Receiving) → upto scn (all_waiting now) ≡ [] → AllZip (λ o n. above scn n.waiting ≡ above scn o.waiting) old now → AllZip (λ o n. n.waiting ≡ above scn o.waiting) old now
left_waiting scn [] [] none h = tt
left_waiting scn [] (n ∷ ns) none h = absurd h
left_waiting scn (o ∷ os) [] none h = absurd h
left_waiting scn (o ∷ os) (n ∷ ns) none h =
    let parts : upto scn n.waiting ++ upto scn (all_waiting ns) ≡ [] = sym (upto_append scn n.waiting (all_waiting ns)) ∙ none in
    let lengths : length (upto scn n.waiting) + length (upto scn (all_waiting ns)) ≡ 0 = sym (length-append (upto scn n.waiting) (upto scn (all_waiting ns))) ∙ ap length parts in
    let here : upto scn n.waiting ≡ [] = nil_from_length (upto scn n.waiting) (omega (arith, lengths)) in
    let later : upto scn (all_waiting ns) ≡ [] = nil_from_length (upto scn (all_waiting ns)) (omega (arith, lengths)) in
    (sym (all_above scn n.waiting here) ∙ h.0, left_waiting scn os ns later h.1)

pub giving_end : (scn first : ℕ) (old now : List Receiving) (entries : List LogEntry) → Giving scn first old now entries → upto scn (all_waiting now) ≡ [] → TakesAll scn first old now entries
giving_end scn first old now entries g none =
    let all : in_order (upto scn (all_waiting old)) ≡ g.given = g.order ∙ ap (λ l. g.given ++ in_order l) none ∙ append-nil g.given in
    record { given = g.shown ∙ ap (numbered first) (sym all); later = left_waiting scn old now none g.later }

-- where as many were given as had waited, none is left
pub giving_all : (scn first : ℕ) (old now : List Receiving) (entries : List LogEntry) → Giving scn first old now entries → AreQueues 1 old → length entries ≡ count_all scn old → upto scn (all_waiting now) ≡ []
giving_all scn first old now entries g h many =
    let lengths = ap length g.order in
    let given = ap length g.shown in
    nil_from_length (upto scn (all_waiting now))
    (omega (arith, lengths, given, many, count_waiting scn 1 old h, length_numbered first g.given, length_in_order (upto scn (all_waiting old)), length_in_order (upto scn (all_waiting now)), length-append g.given (in_order (upto scn (all_waiting now)))))
