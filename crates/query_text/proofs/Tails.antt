-- The tests and the group behind a table are read as they are spelled.
use Rattle.std.proofs.Common.{◌≡◌, ℕ, pos, ◌≤◌, Bool, true, false, List, [], ◌∷◌, ◌++◌, length, get_or, drop, Option, Some, None, Result, ◌⊎◌, inl, inr, refl, sym, ap, ◌∙◌, subst, arith, append_assoc, codes}
use Rattle.std.specs.Fmt.{decimal}
use Rattle.std.proofs.lemmas.List.{append-nil, append_cancel_left}
use Rattle.adg_base.specs.declared.value.Value.{Value}
use Rattle.adg_base.specs.declared.value.Value.TheVariants.{Null, Int, Text}
use Rattle.adg_base.specs.declared.command.Condition.{Condition}
use Rattle.adg_base.specs.declared.command.Op.TheVariants as op
use Rattle.adg_model.specs.Command.{literal_bytes, op_bytes, group_bytes, IsColumn, IsCondition}
use Rattle.query_text.specs.declared.tail.Next.{Next}
use Rattle.query_text.specs.declared.tail.Next.TheVariants.{Test, Group}
use Rattle.query_text.specs.declared.fault.Fault.{Fault}
use Rattle.query_text.specs.Stopping.{first, Stops, Refuses, Spelled, Front, Takes, Reads, Anything}
use Rattle.query_text.specs.Words.{IsMeant, Finds}
use Rattle.query_text.specs.Parts.{EndsNumber, EndsLiteral, EndsTest, test_bytes, tests_bytes, Tail, tail_bytes, IsGroupIn, IsTail, IsNext, next_bytes}
use Rattle.query_text.proofs.Stopping.{stops_in, stops_as, refuses}
use Rattle.query_text.proofs.Tables.{table_reads}
use Rattle.query_text.proofs.Literals.{no_null_int}
use Rattle.query_text.proofs.Conditions.{test_laid, ends_same}
use Rattle.adg_model.proofs.CommandLaws.{column_apart, op_apart}
use Rattle.query_text.proofs.Apart.{literal_apart}

-- ---- what comes next

both_meant : {W : Type 0} (a b : W) (t : Next) → IsMeant ((a, Test) ∷ (b, Group) ∷ []) t
both_meant a b Test = inl refl
both_meant a b Group = inr (inl refl)

pub both_reads : {W Y : Type 0} (now : W → List ℕ) (a b : W) → now b ≡ codes " GROUP BY c" → (meaning : Y → Next) (rest : Y → List ℕ) (text : List ℕ) (r : Result Y Fault) → Finds now ((a, Test) ∷ (b, Group) ∷ []) meaning rest text r → Reads meaning rest Anything (IsNext true) (next_bytes (now a)) text r
both_reads now a b hb meaning rest text r h =
    table_reads now (IsNext true) (next_bytes (now a)) ((a, Test) ∷ (b, Group) ∷ [])
    (record { sound = ((tt, refl), ((refl, hb), tt)); whole = λ t good. both_meant a b t; one = Test; one_good = tt })
    meaning rest text r h

one_meant : {W : Type 0} (a : W) (t : Next) → IsNext false t → IsMeant ((a, Test) ∷ []) t
one_meant a Test good = inl refl
one_meant a Group good = absurd cc

pub one_reads : {W Y : Type 0} (now : W → List ℕ) (a : W) (meaning : Y → Next) (rest : Y → List ℕ) (text : List ℕ) (r : Result Y Fault) → Finds now ((a, Test) ∷ []) meaning rest text r → Reads meaning rest Anything (IsNext false) (next_bytes (now a)) text r
one_reads now a meaning rest text r h =
    table_reads now (IsNext false) (next_bytes (now a)) ((a, Test) ∷ [])
    (record { sound = ((tt, refl), tt); whole = λ t good. one_meant a t good; one = Test; one_good = tt })
    meaning rest text r h

-- ---- tests apart

test_apart : (c d : Condition) (x y : List ℕ) → IsCondition c → IsCondition d → EndsTest c x → EndsTest d y → test_bytes c ++ x ≡ test_bytes d ++ y → (c ≡ d) × (x ≡ y)
test_apart c d x y h k ex ey e =
    let f = sym (test_laid c x) ∙ e ∙ test_laid d y in
    let p = column_apart c.column d.column (32 ∷ (op_bytes c.op ++ 32 ∷ (literal_bytes c.literal ++ x))) (32 ∷ (op_bytes d.op ++ 32 ∷ (literal_bytes d.literal ++ y))) h.0 k.0 (λ i. omega (arith, i.0)) (λ i. omega (arith, i.0)) f in
    let q = op_apart c.op d.op (literal_bytes c.literal ++ x) (literal_bytes d.literal ++ y) (ap (drop 1) p.1) in
    let r = literal_apart c.literal d.literal x y (h.1, h.2) (k.1, k.2) ex ey q.1 in
    (ap (λ n. record c { column = n }) p.0 ∙ ap (λ n. record d { op = n; literal = c.literal }) q.0 ∙ ap (λ n. record d { literal = n }) r.0, r.1)

ends_literal : (c : Condition) (x : List ℕ) → EndsNumber x → EndsTest c x
ends_literal c x ends = by_value c.literal
  where
    by_value : (v : Value) → EndsLiteral v x
    by_value Null = tt
    by_value (Int n) = ends
    by_value (Text t) = tt

literal_same : (v : Value) (x text : List ℕ) → first x ≡ first text → EndsLiteral v text → EndsLiteral v x
literal_same Null x text e ends = tt
literal_same (Int n) x text e ends = ends_same x text e ends
literal_same (Text t) x text e ends = tt

-- ---- the word in front of a test

-- WHERE at first, then AND
abbrev pub IsTestWord : List ℕ → Type 0
IsTestWord word = (word ≡ codes " WHERE c") ⊎ (word ≡ codes " AND c")

second_byte : (word x : List ℕ) → IsTestWord word → (get_or (word ++ x) 0 0 ≡ 32) × (get_or (word ++ x) 1 0 ≡ 71 → ⊥)
second_byte word x (inl e) =
    let w : get_or (word ++ x) 1 0 ≡ 87 = ap (λ l. get_or (l ++ x) 1 0) e in
    (ap (λ l. get_or (l ++ x) 0 0) e, λ g. omega (arith, w, g))
second_byte word x (inr e) =
    let w : get_or (word ++ x) 1 0 ≡ 65 = ap (λ l. get_or (l ++ x) 1 0) e in
    (ap (λ l. get_or (l ++ x) 0 0) e, λ g. omega (arith, w, g))

-- no group begins as a test does
no_group : (word x : List ℕ) (g : Option ℕ) → IsTestWord word → word ++ x ≡ group_bytes g → ⊥
no_group word x None w e = omega (arith, (second_byte word x w).0, ap (λ l. get_or l 0 0) e)
no_group word x (Some n) w e = (second_byte word x w).1 (ap (λ l. get_or l 1 0) e)

tail_ends_for : (word : List ℕ) (cs : List Condition) (g : Option ℕ) → IsTestWord word → EndsNumber (tail_bytes word (cs, g))
tail_ends_for word [] None w = tt
tail_ends_for word [] (Some n) w = λ i. omega (arith, i.0)
tail_ends_for word (c ∷ cs) g (inl e) = subst (λ l. EndsNumber ((l ++ (test_bytes c ++ tests_bytes (codes " AND c") cs)) ++ group_bytes g)) (sym e) (λ i. omega (arith, i.0))
tail_ends_for word (c ∷ cs) g (inr e) = subst (λ l. EndsNumber ((l ++ (test_bytes c ++ tests_bytes (codes " AND c") cs)) ++ group_bytes g)) (sym e) (λ i. omega (arith, i.0))

pub tail_ends : (word : List ℕ) (t : Tail) → IsTestWord word → EndsNumber (tail_bytes word t)
tail_ends word t w = tail_ends_for word t.0 t.1 w

-- ---- where a tail goes wrong

abbrev pub TailStops : Bool → List ℕ → List ℕ → ℕ → Type 0
TailStops grouped word text left = Stops (Spelled (IsTail grouped) (tail_bytes word)) (Spelled (IsTail grouped) (tail_bytes word)) text left

abbrev pub and_word : List ℕ
and_word = codes " AND c"

regroup_tail : (w t r g : List ℕ) → (w ++ (t ++ r)) ++ g ≡ w ++ (t ++ (r ++ g))
regroup_tail w t r g = simp append_assoc

tail_laid : (word : List ℕ) (c : Condition) (cs : List Condition) (g : Option ℕ) → tail_bytes word (c ∷ cs, g) ≡ word ++ (test_bytes c ++ tail_bytes and_word (cs, g))
tail_laid word c cs g = regroup_tail word (test_bytes c) (tests_bytes and_word cs) (group_bytes g)

-- a tail that begins with a test
record BeginsTest (grouped : Bool) (x : List ℕ) : Type 0 where
  test : Condition
  later : List Condition
  group : Option ℕ
  good : IsCondition test
  later_good : IsTail grouped (later, group)
  is : x ≡ test_bytes test ++ tail_bytes and_word (later, group)

begins_test : (grouped : Bool) (word x : List ℕ) → IsTestWord word → Spelled (IsTail grouped) (tail_bytes word) (word ++ x) → BeginsTest grouped x
begins_test grouped word x w h = tail_cases h.value.0 h.value.1 h.good h.is
  where
    tail_cases : (cs : List Condition) (g : Option ℕ) → IsTail grouped (cs, g) → word ++ x ≡ tail_bytes word (cs, g) → BeginsTest grouped x
    tail_cases [] g good e = absurd (no_group word x g w e)
    tail_cases (c ∷ cs) g good e = record { test = c; later = cs; group = g; good = good.0.0; later_good = (good.0.1, good.1); is = append_cancel_left word x (test_bytes c ++ tail_bytes and_word (cs, g)) (e ∙ tail_laid word c cs g) }

alone : (grouped : Bool) (c : Condition) → IsCondition c → IsTail grouped (c ∷ [], None)
alone true c good = ((good, tt), tt)
alone false c good = ((good, tt), refl)

-- in the test behind its word
test_tail_stops : (grouped : Bool) (word text : List ℕ) (left : ℕ) → IsTestWord word → Stops (Spelled IsCondition test_bytes) (Front EndsTest IsCondition test_bytes) text left → TailStops grouped word (word ++ text) left
test_tail_stops grouped word text left w s =
    stops_in (Spelled IsCondition test_bytes) (Front EndsTest IsCondition test_bytes) (Spelled (IsTail grouped) (tail_bytes word)) (Spelled (IsTail grouped) (tail_bytes word)) word text left
    (λ x h. ([], record { value = (h.value ∷ [], None); good = alone grouped h.value h.good; is = ap (λ l. word ++ (l ++ [])) h.is ∙ sym (tail_laid word h.value [] None) }))
    (λ x e h.
    let b = begins_test grouped word x w h in
    record { value = b.test; rest = tail_bytes and_word (b.later, b.group); good = b.good; ends = ends_literal b.test _ (tail_ends and_word (b.later, b.group) (inr refl)); is = b.is })
    s

-- behind a test
later_tail_stops : (grouped : Bool) (word text : List ℕ) (c : Condition) (left : ℕ) → IsTestWord word → IsCondition c → EndsTest c text → TailStops grouped and_word text left → TailStops grouped word ((word ++ test_bytes c) ++ text) left
later_tail_stops grouped word text c left w good ends s =
    stops_in (Spelled (IsTail grouped) (tail_bytes and_word)) (Spelled (IsTail grouped) (tail_bytes and_word)) (Spelled (IsTail grouped) (tail_bytes word)) (Spelled (IsTail grouped) (tail_bytes word)) (word ++ test_bytes c) text left
    (λ x h. ([], record { value = (c ∷ h.value.0, h.value.1); good = ((good, h.good.0), h.good.1); is = ap (λ l. (word ++ test_bytes c) ++ l) (append-nil x ∙ h.is) ∙ append_assoc word (test_bytes c) (tail_bytes and_word h.value) ∙ sym (tail_laid word c h.value.0 h.value.1) }))
    (λ x e h.
    let b = begins_test grouped word (test_bytes c ++ x) w (subst (Spelled (IsTail grouped) (tail_bytes word)) (append_assoc word (test_bytes c) x) h) in
    let y = tail_bytes and_word (b.later, b.group) in
    let p = test_apart c b.test x y good b.good (literal_same c.literal x text e ends) (ends_literal b.test y (tail_ends and_word (b.later, b.group) (inr refl))) b.is in
    record { value = (b.later, b.group); good = b.later_good; is = p.1 })
    s

-- behind the word of the group
group_tail_stops : (word text : List ℕ) (left : ℕ) → IsTestWord word → Stops (Spelled IsColumn decimal) (Spelled IsColumn decimal) text left → TailStops true word (codes " GROUP BY c" ++ text) left
group_tail_stops word text left w s =
    stops_in (Spelled IsColumn decimal) (Spelled IsColumn decimal) (Spelled (IsTail true) (tail_bytes word)) (Spelled (IsTail true) (tail_bytes word)) (codes " GROUP BY c") text left
    (λ x h. ([], record { value = ([], Some h.value); good = (tt, h.good); is = ap (λ l. codes " GROUP BY c" ++ l) (append-nil x ∙ h.is) }))
    (λ x e h. of_group x h.value.0 h.value.1 h.good h.is)
    s
  where
    of_group : (x : List ℕ) (cs : List Condition) (g : Option ℕ) → IsTail true (cs, g) → codes " GROUP BY c" ++ x ≡ tail_bytes word (cs, g) → Spelled IsColumn decimal x
    of_group x [] None good e = absurd cc
    of_group x [] (Some n) good e = record { value = n; good = good.1; is = ap (drop 11) e }
    of_group x (c ∷ cs) g good e =
        let f = second_byte word (test_bytes c ++ tail_bytes and_word (cs, g)) w in
        absurd (f.1 (sym (ap (λ l. get_or l 1 0) (e ∙ tail_laid word c cs g))))

abbrev test : Condition
test = record { column = 1; op = op.Eq; literal = Int (pos 0) }

test_good : IsCondition test
test_good = ((omega arith, omega arith), omega arith, no_null_int (pos 0))

-- where the next word is none
next_tail_stops : (grouped : Bool) (word text : List ℕ) (left : ℕ) → 1 ≤ length text → Stops (Spelled (IsNext grouped) (next_bytes word)) (Front Anything (IsNext grouped) (next_bytes word)) text left → TailStops grouped word text left
next_tail_stops grouped word text left some s =
    stops_as (Spelled (IsNext grouped) (next_bytes word)) (Front Anything (IsNext grouped) (next_bytes word)) (Spelled (IsTail grouped) (tail_bytes word)) (Spelled (IsTail grouped) (tail_bytes word)) text left
    (λ x h. goes_on x grouped h.value h.good h.is)
    (λ x e h. of_next x grouped h.value.0 h.value.1 e h.good h.is)
    s
  where
    goes_on : (x : List ℕ) (grouped : Bool) (n : Next) → IsNext grouped n → x ≡ next_bytes word n → (k : List ℕ) × Spelled (IsTail grouped) (tail_bytes word) (x ++ k)
    goes_on x grouped Test good e = (test_bytes test ++ [], record { value = (test ∷ [], None); good = alone grouped test test_good; is = ap (λ l. l ++ (test_bytes test ++ [])) e ∙ sym (tail_laid word test [] None) })
    goes_on x true Group good e = (decimal 1, record { value = ([], Some 1); good = (tt, (omega arith, omega arith)); is = ap (λ l. l ++ decimal 1) e })
    goes_on x false Group good e = absurd cc

    of_next : (x : List ℕ) (grouped : Bool) (cs : List Condition) (g : Option ℕ) → first x ≡ first text → IsTail grouped (cs, g) → x ≡ tail_bytes word (cs, g) → Front Anything (IsNext grouped) (next_bytes word) x
    of_next x grouped [] None same good e = absurd (empty_first text some (sym (ap first e) ∙ same))
      where
        empty_first : (text : List ℕ) → 1 ≤ length text → (let o : Option ℕ = None in o) ≡ first text → ⊥
        empty_first [] some e = omega (arith, some)
        empty_first (c ∷ text) some e = absurd cc
    of_next x true [] (Some n) same good e = record { value = Group; rest = decimal n; good = refl; ends = tt; is = e }
    of_next x false [] (Some n) same good e = absurd (let h = good.1 in cc)
    of_next x grouped (c ∷ cs) g same good e = record { value = Test; rest = test_bytes c ++ tail_bytes and_word (cs, g); good = tt; ends = tt; is = e ∙ tail_laid word c cs g }

-- ---- the loop

-- These tests were read, and what is left is a tail behind them.
pub record HasTests (grouped : Bool) (all : List ℕ) (tests : List Condition) (word text : List ℕ) : Type 0 where
  pub next : IsTestWord word
  pub stops : (left : ℕ) → TailStops grouped word text left → TailStops grouped (codes " WHERE c") all left
  pub gives : (t : Tail) → IsTail grouped t → text ≡ tail_bytes word t → IsTail grouped (tests ++ t.0, t.1) × (all ≡ tail_bytes (codes " WHERE c") (tests ++ t.0, t.1))

pub more_tests : (grouped : Bool) (all : List ℕ) (tests : List Condition) (word text behind rest : List ℕ) (c : Condition) → HasTests grouped all tests word text → Takes Anything (IsNext grouped) (next_bytes word) text Test behind → Takes EndsTest IsCondition test_bytes behind c rest → HasTests grouped all (tests ++ c ∷ []) and_word rest
more_tests grouped all tests word text behind rest c h t u =
    let is : text ≡ (word ++ test_bytes c) ++ rest = t.is ∙ ap (λ l. word ++ l) u.is ∙ sym (append_assoc word (test_bytes c) rest) in
    record {
      next = inr refl;
      stops = λ left s. h.stops left (subst (λ l. TailStops grouped word l left) (sym is) (later_tail_stops grouped word rest c left h.next u.good u.ends s));
      gives = λ tail good e.
          let whole : text ≡ tail_bytes word (c ∷ tail.0, tail.1) = is ∙ ap (λ l. (word ++ test_bytes c) ++ l) e ∙ append_assoc word (test_bytes c) (tail_bytes and_word tail) ∙ sym (tail_laid word c tail.0 tail.1) in
          let g = h.gives (c ∷ tail.0, tail.1) ((u.good, good.0), good.1) whole in
          let same : (tests ++ c ∷ []) ++ tail.0 ≡ tests ++ c ∷ tail.0 = append_assoc tests (c ∷ []) tail.0 in
          subst (λ l. IsTail grouped (l, tail.1) × (all ≡ tail_bytes (codes " WHERE c") (l, tail.1))) (sym same) g;
    }

abbrev pub TailRefused : Bool → List ℕ → Fault → Type 0
TailRefused grouped all fault = Refuses (Spelled (IsTail grouped) (tail_bytes (codes " WHERE c"))) (Spelled (IsTail grouped) (tail_bytes (codes " WHERE c"))) all fault

pub next_refused : (grouped : Bool) (all : List ℕ) (tests : List Condition) (word text : List ℕ) (fault : Fault) → HasTests grouped all tests word text → 1 ≤ length text → Refuses (Spelled (IsNext grouped) (next_bytes word)) (Front Anything (IsNext grouped) (next_bytes word)) text fault → TailRefused grouped all fault
next_refused grouped all tests word text fault h some r = refuses _ _ _ _ text all fault (λ left s. h.stops left (next_tail_stops grouped word text left some s)) r

pub test_refused : (grouped : Bool) (all : List ℕ) (tests : List Condition) (word text behind : List ℕ) (fault : Fault) → HasTests grouped all tests word text → Takes Anything (IsNext grouped) (next_bytes word) text Test behind → Refuses (Spelled IsCondition test_bytes) (Front EndsTest IsCondition test_bytes) behind fault → TailRefused grouped all fault
test_refused grouped all tests word text behind fault h t r =
    refuses _ _ _ _ behind all fault (λ left s. h.stops left (subst (λ l. TailStops grouped word l left) (sym t.is) (test_tail_stops grouped word behind left h.next s))) r

pub group_refused : (grouped : Bool) (all : List ℕ) (tests : List Condition) (word text behind : List ℕ) (fault : Fault) → HasTests grouped all tests word text → Takes Anything (IsNext grouped) (next_bytes word) text Group behind → Refuses (Spelled IsColumn decimal) (Spelled IsColumn decimal) behind fault → TailRefused grouped all fault
group_refused true all tests word text behind fault h t r =
    refuses _ _ _ _ behind all fault (λ left s. h.stops left (subst (λ l. TailStops true word l left) (sym t.is) (group_tail_stops word behind left h.next s))) r
group_refused false all tests word text behind fault h t r = absurd (let g = t.good in cc)

pub group_ends_tail : (grouped : Bool) (all : List ℕ) (tests : List Condition) (word text behind : List ℕ) (n : ℕ) → HasTests grouped all tests word text → Takes Anything (IsNext grouped) (next_bytes word) text Group behind → IsColumn n × (behind ≡ decimal n) → IsTail grouped (tests, Some n) × (all ≡ tail_bytes (codes " WHERE c") (tests, Some n))
group_ends_tail true all tests word text behind n h t g =
    let r = h.gives ([], Some n) (tt, g.0) (t.is ∙ ap (λ l. codes " GROUP BY c" ++ l) g.1) in
    subst (λ l. IsTail true (l, Some n) × (all ≡ tail_bytes (codes " WHERE c") (l, Some n))) (append-nil tests) r
group_ends_tail false all tests word text behind n h t g = absurd (let i = t.good in cc)

pub none_in : (grouped : Bool) → IsGroupIn grouped None
none_in true = tt
none_in false = refl

pub tail_done : (grouped : Bool) (all : List ℕ) (tests : List Condition) (word text : List ℕ) → HasTests grouped all tests word text → text ≡ [] → IsTail grouped (tests, None) × (all ≡ tail_bytes (codes " WHERE c") (tests, None))
tail_done grouped all tests word text h e =
    let r = h.gives ([], None) (tt, none_in grouped) e in
    subst (λ l. IsTail grouped (l, None) × (all ≡ tail_bytes (codes " WHERE c") (l, None))) (append-nil tests) r
