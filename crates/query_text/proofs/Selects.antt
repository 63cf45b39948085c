-- Queries are read as they are spelled.
use Rattle.std.proofs.Common.{◌≡◌, ℕ, Bool, true, false, List, [], ◌∷◌, ◌++◌, drop, Option, Some, None, Result, Ok, Err, inl, refl, sym, ap, ◌∙◌, subst, arith, append_assoc, codes}
use Rattle.std.specs.Fmt.{decimal}
use Rattle.std.proofs.lemmas.List.{append-nil, append_cancel_left}
use Rattle.adg_base.specs.declared.command.Aggregate.{Aggregate}
use Rattle.adg_base.specs.declared.command.Condition.{Condition}
use Rattle.adg_base.specs.declared.command.Select.{Select}
use Rattle.adg_base.specs.declared.command.What.{What}
use Rattle.adg_base.specs.declared.command.What.TheVariants.{All, Aggregates}
use Rattle.adg_model.specs.Spelling.{IsObj}
use Rattle.adg_model.specs.Command.{aggregates_bytes, condition_bytes, conditions_bytes, where_bytes, group_bytes, what_bytes, select_bytes, literal_bytes, op_bytes, IsGroup, IsWhat, IsSelect}
use Rattle.query_text.specs.declared.fault.Fault.{Fault}
use Rattle.query_text.specs.Stopping.{first, Stops, Refuses, Spelled, Front, Takes, ReadsAll, Anything, Begins}
use Rattle.query_text.specs.Parts.{EndsNumber, Ended, test_bytes, tests_bytes, Tail, tail_bytes, IsGroupIn, IsTail, table_tail_bytes, IsTable, AreAsked, asked_bytes, query_bytes, AsksRows, AsksSums}
use Rattle.query_text.proofs.Stopping.{stops_in, stops_as, refuses}
use Rattle.query_text.proofs.Numbers.{obj_small}
use Rattle.query_text.proofs.Conditions.{ends_same}
use Rattle.query_text.proofs.Tails.{none_in, tail_ends}
use Rattle.adg_model.proofs.CommandLaws.{decimal_apart, aggregates_apart, aggregates_no_star}

abbrev where_word : List ℕ
where_word = codes " WHERE c"

-- ---- a table

abbrev pub TableStops : Bool → List ℕ → ℕ → Type 0
TableStops grouped text left = Stops (Spelled (IsTable grouped) table_tail_bytes) (Spelled (IsTable grouped) table_tail_bytes) text left

number_table_stops : (grouped : Bool) (text : List ℕ) (left : ℕ) → Stops (Spelled IsObj decimal) (Front Ended IsObj decimal) text left → TableStops grouped text left
number_table_stops grouped text left s =
    stops_as (Spelled IsObj decimal) (Front Ended IsObj decimal) (Spelled (IsTable grouped) table_tail_bytes) (Spelled (IsTable grouped) table_tail_bytes) text left
    (λ x h. ([], record { value = (h.value, ([], None)); good = (h.good, (tt, none_in grouped)); is = ap (λ l. l ++ []) h.is }))
    (λ x e h. record { value = h.value.0; rest = tail_bytes where_word h.value.1; good = h.good.0; ends = tail_ends where_word h.value.1 (inl refl); is = h.is })
    s

tail_table_stops : (grouped : Bool) (n : ℕ) (text : List ℕ) (left : ℕ) → IsObj n → EndsNumber text → Stops (Spelled (IsTail grouped) (tail_bytes where_word)) (Spelled (IsTail grouped) (tail_bytes where_word)) text left → TableStops grouped (decimal n ++ text) left
tail_table_stops grouped n text left good ends s =
    stops_in (Spelled (IsTail grouped) (tail_bytes where_word)) (Spelled (IsTail grouped) (tail_bytes where_word)) (Spelled (IsTable grouped) table_tail_bytes) (Spelled (IsTable grouped) table_tail_bytes) (decimal n) text left
    (λ x h. ([], record { value = (n, h.value); good = (good, h.good); is = ap (λ l. decimal n ++ l) (append-nil x ∙ h.is) }))
    (λ x e h.
    let p = decimal_apart n h.value.0 x (tail_bytes where_word h.value.1) (obj_small n good) (obj_small h.value.0 h.good.0) (ends_same x text e ends) (tail_ends where_word h.value.1 (inl refl)) h.is in
    record { value = h.value.1; good = h.good.1; is = p.1 })
    s

abbrev pub TableRefused : Bool → List ℕ → Fault → Type 0
TableRefused grouped all fault = Refuses (Spelled (IsTable grouped) table_tail_bytes) (Spelled (IsTable grouped) table_tail_bytes) all fault

pub number_table_refused : (grouped : Bool) (all : List ℕ) (fault : Fault) → Refuses (Spelled IsObj decimal) (Front Ended IsObj decimal) all fault → TableRefused grouped all fault
number_table_refused grouped all fault r = refuses _ _ _ _ all all fault (λ left s. number_table_stops grouped all left s) r

pub tail_table_refused : (grouped : Bool) (all text : List ℕ) (n : ℕ) (fault : Fault) → Takes Ended IsObj decimal all n text → Refuses (Spelled (IsTail grouped) (tail_bytes (codes " WHERE c"))) (Spelled (IsTail grouped) (tail_bytes (codes " WHERE c"))) text fault → TableRefused grouped all fault
tail_table_refused grouped all text n fault t r = refuses _ _ _ _ text all fault (λ left s. subst (λ l. TableStops grouped l left) (sym t.is) (tail_table_stops grouped n text left t.good t.ends s)) r

-- ---- queries of rows, and of aggregates

abbrev behind_what : Select → ℕ × Tail
behind_what s = (s.obj, (s.conditions, s.group))

rows_good : (n : ℕ) (t : Tail) → IsTable false (n, t) → IsSelect (record { obj = n; what = All; conditions = t.0; group = t.1 })
rows_good n t good = record { object = good.0; asks = good.1.1; tests = good.1.0 }

sums_good : (listed : List Aggregate) (n : ℕ) (t : Tail) → AreAsked listed → IsTable true (n, t) → IsSelect (record { obj = n; what = Aggregates listed; conditions = t.0; group = t.1 })
sums_good listed n t asked good = record { object = good.0; asks = (asked.0, asked.1, group_is t.1 good.1.1); tests = good.1.0 }
  where
    group_is : (g : Option ℕ) → IsGroupIn true g → IsGroup g
    group_is None h = h
    group_is (Some c) h = h

no_all : (listed : List Aggregate) → (let w : What = Aggregates listed in w) ≡ All → ⊥
no_all listed e = absurd cc

table_of_rows : (s : Select) → AsksRows s → IsTable false (behind_what s)
table_of_rows s good =
    let h = good.0 in
    (h.object, (h.tests, subst (λ w. IsWhat w s.group) good.1 h.asks))

rows_laid : (s : Select) → AsksRows s → query_bytes s ≡ codes "* FROM t" ++ table_tail_bytes (behind_what s)
rows_laid s good = ap (λ w. what_bytes w ++ (codes " FROM t" ++ table_tail_bytes (behind_what s))) good.1

abbrev pub RowsStops : List ℕ → ℕ → Type 0
RowsStops text left = Stops (Spelled AsksRows query_bytes) (Spelled AsksRows query_bytes) text left

abbrev pub one_table : ℕ × Tail
one_table = (1, ([], None))

one_table_good : (grouped : Bool) → IsTable grouped one_table
one_table_good grouped = ((omega arith, omega arith), (tt, none_in grouped))

star_stops : (text : List ℕ) (left : ℕ) → Stops (λ x. x ≡ codes "* FROM t") (Begins (codes "* FROM t")) text left → RowsStops text left
star_stops text left s =
    stops_as (λ x. x ≡ codes "* FROM t") (Begins (codes "* FROM t")) (Spelled AsksRows query_bytes) (Spelled AsksRows query_bytes) text left
    (λ x h. (table_tail_bytes one_table, record { value = record { obj = 1; what = All; conditions = []; group = None }; good = (rows_good 1 ([], None) (one_table_good false), refl); is = ap (λ l. l ++ table_tail_bytes one_table) h }))
    (λ x e h. (table_tail_bytes (behind_what h.value), h.is ∙ rows_laid h.value h.good))
    s

rows_table_stops : (text : List ℕ) (left : ℕ) → TableStops false text left → RowsStops (codes "* FROM t" ++ text) left
rows_table_stops text left s =
    stops_in (Spelled (IsTable false) table_tail_bytes) (Spelled (IsTable false) table_tail_bytes) (Spelled AsksRows query_bytes) (Spelled AsksRows query_bytes) (codes "* FROM t") text left
    (λ x h. ([], record { value = record { obj = h.value.0; what = All; conditions = h.value.1.0; group = h.value.1.1 }; good = (rows_good h.value.0 h.value.1 h.good, refl); is = ap (λ l. codes "* FROM t" ++ l) (append-nil x ∙ h.is) }))
    (λ x e h. record { value = behind_what h.value; good = table_of_rows h.value h.good; is = append_cancel_left (codes "* FROM t") x (table_tail_bytes (behind_what h.value)) (h.is ∙ rows_laid h.value h.good) })
    s

-- a query of aggregates, by these
record OfSums (x : List ℕ) : Type 0 where
  asked : List Aggregate
  table : ℕ × Tail
  asked_good : AreAsked asked
  table_good : IsTable true table
  is : x ≡ asked_bytes asked ++ table_tail_bytes table

of_sums : (x : List ℕ) → Spelled AsksSums query_bytes x → OfSums x
of_sums x h = sums_cases h.value.what refl
  where
    group_in : (g : Option ℕ) → IsGroup g → IsGroupIn true g
    group_in None h = h
    group_in (Some c) h = h

    sums_cases : (w : What) → h.value.what ≡ w → OfSums x
    sums_cases All e = absurd (h.good.1 e)
    sums_cases (Aggregates listed) e =
        let asks = subst (λ w. IsWhat w h.value.group) e h.good.0.asks in
        record {
          asked = listed;
          table = behind_what h.value;
          asked_good = (asks.0, asks.1);
          table_good = (h.good.0.object, (h.good.0.tests, group_in h.value.group asks.2));
          is = h.is ∙ ap (λ w. what_bytes w ++ (codes " FROM t" ++ table_tail_bytes (behind_what h.value))) e ∙ sym (append_assoc (aggregates_bytes listed) (codes " FROM t") (table_tail_bytes (behind_what h.value)));
        }

sums_spelled : (listed : List Aggregate) (n : ℕ) (t : Tail) (x : List ℕ) → AreAsked listed → IsTable true (n, t) → x ≡ asked_bytes listed ++ table_tail_bytes (n, t) → Spelled AsksSums query_bytes x
sums_spelled listed n t x asked good e =
    record {
      value = record { obj = n; what = Aggregates listed; conditions = t.0; group = t.1 };
      good = (sums_good listed n t asked good, no_all listed);
      is = e ∙ append_assoc (aggregates_bytes listed) (codes " FROM t") (table_tail_bytes (n, t));
    }

abbrev pub SumsStops : List ℕ → ℕ → Type 0
SumsStops text left = Stops (Spelled AsksSums query_bytes) (Spelled AsksSums query_bytes) text left

asked_sums_stops : (text : List ℕ) (left : ℕ) → Stops (Spelled AreAsked asked_bytes) (Front Anything AreAsked asked_bytes) text left → SumsStops text left
asked_sums_stops text left s =
    stops_as (Spelled AreAsked asked_bytes) (Front Anything AreAsked asked_bytes) (Spelled AsksSums query_bytes) (Spelled AsksSums query_bytes) text left
    (λ x h. (table_tail_bytes one_table, sums_spelled h.value 1 ([], None) (x ++ table_tail_bytes one_table) h.good (one_table_good true) (ap (λ l. l ++ table_tail_bytes one_table) h.is)))
    (λ x e h. let o = of_sums x h in record { value = o.asked; rest = table_tail_bytes o.table; good = o.asked_good; ends = tt; is = o.is })
    s

asked_apart : (a b : List Aggregate) (x y : List ℕ) → AreAsked a → AreAsked b → asked_bytes a ++ x ≡ asked_bytes b ++ y → x ≡ y
asked_apart a b x y h k e =
    let f = sym (append_assoc (aggregates_bytes a) (codes " FROM t") x) ∙ e ∙ append_assoc (aggregates_bytes b) (codes " FROM t") y in
    ap (drop 6) (aggregates_apart a b (codes "FROM t" ++ x) (codes "FROM t" ++ y) h.0 k.0 h.1 k.1 f).1

sums_table_stops : (listed : List Aggregate) (text : List ℕ) (left : ℕ) → AreAsked listed → TableStops true text left → SumsStops (asked_bytes listed ++ text) left
sums_table_stops listed text left asked s =
    stops_in (Spelled (IsTable true) table_tail_bytes) (Spelled (IsTable true) table_tail_bytes) (Spelled AsksSums query_bytes) (Spelled AsksSums query_bytes) (asked_bytes listed) text left
    (λ x h. ([], sums_spelled listed h.value.0 h.value.1 (asked_bytes listed ++ (x ++ [])) asked h.good (ap (λ l. asked_bytes listed ++ l) (append-nil x ∙ h.is))))
    (λ x e h. let o = of_sums (asked_bytes listed ++ x) h in record { value = o.table; good = o.table_good; is = asked_apart listed o.asked x (table_tail_bytes o.table) asked o.asked_good o.is })
    s

-- ---- what a call gave

pub star_refused : (all : List ℕ) (fault : Fault) → Refuses (λ x. x ≡ codes "* FROM t") (Begins (codes "* FROM t")) all fault → Refuses (Spelled AsksRows query_bytes) (Spelled AsksRows query_bytes) all fault
star_refused all fault r = refuses _ _ _ _ all all fault (λ left s. star_stops all left s) r

pub rows_table_refused : (all text : List ℕ) (fault : Fault) → all ≡ codes "* FROM t" ++ text → TableRefused false text fault → Refuses (Spelled AsksRows query_bytes) (Spelled AsksRows query_bytes) all fault
rows_table_refused all text fault is r = refuses _ _ _ _ text all fault (λ left s. subst (λ l. RowsStops l left) (sym is) (rows_table_stops text left s)) r

pub asked_refused : (all : List ℕ) (fault : Fault) → Refuses (Spelled AreAsked asked_bytes) (Front Anything AreAsked asked_bytes) all fault → Refuses (Spelled AsksSums query_bytes) (Spelled AsksSums query_bytes) all fault
asked_refused all fault r = refuses _ _ _ _ all all fault (λ left s. asked_sums_stops all left s) r

pub sums_table_refused : (all text : List ℕ) (listed : List Aggregate) (fault : Fault) → Takes Anything AreAsked asked_bytes all listed text → TableRefused true text fault → Refuses (Spelled AsksSums query_bytes) (Spelled AsksSums query_bytes) all fault
sums_table_refused all text listed fault t r = refuses _ _ _ _ text all fault (λ left s. subst (λ l. SumsStops l left) (sym t.is) (sums_table_stops listed text left t.good s)) r

-- ---- queries

first_star : (x rest : List ℕ) → first x ≡ Some 42 → (y : List ℕ) × (x ≡ 42 ∷ y)
first_star [] rest e = absurd cc
first_star (c ∷ x) rest e = (x, ap (λ d. d ∷ x) (let same : c ≡ 42 = cc in same))

rows_of_query : (x : List ℕ) → first x ≡ Some 42 → Spelled IsSelect query_bytes x → Spelled AsksRows query_bytes x
rows_of_query x star h = what_cases h.value.what refl
  where
    what_cases : (w : What) → h.value.what ≡ w → Spelled AsksRows query_bytes x
    what_cases All e = record { value = h.value; good = (h.good, e); is = h.is }
    what_cases (Aggregates listed) e =
        let asks = subst (λ w. IsWhat w h.value.group) e h.good.asks in
        let rest = codes " FROM t" ++ table_tail_bytes (behind_what h.value) in
        let is : x ≡ aggregates_bytes listed ++ rest = h.is ∙ ap (λ w. what_bytes w ++ rest) e in
        let s = first_star x [] star in
        absurd (aggregates_no_star listed rest s.0 asks.0 (sym is ∙ s.1))

sums_of_query : (x : List ℕ) → (first x ≡ Some 42 → ⊥) → Spelled IsSelect query_bytes x → Spelled AsksSums query_bytes x
sums_of_query x other h =
    record { value = h.value; good = (h.good, λ e. other (ap first (h.is ∙ ap (λ w. what_bytes w ++ (codes " FROM t" ++ table_tail_bytes (behind_what h.value))) e))); is = h.is }

rows_refused : (all rest : List ℕ) (fault : Fault) → all ≡ 42 ∷ rest → Refuses (Spelled AsksRows query_bytes) (Spelled AsksRows query_bytes) all fault → Refuses (Spelled IsSelect query_bytes) (Spelled IsSelect query_bytes) all fault
rows_refused all rest fault is r =
    refuses _ _ _ _ all all fault
    (λ left s. stops_as (Spelled AsksRows query_bytes) (Spelled AsksRows query_bytes) (Spelled IsSelect query_bytes) (Spelled IsSelect query_bytes) all left
    (λ x h. ([], record { value = h.value; good = h.good.0; is = append-nil x ∙ h.is }))
    (λ x e h. rows_of_query x (e ∙ ap first is) h)
    s)
    r

sums_refused : (all : List ℕ) (fault : Fault) → (first all ≡ Some 42 → ⊥) → Refuses (Spelled AsksSums query_bytes) (Spelled AsksSums query_bytes) all fault → Refuses (Spelled IsSelect query_bytes) (Spelled IsSelect query_bytes) all fault
sums_refused all fault other r =
    refuses _ _ _ _ all all fault
    (λ left s. stops_as (Spelled AsksSums query_bytes) (Spelled AsksSums query_bytes) (Spelled IsSelect query_bytes) (Spelled IsSelect query_bytes) all left
    (λ x h. ([], record { value = h.value; good = h.good.0; is = append-nil x ∙ h.is }))
    (λ x e h. sums_of_query x (λ q. other (sym e ∙ q)) h)
    s)
    r

-- ---- the spelling that a command has

tests_are : (word : List ℕ) (c : Condition) (cs : List Condition) → word ++ (codes "c" ++ (test_bytes c ++ tests_bytes (codes " AND c") cs)) ≡ word ++ conditions_bytes (c ∷ cs)
tests_are word c cs = ap (λ l. word ++ l) (conditions_are c cs)
  where
    one_is : (c : Condition) (r : List ℕ) → codes "c" ++ (test_bytes c ++ r) ≡ condition_bytes c ++ r
    one_is c r = regroup_one (codes "c") (decimal c.column) (codes " ") (op_bytes c.op) (literal_bytes c.literal) r
      where
        regroup_one : (k d b o l r : List ℕ) → k ++ ((d ++ ((b ++ o ++ b) ++ l)) ++ r) ≡ ((k ++ d) ++ b ++ o ++ b ++ l) ++ r
        regroup_one k d b o l r = simp append_assoc

    conditions_are : (c : Condition) (cs : List Condition) → codes "c" ++ (test_bytes c ++ tests_bytes (codes " AND c") cs) ≡ conditions_bytes (c ∷ cs)
    conditions_are c [] = one_is c [] ∙ append-nil (condition_bytes c)
    conditions_are c (d ∷ more) =
        one_is c (codes " AND c" ++ (test_bytes d ++ tests_bytes (codes " AND c") more)) ∙ ap (λ l. condition_bytes c ++ (codes " AND " ++ l)) (conditions_are d more) ∙ sym (append_assoc (condition_bytes c) (codes " AND ") (conditions_bytes (d ∷ more)))

where_is : (cs : List Condition) → tests_bytes (codes " WHERE c") cs ≡ where_bytes cs
where_is [] = refl
where_is (c ∷ cs) = tests_are (codes " WHERE ") c cs

regroup_select : (q w f t c g : List ℕ) → q ++ w ++ f ++ t ++ c ++ g ≡ q ++ (w ++ (f ++ (t ++ (c ++ g))))
regroup_select q w f t c g = simp append_assoc

pub select_is : (s : Select) → codes "SELECT " ++ query_bytes s ≡ select_bytes s
select_is s =
    ap (λ l. codes "SELECT " ++ (what_bytes s.what ++ (codes " FROM t" ++ (decimal s.obj ++ (l ++ group_bytes s.group))))) (where_is s.conditions)
    ∙ sym (regroup_select (codes "SELECT ") (what_bytes s.what) (codes " FROM ") (codes "t" ++ decimal s.obj) (where_bytes s.conditions) (group_bytes s.group))

pub rows_reads : {Y : Type 0} (value : Y → Select) (all rest : List ℕ) (r : Result Y Fault) → all ≡ 42 ∷ rest → ReadsAll value AsksRows query_bytes all r → ReadsAll value IsSelect query_bytes all r
rows_reads value all rest (Ok y) is h = (h.0.0, h.1)
rows_reads value all rest (Err fault) is h = rows_refused all rest fault is h

pub sums_reads : {Y : Type 0} (value : Y → Select) (all : List ℕ) (r : Result Y Fault) → (first all ≡ Some 42 → ⊥) → ReadsAll value AsksSums query_bytes all r → ReadsAll value IsSelect query_bytes all r
sums_reads value all (Ok y) other h = (h.0.0, h.1)
sums_reads value all (Err fault) other h = sums_refused all fault other h

-- ---- one query

abbrev pub one_query : Select
one_query = record { obj = 1; what = All; conditions = []; group = None }

pub one_query_good : IsSelect one_query
one_query_good = rows_good 1 ([], None) (one_table_good false)
