-- Aggregates are read as they are spelled.
use Rattle.std.proofs.Common.{◌≡◌, ℕ, List, [], ◌∷◌, ◌++◌, get_or, drop, Result, ◌⊎◌, inl, inr, refl, sym, ap, ◌∙◌, subst, arith, append_assoc, codes}
use Rattle.std.specs.Fmt.{decimal}
use Rattle.std.proofs.lemmas.List.{append-nil}
use Rattle.adg_base.specs.declared.command.Aggregate.{Aggregate}
use Rattle.adg_base.specs.declared.command.Aggregate.TheVariants as aggregate
use Rattle.adg_model.specs.Command.{aggregate_bytes, aggregates_bytes, IsColumn, IsAggregate}
use Rattle.query_text.specs.declared.aggregate.Function.{Function}
use Rattle.query_text.specs.declared.aggregate.Function.TheVariants.{Count, Sum, Min, Max}
use Rattle.query_text.specs.declared.aggregate.Behind.{Behind}
use Rattle.query_text.specs.declared.aggregate.Behind.TheVariants as behind
use Rattle.query_text.specs.declared.fault.Fault.{Fault}
use Rattle.query_text.specs.Stopping.{Stops, Refuses, Spelled, Front, Takes, Reads, Anything, Begins}
use Rattle.query_text.specs.Words.{IsMeant, Finds}
use Rattle.query_text.specs.Parts.{EndsNumber, Ended, IsFunction, function_bytes, argument_bytes, IsBehind, behind_bytes, AreAsked, asked_bytes}
use Rattle.query_text.proofs.Stopping.{stops_in, stops_as, refuses}
use Rattle.query_text.proofs.Tables.{table_reads}
use Rattle.query_text.proofs.Conditions.{ends_same}
use Rattle.adg_model.proofs.CommandLaws.{column_apart, aggregate_apart}

-- ---- words

function_meant : {W : Type 0} (a b c d : W) (t : Function) → IsMeant ((a, Count) ∷ (b, Sum) ∷ (c, Min) ∷ (d, Max) ∷ []) t
function_meant a b c d Count = inl refl
function_meant a b c d Sum = inr (inl refl)
function_meant a b c d Min = inr (inr (inl refl))
function_meant a b c d Max = inr (inr (inr (inl refl)))

pub function_reads : {W Y : Type 0} (now : W → List ℕ) (a b c d : W) → now a ≡ codes "COUNT" → now b ≡ codes "SUM(c" → now c ≡ codes "MIN(c" → now d ≡ codes "MAX(c" → (meaning : Y → Function) (rest : Y → List ℕ) (text : List ℕ) (r : Result Y Fault) → Finds now ((a, Count) ∷ (b, Sum) ∷ (c, Min) ∷ (d, Max) ∷ []) meaning rest text r → Reads meaning rest Anything IsFunction function_bytes text r
function_reads now a b c d ha hb hc hd meaning rest text r h =
    table_reads now IsFunction function_bytes ((a, Count) ∷ (b, Sum) ∷ (c, Min) ∷ (d, Max) ∷ [])
    (record { sound = ((tt, ha), ((tt, hb), ((tt, hc), ((tt, hd), tt)))); whole = λ t good. function_meant a b c d t; one = Count; one_good = tt })
    meaning rest text r h

behind_meant : {W : Type 0} (a b : W) (t : Behind) → IsMeant ((a, behind.Aggregate) ∷ (b, behind.Table) ∷ []) t
behind_meant a b behind.Aggregate = inl refl
behind_meant a b behind.Table = inr (inl refl)

pub behind_reads : {W Y : Type 0} (now : W → List ℕ) (a b : W) → now a ≡ codes ", " → now b ≡ codes " FROM t" → (meaning : Y → Behind) (rest : Y → List ℕ) (text : List ℕ) (r : Result Y Fault) → Finds now ((a, behind.Aggregate) ∷ (b, behind.Table) ∷ []) meaning rest text r → Reads meaning rest Anything IsBehind behind_bytes text r
behind_reads now a b ha hb meaning rest text r h =
    table_reads now IsBehind behind_bytes ((a, behind.Aggregate) ∷ (b, behind.Table) ∷ [])
    (record { sound = ((tt, ha), ((tt, hb), tt)); whole = λ t good. behind_meant a b t; one = behind.Aggregate; one_good = tt })
    meaning rest text r h

-- ---- a column up to a bracket

abbrev pub ArgumentStops : List ℕ → ℕ → Type 0
ArgumentStops text left = Stops (Spelled IsColumn argument_bytes) (Front Anything IsColumn argument_bytes) text left

argument_column_stops : (text : List ℕ) (left : ℕ) → Stops (Spelled IsColumn decimal) (Front Ended IsColumn decimal) text left → ArgumentStops text left
argument_column_stops text left s =
    stops_as (Spelled IsColumn decimal) (Front Ended IsColumn decimal) (Spelled IsColumn argument_bytes) (Front Anything IsColumn argument_bytes) text left
    (λ x h. (codes ")", record { value = h.value; good = h.good; is = ap (λ l. l ++ codes ")") h.is }))
    (λ x e f. record { value = f.value; rest = 41 ∷ f.rest; good = f.good; ends = λ i. omega (arith, i.0, i.1); is = f.is ∙ append_assoc (decimal f.value) (41 ∷ []) f.rest })
    s

bracket_stops : (n : ℕ) (text : List ℕ) (left : ℕ) → IsColumn n → EndsNumber text → Stops (λ x. x ≡ codes ")") (Begins (codes ")")) text left → ArgumentStops (decimal n ++ text) left
bracket_stops n text left good ends s =
    stops_in (λ x. x ≡ codes ")") (Begins (codes ")")) (Spelled IsColumn argument_bytes) (Front Anything IsColumn argument_bytes) (decimal n) text left
    (λ x h. ([], record { value = n; good = good; is = ap (λ l. decimal n ++ l) (append-nil x ∙ h) }))
    (λ x e f. (f.rest, (column_apart n f.value x (41 ∷ f.rest) good f.good (ends_same x text e ends) (λ i. omega (arith, i.0, i.1)) (f.is ∙ append_assoc (decimal f.value) (41 ∷ []) f.rest)).1))
    s

pub argument_column_refused : (text : List ℕ) (fault : Fault) → Refuses (Spelled IsColumn decimal) (Front Ended IsColumn decimal) text fault → Refuses (Spelled IsColumn argument_bytes) (Front Anything IsColumn argument_bytes) text fault
argument_column_refused text fault r = refuses _ _ _ _ text text fault (λ left s. argument_column_stops text left s) r

pub bracket_refused : (all text : List ℕ) (n : ℕ) (fault : Fault) → Takes Ended IsColumn decimal all n text → Refuses (λ x. x ≡ codes ")") (Begins (codes ")")) text fault → Refuses (Spelled IsColumn argument_bytes) (Front Anything IsColumn argument_bytes) all fault
bracket_refused all text n fault t r = refuses _ _ _ _ text all fault (λ left s. subst (λ l. ArgumentStops l left) (sym t.is) (bracket_stops n text left t.good t.ends s)) r

-- ---- one aggregate

abbrev pub AggregateStops : List ℕ → ℕ → Type 0
AggregateStops text left = Stops (Spelled IsAggregate aggregate_bytes) (Front Anything IsAggregate aggregate_bytes) text left

-- a function of a column
abbrev pub of_column : Function → ℕ → Aggregate
of_column Count n = aggregate.Count
of_column Sum n = aggregate.Sum n
of_column Min n = aggregate.Min n
of_column Max n = aggregate.Max n

abbrev pub TakesColumn : Function → Type 0
TakesColumn Count = ⊥
TakesColumn Sum = Unit {0}
TakesColumn Min = Unit {0}
TakesColumn Max = Unit {0}

function_stops : (text : List ℕ) (left : ℕ) → Stops (Spelled IsFunction function_bytes) (Front Anything IsFunction function_bytes) text left → AggregateStops text left
function_stops text left s =
    stops_as (Spelled IsFunction function_bytes) (Front Anything IsFunction function_bytes) (Spelled IsAggregate aggregate_bytes) (Front Anything IsAggregate aggregate_bytes) text left
    (λ x h. goes_on x h.value h.is)
    (λ x e f. of_function x f.value f.rest f.is)
    s
  where
    one : IsColumn 1
    one = (omega arith, omega arith)

    goes_on : (x : List ℕ) (f : Function) → x ≡ function_bytes f → (k : List ℕ) × Spelled IsAggregate aggregate_bytes (x ++ k)
    goes_on x Count e = ([], record { value = aggregate.Count; good = tt; is = append-nil x ∙ e })
    goes_on x Sum e = (argument_bytes 1, record { value = aggregate.Sum 1; good = one; is = ap (λ l. l ++ argument_bytes 1) e })
    goes_on x Min e = (argument_bytes 1, record { value = aggregate.Min 1; good = one; is = ap (λ l. l ++ argument_bytes 1) e })
    goes_on x Max e = (argument_bytes 1, record { value = aggregate.Max 1; good = one; is = ap (λ l. l ++ argument_bytes 1) e })

    of_function : (x : List ℕ) (a : Aggregate) (rest : List ℕ) → x ≡ aggregate_bytes a ++ rest → Front Anything IsFunction function_bytes x
    of_function x aggregate.Count rest e = record { value = Count; rest = rest; good = tt; ends = tt; is = e }
    of_function x (aggregate.Sum n) rest e = record { value = Sum; rest = argument_bytes n ++ rest; good = tt; ends = tt; is = e }
    of_function x (aggregate.Min n) rest e = record { value = Min; rest = argument_bytes n ++ rest; good = tt; ends = tt; is = e }
    of_function x (aggregate.Max n) rest e = record { value = Max; rest = argument_bytes n ++ rest; good = tt; ends = tt; is = e }

pub of_column_good : (f : Function) (n : ℕ) → IsColumn n → IsAggregate (of_column f n)
of_column_good Count n good = tt
of_column_good Sum n good = good
of_column_good Min n good = good
of_column_good Max n good = good

pub of_column_bytes : (f : Function) (n : ℕ) → TakesColumn f → function_bytes f ++ argument_bytes n ≡ aggregate_bytes (of_column f n)
of_column_bytes Count n t = absurd t
of_column_bytes Sum n t = refl
of_column_bytes Min n t = refl
of_column_bytes Max n t = refl

behind_function : (f : Function) (x : List ℕ) (a : Aggregate) (rest : List ℕ) → TakesColumn f → IsAggregate a → function_bytes f ++ x ≡ aggregate_bytes a ++ rest → Front Anything IsColumn argument_bytes x
behind_function Sum x (aggregate.Sum n) rest t good e = record { value = n; rest = rest; good = good; ends = tt; is = ap (drop 5) e }
behind_function Min x (aggregate.Min n) rest t good e = record { value = n; rest = rest; good = good; ends = tt; is = ap (drop 5) e }
behind_function Max x (aggregate.Max n) rest t good e = record { value = n; rest = rest; good = good; ends = tt; is = ap (drop 5) e }
behind_function Count x a rest t good e = absurd t
behind_function f x a rest t good e = absurd (omega (arith, ap (λ l. get_or l 0 0) e, ap (λ l. get_or l 1 0) e))

argument_stops : (f : Function) (text : List ℕ) (left : ℕ) → TakesColumn f → ArgumentStops text left → AggregateStops (function_bytes f ++ text) left
argument_stops f text left t s =
    stops_in (Spelled IsColumn argument_bytes) (Front Anything IsColumn argument_bytes) (Spelled IsAggregate aggregate_bytes) (Front Anything IsAggregate aggregate_bytes) (function_bytes f) text left
    (λ x h. ([], record { value = of_column f h.value; good = of_column_good f h.value h.good; is = ap (λ l. function_bytes f ++ l) (append-nil x ∙ h.is) ∙ of_column_bytes f h.value t }))
    (λ x e h. behind_function f x h.value h.rest t h.good h.is)
    s

abbrev pub AggregateRefused : List ℕ → Fault → Type 0
AggregateRefused text fault = Refuses (Spelled IsAggregate aggregate_bytes) (Front Anything IsAggregate aggregate_bytes) text fault

pub function_refused : (text : List ℕ) (fault : Fault) → Refuses (Spelled IsFunction function_bytes) (Front Anything IsFunction function_bytes) text fault → AggregateRefused text fault
function_refused text fault r = refuses _ _ _ _ text text fault (λ left s. function_stops text left s) r

pub argument_refused : (f : Function) (all text : List ℕ) (fault : Fault) → TakesColumn f → Takes Anything IsFunction function_bytes all f text → Refuses (Spelled IsColumn argument_bytes) (Front Anything IsColumn argument_bytes) text fault → AggregateRefused all fault
argument_refused f all text fault c t r = refuses _ _ _ _ text all fault (λ left s. subst (λ l. AggregateStops l left) (sym t.is) (argument_stops f text left c s)) r

-- ---- aggregates

abbrev pub AskedStops : List ℕ → ℕ → Type 0
AskedStops text left = Stops (Spelled AreAsked asked_bytes) (Front Anything AreAsked asked_bytes) text left

regroup_asked : (a s m f k : List ℕ) → ((a ++ s ++ m) ++ f) ++ k ≡ a ++ (s ++ ((m ++ f) ++ k))
regroup_asked a s m f k = simp append_assoc

asked_laid : (a b : Aggregate) (more : List Aggregate) (k : List ℕ) → asked_bytes (a ∷ b ∷ more) ++ k ≡ aggregate_bytes a ++ (codes ", " ++ (asked_bytes (b ∷ more) ++ k))
asked_laid a b more k = regroup_asked (aggregate_bytes a) (codes ", ") (aggregates_bytes (b ∷ more)) (codes " FROM t") k

one_asked : (a : Aggregate) (k : List ℕ) → asked_bytes (a ∷ []) ++ k ≡ aggregate_bytes a ++ (codes " FROM t" ++ k)
one_asked a k = append_assoc (aggregate_bytes a) (codes " FROM t") k

-- what is asked for begins with one aggregate, and the table or others follow
record BeginsAsked (x : List ℕ) : Type 0 where
  one : Aggregate
  good : IsAggregate one
  rest : List ℕ
  is : x ≡ aggregate_bytes one ++ rest
  follows : (Begins (codes " FROM t") rest) ⊎ ((y : List ℕ) × (rest ≡ codes ", " ++ y) × Front Anything AreAsked asked_bytes y)

begins_asked : (x : List ℕ) → Front Anything AreAsked asked_bytes x → BeginsAsked x
begins_asked x f = asked_cases f.value f.rest f.good f.is
  where
    asked_cases : (listed : List Aggregate) (k : List ℕ) → AreAsked listed → x ≡ asked_bytes listed ++ k → BeginsAsked x
    asked_cases [] k good e = absurd (omega (arith, good.0))
    asked_cases (a ∷ []) k good e = record { one = a; good = good.1.0; rest = codes " FROM t" ++ k; is = e ∙ one_asked a k; follows = inl (k, refl) }
    asked_cases (a ∷ b ∷ more) k good e =
        record {
          one = a;
          good = good.1.0;
          rest = codes ", " ++ (asked_bytes (b ∷ more) ++ k);
          is = e ∙ asked_laid a b more k;
          follows = inr (asked_bytes (b ∷ more) ++ k, refl, record { value = b ∷ more; rest = k; good = (omega arith, good.1.1); ends = tt; is = refl });
        }

aggregate_asked_stops : (text : List ℕ) (left : ℕ) → AggregateStops text left → AskedStops text left
aggregate_asked_stops text left s =
    stops_as (Spelled IsAggregate aggregate_bytes) (Front Anything IsAggregate aggregate_bytes) (Spelled AreAsked asked_bytes) (Front Anything AreAsked asked_bytes) text left
    (λ x h. (codes " FROM t", record { value = h.value ∷ []; good = (omega arith, (h.good, tt)); is = ap (λ l. l ++ codes " FROM t") h.is }))
    (λ x e f. let b = begins_asked x f in record { value = b.one; rest = b.rest; good = b.good; ends = tt; is = b.is })
    s

two_asked : (a : Aggregate) → asked_bytes (a ∷ aggregate.Count ∷ []) ≡ aggregate_bytes a ++ (codes ", " ++ codes "COUNT FROM t")
two_asked a = sym (append-nil (asked_bytes (a ∷ aggregate.Count ∷ []))) ∙ asked_laid a aggregate.Count [] []

behind_asked_stops : (a : Aggregate) (text : List ℕ) (left : ℕ) → IsAggregate a → Stops (Spelled IsBehind behind_bytes) (Front Anything IsBehind behind_bytes) text left → AskedStops (aggregate_bytes a ++ text) left
behind_asked_stops a text left good s =
    stops_in (Spelled IsBehind behind_bytes) (Front Anything IsBehind behind_bytes) (Spelled AreAsked asked_bytes) (Front Anything AreAsked asked_bytes) (aggregate_bytes a) text left
    (λ x h. goes_on x h.value h.is)
    (λ x e f. of_behind x (begins_asked (aggregate_bytes a ++ x) f))
    s
  where
    goes_on : (x : List ℕ) (b : Behind) → x ≡ behind_bytes b → (k : List ℕ) × Spelled AreAsked asked_bytes (aggregate_bytes a ++ (x ++ k))
    goes_on x behind.Aggregate e = (codes "COUNT FROM t", record { value = a ∷ aggregate.Count ∷ []; good = (omega arith, (good, (tt, tt))); is = ap (λ l. aggregate_bytes a ++ (l ++ codes "COUNT FROM t")) e ∙ sym (two_asked a) })
    goes_on x behind.Table e = ([], record { value = a ∷ []; good = (omega arith, (good, tt)); is = ap (λ l. aggregate_bytes a ++ l) (append-nil x ∙ e) })

    of_behind : (x : List ℕ) → BeginsAsked (aggregate_bytes a ++ x) → Front Anything IsBehind behind_bytes x
    of_behind x b =
        let p = aggregate_apart a b.one x b.rest good b.good b.is in
        elim b.follows [
          | inl f ↦ record { value = behind.Table; rest = f.0; good = tt; ends = tt; is = p.1 ∙ f.1 }
          | inr f ↦ record { value = behind.Aggregate; rest = f.0; good = tt; ends = tt; is = p.1 ∙ f.1 }
        ]

later_asked_stops : (a : Aggregate) (text : List ℕ) (left : ℕ) → IsAggregate a → AskedStops text left → AskedStops ((aggregate_bytes a ++ codes ", ") ++ text) left
later_asked_stops a text left good s =
    stops_in (Spelled AreAsked asked_bytes) (Front Anything AreAsked asked_bytes) (Spelled AreAsked asked_bytes) (Front Anything AreAsked asked_bytes) (aggregate_bytes a ++ codes ", ") text left
    (λ x h. ([], goes_on x h.value h.good (append-nil x ∙ h.is)))
    (λ x e f. of_later x (begins_asked (aggregate_bytes a ++ (codes ", " ++ x)) (subst (Front Anything AreAsked asked_bytes) (append_assoc (aggregate_bytes a) (codes ", ") x) f)))
    s
  where
    goes_on : (x : List ℕ) (listed : List Aggregate) → AreAsked listed → x ++ [] ≡ asked_bytes listed → Spelled AreAsked asked_bytes ((aggregate_bytes a ++ codes ", ") ++ (x ++ []))
    goes_on x [] h e = absurd (omega (arith, h.0))
    goes_on x (b ∷ more) h e =
        record {
          value = a ∷ b ∷ more;
          good = (omega arith, (good, h.1));
          is = ap (λ l. (aggregate_bytes a ++ codes ", ") ++ l) e ∙ append_assoc (aggregate_bytes a) (codes ", ") (asked_bytes (b ∷ more)) ∙ ap (λ l. aggregate_bytes a ++ (codes ", " ++ l)) (sym (append-nil (asked_bytes (b ∷ more)))) ∙ sym (asked_laid a b more []) ∙ append-nil (asked_bytes (a ∷ b ∷ more));
        }

    of_later : (x : List ℕ) → BeginsAsked (aggregate_bytes a ++ (codes ", " ++ x)) → Front Anything AreAsked asked_bytes x
    of_later x b =
        let p = aggregate_apart a b.one (codes ", " ++ x) b.rest good b.good b.is in
        elim b.follows [
          | inl f ↦ absurd (omega (arith, ap (λ l. get_or l 0 0) (p.1 ∙ f.1)))
          | inr f ↦ subst (Front Anything AreAsked asked_bytes) (sym (ap (drop 2) (p.1 ∙ f.1))) f.2
        ]

-- ---- the loop

-- These aggregates were read, and others have to follow.
pub record HasAsked (all : List ℕ) (done : List Aggregate) (text : List ℕ) : Type 0 where
  pub stops : (left : ℕ) → AskedStops text left → AskedStops all left
  pub gives : (listed : List Aggregate) (k : List ℕ) → AreAsked listed → text ≡ asked_bytes listed ++ k → Takes Anything AreAsked asked_bytes all (done ++ listed) k

-- an aggregate, and behind it the word in front of the next
pub more_asked : (all : List ℕ) (done : List Aggregate) (text after rest : List ℕ) (a : Aggregate) → HasAsked all done text → Takes Anything IsAggregate aggregate_bytes text a after → Takes Anything IsBehind behind_bytes after behind.Aggregate rest → HasAsked all (done ++ a ∷ []) rest
more_asked all done text after rest a h t u =
    let is : text ≡ aggregate_bytes a ++ (codes ", " ++ rest) = t.is ∙ ap (λ l. aggregate_bytes a ++ l) u.is in
    record {
      stops = λ left s. h.stops left (subst (λ l. AskedStops l left) (append_assoc (aggregate_bytes a) (codes ", ") rest ∙ sym is) (later_asked_stops a rest left t.good s));
      gives = λ listed k good e. given listed k good e is;
    }
  where
    given : (listed : List Aggregate) (k : List ℕ) → AreAsked listed → rest ≡ asked_bytes listed ++ k → text ≡ aggregate_bytes a ++ (codes ", " ++ rest) → Takes Anything AreAsked asked_bytes all ((done ++ a ∷ []) ++ listed) k
    given [] k good e is = absurd (omega (arith, good.0))
    given (b ∷ more) k good e is =
        let r = h.gives (a ∷ b ∷ more) k (omega arith, (t.good, good.1)) (is ∙ ap (λ l. aggregate_bytes a ++ (codes ", " ++ l)) e ∙ sym (asked_laid a b more k)) in
        subst (λ l. Takes Anything AreAsked asked_bytes all l k) (sym (append_assoc done (a ∷ []) (b ∷ more))) r

-- an aggregate, and behind it the table
pub asked_done : (all : List ℕ) (done : List Aggregate) (text after rest : List ℕ) (a : Aggregate) → HasAsked all done text → Takes Anything IsAggregate aggregate_bytes text a after → Takes Anything IsBehind behind_bytes after behind.Table rest → Takes Anything AreAsked asked_bytes all (done ++ a ∷ []) rest
asked_done all done text after rest a h t u =
    h.gives (a ∷ []) rest (omega arith, (t.good, tt)) (t.is ∙ ap (λ l. aggregate_bytes a ++ l) u.is ∙ sym (one_asked a rest))

abbrev pub AskedRefused : List ℕ → Fault → Type 0
AskedRefused all fault = Refuses (Spelled AreAsked asked_bytes) (Front Anything AreAsked asked_bytes) all fault

pub aggregate_refused : (all : List ℕ) (done : List Aggregate) (text : List ℕ) (fault : Fault) → HasAsked all done text → AggregateRefused text fault → AskedRefused all fault
aggregate_refused all done text fault h r = refuses _ _ _ _ text all fault (λ left s. h.stops left (aggregate_asked_stops text left s)) r

pub behind_refused : (all : List ℕ) (done : List Aggregate) (text behind : List ℕ) (a : Aggregate) (fault : Fault) → HasAsked all done text → Takes Anything IsAggregate aggregate_bytes text a behind → Refuses (Spelled IsBehind behind_bytes) (Front Anything IsBehind behind_bytes) behind fault → AskedRefused all fault
behind_refused all done text behind a fault h t r =
    refuses _ _ _ _ behind all fault (λ left s. h.stops left (subst (λ l. AskedStops l left) (sym t.is) (behind_asked_stops a behind left t.good s))) r
