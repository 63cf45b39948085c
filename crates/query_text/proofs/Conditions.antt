-- Tests are read as they are spelled.
use Rattle.std.proofs.Common.{◌≡◌, ℕ, pos, List, [], ◌∷◌, ◌++◌, drop, Result, inl, inr, refl, sym, ap, ◌∙◌, subst, arith, append_assoc, codes}
use Rattle.std.specs.Fmt.{decimal}
use Rattle.std.proofs.lemmas.List.{append-nil}
use Rattle.adg_base.specs.declared.value.Value.TheVariants.{Int}
use Rattle.adg_base.specs.declared.command.Condition.{Condition}
use Rattle.adg_base.specs.declared.command.Op.{Op}
use Rattle.adg_base.specs.declared.command.Op.TheVariants as op
use Rattle.adg_model.specs.Command.{literal_bytes, op_bytes, IsColumn, IsCondition}
use Rattle.query_text.specs.Stopping.{first, Stops, Refuses, Spelled, Front, Takes, Reads, Anything}
use Rattle.query_text.specs.declared.fault.Fault.{Fault}
use Rattle.query_text.specs.Words.{IsMeant, Finds}
use Rattle.query_text.specs.Parts.{EndsNumber, Ended, IsLiteral, EndsLiteral, EndsTest, IsOp, spaced_op, test_bytes}
use Rattle.query_text.proofs.Stopping.{stops_in, stops_as, refuses}
use Rattle.query_text.proofs.Tables.{table_reads}
use Rattle.query_text.proofs.Literals.{no_null_int}
use Rattle.adg_model.proofs.CommandLaws.{column_apart, op_apart}

op_meant : {W : Type 0} (a b c d e f : W) (t : Op) → IsMeant ((a, op.Eq) ∷ (b, op.Ne) ∷ (c, op.Lt) ∷ (d, op.Le) ∷ (e, op.Gt) ∷ (f, op.Ge) ∷ []) t
op_meant a b c d e f op.Eq = inl refl
op_meant a b c d e f op.Ne = inr (inl refl)
op_meant a b c d e f op.Lt = inr (inr (inl refl))
op_meant a b c d e f op.Le = inr (inr (inr (inl refl)))
op_meant a b c d e f op.Gt = inr (inr (inr (inr (inl refl))))
op_meant a b c d e f op.Ge = inr (inr (inr (inr (inr (inl refl)))))

pub op_reads : {W Y : Type 0} (now : W → List ℕ) (a b c d e f : W) → now a ≡ spaced_op op.Eq → now b ≡ spaced_op op.Ne → now c ≡ spaced_op op.Lt → now d ≡ spaced_op op.Le → now e ≡ spaced_op op.Gt → now f ≡ spaced_op op.Ge → (meaning : Y → Op) (rest : Y → List ℕ) (text : List ℕ) (r : Result Y Fault) → Finds now ((a, op.Eq) ∷ (b, op.Ne) ∷ (c, op.Lt) ∷ (d, op.Le) ∷ (e, op.Gt) ∷ (f, op.Ge) ∷ []) meaning rest text r → Reads meaning rest Anything IsOp spaced_op text r
op_reads now a b c d e f ha hb hc hd he hf meaning rest text r h =
    table_reads now IsOp spaced_op ((a, op.Eq) ∷ (b, op.Ne) ∷ (c, op.Lt) ∷ (d, op.Le) ∷ (e, op.Gt) ∷ (f, op.Ge) ∷ [])
    (record {
      sound = ((tt, ha), ((tt, hb), ((tt, hc), ((tt, hd), ((tt, he), ((tt, hf), tt))))));
      whole = λ t good. op_meant a b c d e f t;
      one = op.Eq;
      one_good = tt;
    })
    meaning rest text r h

pub ends_same : (x text : List ℕ) → first x ≡ first text → EndsNumber text → EndsNumber x
ends_same [] text e ends = tt
ends_same (c ∷ x) [] e ends = absurd cc
ends_same (c ∷ x) (d ∷ text) e ends = λ i. ends (let same : c ≡ d = cc in (omega (arith, i.0, same), omega (arith, i.1, same)))

regroup_test : (d b o l r : List ℕ) → (d ++ ((b ++ o ++ b) ++ l)) ++ r ≡ d ++ (b ++ (o ++ (b ++ (l ++ r))))
regroup_test d b o l r = simp append_assoc

pub test_laid : (c : Condition) (r : List ℕ) → test_bytes c ++ r ≡ decimal c.column ++ 32 ∷ (op_bytes c.op ++ 32 ∷ (literal_bytes c.literal ++ r))
test_laid c r = regroup_test (decimal c.column) (codes " ") (op_bytes c.op) (literal_bytes c.literal) r

abbrev pub TestStops : List ℕ → ℕ → Type 0
TestStops text left = Stops (Spelled IsCondition test_bytes) (Front EndsTest IsCondition test_bytes) text left

abbrev tested : ℕ → Op → Condition
tested n o = record { column = n; op = o; literal = Int (pos 0) }

tested_good : (n : ℕ) (o : Op) → IsColumn n → IsCondition (tested n o)
tested_good n o good = (good, omega arith, no_null_int (pos 0))

column_stops : (text : List ℕ) (left : ℕ) → Stops (Spelled IsColumn decimal) (Front Ended IsColumn decimal) text left → TestStops text left
column_stops text left s =
    stops_as (Spelled IsColumn decimal) (Front Ended IsColumn decimal) (Spelled IsCondition test_bytes) (Front EndsTest IsCondition test_bytes) text left
    (λ x h. (spaced_op op.Eq ++ literal_bytes (Int (pos 0)), record { value = tested h.value op.Eq; good = tested_good h.value op.Eq h.good; is = ap (λ l. l ++ (spaced_op op.Eq ++ literal_bytes (Int (pos 0)))) h.is }))
    (λ x e f. record { value = f.value.column; rest = 32 ∷ (op_bytes f.value.op ++ 32 ∷ (literal_bytes f.value.literal ++ f.rest)); good = f.good.0; ends = λ i. omega (arith, i.0); is = f.is ∙ test_laid f.value f.rest })
    s

behind_column : (n : ℕ) (x : List ℕ) → IsColumn n → EndsNumber x → (f : Front EndsTest IsCondition test_bytes (decimal n ++ x)) → x ≡ 32 ∷ (op_bytes f.value.op ++ 32 ∷ (literal_bytes f.value.literal ++ f.rest))
behind_column n x good ends f =
    (column_apart n f.value.column x (32 ∷ (op_bytes f.value.op ++ 32 ∷ (literal_bytes f.value.literal ++ f.rest))) good f.good.0 ends (λ i. omega (arith, i.0)) (f.is ∙ test_laid f.value f.rest)).1

op_stops : (n : ℕ) (text : List ℕ) (left : ℕ) → IsColumn n → EndsNumber text → Stops (Spelled IsOp spaced_op) (Front Anything IsOp spaced_op) text left → TestStops (decimal n ++ text) left
op_stops n text left good ends s =
    stops_in (Spelled IsOp spaced_op) (Front Anything IsOp spaced_op) (Spelled IsCondition test_bytes) (Front EndsTest IsCondition test_bytes) (decimal n) text left
    (λ x h. (literal_bytes (Int (pos 0)), record { value = tested n h.value; good = tested_good n h.value good; is = ap (λ l. decimal n ++ (l ++ literal_bytes (Int (pos 0)))) h.is }))
    (λ x e f. record { value = f.value.op; rest = literal_bytes f.value.literal ++ f.rest; good = tt; ends = tt; is = behind_column n x good (ends_same x text e ends) f ∙ ap (λ l. 32 ∷ l) (sym (append_assoc (op_bytes f.value.op) (32 ∷ []) (literal_bytes f.value.literal ++ f.rest))) })
    s

behind_op : (n : ℕ) (o : Op) (x : List ℕ) → IsColumn n → Front EndsTest IsCondition test_bytes ((decimal n ++ spaced_op o) ++ x) → Front EndsLiteral IsLiteral literal_bytes x
behind_op n o x good f =
    let f2 : Front EndsTest IsCondition test_bytes (decimal n ++ (spaced_op o ++ x)) = subst (Front EndsTest IsCondition test_bytes) (append_assoc (decimal n) (spaced_op o) x) f in
    let e = behind_column n (spaced_op o ++ x) good (λ i. omega (arith, i.0)) f2 in
    let g : op_bytes o ++ 32 ∷ x ≡ op_bytes f2.value.op ++ 32 ∷ (literal_bytes f2.value.literal ++ f2.rest) = sym (append_assoc (op_bytes o) (32 ∷ []) x) ∙ ap (drop 1) e in
    let r = op_apart o f2.value.op x (literal_bytes f2.value.literal ++ f2.rest) g in
    record { value = f2.value.literal; rest = f2.rest; good = (f2.good.1, f2.good.2); ends = f2.ends; is = r.1 }

literal_stops : (n : ℕ) (o : Op) (text : List ℕ) (left : ℕ) → IsColumn n → Stops (Spelled IsLiteral literal_bytes) (Front EndsLiteral IsLiteral literal_bytes) text left → TestStops ((decimal n ++ spaced_op o) ++ text) left
literal_stops n o text left good s =
    stops_in (Spelled IsLiteral literal_bytes) (Front EndsLiteral IsLiteral literal_bytes) (Spelled IsCondition test_bytes) (Front EndsTest IsCondition test_bytes) (decimal n ++ spaced_op o) text left
    (λ x h. ([], record { value = record { column = n; op = o; literal = h.value }; good = (good, h.good.0, h.good.1); is = ap (λ l. (decimal n ++ spaced_op o) ++ l) (append-nil x ∙ h.is) ∙ append_assoc (decimal n) (spaced_op o) (literal_bytes h.value) }))
    (λ x e f. behind_op n o x good f)
    s

-- ---- what a call gave

abbrev pub TestRefused : List ℕ → Fault → Type 0
TestRefused text fault = Refuses (Spelled IsCondition test_bytes) (Front EndsTest IsCondition test_bytes) text fault

pub column_refused : (text : List ℕ) (fault : Fault) → Refuses (Spelled IsColumn decimal) (Front Ended IsColumn decimal) text fault → TestRefused text fault
column_refused text fault r = refuses _ _ _ _ text text fault (λ left s. column_stops text left s) r

pub op_refused : (all text : List ℕ) (n : ℕ) (fault : Fault) → Takes Ended IsColumn decimal all n text → Refuses (Spelled IsOp spaced_op) (Front Anything IsOp spaced_op) text fault → TestRefused all fault
op_refused all text n fault t r = refuses _ _ _ _ text all fault (λ left s. subst (λ l. TestStops l left) (sym t.is) (op_stops n text left t.good t.ends s)) r

pub literal_refused : (all behind text : List ℕ) (n : ℕ) (o : Op) (fault : Fault) → Takes Ended IsColumn decimal all n behind → Takes Anything IsOp spaced_op behind o text → Refuses (Spelled IsLiteral literal_bytes) (Front EndsLiteral IsLiteral literal_bytes) text fault → TestRefused all fault
literal_refused all behind text n o fault t u r =
    let is : all ≡ (decimal n ++ spaced_op o) ++ text = t.is ∙ ap (λ l. decimal n ++ l) u.is ∙ sym (append_assoc (decimal n) (spaced_op o) text) in
    refuses _ _ _ _ text all fault (λ left s. subst (λ l. TestStops l left) (sym is) (literal_stops n o text left t.good s)) r
