-- A text spells at most one command, since the end of each part of a spelling can be seen.
use Rattle.std.proofs.Common.{◌≡◌, ◌≢◌, ℕ, ◌<◌, ◌≤◌, ◌^◌, ℤ, pos, negsuc, true, List, [], ◌∷◌, ◌++◌, length, get_or, drop, Some, None, suc, codes, refl, sym, ap, ap₂, ◌∙◌, subst, arith, append_assoc}
use Rattle.std.specs.Prelude.{Option, FitsSigned, nat_le}
use Rattle.std.specs.List.{AllByRecursion, list_all}
use Rattle.std.specs.Int.{w64}
use Rattle.std.specs.Fmt.{decimal, signed_decimal}
use Rattle.std.specs.Str.Parse.{AllDigits}
use Rattle.std.proofs.lemmas.Bool.{and_parts}
use Rattle.std.proofs.lemmas.Fmt.{decimal_is_IsNumeral, decimal_injective}
use Rattle.std.proofs.lemmas.Str.Parse.{digit_from_value}
use Rattle.adg_base.specs.Text.{IsText, is_text_byte}
use Rattle.adg_base.specs.declared.value.Value.{Value}
use Rattle.adg_base.specs.declared.value.Value.TheVariants.{Null, Int, Text}
use Rattle.adg_base.specs.declared.command.Command.TheVariants as command
use Rattle.adg_base.specs.declared.command.Select.{Select}
use Rattle.adg_base.specs.declared.command.Condition.{Condition}
use Rattle.adg_base.specs.declared.command.Op.{Op}
use Rattle.adg_base.specs.declared.command.Op.TheVariants as op
use Rattle.adg_base.specs.declared.command.What.{What}
use Rattle.adg_base.specs.declared.command.What.TheVariants.{All, Aggregates}
use Rattle.adg_base.specs.declared.command.Aggregate.{Aggregate}
use Rattle.adg_base.specs.declared.command.Aggregate.TheVariants.{Count, Sum, Min, Max}
use Rattle.adg_model.specs.Spelling.{IsValue}
use Rattle.adg_model.specs.Command.{table_bytes, literal_bytes, op_bytes, aggregate_bytes, aggregates_bytes, condition_bytes, conditions_bytes, where_bytes, group_bytes, what_bytes, select_bytes, IsColumn, IsAggregate, IsCondition, IsGroup, IsWhat, IsSelect}
use Rattle.adg_model.specs.Laws.{OneCommand}
use Rattle.adg_model.proofs.VectorsSpelled.{heads}

-- a text does not begin with a byte of a sort
abbrev pub BeginsElse : (ℕ → Type 0) → List ℕ → Type 0
BeginsElse Is [] = Unit {0}
BeginsElse Is (c ∷ cs) = Is c → ⊥

-- all bytes of a sort at the front of a text
fronts_of : (Is : ℕ → Type 0) (xs ys x y : List ℕ) → AllByRecursion Is xs → AllByRecursion Is ys → BeginsElse Is x → BeginsElse Is y → xs ++ x ≡ ys ++ y → (xs ≡ ys) × (x ≡ y)
fronts_of Is [] [] x y h k ex ey e = (refl, e)
fronts_of Is [] (d ∷ ds) [] y h k ex ey e = absurd cc
fronts_of Is [] (d ∷ ds) (c ∷ cs) y h k ex ey e = absurd (ex (subst Is (sym (heads c d cs (ds ++ y) e)) k.0))
fronts_of Is (c ∷ cs) [] x [] h k ex ey e = absurd cc
fronts_of Is (c ∷ cs) [] x (d ∷ ds) h k ex ey e = absurd (ey (subst Is (heads c d (cs ++ x) ds e) h.0))
fronts_of Is (c ∷ cs) (d ∷ ds) x y h k ex ey e =
    let later = fronts_of Is cs ds x y h.1 k.1 ex ey (ap (drop 1) e) in
    (ap₂ (λ f fs. f ∷ fs) (heads c d (cs ++ x) (ds ++ y) e) later.0, later.1)

abbrev pub IsDigit : ℕ → Type 0
IsDigit c = (48 ≤ c) × (c ≤ 57)

-- no digit goes on here
abbrev pub EndsNumber : List ℕ → Type 0
EndsNumber rest = BeginsElse IsDigit rest

each_digit : (ds : List ℕ) → AllDigits 10 ds → AllByRecursion IsDigit ds
each_digit [] h = tt
each_digit (c ∷ cs) h = let here = digit_from_value c h.0 in (here, each_digit cs h.1)

pub decimal_digits : (n : ℕ) → n < 2 ^ 64 → AllByRecursion IsDigit (decimal n)
decimal_digits n l = each_digit (decimal n) (decimal_is_IsNumeral n l).0.1

pub decimal_apart : (m n : ℕ) (x y : List ℕ) → m < 2 ^ 64 → n < 2 ^ 64 → EndsNumber x → EndsNumber y → decimal m ++ x ≡ decimal n ++ y → (m ≡ n) × (x ≡ y)
decimal_apart m n x y l k ex ey e =
    let p = fronts_of IsDigit (decimal m) (decimal n) x y (decimal_digits m l) (decimal_digits n k) ex ey e in
    (decimal_injective m n l k p.0, p.1)

first_digit : (ds x : List ℕ) → 0 < length ds → AllByRecursion IsDigit ds → IsDigit (get_or (ds ++ x) 0 0)
first_digit [] x n h = absurd (omega arith)
first_digit (c ∷ cs) x n h = h.0

-- a number begins with a digit
pub decimal_first : (n : ℕ) (x : List ℕ) → n < 2 ^ 64 → IsDigit (get_or (decimal n ++ x) 0 0)
decimal_first n x l = first_digit (decimal n) x (decimal_is_IsNumeral n l).0.0 (decimal_digits n l)

pub signed_apart : (a b : ℤ) (x y : List ℕ) → FitsSigned w64 a → FitsSigned w64 b → EndsNumber x → EndsNumber y → signed_decimal a ++ x ≡ signed_decimal b ++ y → (a ≡ b) × (x ≡ y)
signed_apart (pos m) (pos n) x y h k ex ey e =
    let p = decimal_apart m n x y (omega (arith, h)) (omega (arith, k)) ex ey e in
    (ap pos p.0, p.1)
signed_apart (pos m) (negsuc n) x y h k ex ey e =
    let d = decimal_first m x (omega (arith, h)) in
    absurd (omega (arith, d, ap (λ l. get_or l 0 0) e))
signed_apart (negsuc m) (pos n) x y h k ex ey e =
    let d = decimal_first n y (omega (arith, k)) in
    absurd (omega (arith, d, ap (λ l. get_or l 0 0) e))
signed_apart (negsuc m) (negsuc n) x y h k ex ey e =
    let p = decimal_apart (suc m) (suc n) x y (omega (arith, h)) (omega (arith, k)) ex ey (ap (drop 1) e) in
    let same : m ≡ n = omega (arith, p.0) in
    (ap negsuc same, p.1)

-- a signed number begins with a digit or a minus
pub signed_no_quote : (a : ℤ) (x : List ℕ) → FitsSigned w64 a → get_or (signed_decimal a ++ x) 0 0 ≡ 39 → ⊥
signed_no_quote (pos n) x h e = let d = decimal_first n x (omega (arith, h)) in omega (arith, d, e)
signed_no_quote (negsuc n) x h e = omega (arith, e)

-- a text has no quotation mark
abbrev pub IsNoQuote : ℕ → Type 0
IsNoQuote c = c ≡ 39 → ⊥

pub no_quotes : (t : List ℕ) → list_all is_text_byte t ≡ true → AllByRecursion IsNoQuote t
no_quotes [] h = tt
no_quotes (c ∷ cs) h =
    let p = and_parts (is_text_byte c) (list_all is_text_byte cs) h in
    (λ e. absurd (quote_is_none c e p.0), no_quotes cs p.1)
  where
    quote_is_none : (c : ℕ) → c ≡ 39 → is_text_byte c ≡ true → ⊥
    quote_is_none c e h = let f = subst (λ b. is_text_byte b ≡ true) e h in cc

pub quoted_apart : (s t x y : List ℕ) → IsText s → IsText t → s ++ 39 ∷ x ≡ t ++ 39 ∷ y → (s ≡ t) × (x ≡ y)
quoted_apart s t x y h k e =
    let hs = and_parts (nat_le (length s) 64) (list_all is_text_byte s) h in
    let ks = and_parts (nat_le (length t) 64) (list_all is_text_byte t) k in
    let p = fronts_of IsNoQuote s t (39 ∷ x) (39 ∷ y) (no_quotes s hs.1) (no_quotes t ks.1) (λ f. f refl) (λ f. f refl) e in
    (p.0, ap (drop 1) p.1)

pub quoted_laid : (s x : List ℕ) → literal_bytes (Text s) ++ x ≡ 39 ∷ (s ++ 39 ∷ x)
quoted_laid s x = ap (λ l. 39 ∷ l) (append_assoc s (39 ∷ []) x)

literal_apart : (a b : Value) (x y : List ℕ) → IsValue a → IsValue b → a ≢ Null → b ≢ Null → EndsNumber x → EndsNumber y → literal_bytes a ++ x ≡ literal_bytes b ++ y → (a ≡ b) × (x ≡ y)
literal_apart Null b x y h k na nb ex ey e = absurd (na refl)
literal_apart a Null x y h k na nb ex ey e = absurd (nb refl)
literal_apart (Int a) (Int b) x y h k na nb ex ey e = let p = signed_apart a b x y h k ex ey e in (ap Int p.0, p.1)
literal_apart (Int a) (Text t) x y h k na nb ex ey e = absurd (signed_no_quote a x h (ap (λ l. get_or l 0 0) e))
literal_apart (Text s) (Int b) x y h k na nb ex ey e = absurd (signed_no_quote b y k (ap (λ l. get_or l 0 0) (sym e)))
literal_apart (Text s) (Text t) x y h k na nb ex ey e =
    let p = quoted_apart s t x y h k (ap (drop 1) (sym (quoted_laid s x) ∙ e ∙ quoted_laid t y)) in
    (ap Text p.0, p.1)

pub op_apart : (a b : Op) (x y : List ℕ) → op_bytes a ++ 32 ∷ x ≡ op_bytes b ++ 32 ∷ y → (a ≡ b) × (x ≡ y)
op_apart op.Eq op.Eq x y e = (refl, ap (drop 2) e)
op_apart op.Ne op.Ne x y e = (refl, ap (drop 3) e)
op_apart op.Lt op.Lt x y e = (refl, ap (drop 2) e)
op_apart op.Le op.Le x y e = (refl, ap (drop 3) e)
op_apart op.Gt op.Gt x y e = (refl, ap (drop 2) e)
op_apart op.Ge op.Ge x y e = (refl, ap (drop 3) e)
op_apart a b x y e = absurd (omega (arith, ap (λ l. get_or l 0 0) e, ap (λ l. get_or l 1 0) e))

-- a column, and something behind it that is no digit
pub column_apart : (c d : ℕ) (x y : List ℕ) → IsColumn c → IsColumn d → EndsNumber x → EndsNumber y → decimal c ++ x ≡ decimal d ++ y → (c ≡ d) × (x ≡ y)
column_apart c d x y h k ex ey e = decimal_apart c d x y (omega (arith, h.1)) (omega (arith, k.1)) ex ey e

-- a column in brackets
bracketed_apart : (c d : ℕ) (x y : List ℕ) → IsColumn c → IsColumn d → (decimal c ++ 41 ∷ []) ++ x ≡ (decimal d ++ 41 ∷ []) ++ y → (c ≡ d) × (x ≡ y)
bracketed_apart c d x y h k e =
    let f = sym (append_assoc (decimal c) (41 ∷ []) x) ∙ e ∙ append_assoc (decimal d) (41 ∷ []) y in
    let p = column_apart c d (41 ∷ x) (41 ∷ y) h k (λ i. omega (arith, i)) (λ i. omega (arith, i)) f in
    (p.0, ap (drop 1) p.1)

pub aggregate_apart : (a b : Aggregate) (x y : List ℕ) → IsAggregate a → IsAggregate b → aggregate_bytes a ++ x ≡ aggregate_bytes b ++ y → (a ≡ b) × (x ≡ y)
aggregate_apart Count Count x y h k e = (refl, ap (drop 5) e)
aggregate_apart (Sum c) (Sum d) x y h k e = let p = bracketed_apart c d x y h k (ap (drop 5) e) in (ap Sum p.0, p.1)
aggregate_apart (Min c) (Min d) x y h k e = let p = bracketed_apart c d x y h k (ap (drop 5) e) in (ap Min p.0, p.1)
aggregate_apart (Max c) (Max d) x y h k e = let p = bracketed_apart c d x y h k (ap (drop 5) e) in (ap Max p.0, p.1)
aggregate_apart a b x y h k e = absurd (omega (arith, ap (λ l. get_or l 0 0) e, ap (λ l. get_or l 1 0) e))

-- what is joined from the left, joined from the right
regroup_3 : (a b c x : List ℕ) → a ++ b ++ c ++ x ≡ a ++ (b ++ (c ++ x))
regroup_3 a b c x = simp append_assoc

regroup_4 : (a b c d x : List ℕ) → a ++ b ++ c ++ d ++ x ≡ a ++ (b ++ (c ++ (d ++ x)))
regroup_4 a b c d x = simp append_assoc

regroup_5 : (a b c d e x : List ℕ) → a ++ b ++ c ++ d ++ e ++ x ≡ a ++ (b ++ (c ++ (d ++ (e ++ x))))
regroup_5 a b c d e x = simp append_assoc

-- aggregates, and behind them a space
aggregates_laid : (a b : Aggregate) (more : List Aggregate) (x : List ℕ) → aggregates_bytes (a ∷ b ∷ more) ++ x ≡ aggregate_bytes a ++ (codes ", " ++ (aggregates_bytes (b ∷ more) ++ x))
aggregates_laid a b more x = regroup_3 (aggregate_bytes a) (codes ", ") (aggregates_bytes (b ∷ more)) x

pub aggregates_apart : (cs ds : List Aggregate) (x y : List ℕ) → 1 ≤ length cs → 1 ≤ length ds → AllByRecursion IsAggregate cs → AllByRecursion IsAggregate ds → aggregates_bytes cs ++ 32 ∷ x ≡ aggregates_bytes ds ++ 32 ∷ y → (cs ≡ ds) × (x ≡ y)
aggregates_apart [] ds x y m n h k e = absurd (omega (arith, m))
aggregates_apart cs [] x y m n h k e = absurd (omega (arith, n))
aggregates_apart (c ∷ []) (d ∷ []) x y m n h k e =
    let p = aggregate_apart c d (32 ∷ x) (32 ∷ y) h.0 k.0 e in
    (ap (λ f. f ∷ []) p.0, ap (drop 1) p.1)
aggregates_apart (c ∷ []) (d ∷ b ∷ bs) x y m n h k e =
    let tail = codes ", " ++ (aggregates_bytes (b ∷ bs) ++ 32 ∷ y) in
    let p = aggregate_apart c d (32 ∷ x) tail h.0 k.0 (e ∙ aggregates_laid d b bs (32 ∷ y)) in
    absurd (omega (arith, ap (λ l. get_or l 0 0) p.1))
aggregates_apart (c ∷ a ∷ more) (d ∷ []) x y m n h k e =
    let tail = codes ", " ++ (aggregates_bytes (a ∷ more) ++ 32 ∷ x) in
    let p = aggregate_apart c d tail (32 ∷ y) h.0 k.0 (sym (aggregates_laid c a more (32 ∷ x)) ∙ e) in
    absurd (omega (arith, ap (λ l. get_or l 0 0) p.1))
aggregates_apart (c ∷ a ∷ more) (d ∷ b ∷ bs) x y m n h k e =
    let s = codes ", " ++ (aggregates_bytes (a ∷ more) ++ 32 ∷ x) in
    let t = codes ", " ++ (aggregates_bytes (b ∷ bs) ++ 32 ∷ y) in
    let p = aggregate_apart c d s t h.0 k.0 (sym (aggregates_laid c a more (32 ∷ x)) ∙ e ∙ aggregates_laid d b bs (32 ∷ y)) in
    let later = aggregates_apart (a ∷ more) (b ∷ bs) x y (omega arith) (omega arith) h.1 k.1 (ap (drop 2) p.1) in
    (ap₂ (λ f fs. f ∷ fs) p.0 later.0, later.1)

-- a condition, and what follows it
condition_laid : (c : Condition) (x : List ℕ) → condition_bytes c ++ x ≡ 99 ∷ (decimal c.column ++ 32 ∷ (op_bytes c.op ++ 32 ∷ (literal_bytes c.literal ++ x)))
condition_laid c x = ap (λ l. 99 ∷ l) (regroup_5 (decimal c.column) (codes " ") (op_bytes c.op) (codes " ") (literal_bytes c.literal) x)

condition_apart : (c d : Condition) (x y : List ℕ) → IsCondition c → IsCondition d → EndsNumber x → EndsNumber y → condition_bytes c ++ x ≡ condition_bytes d ++ y → (c ≡ d) × (x ≡ y)
condition_apart c d x y h k ex ey e =
    let f = ap (drop 1) (sym (condition_laid c x) ∙ e ∙ condition_laid d y) in
    let p = column_apart c.column d.column (32 ∷ (op_bytes c.op ++ 32 ∷ (literal_bytes c.literal ++ x))) (32 ∷ (op_bytes d.op ++ 32 ∷ (literal_bytes d.literal ++ y))) h.0 k.0 (λ i. omega (arith, i)) (λ i. omega (arith, i)) f in
    let q = op_apart c.op d.op (literal_bytes c.literal ++ x) (literal_bytes d.literal ++ y) (ap (drop 1) p.1) in
    let r = literal_apart c.literal d.literal x y h.1 k.1 h.2 k.2 ex ey q.1 in
    (ap (λ n. record c { column = n }) p.0 ∙ ap (λ n. record d { op = n; literal = c.literal }) q.0 ∙ ap (λ n. record d { literal = n }) r.0, r.1)

-- behind the conditions
group_ends : (g : Option ℕ) → EndsNumber (group_bytes g)
group_ends None = tt
group_ends (Some c) = λ i. omega (arith, i)

group_no_more : (g : Option ℕ) (x : List ℕ) → group_bytes g ≡ codes " AND " ++ x → ⊥
group_no_more None x e = absurd cc
group_no_more (Some c) x e = omega (arith, ap (λ l. get_or l 1 0) e)

group_same : (g h : Option ℕ) → IsGroup g → IsGroup h → group_bytes g ≡ group_bytes h → g ≡ h
group_same None None m n e = refl
group_same None (Some d) m n e = absurd cc
group_same (Some c) None m n e = absurd cc
group_same (Some c) (Some d) m n e = ap Some (decimal_injective c d (omega (arith, m.1)) (omega (arith, n.1)) (ap (drop 11) e))

conditions_laid : (c d : Condition) (more : List Condition) (x : List ℕ) → conditions_bytes (c ∷ d ∷ more) ++ x ≡ condition_bytes c ++ (codes " AND " ++ (conditions_bytes (d ∷ more) ++ x))
conditions_laid c d more x = regroup_3 (condition_bytes c) (codes " AND ") (conditions_bytes (d ∷ more)) x

conditions_apart : (cs ds : List Condition) (g h : Option ℕ) → 1 ≤ length cs → 1 ≤ length ds → AllByRecursion IsCondition cs → AllByRecursion IsCondition ds → conditions_bytes cs ++ group_bytes g ≡ conditions_bytes ds ++ group_bytes h → (cs ≡ ds) × (group_bytes g ≡ group_bytes h)
conditions_apart [] ds g h m n hc hd e = absurd (omega (arith, m))
conditions_apart cs [] g h m n hc hd e = absurd (omega (arith, n))
conditions_apart (c ∷ []) (d ∷ []) g h m n hc hd e =
    let p = condition_apart c d (group_bytes g) (group_bytes h) hc.0 hd.0 (group_ends g) (group_ends h) e in
    (ap (λ f. f ∷ []) p.0, p.1)
conditions_apart (c ∷ []) (d ∷ b ∷ bs) g h m n hc hd e =
    let rest = conditions_bytes (b ∷ bs) ++ group_bytes h in
    let p = condition_apart c d (group_bytes g) (codes " AND " ++ rest) hc.0 hd.0 (group_ends g) (λ i. omega (arith, i)) (e ∙ conditions_laid d b bs (group_bytes h)) in
    absurd (group_no_more g rest p.1)
conditions_apart (c ∷ a ∷ more) (d ∷ []) g h m n hc hd e =
    let rest = conditions_bytes (a ∷ more) ++ group_bytes g in
    let p = condition_apart c d (codes " AND " ++ rest) (group_bytes h) hc.0 hd.0 (λ i. omega (arith, i)) (group_ends h) (sym (conditions_laid c a more (group_bytes g)) ∙ e) in
    absurd (group_no_more h rest (sym p.1))
conditions_apart (c ∷ a ∷ more) (d ∷ b ∷ bs) g h m n hc hd e =
    let s = codes " AND " ++ (conditions_bytes (a ∷ more) ++ group_bytes g) in
    let t = codes " AND " ++ (conditions_bytes (b ∷ bs) ++ group_bytes h) in
    let p = condition_apart c d s t hc.0 hd.0 (λ i. omega (arith, i)) (λ i. omega (arith, i)) (sym (conditions_laid c a more (group_bytes g)) ∙ e ∙ conditions_laid d b bs (group_bytes h)) in
    let later = conditions_apart (a ∷ more) (b ∷ bs) g h (omega arith) (omega arith) hc.1 hd.1 (ap (drop 5) p.1) in
    (ap₂ (λ f fs. f ∷ fs) p.0 later.0, later.1)

-- the conditions and the group behind an object
group_no_where : (g : Option ℕ) (x : List ℕ) → group_bytes g ≡ codes " WHERE " ++ x → ⊥
group_no_where None x e = absurd cc
group_no_where (Some c) x e = omega (arith, ap (λ l. get_or l 1 0) e)

where_ends : (cs : List Condition) (g : Option ℕ) → EndsNumber (where_bytes cs ++ group_bytes g)
where_ends [] g = group_ends g
where_ends (c ∷ cs) g = λ i. omega (arith, i)

where_apart : (cs ds : List Condition) (g h : Option ℕ) → AllByRecursion IsCondition cs → AllByRecursion IsCondition ds → where_bytes cs ++ group_bytes g ≡ where_bytes ds ++ group_bytes h → (cs ≡ ds) × (group_bytes g ≡ group_bytes h)
where_apart [] [] g h hc hd e = (refl, e)
where_apart [] (d ∷ ds) g h hc hd e = absurd (group_no_where g (conditions_bytes (d ∷ ds) ++ group_bytes h) e)
where_apart (c ∷ cs) [] g h hc hd e = absurd (group_no_where h (conditions_bytes (c ∷ cs) ++ group_bytes g) (sym e))
where_apart (c ∷ cs) (d ∷ ds) g h hc hd e = conditions_apart (c ∷ cs) (d ∷ ds) g h (omega arith) (omega arith) hc hd (ap (drop 7) e)

-- what a SELECT asks for
aggregate_first : (a : Aggregate) (x : List ℕ) → get_or (aggregate_bytes a ++ x) 0 0 ≡ 42 → ⊥
aggregate_first Count x e = omega (arith, e)
aggregate_first (Sum c) x e = omega (arith, e)
aggregate_first (Min c) x e = omega (arith, e)
aggregate_first (Max c) x e = omega (arith, e)

pub aggregates_no_star : (ks : List Aggregate) (x y : List ℕ) → 1 ≤ length ks → aggregates_bytes ks ++ x ≡ 42 ∷ y → ⊥
aggregates_no_star [] x y n e = omega (arith, n)
aggregates_no_star (a ∷ []) x y n e = aggregate_first a x (ap (λ l. get_or l 0 0) e)
aggregates_no_star (a ∷ b ∷ bs) x y n e =
    aggregate_first a (codes ", " ++ (aggregates_bytes (b ∷ bs) ++ x)) (ap (λ l. get_or l 0 0) (sym (aggregates_laid a b bs x) ∙ e))

what_apart : (v w : What) (g h : Option ℕ) (x y : List ℕ) → IsWhat v g → IsWhat w h → what_bytes v ++ 32 ∷ x ≡ what_bytes w ++ 32 ∷ y → (v ≡ w) × (x ≡ y)
what_apart All All g h x y m n e = (refl, ap (drop 2) e)
what_apart All (Aggregates bs) g h x y m n e = absurd (aggregates_no_star bs (32 ∷ y) (32 ∷ x) n.0 (sym e))
what_apart (Aggregates ks) All g h x y m n e = absurd (aggregates_no_star ks (32 ∷ x) (32 ∷ y) m.0 e)
what_apart (Aggregates ks) (Aggregates bs) g h x y m n e =
    let p = aggregates_apart ks bs x y m.0 n.0 m.1 n.1 e in
    (ap Aggregates p.0, p.1)

group_good : (w : What) (g : Option ℕ) → IsWhat w g → IsGroup g
group_good All g e = subst IsGroup (sym e) tt
group_good (Aggregates ks) g h = h.2

-- what follows the object
abbrev behind : Select → List ℕ
behind s = where_bytes s.conditions ++ group_bytes s.group

select_laid : (s : Select) → select_bytes s ≡ codes "SELECT " ++ (what_bytes s.what ++ 32 ∷ (codes "FROM t" ++ (decimal s.obj ++ behind s)))
select_laid s = ap (λ l. codes "SELECT " ++ l) (regroup_4 (what_bytes s.what) (codes " FROM ") (table_bytes s.obj) (where_bytes s.conditions) (group_bytes s.group))

select_same : (s t : Select) → IsSelect s → IsSelect t → select_bytes s ≡ select_bytes t → s ≡ t
select_same s t h k e =
    let p = what_apart s.what t.what s.group t.group (codes "FROM t" ++ (decimal s.obj ++ behind s)) (codes "FROM t" ++ (decimal t.obj ++ behind t)) h.asks k.asks (ap (drop 7) (sym (select_laid s) ∙ e ∙ select_laid t)) in
    let q = decimal_apart s.obj t.obj (behind s) (behind t) (omega (arith, h.object.1)) (omega (arith, k.object.1)) (where_ends s.conditions s.group) (where_ends t.conditions t.group) (ap (drop 6) p.1) in
    let r = where_apart s.conditions t.conditions s.group t.group h.tests k.tests q.1 in
    let g = group_same s.group t.group (group_good s.what s.group h.asks) (group_good t.what t.group k.asks) r.1 in
    ap (λ n. record s { what = n }) p.0 ∙ ap (λ n. record s { what = t.what; obj = n }) q.0 ∙ ap (λ n. record t { conditions = n; group = s.group }) r.0 ∙ ap (λ n. record t { group = n }) g

pub one_command : OneCommand
one_command (command.Select s) (command.Select t) h k e = ap command.Select (select_same s t h k e)
one_command (command.Populate o) (command.Populate p) h k e = ap command.Populate (decimal_injective o p (omega (arith, h.1)) (omega (arith, k.1)) (ap (drop 10) e))
one_command command.Sync command.Sync h k e = refl
one_command command.ShowScn command.ShowScn h k e = refl
one_command command.Abort command.Abort h k e = refl
one_command a b h k e = absurd (omega (arith, ap (λ l. get_or l 0 0) e, ap (λ l. get_or l 1 0) e))
