-- Numbers are read as far as they are in range.
use Rattle.std.proofs.Common.{◌≡◌, ℕ, ℤ, pos, negsuc, ◌+◌, ◌-◌, ◌*◌, ◌/◌, ◌%◌, ◌^◌, ◌<◌, ◌≤◌, zero, suc, List, [], ◌∷◌, ◌++◌, length, get_or, drop, Some, Result, Ok, Err, ◌⊎◌, inl, inr, refl, sym, ap, ap₂, ◌∙◌, subst, arith, append_assoc}
use Rattle.std.specs.Prelude.{FitsSigned, unwrap_or}
use Rattle.std.specs.List.{AllByRecursion}
use Rattle.std.specs.Int.{w64}
use Rattle.std.specs.Char.{digit_value}
use Rattle.std.specs.Fmt.{decimal, signed_decimal}
use Rattle.std.specs.Str.Parse.{digits_value_after}
use Rattle.std.proofs.lemmas.Str.{digit_value_digit}
use Rattle.std.proofs.lemmas.Fmt.{decimal_digit, decimal_step, decimal_is_IsNumeral, first_decimal}
use Rattle.std.proofs.lemmas.List.{append-nil, get_or_append_left}
use Rattle.query_text.specs.Stopping.{first, Stops, Refuses, Spelled, Front, Takes, Reads}
use Rattle.query_text.specs.declared.fault.Fault.{Fault}
use Rattle.adg_model.specs.Spelling.{IsObj}
use Rattle.adg_model.specs.Command.{IsColumn}
use Rattle.query_text.specs.Parts.{IsDigit, EndsNumber, Ended, IsNumber, IsZero}
use Rattle.query_text.proofs.Stopping.{heads, stops_in, stops_as, refuses}
use Rattle.adg_model.proofs.CommandLaws.{decimal_digits, decimal_first, decimal_apart}

-- ---- the number of digits

value_append : (a : ℕ) (xs ys : List ℕ) → digits_value_after 10 a (xs ++ ys) ≡ digits_value_after 10 (digits_value_after 10 a xs) ys
value_append a [] ys = refl
value_append a (c ∷ xs) ys = value_append (a * 10 + digit_value c) xs ys

value_grows : (a : ℕ) (ys : List ℕ) → a ≤ digits_value_after 10 a ys
value_grows a [] = omega arith
value_grows a (c ∷ ys) =
    let later = value_grows (a * 10 + digit_value c) ys in
    omega arith

-- digits go on at least as far as a number that they begin with
digits_go_on : (ms ns k later : List ℕ) (c : ℕ) → IsDigit c → AllByRecursion IsDigit ns → EndsNumber k → ms ++ k ≡ ns ++ c ∷ later → (mid : List ℕ) × (ms ≡ ns ++ c ∷ mid)
digits_go_on [] [] [] later c d all ends e = absurd cc
digits_go_on [] [] (b ∷ k) later c d all ends e = absurd (ends (subst IsDigit (sym (heads b c k later e)) d))
digits_go_on [] (n ∷ ns) [] later c d all ends e = absurd cc
digits_go_on [] (n ∷ ns) (b ∷ k) later c d all ends e = absurd (ends (subst IsDigit (sym (heads b n k (ns ++ c ∷ later) e)) all.0))
digits_go_on (m ∷ ms) [] k later c d all ends e = (ms, ap (λ x. x ∷ ms) (heads m c (ms ++ k) later e))
digits_go_on (m ∷ ms) (n ∷ ns) k later c d all ends e =
    let r = digits_go_on ms ns k later c d all.1 ends (ap (drop 1) e) in
    (r.0, ap₂ (λ x xs. x ∷ xs) (heads m n (ms ++ k) (ns ++ c ∷ later) e) r.1)

-- a number whose digits begin with those of another and one more is large
larger : (m n c : ℕ) (mid : List ℕ) → m < 2 ^ 64 → n < 2 ^ 64 → IsDigit c → decimal m ≡ decimal n ++ c ∷ mid → n * 10 + (c - 48) ≤ m
larger m n c mid lm ln d e =
    let of_m = (decimal_is_IsNumeral m lm).1 in
    let of_n = (decimal_is_IsNumeral n ln).1 in
    let same : digits_value_after 10 0 (decimal m) ≡ digits_value_after 10 (digits_value_after 10 0 (decimal n)) (c ∷ mid) = ap (λ l. digits_value_after 10 0 l) e ∙ value_append 0 (decimal n) (c ∷ mid) in
    let grows = value_grows (digits_value_after 10 0 (decimal n) * 10 + digit_value c) mid in
    let value = digit_value_digit c d in
    omega arith

-- ---- where no number begins

number_first : (limit m : ℕ) (k : List ℕ) → limit < 2 ^ 64 → IsNumber limit m → (49 ≤ get_or (decimal m ++ k) 0 0) × (get_or (decimal m ++ k) 0 0 ≤ 57)
number_first limit m k lim good =
    let small : m < 2 ^ 64 = omega (arith, good.1) in
    let digit = decimal_first m k small in
    let some = (decimal_is_IsNumeral m small).0.0 in
    let one = first_decimal m (omega (arith, good.0)) small in
    let same = get_or_append_left (decimal m) k 0 0 some in
    (omega arith, digit.1)

abbrev pub NumberStops : ℕ → List ℕ → ℕ → Type 0
NumberStops limit text left = Stops (Spelled (IsNumber limit) decimal) (Front Ended (IsNumber limit) decimal) text left

no_number : (limit : ℕ) (text : List ℕ) → 9 ≤ limit → limit < 2 ^ 64 → (49 ≤ get_or text 0 0 → get_or text 0 0 ≤ 57 → ⊥) → NumberStops limit text (length text)
no_number limit text low lim bad =
    record {
      before = [];
      behind = text;
      parts = refl;
      len = refl;
      more = decimal 1;
      begins = record { value = 1; good = (omega arith, omega arith); is = refl };
      none = λ f. not_here f text f.is refl;
      longest = λ c cs later is f. not_here f (c ∷ later) f.is (ap (λ l. get_or l 0 0) (sym is));
    }
  where
    not_here : {x : List ℕ} → (f : Front Ended (IsNumber limit) decimal x) → (y : List ℕ) → y ≡ decimal f.value ++ f.rest → get_or y 0 0 ≡ get_or text 0 0 → ⊥
    not_here f y is same =
        let d = number_first limit f.value f.rest lim f.good in
        let e : get_or y 0 0 ≡ get_or (decimal f.value ++ f.rest) 0 0 = ap (λ l. get_or l 0 0) is in
        bad (omega (arith, d.0)) (omega (arith, d.1))

-- ---- the loop

-- the digits before the rest are those of a number, or there are none yet
abbrev pub HasDigits : ℕ → List ℕ → ℕ → List ℕ → Type 0
HasDigits limit bytes n rest = ((n ≡ 0) × (rest ≡ bytes)) ⊎ (IsNumber limit n × (bytes ≡ decimal n ++ rest))

digit_is : (d : ℕ) → d ≤ 9 → IsDigit (48 + d)
digit_is d le = (omega arith, omega arith)

more_digits_of : (limit : ℕ) (bytes others : List ℕ) (n d : ℕ) → limit < 2 ^ 64 → d ≤ 9 → IsNumber limit (n * 10 + d) → HasDigits limit bytes n ((48 + d) ∷ others) → HasDigits limit bytes (n * 10 + d) others
more_digits_of limit bytes others n d lim le good (inl h) =
    let is : n * 10 + d ≡ d = omega (arith, h.0) in
    let one : decimal (n * 10 + d) ≡ (48 + d) ∷ [] = ap decimal is ∙ decimal_digit d (omega arith) in
    inr (good, sym h.1 ∙ ap (λ l. l ++ others) (sym one))
more_digits_of limit bytes others n d lim le good (inr h) =
    let front : (n * 10 + d) / 10 ≡ n = omega arith in
    let last : (n * 10 + d) % 10 ≡ d = omega arith in
    let step : decimal (n * 10 + d) ≡ decimal ((n * 10 + d) / 10) ++ ((48 + (n * 10 + d) % 10) ∷ []) = decimal_step (n * 10 + d) (omega (arith, h.0.0)) (omega (arith, good.1)) in
    let same : decimal (n * 10 + d) ≡ decimal n ++ ((48 + d) ∷ []) = step ∙ ap₂ (λ m b. decimal m ++ ((48 + b) ∷ [])) front last in
    inr (good, h.1 ∙ sym (append_assoc (decimal n) ((48 + d) ∷ []) others) ∙ ap (λ l. l ++ others) (sym same))

pub more_digits : (limit : ℕ) (bytes rest others : List ℕ) (n d more : ℕ) → limit < 2 ^ 64 → d ≤ 9 → rest ≡ (48 + d) ∷ others → IsNumber limit (n * 10 + d) → more ≡ n * 10 + d → HasDigits limit bytes n rest → HasDigits limit bytes more others
more_digits limit bytes rest others n d more lim le e good is h =
    subst (λ m. HasDigits limit bytes m others) (sym is) (more_digits_of limit bytes others n d lim le good (subst (λ l. HasDigits limit bytes n l) e h))

-- the next digit takes the number out of its range
digit_stops_of : (limit : ℕ) (bytes others : List ℕ) (n d : ℕ) → 9 ≤ limit → limit < 2 ^ 64 → d ≤ 9 → (IsNumber limit (n * 10 + d) → ⊥) → HasDigits limit bytes n ((48 + d) ∷ others) → NumberStops limit bytes (length ((48 + d) ∷ others))
digit_stops_of limit bytes others n d low lim le bad (inl h) =
    subst (λ l. NumberStops limit l (length ((48 + d) ∷ others))) h.1
    (no_number limit ((48 + d) ∷ others) low lim (λ x y. bad (omega (arith, h.0, x), omega (arith, h.0))))
digit_stops_of limit bytes others n d low lim le bad (inr h) =
    record {
      before = decimal n;
      behind = (48 + d) ∷ others;
      parts = h.1;
      len = refl;
      more = [];
      begins = record { value = n; good = h.0; is = append-nil (decimal n) };
      none = λ f. too_far f.value f.rest others f.good f.ends (sym f.is ∙ h.1);
      longest = λ b cs later is f. too_far f.value f.rest later f.good f.ends (sym f.is ∙ ap (λ x. decimal n ++ x ∷ later) (sym (heads (48 + d) b others cs is)));
    }
  where
    too_far : (m : ℕ) (k later : List ℕ) → IsNumber limit m → EndsNumber k → decimal m ++ k ≡ decimal n ++ (48 + d) ∷ later → ⊥
    too_far m k later good ends e =
        let small : m < 2 ^ 64 = omega (arith, good.1) in
        let n-small : n < 2 ^ 64 = omega (arith, h.0.1) in
        let r = digits_go_on (decimal m) (decimal n) k later (48 + d) (digit_is d le) (decimal_digits n n-small) ends e in
        let far = larger m n (48 + d) r.0 small n-small (digit_is d le) r.1 in
        bad (omega (arith, h.0.0), omega (arith, good.1, far))

pub digit_stops : (limit : ℕ) (bytes rest others : List ℕ) (n d : ℕ) → 9 ≤ limit → limit < 2 ^ 64 → d ≤ 9 → rest ≡ (48 + d) ∷ others → (IsNumber limit (n * 10 + d) → ⊥) → HasDigits limit bytes n rest → NumberStops limit bytes (length rest)
digit_stops limit bytes rest others n d low lim le e bad h =
    subst (λ l. NumberStops limit bytes (length l)) (sym e) (digit_stops_of limit bytes others n d low lim le bad (subst (λ l. HasDigits limit bytes n l) e h))

no_digit : (text : List ℕ) → EndsNumber text → 49 ≤ get_or text 0 0 → get_or text 0 0 ≤ 57 → ⊥
no_digit [] ends low high = omega arith
no_digit (c ∷ text) ends low high = ends (omega arith, high)

-- the digits end
pub no_digits : (limit : ℕ) (bytes rest : List ℕ) → 9 ≤ limit → limit < 2 ^ 64 → EndsNumber rest → (n : ℕ) → n ≡ 0 → HasDigits limit bytes n rest → NumberStops limit bytes (length rest)
no_digits limit bytes rest low lim ends n is (inl h) =
    subst (λ l. NumberStops limit l (length rest)) h.1 (no_number limit rest low lim (no_digit rest ends))
no_digits limit bytes rest low lim ends n is (inr h) = absurd (omega (arith, h.0))

-- ---- integers

abbrev pub IntegerStops : List ℕ → ℕ → Type 0
IntegerStops text left = Stops (Spelled (FitsSigned w64) signed_decimal) (Front Ended (FitsSigned w64) signed_decimal) text left

abbrev pub ZeroStops : List ℕ → ℕ → Type 0
ZeroStops text left = Stops (Spelled IsZero signed_decimal) (Front Ended IsZero signed_decimal) text left

zero_is : decimal 0 ≡ 48 ∷ []
zero_is = decimal_digit 0 (omega arith)

behind_zero : (z : ℤ) (rest later : List ℕ) → IsZero z → EndsNumber rest → 48 ∷ later ≡ signed_decimal z ++ rest → EndsNumber later
behind_zero z rest later none ends e =
    let is : 48 ∷ later ≡ 48 ∷ rest = e ∙ ap (λ y. signed_decimal y ++ rest) none ∙ ap (λ l. l ++ rest) zero_is in
    subst EndsNumber (sym (ap (drop 1) is)) ends

pub zero_stops : (behind rest : List ℕ) (d : ℕ) → d ≤ 9 → behind ≡ (48 + d) ∷ rest → ZeroStops (48 ∷ behind) (length behind)
zero_stops behind rest d le is =
    record {
      before = 48 ∷ [];
      behind = behind;
      parts = refl;
      len = refl;
      more = [];
      begins = record { value = pos 0; good = refl; is = sym zero_is };
      none = λ f. subst EndsNumber is (behind_zero f.value f.rest behind f.good f.ends f.is) (digit_is d le);
      longest = λ c cs later e f.
          let same : c ≡ 48 + d = heads c (48 + d) cs rest (sym e ∙ is) in
          behind_zero f.value f.rest (c ∷ later) f.good f.ends f.is (subst IsDigit (sym same) (digit_is d le));
    }

pub zero_takes : (behind : List ℕ) → EndsNumber behind → Takes Ended IsZero signed_decimal (48 ∷ behind) (pos 0) behind
zero_takes behind ends = record { good = refl; ends = ends; is = ap (λ l. l ++ behind) (sym zero_is) }

no_minus : (n : ℕ) (rest x : List ℕ) → n < 2 ^ 64 → 45 ∷ x ≡ decimal n ++ rest → ⊥
no_minus n rest x small e = let d = decimal_first n rest small in omega (arith, d.0, ap (λ l. get_or l 0 0) e)

behind_minus : (x : List ℕ) → Front Ended (FitsSigned w64) signed_decimal (45 ∷ x) → Front Ended (IsNumber (2 ^ 63)) decimal x
behind_minus x f = cases f.value f.rest f.good f.ends f.is
  where
    cases : (z : ℤ) (rest : List ℕ) → FitsSigned w64 z → EndsNumber rest → 45 ∷ x ≡ signed_decimal z ++ rest → Front Ended (IsNumber (2 ^ 63)) decimal x
    cases (pos n) rest good ends e = absurd (no_minus n rest x (omega (arith, good)) e)
    cases (negsuc n) rest good ends e = record { value = suc n; rest = rest; good = (omega arith, omega (arith, good)); ends = ends; is = ap (drop 1) e }

pub minus_stops : (digits : List ℕ) (left : ℕ) → NumberStops (2 ^ 63) digits left → IntegerStops (45 ∷ digits) left
minus_stops digits left s =
    stops_in (Spelled (IsNumber (2 ^ 63)) decimal) (Front Ended (IsNumber (2 ^ 63)) decimal) (Spelled (FitsSigned w64) signed_decimal) (Front Ended (FitsSigned w64) signed_decimal) (45 ∷ []) digits left
    (λ x h.
    let good = h.good in
    let is : h.value ≡ suc (h.value - 1) = omega (arith, good.0) in
    ([], record { value = negsuc (h.value - 1); good = omega (arith, good.0, good.1); is = ap (λ l. 45 ∷ l) (append-nil x ∙ h.is ∙ ap decimal is) }))
    (λ x e f. behind_minus x f)
    s

-- an integer that begins with a 0, and one that begins with neither a 0 nor a minus
integer_first : (x : List ℕ) → Front Ended (FitsSigned w64) signed_decimal x → (first x ≡ Some 45 → ⊥) → Front Ended IsZero signed_decimal x ⊎ Front Ended (IsNumber (2 ^ 63 - 1)) decimal x
integer_first x f no_sign = cases f.value f.rest f.good f.ends f.is
  where
    cases : (z : ℤ) (rest : List ℕ) → FitsSigned w64 z → EndsNumber rest → x ≡ signed_decimal z ++ rest → Front Ended IsZero signed_decimal x ⊎ Front Ended (IsNumber (2 ^ 63 - 1)) decimal x
    cases (pos zero) rest good ends e = inl (record { value = pos 0; rest = rest; good = refl; ends = ends; is = e })
    cases (pos (suc n)) rest good ends e = inr (record { value = suc n; rest = rest; good = (omega arith, omega (arith, good)); ends = ends; is = e })
    cases (negsuc n) rest good ends e = absurd (no_sign (ap first e))

zero_first : (x : List ℕ) → Front Ended IsZero signed_decimal x → first x ≡ Some 48
zero_first x f = ap first (f.is ∙ ap (λ y. signed_decimal y ++ f.rest) f.good ∙ ap (λ l. l ++ f.rest) zero_is)

number_no_zero : (x : List ℕ) → Front Ended (IsNumber (2 ^ 63 - 1)) decimal x → first x ≡ Some 48 → ⊥
number_no_zero x f e =
    let d = (number_first (2 ^ 63 - 1) f.value f.rest (omega arith) f.good).0 in
    omega (arith, d, ap (λ l. get_or l 0 0) f.is, first_is x 48 e)
  where
    first_is : (x : List ℕ) (c : ℕ) → first x ≡ Some c → get_or x 0 0 ≡ c
    first_is [] c e = absurd cc
    first_is (d ∷ x) c e = cc

pub two_firsts : (x : List ℕ) (a b : ℕ) → (a ≡ b → ⊥) → first x ≡ Some a → first x ≡ Some b → ⊥
two_firsts x a b other e f = other (ap (λ o. unwrap_or o 0) (sym e ∙ f))

pub zero_integer_stops : (behind : List ℕ) (left : ℕ) → ZeroStops (48 ∷ behind) left → IntegerStops (48 ∷ behind) left
zero_integer_stops behind left s =
    stops_as (Spelled IsZero signed_decimal) (Front Ended IsZero signed_decimal) (Spelled (FitsSigned w64) signed_decimal) (Front Ended (FitsSigned w64) signed_decimal) (48 ∷ behind) left
    (λ x h. ([], record { value = h.value; good = subst (FitsSigned w64) (sym h.good) (omega arith); is = append-nil x ∙ h.is }))
    (λ x e f. elim (integer_first x f (λ m. two_firsts x 48 45 (λ i. omega (arith, i)) e m)) [ inl z ↦ z | inr n ↦ absurd (number_no_zero x n e) ])
    s

pub zero_integer_takes : (behind rest : List ℕ) (z : ℤ) → Takes Ended IsZero signed_decimal (48 ∷ behind) z rest → Takes Ended (FitsSigned w64) signed_decimal (48 ∷ behind) z rest
zero_integer_takes behind rest z t = record { good = subst (FitsSigned w64) (sym t.good) (omega arith); ends = t.ends; is = t.is }

pub plain_stops : (text : List ℕ) (left : ℕ) → (first text ≡ Some 45 → ⊥) → (first text ≡ Some 48 → ⊥) → NumberStops (2 ^ 63 - 1) text left → IntegerStops text left
plain_stops text left no_sign no_zero s =
    stops_as (Spelled (IsNumber (2 ^ 63 - 1)) decimal) (Front Ended (IsNumber (2 ^ 63 - 1)) decimal) (Spelled (FitsSigned w64) signed_decimal) (Front Ended (FitsSigned w64) signed_decimal) text left
    (λ x h. let good = h.good in ([], record { value = pos h.value; good = omega (arith, good.1); is = append-nil x ∙ h.is }))
    (λ x e f. elim (integer_first x f (λ m. no_sign (sym e ∙ m))) [ inl z ↦ absurd (no_zero (sym e ∙ zero_first x z)) | inr n ↦ n ])
    s

-- ---- columns and objects

pub obj_stops : (text : List ℕ) (left : ℕ) → NumberStops 65535 text left → Stops (Spelled IsObj decimal) (Front Ended IsObj decimal) text left
obj_stops text left s =
    stops_as (Spelled (IsNumber 65535) decimal) (Front Ended (IsNumber 65535) decimal) (Spelled IsObj decimal) (Front Ended IsObj decimal) text left
    (λ x h. let good = h.good in ([], record { value = h.value; good = (good.0, omega (arith, good.1)); is = append-nil x ∙ h.is }))
    (λ x e f. let good = f.good in record { value = f.value; rest = f.rest; good = (good.0, omega (arith, good.1)); ends = f.ends; is = f.is })
    s

-- ---- what is refused

pub obj_refused : (text : List ℕ) (fault : Fault) → Refuses (Spelled (IsNumber 65535) decimal) (Front Ended (IsNumber 65535) decimal) text fault → Refuses (Spelled IsObj decimal) (Front Ended IsObj decimal) text fault
obj_refused text fault r = refuses _ _ _ _ text text fault (λ left s. obj_stops text left s) r

pub minus_refused : (text digits : List ℕ) (fault : Fault) → text ≡ 45 ∷ digits → Refuses (Spelled (IsNumber (2 ^ 63)) decimal) (Front Ended (IsNumber (2 ^ 63)) decimal) digits fault → Refuses (Spelled (FitsSigned w64) signed_decimal) (Front Ended (FitsSigned w64) signed_decimal) text fault
minus_refused text digits fault is r = refuses _ _ _ _ digits text fault (λ left s. subst (λ l. IntegerStops l left) (sym is) (minus_stops digits left s)) r

pub plain_refused : (text : List ℕ) (fault : Fault) → (first text ≡ Some 45 → ⊥) → (first text ≡ Some 48 → ⊥) → Refuses (Spelled (IsNumber (2 ^ 63 - 1)) decimal) (Front Ended (IsNumber (2 ^ 63 - 1)) decimal) text fault → Refuses (Spelled (FitsSigned w64) signed_decimal) (Front Ended (FitsSigned w64) signed_decimal) text fault
plain_refused text fault no_sign no_zero r = refuses _ _ _ _ text text fault (λ left s. plain_stops text left no_sign no_zero s) r

zero_reads_of : {Y : Type 0} (value : Y → ℤ) (rest : Y → List ℕ) (behind : List ℕ) (r : Result Y Fault) → Reads value rest Ended IsZero signed_decimal (48 ∷ behind) r → Reads value rest Ended (FitsSigned w64) signed_decimal (48 ∷ behind) r
zero_reads_of value rest behind (Ok y) t = zero_integer_takes behind (rest y) (value y) t
zero_reads_of value rest behind (Err fault) t = refuses _ _ _ _ (48 ∷ behind) (48 ∷ behind) fault (λ left s. zero_integer_stops behind left s) t

pub zero_reads : {Y : Type 0} (value : Y → ℤ) (rest : Y → List ℕ) (text behind : List ℕ) (r : Result Y Fault) → text ≡ 48 ∷ behind → Reads value rest Ended IsZero signed_decimal (48 ∷ behind) r → Reads value rest Ended (FitsSigned w64) signed_decimal text r
zero_reads value rest text behind r is t = subst (λ l. Reads value rest Ended (FitsSigned w64) signed_decimal l r) (sym is) (zero_reads_of value rest behind r t)

-- ---- numbers that end a text

pub end_stops : (Good : ℕ → Type 0) → ((n : ℕ) → Good n → n < 2 ^ 64) → (all rest : List ℕ) (n : ℕ) → Takes Ended Good decimal all n rest → 1 ≤ length rest → Stops (Spelled Good decimal) (Spelled Good decimal) all (length rest)
end_stops Good small all rest n t some =
    record {
      before = decimal n;
      behind = rest;
      parts = t.is;
      len = refl;
      more = [];
      begins = record { value = n; good = t.good; is = append-nil (decimal n) };
      none = λ h.
          let p = decimal_apart n h.value rest [] (small n t.good) (small h.value h.good) t.ends tt (sym t.is ∙ h.is ∙ sym (append-nil (decimal h.value))) in
          omega (arith, some, ap length p.1);
      longest = λ c cs later is h.
          let p = decimal_apart n h.value (c ∷ later) [] (small n t.good) (small h.value h.good) (subst EndsNumber is t.ends) tt (h.is ∙ sym (append-nil (decimal h.value))) in
          omega (arith, ap length p.1);
    }

pub alone_refused : (Good : ℕ → Type 0) (all : List ℕ) (fault : Fault) → Refuses (Spelled Good decimal) (Front Ended Good decimal) all fault → Refuses (Spelled Good decimal) (Spelled Good decimal) all fault
alone_refused Good all fault r =
    refuses _ _ _ _ all all fault
    (λ left s. stops_as (Spelled Good decimal) (Front Ended Good decimal) (Spelled Good decimal) (Spelled Good decimal) all left
    (λ x h. ([], record { value = h.value; good = h.good; is = append-nil x ∙ h.is }))
    (λ x e h. record { value = h.value; rest = []; good = h.good; ends = tt; is = h.is ∙ sym (append-nil (decimal h.value)) })
    s)
    r

pub column_small : (n : ℕ) → IsColumn n → n < 2 ^ 64
column_small n h = omega (arith, h.1)

pub obj_small : (n : ℕ) → IsObj n → n < 2 ^ 64
obj_small n h = omega (arith, h.1)
