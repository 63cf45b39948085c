-- A number in decimal is read again, where no digit follows.
use Rattle.std.proofs.Common.{◌≡◌, ℕ, ◌+◌, ◌-◌, ◌*◌, ◌/◌, ◌%◌, ◌^◌, ◌<◌, ◌≤◌, true, false, List, [], ◌∷◌, ◌++◌, Some, None, refl, sym, ap, ◌∙◌, append_assoc, arith}
use Rattle.std.specs.Fmt.{decimal}
use Rattle.std.proofs.lemmas.Fmt.{decimal_by_steps}
use Rattle.std.proofs.lemmas.Bool.{le-leb, lt-leb}
use Rattle.feed_text.specs.Reading.{is_digit, has_digit, digits_at, number_at}

pub digit_is : (d : ℕ) → d ≤ 9 → is_digit (48 + d) ≡ true
digit_is d h = rw (le-leb 48 (48 + d) (omega arith), le-leb (48 + d) 57 (omega arith)) refl

-- one digit more
pub digit_step : (limit n d m : ℕ) (rest : List ℕ) → d ≤ 9 → m ≤ limit → n * 10 + d ≡ m → digits_at limit n ((48 + d) ∷ rest) ≡ digits_at limit m rest
unfolding digits_at
digit_step limit n d m rest small fits is =
    let value : n * 10 + ((48 + d) - 48) ≡ m = omega arith in
    rw (digit_is d small, value, le-leb m limit fits) refl

first_step : (limit n : ℕ) → n < 10 → (rest : List ℕ) → n ≤ limit → digits_at limit 0 (((48 + n) ∷ []) ++ rest) ≡ digits_at limit n rest
first_step limit n lt rest fits = digit_step limit 0 n n rest (omega arith) fits (omega arith)

next_step : (limit n : ℕ) (ds : List ℕ) → 10 ≤ n → ((rest : List ℕ) → n / 10 ≤ limit → digits_at limit 0 (ds ++ rest) ≡ digits_at limit (n / 10) rest)
    → (rest : List ℕ) → n ≤ limit → digits_at limit 0 ((ds ++ ((48 + n % 10) ∷ [])) ++ rest) ≡ digits_at limit n rest
next_step limit n ds le before rest fits =
    let front = ap (λ (l : List ℕ). digits_at limit 0 l) (append_assoc ds ((48 + n % 10) ∷ []) rest) in
    let middle = before ((48 + n % 10) ∷ rest) (omega arith) in
    front ∙ middle ∙ digit_step limit (n / 10) (n % 10) n rest (omega arith) fits (omega arith)

digits_again : (limit n : ℕ) → n < 2 ^ 64 → (rest : List ℕ) → n ≤ limit → digits_at limit 0 (decimal n ++ rest) ≡ digits_at limit n rest
digits_again limit n lt = decimal_by_steps (λ m ds. (rest : List ℕ) → m ≤ limit → digits_at limit 0 (ds ++ rest) ≡ digits_at limit m rest) (first_step limit) (next_step limit) n lt

pub no_more : (limit n : ℕ) (rest : List ℕ) → has_digit rest ≡ false → digits_at limit n rest ≡ Some (n, rest)
unfolding digits_at
no_more limit n [] h = refl
no_more limit n (c ∷ rest) h = rw h refl

digit_first : (n : ℕ) → n < 2 ^ 64 → (rest : List ℕ) → has_digit (decimal n ++ rest) ≡ true
digit_first n lt = decimal_by_steps (λ m ds. (rest : List ℕ) → has_digit (ds ++ rest) ≡ true)
    (λ m small rest. digit_is m (omega arith))
    (λ m ds le before rest. ap has_digit (append_assoc ds ((48 + m % 10) ∷ []) rest) ∙ before ((48 + m % 10) ∷ rest)) n lt

pub number_again : (limit n : ℕ) (rest : List ℕ) → n ≤ limit → n < 2 ^ 64 → has_digit rest ≡ false → number_at limit (decimal n ++ rest) ≡ Some (n, rest)
unfolding number_at
number_again limit n rest fits lt ends =
    rw (digit_first n lt rest, digits_again limit n lt rest fits) (no_more limit n rest ends)

-- ---- reading, digit by digit

pub digit_over : (limit n d : ℕ) (rest : List ℕ) → d ≤ 9 → (n * 10 + d ≤ limit → ⊥) → digits_at limit n ((48 + d) ∷ rest) ≡ None
unfolding digits_at
digit_over limit n d rest small over =
    let value : n * 10 + ((48 + d) - 48) ≡ n * 10 + d = omega arith in
    rw (digit_is d small, value, lt-leb (n * 10 + d) limit (omega arith)) refl

-- how far a number was read
pub record Digits (limit : ℕ) (text rest : List ℕ) (number : ℕ) : Type 0 where
  pub digits : digits_at limit number rest ≡ digits_at limit 0 text
  pub first : has_digit text ≡ true
  pub within : number ≤ limit

pub none_at : (limit : ℕ) (text : List ℕ) → has_digit text ≡ false → number_at limit text ≡ None
unfolding number_at
none_at limit text h = rw h refl

pub first_at : (limit d : ℕ) (text rest : List ℕ) → 9 ≤ limit → d ≤ 9 → text ≡ (48 + d) ∷ rest → Digits limit text rest d
first_at limit d text rest room small is = record {
  digits = sym (ap (λ (l : List ℕ). digits_at limit 0 l) is ∙ digit_step limit 0 d d rest small (omega arith) (omega arith));
  first = ap has_digit is ∙ digit_is d small;
  within = omega arith;
}

pub next_at : (limit d number more : ℕ) (text rest others : List ℕ) → d ≤ 9 → rest ≡ (48 + d) ∷ others → number * 10 + d ≤ limit → more ≡ number * 10 + d → Digits limit text rest number → Digits limit text others more
next_at limit d number more text rest others small is fits value so_far = record {
  digits = sym (digit_step limit number d more others small (omega arith) (sym value)) ∙ sym (ap (λ (l : List ℕ). digits_at limit number l) is) ∙ so_far.digits;
  first = so_far.first;
  within = omega arith;
}

pub over_at : (limit d number : ℕ) (text rest others : List ℕ) → d ≤ 9 → rest ≡ (48 + d) ∷ others → (number * 10 + d ≤ limit → ⊥) → Digits limit text rest number → number_at limit text ≡ None
unfolding number_at
over_at limit d number text rest others small is over so_far =
    rw so_far.first (sym so_far.digits ∙ ap (λ (l : List ℕ). digits_at limit number l) is ∙ digit_over limit number d others small over)

pub found_at : (limit number : ℕ) (text rest : List ℕ) → has_digit rest ≡ false → Digits limit text rest number → number_at limit text ≡ Some (number, rest)
unfolding number_at
found_at limit number text rest ends so_far = rw so_far.first (sym so_far.digits ∙ no_more limit number rest ends)
