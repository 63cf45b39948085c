-- The number of an object that has a spelling is the only one with its digits.
use Rattle.std.proofs.Common.{◌≡◌, ℕ, zero, suc, ◌+◌, ◌*◌, ◌/◌, ◌%◌, ◌<◌, ◌≤◌, ◌^◌, List, [], ◌∷◌, length, cond, Bool, true, false, ◌⊎◌, inl, inr, ap, ◌∙◌, arith}
use Rattle.std.specs.Prelude.{◌==◌}
use Rattle.std.specs.Fmt.{decimal, digits, digits_onto, digit_glyph}
use Rattle.std.proofs.lemmas.Bool.{cond-false, ne_eqb, eq-eqb, cases_lt}
use Rattle.std.proofs.lemmas.Fmt.{decimal_injective}

grows : (k n : ℕ) (acc : List ℕ) → length acc ≤ length (digits_onto k 10 false n acc)
grows zero n acc = omega arith
grows (suc k) n acc = by_test (n / 10 == 0) (grows k (n / 10) (digit_glyph false (n % 10) ∷ acc))
  where
    by_test : (b : Bool) → suc (length acc) ≤ length (digits_onto k 10 false (n / 10) (digit_glyph false (n % 10) ∷ acc))
        → length acc ≤ length (cond b (digit_glyph false (n % 10) ∷ acc) (digits_onto k 10 false (n / 10) (digit_glyph false (n % 10) ∷ acc)))
    by_test true h = omega arith
    by_test false h = omega arith

step : (k n : ℕ) (acc : List ℕ) → 10 ≤ n → digits_onto (suc k) 10 false n acc ≡ digits_onto k 10 false (n / 10) (digit_glyph false (n % 10) ∷ acc)
step k n acc h = cond-false (n / 10 == 0) (digit_glyph false (n % 10) ∷ acc) (digits_onto k 10 false (n / 10) (digit_glyph false (n % 10) ∷ acc)) (ne_eqb (n / 10) 0 (λ e. absurd (omega arith)))

-- a number from 10 ^ 5 on has more than 5 digits
longer : (n : ℕ) → 100000 ≤ n → 5 < length (decimal n)
unfolding digits
longer n h =
    let a = n / 10 in
    let b = n / 10 / 10 in
    let c = n / 10 / 10 / 10 in
    let d = n / 10 / 10 / 10 / 10 in
    let g = digit_glyph false in
    let e : length (digits_onto 64 10 false n []) ≡ length (digits_onto 59 10 false (d / 10) (g (d % 10) ∷ g (c % 10) ∷ g (b % 10) ∷ g (a % 10) ∷ g (n % 10) ∷ [])) =
    ap length (step 63 n [] (omega arith) ∙ step 62 a (g (n % 10) ∷ []) (omega arith) ∙ step 61 b (g (a % 10) ∷ g (n % 10) ∷ []) (omega arith)
    ∙ step 60 c (g (b % 10) ∷ g (a % 10) ∷ g (n % 10) ∷ []) (omega arith) ∙ step 59 d (g (c % 10) ∷ g (b % 10) ∷ g (a % 10) ∷ g (n % 10) ∷ []) (omega arith)) in
    let l = last 58 (d / 10) (g (d % 10) ∷ g (c % 10) ∷ g (b % 10) ∷ g (a % 10) ∷ g (n % 10) ∷ []) in
    omega (arith, e, l)
  where
    last : (k m : ℕ) (acc : List ℕ) → suc (length acc) ≤ length (digits_onto (suc k) 10 false m acc)
    last k m acc = by_test (m / 10 == 0) (grows k (m / 10) (digit_glyph false (m % 10) ∷ acc))
      where
        by_test : (b : Bool) → suc (length acc) ≤ length (digits_onto k 10 false (m / 10) (digit_glyph false (m % 10) ∷ acc))
            → suc (length acc) ≤ length (cond b (digit_glyph false (m % 10) ∷ acc) (digits_onto k 10 false (m / 10) (digit_glyph false (m % 10) ∷ acc)))
        by_test true i = omega arith
        by_test false i = i

-- and one below 10 ^ 5 has 5 at most
abbrev tens : ℕ → ℕ
tens zero = 10
tens (suc j) = 10 * tens j

fewer : (j k n : ℕ) (acc : List ℕ) → n < tens j → length (digits_onto k 10 false n acc) ≤ suc j + length acc
fewer j zero n acc h = omega arith
fewer zero (suc k) n acc h =
    let none : (n / 10 == 0) ≡ true = eq-eqb (n / 10) 0 (omega arith) in
    let e : length (digits_onto (suc k) 10 false n acc) ≡ suc (length acc) = ap (λ b. length (cond b (digit_glyph false (n % 10) ∷ acc) (digits_onto k 10 false (n / 10) (digit_glyph false (n % 10) ∷ acc)))) none in
    omega arith
fewer (suc j) (suc k) n acc h = by_test (n / 10 == 0) (fewer j k (n / 10) (digit_glyph false (n % 10) ∷ acc) (omega arith))
  where
    by_test : (b : Bool) → length (digits_onto k 10 false (n / 10) (digit_glyph false (n % 10) ∷ acc)) ≤ suc j + suc (length acc)
        → length (cond b (digit_glyph false (n % 10) ∷ acc) (digits_onto k 10 false (n / 10) (digit_glyph false (n % 10) ∷ acc))) ≤ suc (suc j) + length acc
    by_test true i = omega arith
    by_test false i = omega arith

short : (n : ℕ) → n < 100000 → length (decimal n) ≤ 5
unfolding digits
short n h = let l = fewer 4 64 n [] h in omega arith

pub same_object : (n m : ℕ) → m < 2 ^ 16 → decimal n ≡ decimal m → n ≡ m
same_object n m h e = by_size (cases_lt n 100000)
  where
    by_size : (n < 100000) ⊎ (100000 ≤ n) → n ≡ m
    by_size (inl l) = decimal_injective n m (omega arith) (omega arith) e
    by_size (inr l) =
        let long = longer n l in
        let few = short m (omega arith) in
        let same : length (decimal n) ≡ length (decimal m) = ap length e in
        absurd (omega arith)
