-- Digits as `parse` takes them, and as a number is written.
use Rattle.std.proofs.Common.{◌≡◌, ◌≢◌, ℕ, zero, suc, ◌<◌, ◌^◌, true, false, List, [], ◌∷◌, ◌++◌, length, get_or, Result, Ok, Err, refl, sym, ap, ◌∙◌, subst, arith}
use Rattle.std.specs.Prelude.{decimal}
use Rattle.std.specs.Str.Parse.{AllDigits, digits_value, ParsesUnsigned}
use Rattle.std.proofs.lemmas.Bool.Decides.{nat_tests}
use Rattle.std.proofs.lemmas.Fmt.{decimal_digit, first_decimal, decimal-digits_value, parse-decimal, decimal_injective}
use Rattle.std.proofs.lemmas.Str.Parse.{IsNumeralModel, numerals_by_value, tells_digits, parse_plain}
use Rattle.soak_run.specs.declared.setting.OptionName.{OptionName}
use Rattle.soak_run.specs.Words.{is_padded, name_text, IsNumber}
use Rattle.soak_run.proofs.Options.{names_same, number_small}

own : IsNumeralModel (AllDigits 10) (digits_value 10)
own = numerals_by_value (AllDigits 10) tells_digits

-- a number is not padded
first_digit : (ds : List ℕ) → 48 < get_or ds 0 0 → is_padded ds ≡ false
first_digit [] h = refl
first_digit (b ∷ []) h = grind (arith, nat_tests)
first_digit (b ∷ c ∷ more) h = grind (arith, nat_tests)

not_padded : (n : ℕ) → n < 2 ^ 64 → is_padded (decimal n) ≡ false
not_padded zero small = ap is_padded (decimal_digit 0 (omega arith))
not_padded (suc n) small = first_digit (decimal (suc n)) (first_decimal (suc n) (omega arith) small)

pub padded_none : (bs : List ℕ) (n : ℕ) → is_padded bs ≡ true → n < 2 ^ 64 → bs ≡ decimal n → ⊥
padded_none bs n h small is = let clash : true ≡ false = sym h ∙ ap is_padded is ∙ not_padded n small in absurd cc

-- what is not padded
no_plus : (bs : List ℕ) → is_padded bs ≡ false → get_or bs 0 0 ≢ 43
no_plus [] h e = omega (arith, e)
no_plus (b ∷ []) h e = absurd (grind (arith, nat_tests))
no_plus (b ∷ c ∷ more) h e = absurd (grind (arith, nat_tests))

no_zero : (bs : List ℕ) → is_padded bs ≡ false → get_or bs 0 0 ≡ 48 → length bs ≡ 1
no_zero [] h e = omega (arith, e)
no_zero (b ∷ []) h e = refl
no_zero (b ∷ c ∷ more) h e = absurd (grind (arith, nat_tests))

-- is read as the number that it writes
pub parsed : {E : Type 0} (bs : List ℕ) (m : ℕ) (r : Result ℕ E) → is_padded bs ≡ false → ParsesUnsigned 64 10 bs r → r ≡ Ok m → (m < 2 ^ 64) × (bs ≡ decimal m)
parsed {E} bs m r h p is = by_result (subst (λ (x : Result ℕ E). ParsesUnsigned 64 10 bs x) is p)
  where
    by_result : ParsesUnsigned {E = E} 64 10 bs (Ok m) → (m < 2 ^ 64) × (bs ≡ decimal m)
    by_result q =
        let plain = parse_plain own {E = E} 64 bs (Ok m) q (no_plus bs h) in
        (omega (arith, plain.1, plain.0.2), sym (decimal-digits_value own bs plain.0.0 plain.0.1 (no_zero bs h) plain.0.2) ∙ ap decimal (sym plain.1))

pub unparsed : {E : Type 0} (bs : List ℕ) (n : ℕ) (r : Result ℕ E) (e : E) → ParsesUnsigned 64 10 bs r → r ≡ Err e → n < 2 ^ 64 → bs ≡ decimal n → ⊥
unparsed {E} bs n r e p is small digits = apart r is (parse-decimal 64 n bs r small small digits p)
  where
    apart : (x : Result ℕ E) → x ≡ Err e → x ≡ Ok n → ⊥
    apart x a b = absurd cc

-- a number that an option may not have
pub refused : (m n : OptionName) (j k : ℕ) (name digits : List ℕ) → name ≡ name_text m → digits ≡ decimal j → j < 2 ^ 64 → (IsNumber m j → ⊥)
    → IsNumber n k → name ≡ name_text n → digits ≡ decimal k → ⊥
refused m n j k name digits named written small bad allowed is spelled =
    let same : n ≡ m = names_same n m [] [] (ap (λ x. x ++ []) (sym is ∙ named)) in
    let number : k ≡ j = decimal_injective k j (number_small n k allowed) small (sym spelled ∙ written) in
    bad (subst (λ x. IsNumber x j) same (subst (IsNumber n) number allowed))
