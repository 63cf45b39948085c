-- The texts of the rows.
use Rattle.std.proofs.Common.{◌≡◌, ℕ, ◌+◌, ◌/◌, ◌%◌, ◌<◌, ◌≤◌, true, List, [], ◌∷◌, ◌++◌, length, refl, sym, ap, ◌∙◌, subst, arith, inl, inr}
use Rattle.std.proofs.lemmas.Bool.{cases_lt}
use Rattle.std.proofs.lemmas.Bool.Decides.{nat_tests}
use Rattle.std.proofs.lemmas.Fmt.{decimal_digit, decimal_step}
use Rattle.adg_base.specs.Text.{IsText, is_text_byte}
use Rattle.feed_gen.specs.Tables.{label}

pub label_short : (row : ℕ) → row < 10 → label row ≡ 114 ∷ (48 + row) ∷ []
unfolding label
label_short row lt = ap (λ ds. 114 ∷ ds) (decimal_digit row lt)

pub label_long : (row : ℕ) → 10 ≤ row → row < 100 → label row ≡ 114 ∷ (48 + row / 10) ∷ (48 + row % 10) ∷ []
unfolding label
label_long row ge lt =
    let front = decimal_digit (row / 10) (omega arith) in
    ap (λ ds. 114 ∷ ds) (decimal_step row ge (omega arith) ∙ ap (λ ds. ds ++ (48 + row % 10) ∷ []) front)

digit_is_text : (d : ℕ) → d < 10 → is_text_byte (48 + d) ≡ true
digit_is_text d lt = grind (arith, nat_tests)

short_is_text : (d : ℕ) → d < 10 → IsText (114 ∷ (48 + d) ∷ [])
short_is_text d lt = rw (digit_is_text d lt) refl

long_is_text : (d e : ℕ) → d < 10 → e < 10 → IsText (114 ∷ (48 + d) ∷ (48 + e) ∷ [])
long_is_text d e p q = rw (digit_is_text d p, digit_is_text e q) refl

pub record IsLabel (bytes : List ℕ) : Type 0 where
  pub text : IsText bytes
  pub few : length bytes ≤ 3

pub label_good : (row : ℕ) → row < 100 → IsLabel (label row)
label_good row lt =
    elim (cases_lt row 10) [
      | inl low ↦ subst IsLabel (sym (label_short row low)) (record { text = short_is_text row low; few = omega arith })
      | inr high ↦ subst IsLabel (sym (label_long row high lt)) (record { text = long_is_text (row / 10) (row % 10) (omega arith) (omega arith); few = omega arith })
    ]
