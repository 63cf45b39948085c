-- The lines of a text, and the text of numbers and cells, which is plain: it has no newline.
use Rattle.std.proofs.Common.{◌≡◌, ℕ, zero, suc, ◌+◌, ◌/◌, ◌%◌, ◌<◌, ◌≤◌, ◌==◌, nat_lt, nat_le, Bool, true, false, not, cond, ℤ, pos, negsuc, List, [], ◌∷◌, ◌++◌, refl, sym, ap, ◌∙◌, arith, append_assoc, length}
use Rattle.std.specs.Prelude.{codes, decimal}
use Rattle.std.specs.Fmt.{signed_decimal, digits, digits_onto, digit_glyph}
use Rattle.std.specs.List.{onto_first, AllByRecursion, list_all}
use Rattle.std.proofs.lemmas.Bool.{and_parts}
use Rattle.std.proofs.lemmas.Bool.Decides.{nat_tests}
use Rattle.adg_base.specs.Text.{is_text_byte, IsText}
use Rattle.adg_base.specs.declared.answer.Cell.{Cell}
use Rattle.adg_base.specs.declared.answer.Cell.TheVariants as cell
use Rattle.adg_model.specs.Reply.{cell_bytes, cells_bytes}
use Rattle.soak_run.specs.Telling.{lines_in, behind_equals}

-- ---- plain texts

abbrev pub IsPlain : List ℕ → Type 0
IsPlain text = AllByRecursion (λ b. (b == 10) ≡ false) text

pub plain_append : (xs ys : List ℕ) → IsPlain xs → IsPlain ys → IsPlain (xs ++ ys)
plain_append [] ys h k = k
plain_append (x ∷ xs) ys h k = (h.0, plain_append xs ys h.1 k)

-- a text that is written out
abbrev is_plain : List ℕ → Bool
is_plain text = list_all (λ b. not (b == 10)) text

pub plain_text : (text : List ℕ) → is_plain text ≡ true → IsPlain text
plain_text [] h = tt
plain_text (b ∷ text) h =
    let parts = and_parts (not (b == 10)) (is_plain text) h in
    (not_ten (b == 10) parts.0, plain_text text parts.1)
  where
    not_ten : (t : Bool) → not t ≡ true → t ≡ false
    not_ten true e = absurd cc
    not_ten false e = refl

plain_byte : (b : ℕ) → 11 ≤ b → (b == 10) ≡ false
plain_byte b h = grind (arith, nat_tests)

-- a digit's byte
glyph_plain : (n : ℕ) → 11 ≤ digit_glyph false (n % 10)
glyph_plain n = by_test (nat_lt (n % 10) 10)
  where
    by_test : (b : Bool) → 11 ≤ cond b (48 + n % 10) (87 + n % 10)
    by_test true = omega arith
    by_test false = omega arith

onto_plain : (k n : ℕ) (acc : List ℕ) → IsPlain acc → IsPlain (digits_onto k 10 false n acc)
onto_plain zero n acc h = h
onto_plain (suc k) n acc h =
    let more : IsPlain (digit_glyph false (n % 10) ∷ acc) = (plain_byte (digit_glyph false (n % 10)) (glyph_plain n), h) in
    either (n / 10 == 0) more (onto_plain k (n / 10) (digit_glyph false (n % 10) ∷ acc) more)
  where
    either : (b : Bool) → IsPlain (digit_glyph false (n % 10) ∷ acc) → IsPlain (digits_onto k 10 false (n / 10) (digit_glyph false (n % 10) ∷ acc))
        → IsPlain (cond b (digit_glyph false (n % 10) ∷ acc) (digits_onto k 10 false (n / 10) (digit_glyph false (n % 10) ∷ acc)))
    either true p q = p
    either false p q = q

pub decimal_plain : (n : ℕ) → IsPlain (decimal n)
unfolding digits
decimal_plain n = onto_plain 64 n [] tt

signed_plain : (z : ℤ) → IsPlain (signed_decimal z)
signed_plain (pos n) = decimal_plain n
signed_plain (negsuc n) = (refl, decimal_plain (suc n))

-- ---- digits, and what stands behind an equals sign

abbrev AreDigits : List ℕ → Type 0
AreDigits text = AllByRecursion (λ b. b < 58) text

glyph_digit : (n : ℕ) → digit_glyph false (n % 10) < 58
glyph_digit n = by_test (nat_lt (n % 10) 10) refl
  where
    small : n % 10 < 10
    small = omega arith

    by_test : (b : Bool) → nat_lt (n % 10) 10 ≡ b → cond b (48 + n % 10) (87 + n % 10) < 58
    by_test true e = omega (arith, small)
    by_test false e = absurd (grind (arith, nat_tests, small))

onto_digits : (k n : ℕ) (acc : List ℕ) → AreDigits acc → AreDigits (digits_onto k 10 false n acc)
onto_digits zero n acc h = h
onto_digits (suc k) n acc h =
    let more : AreDigits (digit_glyph false (n % 10) ∷ acc) = (glyph_digit n, h) in
    either (n / 10 == 0) more (onto_digits k (n / 10) (digit_glyph false (n % 10) ∷ acc) more)
  where
    either : (b : Bool) → AreDigits (digit_glyph false (n % 10) ∷ acc) → AreDigits (digits_onto k 10 false (n / 10) (digit_glyph false (n % 10) ∷ acc))
        → AreDigits (cond b (digit_glyph false (n % 10) ∷ acc) (digits_onto k 10 false (n / 10) (digit_glyph false (n % 10) ∷ acc)))
    either true p q = p
    either false p q = q

decimal_digits : (n : ℕ) → AreDigits (decimal n)
unfolding digits
decimal_digits n = onto_digits 64 n [] tt

digit_no_equals : (b : ℕ) → b < 58 → (b == 61) ≡ false
digit_no_equals b h = grind (arith, nat_tests)

behind_digits : (ds rest : List ℕ) → AreDigits ds → behind_equals (ds ++ rest) ≡ behind_equals rest
behind_digits [] rest h = refl
behind_digits (d ∷ ds) rest h = ap (λ (t : Bool). cond t (ds ++ rest) (behind_equals (ds ++ rest))) (digit_no_equals d h.0) ∙ behind_digits ds rest h.1

pub behind_number : (n : ℕ) (rest : List ℕ) → behind_equals (decimal n ++ rest) ≡ behind_equals rest
behind_number n rest = behind_digits (decimal n) rest (decimal_digits n)

-- ---- the last byte of a number

pub record EndsOtherwise (text : List ℕ) : Type 0 where
  pub front : List ℕ
  pub last : ℕ
  pub split : text ≡ front ++ last ∷ []
  pub other : last ≡ 100 → ⊥

onto_front : (k n : ℕ) (acc : List ℕ) → (front : List ℕ) × (digits_onto k 10 false n acc ≡ front ++ acc)
onto_front zero n acc = ([], refl)
onto_front (suc k) n acc =
    let x = digit_glyph false (n % 10) in
    let later = onto_front k (n / 10) (x ∷ acc) in
    either x (n / 10 == 0) (later.0, later.1)
  where
    either : (x : ℕ) (b : Bool) → ((front : List ℕ) × (digits_onto k 10 false (n / 10) (x ∷ acc) ≡ front ++ x ∷ acc)) → (front : List ℕ) × (cond b (x ∷ acc) (digits_onto k 10 false (n / 10) (x ∷ acc)) ≡ front ++ acc)
    either x true h = (x ∷ [], refl)
    either x false h = (h.0 ++ x ∷ [], h.1 ∙ sym (append_assoc h.0 (x ∷ []) acc))

glyph_low : (n : ℕ) → digit_glyph false (n % 10) < 100
glyph_low n = by_test (nat_lt (n % 10) 10)
  where
    by_test : (b : Bool) → cond b (48 + n % 10) (87 + n % 10) < 100
    by_test true = omega arith
    by_test false = omega arith

pub decimal_ends : (n : ℕ) → EndsOtherwise (decimal n)
unfolding digits
decimal_ends n = by_test (n / 10 == 0)
  where
    x : ℕ
    x = digit_glyph false (n % 10)

    by_test : (b : Bool) → EndsOtherwise (cond b (digit_glyph false (n % 10) ∷ []) (digits_onto 63 10 false (n / 10) (digit_glyph false (n % 10) ∷ [])))
    by_test true = record { front = []; last = digit_glyph false (n % 10); split = refl; other = λ e. omega (arith, e, glyph_low n) }
    by_test false =
        let later = onto_front 63 (n / 10) (digit_glyph false (n % 10) ∷ []) in
        record { front = later.0; last = digit_glyph false (n % 10); split = later.1; other = λ e. omega (arith, e, glyph_low n) }

pub ends_append : (xs ys : List ℕ) → EndsOtherwise ys → EndsOtherwise (xs ++ ys)
ends_append xs ys h = record { front = xs ++ h.front; last = h.last; split = ap (λ l. xs ++ l) h.split ∙ sym (append_assoc xs h.front (h.last ∷ [])); other = h.other }

-- ---- cells

text_bytes_plain : (text : List ℕ) → list_all is_text_byte text ≡ true → IsPlain text
text_bytes_plain [] h = tt
text_bytes_plain (b ∷ text) h =
    let parts = and_parts (is_text_byte b) (list_all is_text_byte text) h in
    (low b parts.0, text_bytes_plain text parts.1)
  where
    low : (b : ℕ) → is_text_byte b ≡ true → (b == 10) ≡ false
    low b e = grind (arith, nat_tests)

-- a cell whose text, if it is one, is that of a value
abbrev pub IsPlainCell : Cell → Type 0
IsPlainCell cell.Null = Unit {0}
IsPlainCell (cell.Number n) = Unit {0}
IsPlainCell (cell.Text text) = IsText text

cell_plain : (c : Cell) → IsPlainCell c → IsPlain (cell_bytes c)
cell_plain cell.Null h = plain_text (codes "NULL") refl
cell_plain (cell.Number n) h = signed_plain n
cell_plain (cell.Text text) h =
    plain_append (codes "'" ++ text) (codes "'") (refl, text_bytes_plain text (and_parts (nat_le (length text) 64) (list_all is_text_byte text) h).1) (refl, tt)

pub cells_plain : (cs : List Cell) → AllByRecursion IsPlainCell cs → IsPlain (cells_bytes cs)
cells_plain [] h = tt
cells_plain (c ∷ []) h = cell_plain c h.0
cells_plain (c ∷ d ∷ more) h = plain_append (cell_bytes c ++ codes "|") (cells_bytes (d ∷ more)) (plain_append (cell_bytes c) (codes "|") (cell_plain c h.0) (refl, tt)) (cells_plain (d ∷ more) h.1)

-- ---- the lines of a text

one_part : (xs : List ℕ) → (x : List ℕ) × (more : List (List ℕ)) × (lines_in xs ≡ x ∷ more)
one_part [] = ([], [], refl)
one_part (b ∷ xs) = by_test (b == 10) (one_part xs)
  where
    by_test : (t : Bool) → ((x : List ℕ) × (more : List (List ℕ)) × (lines_in xs ≡ x ∷ more)) → (x : List ℕ) × (more : List (List ℕ)) × (cond t ([] ∷ lines_in xs) (onto_first b (lines_in xs)) ≡ x ∷ more)
    by_test true h = ([], lines_in xs, refl)
    by_test false h = (b ∷ h.0, h.1, ap (onto_first b) h.2)

onto_append : (b : ℕ) (xs : List ℕ) (more : List (List ℕ)) → onto_first b (lines_in xs ++ more) ≡ onto_first b (lines_in xs) ++ more
onto_append b xs more =
    let h = one_part xs in
    ap (λ l. onto_first b (l ++ more)) h.2 ∙ sym (ap (λ l. onto_first b l ++ more) h.2)

-- text behind a newline
pub lines_split : (xs ys : List ℕ) → lines_in (xs ++ 10 ∷ ys) ≡ lines_in xs ++ lines_in ys
lines_split [] ys = refl
lines_split (b ∷ xs) ys =
    ap (λ l. cond (b == 10) ([] ∷ l) (onto_first b l)) (lines_split xs ys) ∙ by_test (b == 10)
  where
    by_test : (t : Bool) → cond t ([] ∷ (lines_in xs ++ lines_in ys)) (onto_first b (lines_in xs ++ lines_in ys)) ≡ cond t ([] ∷ lines_in xs) (onto_first b (lines_in xs)) ++ lines_in ys
    by_test true = refl
    by_test false = onto_append b xs (lines_in ys)

-- a plain text is one line
pub one_line : (xs : List ℕ) → IsPlain xs → lines_in xs ≡ xs ∷ []
one_line [] h = refl
one_line (b ∷ xs) h =
    ap (λ (t : Bool). cond t ([] ∷ lines_in xs) (onto_first b (lines_in xs))) h.0 ∙ ap (onto_first b) (one_line xs h.1)
