-- Lemmas on the cells of a result line.
use Rattle.std.proofs.Common.{◌≡◌, ℕ, zero, suc, ◌<◌, true, nat_le, List, [], ◌∷◌, ◌++◌, length, IsAscii, IsUtf8, codes, sym, ap, ◌∙◌, arith, append_assoc, append-nil}
use Rattle.std.specs.List.{list_all, flat_map}
use Rattle.std.proofs.lemmas.Bool.{and_parts}
use Rattle.std.proofs.lemmas.Bool.Decides.{nat_tests}
use Rattle.std.proofs.lemmas.Str.{IsUtf8-from_ascii}
use Rattle.adg_base.specs.Text.{IsText, is_text_byte}
use Rattle.adg_base.specs.declared.answer.Cell.{Cell}
use Rattle.adg_model.specs.Reply.{cell_bytes, cells_bytes}

low : (b : ℕ) → is_text_byte b ≡ true → b < 128
low b h = grind (arith, nat_tests)

-- bytes of texts are ASCII
ascii : (bytes : List ℕ) → list_all is_text_byte bytes ≡ true → IsAscii bytes
ascii [] h zero = omega arith
ascii [] h (suc i) = omega arith
ascii (b ∷ bytes) h zero = low b (and_parts (is_text_byte b) (list_all is_text_byte bytes) h).0
ascii (b ∷ bytes) h (suc i) = ascii bytes (and_parts (is_text_byte b) (list_all is_text_byte bytes) h).1 i

pub text_utf8 : (bytes : List ℕ) → IsText bytes → IsUtf8 bytes
text_utf8 bytes h = IsUtf8-from_ascii bytes (ascii bytes (and_parts (nat_le (length bytes) 64) (list_all is_text_byte bytes) h).1)

-- the first cell, and each other behind a bar
pub behind_bars : (x : Cell) (xs : List Cell) → cell_bytes x ++ flat_map (λ c. codes "|" ++ cell_bytes c) xs ≡ cells_bytes (x ∷ xs)
behind_bars x [] = append-nil (cell_bytes x)
behind_bars x (y ∷ ys) =
    ap (λ l. cell_bytes x ++ l) (append_assoc (codes "|") (cell_bytes y) (flat_map (λ c. codes "|" ++ cell_bytes c) ys) ∙ ap (λ l. codes "|" ++ l) (behind_bars y ys))
    ∙ sym (append_assoc (cell_bytes x) (codes "|") (cells_bytes (y ∷ ys)))
