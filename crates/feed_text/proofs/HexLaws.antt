-- Bytes in hexadecimal are read again.
use Rattle.std.proofs.Common.{◌≡◌, ℕ, zero, suc, ◌+◌, ◌-◌, ◌*◌, ◌/◌, ◌%◌, ◌^◌, ◌<◌, ◌≤◌, Bool, true, false, cond, eqb, ltb, get_or, List, [], ◌∷◌, ◌++◌, length, Some, refl, sym, ap, ◌∙◌, append_assoc, arith, lit<, lit≤}
use Rattle.std.specs.Prelude.{replicate}
use Rattle.std.specs.List.{flat_map, AllByRecursion}
use Rattle.std.specs.Fmt.{decimal}
use Rattle.std.proofs.lemmas.Bool.{eqb-true, eq-eqb, ne_eqb}
use Rattle.std.proofs.lemmas.List.{append-nil, replicate_more}
use Rattle.feed_text.specs.Reading.{number_at}
use Rattle.feed_text.specs.LineReading.{split, onto_first, hex_value, whole, times_of, run_of, runs_of, hex_of}
use Rattle.feed_text.specs.Hex.{Run, IsRun, hex_digit, times_text, run_text, runs_text, run, runs_from, runs, hex_text}
use Rattle.adg_model.proofs.CommandLaws.{IsDigit, decimal_digits}
use Rattle.feed_text.proofs.NumberLaws.{number_again}

-- all bytes are above this one
abbrev pub Above : ℕ → List ℕ → Type 0
Above low text = AllByRecursion (λ c. low < c) text

other : (a b : ℕ) → b < a → eqb a b ≡ false
other a b lt = ne_eqb a b (λ e. omega arith)

-- a part that has no separator
pub split_part : (sep : ℕ) (part rest : List ℕ) → Above sep part → split sep (part ++ sep ∷ rest) ≡ part ∷ split sep rest
split_part sep [] rest h = rw (eq-eqb sep sep refl) refl
split_part sep (c ∷ part) rest h = rw (other c sep h.0) (ap (onto_first c) (split_part sep part rest h.1))

pub split_last : (sep : ℕ) (part : List ℕ) → Above sep part → split sep part ≡ part ∷ []
split_last sep [] h = refl
split_last sep (c ∷ part) h = rw (other c sep h.0) (ap (onto_first c) (split_last sep part h.1))

-- ---- one word

digit_again : (n : ℕ) → n < 16 → hex_value (hex_digit n) ≡ Some n
digit_again zero h = refl
digit_again (suc zero) h = refl
digit_again (suc (suc zero)) h = refl
digit_again (suc (suc (suc zero))) h = refl
digit_again (suc (suc (suc (suc zero)))) h = refl
digit_again (suc (suc (suc (suc (suc zero))))) h = refl
digit_again (suc (suc (suc (suc (suc (suc zero)))))) h = refl
digit_again (suc (suc (suc (suc (suc (suc (suc zero))))))) h = refl
digit_again (suc (suc (suc (suc (suc (suc (suc (suc zero)))))))) h = refl
digit_again (suc (suc (suc (suc (suc (suc (suc (suc (suc zero))))))))) h = refl
digit_again (suc (suc (suc (suc (suc (suc (suc (suc (suc (suc zero)))))))))) h = refl
digit_again (suc (suc (suc (suc (suc (suc (suc (suc (suc (suc (suc zero))))))))))) h = refl
digit_again (suc (suc (suc (suc (suc (suc (suc (suc (suc (suc (suc (suc zero)))))))))))) h = refl
digit_again (suc (suc (suc (suc (suc (suc (suc (suc (suc (suc (suc (suc (suc zero))))))))))))) h = refl
digit_again (suc (suc (suc (suc (suc (suc (suc (suc (suc (suc (suc (suc (suc (suc zero)))))))))))))) h = refl
digit_again (suc (suc (suc (suc (suc (suc (suc (suc (suc (suc (suc (suc (suc (suc (suc zero))))))))))))))) h = refl
digit_again (suc (suc (suc (suc (suc (suc (suc (suc (suc (suc (suc (suc (suc (suc (suc (suc n)))))))))))))))) h = absurd (omega arith)

alone_again : (n : ℕ) → n < 2 ^ 64 → whole (number_at (2 ^ 64 - 1) (decimal n)) ≡ Some n
alone_again n lt = ap (λ (l : List ℕ). whole (number_at (2 ^ 64 - 1) l)) (sym (append-nil (decimal n))) ∙ ap whole (number_again (2 ^ 64 - 1) n [] (omega arith) lt refl)

times_cases : (n : ℕ) (one : Bool) → eqb n 1 ≡ one → n < 2 ^ 64 → times_of (cond one [] (42 ∷ decimal n)) ≡ Some n
times_cases n true e lt = ap Some (sym (eqb-true n 1 e))
times_cases n false e lt = alone_again n lt

times_again : (n : ℕ) → n < 2 ^ 64 → times_of (times_text n) ≡ Some n
times_again n lt = times_cases n (eqb n 1) refl lt

-- a byte and how often it stands
run_again : (r : Run) → IsRun r → run_of (run_text r) ≡ Some (r.byte, r.count)
unfolding run_of
run_again r good =
    let high = digit_again (r.byte / 16) (omega (arith, good.0)) in
    let low = digit_again (r.byte % 16) (omega arith) in
    let times = times_again r.count good.2 in
    let byte : r.byte / 16 * 16 + r.byte % 16 ≡ r.byte = omega arith in
    rw (high, low, times, byte) refl

-- ---- all bytes of a word are above a blank

digit_above : (n : ℕ) → 47 < hex_digit n
digit_above n = cases (ltb n 10) where
  cases : (small : Bool) → 47 < cond small (48 + n) (87 + n)
  cases true = omega arith
  cases false = omega arith

pub above_append : (low : ℕ) (xs ys : List ℕ) → Above low xs → Above low ys → Above low (xs ++ ys)
above_append low [] ys h k = k
above_append low (x ∷ xs) ys h k = (h.0, above_append low xs ys h.1 k)

pub above_less : (low lower : ℕ) (xs : List ℕ) → lower ≤ low → Above low xs → Above lower xs
above_less low lower [] le h = tt
above_less low lower (x ∷ xs) le h = (omega (arith, h.0), above_less low lower xs le h.1)

digits_above : (ds : List ℕ) → AllByRecursion IsDigit ds → Above 32 ds
digits_above [] h = tt
digits_above (d ∷ ds) h = (omega (arith, h.0.0), digits_above ds h.1)

pub decimal_above : (n : ℕ) → n < 2 ^ 64 → Above 32 (decimal n)
decimal_above n lt = digits_above (decimal n) (decimal_digits n lt)

times_above : (n : ℕ) (one : Bool) → n < 2 ^ 64 → Above 32 (cond one [] (42 ∷ decimal n))
times_above n true lt = tt
times_above n false lt = (lit< tt, decimal_above n lt)

run_above : (r : Run) → IsRun r → Above 32 (run_text r)
run_above r good = (omega (arith, digit_above (r.byte / 16)), (omega (arith, digit_above (r.byte % 16)), times_above r.count (eqb r.count 1) good.2))

-- ---- words one after another

abbrev pub run_bytes : Run → List ℕ
run_bytes r = replicate r.count r.byte

words_again : (r : Run) (rs : List Run) → IsRun r → AllByRecursion IsRun rs → runs_of (split 32 (run_text r ++ runs_text rs)) ≡ Some (run_bytes r ++ flat_map run_bytes rs)
unfolding runs_of
words_again r [] good all =
    let parts : split 32 (run_text r ++ []) ≡ run_text r ∷ [] = ap (split 32) (append-nil (run_text r)) ∙ split_last 32 (run_text r) (run_above r good) in
    rw (parts, run_again r good) refl
words_again r (s ∷ ss) good all =
    let parts : split 32 (run_text r ++ (32 ∷ (run_text s ++ runs_text ss))) ≡ run_text r ∷ split 32 (run_text s ++ runs_text ss) = split_part 32 (run_text r) (run_text s ++ runs_text ss) (run_above r good) in
    rw (parts, run_again r good, words_again s ss all.0 all.1) refl

runs_again : (rs : List Run) → AllByRecursion IsRun rs → hex_of (runs_text rs) ≡ Some (flat_map run_bytes rs)
unfolding hex_of
runs_again [] all = refl
runs_again (r ∷ rs) all = words_again r rs all.0 all.1

-- ---- the runs of bytes

abbrev pub IsBytes : List ℕ → Type 0
IsBytes bytes = AllByRecursion (λ b. b < 2 ^ 8) bytes

from_step : (r : Run) (b : ℕ) (bytes : List ℕ) (same : Bool) → eqb b r.byte ≡ same
    → flat_map run_bytes (runs_from (run r.byte (r.count + 1)) bytes) ≡ replicate (r.count + 1) r.byte ++ bytes
    → flat_map run_bytes (runs_from (run b 1) bytes) ≡ b ∷ bytes
    → flat_map run_bytes (cond same (runs_from (run r.byte (r.count + 1)) bytes) (r ∷ runs_from (run b 1) bytes)) ≡ replicate r.count r.byte ++ (b ∷ bytes)
from_step r b bytes true e more others =
    let is : b ≡ r.byte = eqb-true b r.byte e in
    more ∙ ap (λ (l : List ℕ). l ++ bytes) (sym (replicate_more r.count r.byte)) ∙ append_assoc (replicate r.count r.byte) (r.byte ∷ []) bytes
    ∙ ap (λ (x : ℕ). replicate r.count r.byte ++ (x ∷ bytes)) (sym is)
from_step r b bytes false e more others = ap (λ (l : List ℕ). replicate r.count r.byte ++ l) others

from_spells : (r : Run) (bytes : List ℕ) → flat_map run_bytes (runs_from r bytes) ≡ replicate r.count r.byte ++ bytes
from_spells r [] = refl
from_spells r (b ∷ bytes) = from_step r b bytes (eqb b r.byte) refl (from_spells (run r.byte (r.count + 1)) bytes) (from_spells (run b 1) bytes)

runs_spell : (bytes : List ℕ) → flat_map run_bytes (runs bytes) ≡ bytes
runs_spell [] = refl
runs_spell (b ∷ bytes) = from_spells (run b 1) bytes

good_step : (r : Run) (c : ℕ) (bytes : List ℕ) (same : Bool) → IsRun r → AllByRecursion IsRun (runs_from (run r.byte (r.count + 1)) bytes) → AllByRecursion IsRun (runs_from (run c 1) bytes)
    → AllByRecursion IsRun (cond same (runs_from (run r.byte (r.count + 1)) bytes) (r ∷ runs_from (run c 1) bytes))
good_step r c bytes true good longer others = longer
good_step r c bytes false good longer others = (good, others)

from_good : (r : Run) (bytes : List ℕ) → r.byte < 2 ^ 8 → 1 ≤ r.count → r.count + length bytes < 2 ^ 64 → IsBytes bytes → AllByRecursion IsRun (runs_from r bytes)
from_good r [] b one few all = ((b, one, omega arith), tt)
from_good r (c ∷ bytes) b one few all =
    good_step r c bytes (eqb c r.byte) (b, one, omega arith) (from_good (run r.byte (r.count + 1)) bytes b (omega arith) (omega arith) all.1) (from_good (run c 1) bytes all.0 (omega arith) (omega arith) all.1)

runs_good : (bytes : List ℕ) → length bytes < 2 ^ 64 → IsBytes bytes → AllByRecursion IsRun (runs bytes)
runs_good [] few all = tt
runs_good (b ∷ bytes) few all = from_good (run b 1) bytes all.0 (omega arith) (omega arith) all.1

pub hex_again : (bytes : List ℕ) → length bytes < 2 ^ 64 → IsBytes bytes → hex_of (hex_text bytes) ≡ Some bytes
hex_again bytes few all = runs_again (runs bytes) (runs_good bytes few all) ∙ ap Some (runs_spell bytes)

-- a text in hexadecimal has no newline
runs_above : (rs : List Run) → AllByRecursion IsRun rs → Above 10 (runs_text rs)
runs_above [] all = tt
runs_above (r ∷ rs) all = (lit< tt, above_append 10 (run_text r) (runs_text rs) (above_less 32 10 (run_text r) (lit≤ tt) (run_above r all.0)) (runs_above rs all.1))

pub hex_above : (bytes : List ℕ) → length bytes < 2 ^ 64 → IsBytes bytes → Above 10 (hex_text bytes)
hex_above bytes few all = runs_above (runs bytes) (runs_good bytes few all)

pub bytes_all : (bytes : List ℕ) → ((i : ℕ) → get_or bytes i 0 < 2 ^ 8) → IsBytes bytes
bytes_all [] h = tt
bytes_all (b ∷ bytes) h = (h 0, bytes_all bytes (λ i. h (suc i)))
