-- The marks of an extent by the numbers of its addresses.
use Rattle.std.proofs.Common.{◌≡◌, ℕ, ◌+◌, ◌-◌, ◌/◌, ◌%◌, ◌^◌, ◌≤◌, ◌<◌, Bool, true, false, ◌==◌, List, get_or, refl, sym, ap, ◌∙◌, arith}
use Rattle.std.specs.Prelude.{nat_lt}
use Rattle.std.specs.Int.{bit_at, trailing_zeros, w64}
use Rattle.std.proofs.lemmas.Bool.Decides.{nat_tests}
use Rattle.std.proofs.lemmas.Nat.{shr-shr}
use Rattle.std.proofs.lemmas.Nat.Bits.{bit_at-zero, bit_at_above, bit_at-trailing_zeros}
use Rattle.hybrid_scan.specs.Progress.{marks_nth, AreClear}

-- more addresses of a block that are not marked
pub clear_more : (map : List ℕ) (from index n word : ℕ) → get_or map (index / 64) 0 ≡ word → AreClear map from index → index % 64 + n ≤ 64
    → ((k : ℕ) → index % 64 ≤ k → k < index % 64 + n → bit_at word k ≡ 0) → AreClear map from (index + n)
clear_more map from index n word is so_far most clear k above below = by_side (nat_lt k index) refl
  where
    by_side : (b : Bool) → nat_lt k index ≡ b → marks_nth map k ≡ false
    by_side true h = so_far k above (grind (arith, nat_tests))
    by_side false h =
        let later : index ≤ k = grind (arith, nat_tests) in
        let block : k / 64 ≡ index / 64 = omega (arith, later, below, most) in
        let bit : bit_at word (k % 64) ≡ 0 = clear (k % 64) (omega (arith, later, below, most)) (omega (arith, later, below, most)) in
        ap (λ w. bit_at (get_or map w 0) (k % 64) == 1) block ∙ ap (λ w. bit_at w (k % 64) == 1) is ∙ ap (λ b. b == 1) bit

pub marked_here : (map : List ℕ) (index word : ℕ) → get_or map (index / 64) 0 ≡ word → bit_at word (index % 64) ≡ 1 → marks_nth map index ≡ true
marked_here map index word is bit = ap (λ w. bit_at w (index % 64) == 1) is ∙ ap (λ b. b == 1) bit

-- the bits of a word from a slot on
later_bit : (word slot k : ℕ) → slot ≤ k → bit_at word k ≡ bit_at (word / 2 ^ slot) (k - slot)
later_bit word slot k above =
    let e : k ≡ slot + (k - slot) = omega (arith, above) in
    ap (bit_at word) e ∙ sym (ap (λ x. x % 2) (shr-shr word slot (k - slot)))

pub rest_none : (word slot : ℕ) → word / 2 ^ slot ≡ 0 → (k : ℕ) → slot ≤ k → bit_at word k ≡ 0
rest_none word slot none k above = later_bit word slot k above ∙ ap (λ r. bit_at r (k - slot)) none ∙ bit_at-zero (k - slot)

-- how many slots from one on are not marked
pub record NotMarked (word slot n : ℕ) : Type 0 where
  pub most : slot + n < 64
  pub clear : (k : ℕ) → slot ≤ k → k < slot + n → bit_at word k ≡ 0
  pub marked : n ≡ 0 → bit_at word slot ≡ 1

pub rest_some : (word slot rest : ℕ) → rest ≡ word / 2 ^ slot → word < 2 ^ 64 → 0 < rest → rest < 2 ^ 64 → NotMarked word slot (trailing_zeros w64 rest)
rest_some word slot rest is fits some small = record { most = by_side (nat_lt (slot + n) 64) refl; clear = clear; marked = marked }
  where
    n : ℕ
    n = trailing_zeros w64 rest

    low : (n < 64) × (bit_at rest n ≡ 1) × ((i : ℕ) → i < n → bit_at rest i ≡ 0)
    low = bit_at-trailing_zeros w64 rest some small

    up : (k : ℕ) → slot ≤ k → bit_at word k ≡ bit_at rest (k - slot)
    up k above = later_bit word slot k above ∙ ap (λ r. bit_at r (k - slot)) (sym is)

    there : bit_at word (slot + n) ≡ 1
    there = let e : slot + n - slot ≡ n = omega arith in up (slot + n) (omega arith) ∙ ap (bit_at rest) e ∙ low.1

    clear : (k : ℕ) → slot ≤ k → k < slot + n → bit_at word k ≡ 0
    clear k above below = up k above ∙ low.2 (k - slot) (omega (arith, above, below))

    marked : n ≡ 0 → bit_at word slot ≡ 1
    marked none = let e : slot ≡ slot + n = omega (arith, none) in ap (bit_at word) e ∙ there

    by_side : (b : Bool) → nat_lt (slot + n) 64 ≡ b → slot + n < 64
    by_side true h = grind (arith, nat_tests)
    by_side false h =
        let above : 64 ≤ slot + n = grind (arith, nat_tests) in
        let none = bit_at_above word 64 (slot + n) fits above in
        absurd (omega (arith, none, there))
