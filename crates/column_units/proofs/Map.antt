-- The map of an extent with one more address marked.
use Rattle.std.proofs.Common.{◌≡◌, ℕ, ◌*◌, ◌/◌, ◌%◌, ◌<◌, ◌^◌, ◌==◌, Bool, true, false, ◌||◌, List, length, get_or, set, bit_or, w64, refl, sym, ap, subst, ◌∙◌, arith, inl, inr, ◌⊎◌}
use Rattle.std.specs.Int.{bit_at}
use Rattle.std.proofs.Math.Bool.{or-false}
use Rattle.std.proofs.lemmas.Bool.{cases_eq}
use Rattle.std.proofs.lemmas.Bool.Decides.{nat_tests}
use Rattle.std.proofs.lemmas.List.{get_or-set_other}
use Rattle.std.proofs.lemmas.Grind.{get_or-set_at}
use Rattle.std.proofs.lemmas.Nat.Bits.{bit_at_set_same, bit_at_set_other}
use Rattle.adg_base.specs.Address.{Place, same_place}
use Rattle.column_codec.specs.Extent.{is_in_extent}
use Rattle.column_units.specs.Unit.{marks}

or_true : (b : Bool) → true ≡ (b || true)
or_true true = refl
or_true false = refl

pub marked_more : (map : List ℕ) (a b : Place) → length map ≡ 16 → a.slot < 64 → is_in_extent a.obj (a.block / 16) b ≡ true
    → marks (set map (a.block % 16) (bit_or (get_or map (a.block % 16) 0) (1 * 2 ^ a.slot % 2 ^ 64))) b ≡ (marks map b || same_place b a)
marked_more map a b long within here = by_block (cases_eq (b.block % 16) (a.block % 16))
  where
    word : ℕ
    word = bit_or (get_or map (a.block % 16) 0) (1 * 2 ^ a.slot % 2 ^ 64)

    other : same_place b a ≡ false → marks map b ≡ (marks map b || same_place b a)
    other e = sym (or-false (marks map b)) ∙ ap (λ x. marks map b || x) (sym e)

    by_slot : b.block % 16 ≡ a.block % 16 → ((b.slot ≡ a.slot) ⊎ (b.slot ≡ a.slot → ⊥)) → (bit_at word b.slot == 1) ≡ (marks map b || same_place b a)
    by_slot e (inl f) =
        let same : same_place b a ≡ true = grind (arith, nat_tests) in
        ap (λ n. bit_at word n == 1) f ∙ ap (λ n. n == 1) (bit_at_set_same w64 (get_or map (a.block % 16) 0) a.slot within)
        ∙ or_true (marks map b) ∙ ap (λ x. marks map b || x) (sym same)
    by_slot e (inr f) =
        let apart : same_place b a ≡ false = grind (arith, nat_tests) in
        ap (λ n. n == 1) (bit_at_set_other w64 (get_or map (a.block % 16) 0) a.slot within b.slot f)
        ∙ ap (λ n. bit_at (get_or map n 0) b.slot == 1) (sym e) ∙ other apart

    by_block : ((b.block % 16 ≡ a.block % 16) ⊎ (b.block % 16 ≡ a.block % 16 → ⊥)) → marks (set map (a.block % 16) word) b ≡ (marks map b || same_place b a)
    by_block (inl e) =
        ap (λ x. bit_at x b.slot == 1) (get_or-set_at map (a.block % 16) (b.block % 16) word 0 e (omega (arith, long))) ∙ by_slot e (cases_eq b.slot a.slot)
    by_block (inr e) =
        let apart : same_place b a ≡ false = grind (arith, nat_tests) in
        ap (λ x. bit_at x b.slot == 1) (get_or-set_other map (a.block % 16) (b.block % 16) word 0 e) ∙ other apart

-- the same, with the block and the slot as they were read
pub marked_at : (map : List ℕ) (a b : Place) (block slot : ℕ) → block ≡ a.block → slot ≡ a.slot → length map ≡ 16 → slot < 64 → is_in_extent a.obj (a.block / 16) b ≡ true
    → marks (set map (block % 16) (bit_or (get_or map (block % 16) 0) (1 * 2 ^ slot % 2 ^ 64))) b ≡ (marks map b || same_place b a)
marked_at map a b block slot eb es long within here =
    subst (λ n. marks (set map (n % 16) (bit_or (get_or map (n % 16) 0) (1 * 2 ^ slot % 2 ^ 64))) b ≡ (marks map b || same_place b a)) (sym eb)
    (subst (λ s. marks (set map (a.block % 16) (bit_or (get_or map (a.block % 16) 0) (1 * 2 ^ s % 2 ^ 64))) b ≡ (marks map b || same_place b a)) (sym es)
    (marked_more map a b long (omega (arith, es, within)) here))

-- an address lies in its own extent
pub own_extent : (a : Place) (obj extent : ℕ) → a.slot < 64 → obj ≡ a.obj → extent ≡ a.block / 16 → is_in_extent obj extent a ≡ true
own_extent a obj extent within eo ee = grind (arith, nat_tests)
