-- The addresses of an extent by their numbers.
use Rattle.std.proofs.Common.{◌≡◌, ℕ, zero, suc, ◌+◌, ◌-◌, ◌*◌, ◌/◌, ◌%◌, ◌<◌, ◌≤◌, false, ◌||◌, List, [], ◌∷◌, ◌++◌, map, length, refl, sym, ap, ap₂, ◌∙◌, arith, ◌⊎◌, inl, inr}
use Rattle.std.specs.List.{flat_map, list_any, range_with_len}
use Rattle.std.proofs.lemmas.Bool.Decides.{nat_tests}
use Rattle.std.proofs.lemmas.List.{append-nil, append_assoc, map-append}
use Rattle.std.proofs.lemmas.List.FromFn.{map-range_with_len_more}
use Rattle.adg_base.specs.Address.{Place, place, same_place, block_places, extent_places}
use Rattle.hybrid_scan.specs.Progress.{nth_place}

-- the first so many addresses of an extent
abbrev pub nth_places : ℕ → ℕ → ℕ → List Place
nth_places obj extent n = map (nth_place obj extent) (range_with_len 0 n)

range_split : (a n m : ℕ) → range_with_len a (n + m) ≡ range_with_len a n ++ range_with_len (a + n) m
range_split a zero m = let z : 0 + m ≡ m = omega arith in let e : a ≡ a + 0 = omega arith in ap (range_with_len a) z ∙ ap (λ k. range_with_len k m) e
range_split a (suc n) m =
    let s : suc n + m ≡ suc (n + m) = omega arith in
    let e : a + 1 + n ≡ a + suc n = omega arith in
    ap (range_with_len a) s ∙ ap (λ l. a ∷ l) (range_split (a + 1) n m ∙ ap (λ k. range_with_len (a + 1) n ++ range_with_len k m) e)

same_map : {X : Type 0} (f g : ℕ → X) (a b n : ℕ) → ((j : ℕ) → j < n → f (a + j) ≡ g (b + j)) → map f (range_with_len a n) ≡ map g (range_with_len b n)
same_map f g a b zero same = refl
same_map f g a b (suc n) same =
    let first : f a ≡ g b = let ea : a ≡ a + 0 = omega arith in let eb : b + 0 ≡ b = omega arith in ap f ea ∙ same 0 (omega arith) ∙ ap g eb in
    let rest = same_map f g (a + 1) (b + 1) n (λ j h. let ea : a + 1 + j ≡ a + suc j = omega arith in let eb : b + suc j ≡ b + 1 + j = omega arith in ap f ea ∙ same (suc j) (omega (arith, h)) ∙ ap g eb) in
    ap₂ (λ x xs. x ∷ xs) first rest

block_is : (obj extent n j : ℕ) → j < 64 → place obj (16 * extent + n) (0 + j) ≡ nth_place obj extent (64 * n + j)
block_is obj extent n j h =
    let eb : 16 * extent + n ≡ 16 * extent + (64 * n + j) / 64 = omega (arith, h) in
    let es : 0 + j ≡ (64 * n + j) % 64 = omega (arith, h) in
    ap₂ (λ b s. place obj b s) eb es

flat_append : (obj : ℕ) (xs ys : List ℕ) → flat_map (block_places obj) (xs ++ ys) ≡ flat_map (block_places obj) xs ++ flat_map (block_places obj) ys
flat_append obj [] ys = refl
flat_append obj (x ∷ xs) ys = ap (λ l. block_places obj x ++ l) (flat_append obj xs ys) ∙ sym (append_assoc (block_places obj x) (flat_map (block_places obj) xs) (flat_map (block_places obj) ys))

-- the addresses of the first blocks
pub blocks_are : (obj extent n : ℕ) → flat_map (block_places obj) (range_with_len (16 * extent) n) ≡ nth_places obj extent (64 * n)
blocks_are obj extent zero = refl
blocks_are obj extent (suc n) =
    let f = nth_place obj extent in
    let more : suc n ≡ n + 1 = omega arith in
    let count : 64 * suc n ≡ 64 * n + 64 = omega arith in
    let start : 0 + 64 * n ≡ 64 * n = omega arith in
    let block : block_places obj (16 * extent + n) ≡ map f (range_with_len (0 + 64 * n) 64) =
    same_map (λ s. place obj (16 * extent + n) s) f 0 (64 * n) 64 (block_is obj extent n) ∙ ap (λ k. map f (range_with_len k 64)) (sym start) in
    ap (λ k. flat_map (block_places obj) (range_with_len (16 * extent) k)) more
    ∙ ap (flat_map (block_places obj)) (range_split (16 * extent) n 1)
    ∙ flat_append obj (range_with_len (16 * extent) n) ((16 * extent + n) ∷ [])
    ∙ ap₂ (λ x y. x ++ y) (blocks_are obj extent n) (append-nil (block_places obj (16 * extent + n)) ∙ block)
    ∙ sym (map-append f (range_with_len 0 (64 * n)) (range_with_len (0 + 64 * n) 64))
    ∙ ap (map f) (sym (range_split 0 (64 * n) 64))
    ∙ ap (λ k. map f (range_with_len 0 k)) (sym count)

-- one more block
pub blocks_more : (obj extent n : ℕ) → flat_map (block_places obj) (range_with_len (16 * extent) (n + 1)) ≡ flat_map (block_places obj) (range_with_len (16 * extent) n) ++ block_places obj (16 * extent + n)
blocks_more obj extent n =
    ap (flat_map (block_places obj)) (range_split (16 * extent) n 1) ∙ flat_append obj (range_with_len (16 * extent) n) ((16 * extent + n) ∷ [])
    ∙ ap (λ l. flat_map (block_places obj) (range_with_len (16 * extent) n) ++ l) (append-nil (block_places obj (16 * extent + n)))

pub places_are : (obj extent : ℕ) → extent_places obj extent ≡ nth_places obj extent 1024
places_are obj extent = blocks_are obj extent 16

-- one more address
pub places_more : (obj extent n : ℕ) → nth_places obj extent (n + 1) ≡ nth_places obj extent n ++ nth_place obj extent n ∷ []
places_more obj extent n = map-range_with_len_more (nth_place obj extent) 0 n n (omega arith)

-- the addresses behind the first so many
abbrev pub later_places : ℕ → ℕ → ℕ → ℕ → List Place
later_places obj extent n m = map (nth_place obj extent) (range_with_len n m)

pub places_split : (obj extent n : ℕ) → n < 1024 → nth_places obj extent 1024 ≡ nth_places obj extent n ++ nth_place obj extent n ∷ later_places obj extent (n + 1) (1023 - n)
places_split obj extent n within =
    let f = nth_place obj extent in
    let all : 1024 ≡ n + suc (1023 - n) = omega (arith, within) in
    let start : 0 + n ≡ n = omega arith in
    ap (λ k. map f (range_with_len 0 k)) all ∙ ap (map f) (range_split 0 n (suc (1023 - n))) ∙ map-append f (range_with_len 0 n) (range_with_len (0 + n) (suc (1023 - n)))
    ∙ ap (λ k. map f (range_with_len 0 n) ++ map f (range_with_len k (suc (1023 - n)))) start

pub places_cut : (obj extent n : ℕ) → n ≤ 1024 → nth_places obj extent 1024 ≡ nth_places obj extent n ++ later_places obj extent n (1024 - n)
places_cut obj extent n within =
    let f = nth_place obj extent in
    let all : 1024 ≡ n + (1024 - n) = omega (arith, within) in
    let start : 0 + n ≡ n = omega arith in
    ap (λ k. map f (range_with_len 0 k)) all ∙ ap (map f) (range_split 0 n (1024 - n)) ∙ map-append f (range_with_len 0 n) (range_with_len (0 + n) (1024 - n)) ∙ ap (λ k. map f (range_with_len 0 n) ++ map f (range_with_len k (1024 - n))) start

apart : (obj extent i k : ℕ) → (i < k) ⊎ (k < i) → same_place (nth_place obj extent i) (nth_place obj extent k) ≡ false
apart obj extent i k (inl h) = grind (arith, nat_tests)
apart obj extent i k (inr h) = grind (arith, nat_tests)

-- an address is none of those before it, and none of those behind it
pub none_later : (obj extent i k n : ℕ) → i < k → list_any (same_place (nth_place obj extent i)) (later_places obj extent k n) ≡ false
none_later obj extent i k zero h = refl
none_later obj extent i k (suc n) h = ap₂ (λ b c. b || c) (apart obj extent i k (inl h)) (none_later obj extent i (k + 1) n (omega (arith, h)))

pub none_before : (obj extent i k n : ℕ) → k + n ≤ i → list_any (same_place (nth_place obj extent i)) (later_places obj extent k n) ≡ false
none_before obj extent i k zero h = refl
none_before obj extent i k (suc n) h = ap₂ (λ b c. b || c) (apart obj extent i k (inr (omega (arith, h)))) (none_before obj extent i (k + 1) n (omega (arith, h)))

length_map_range : (f : ℕ → Place) (a n : ℕ) → length (map f (range_with_len a n)) ≡ n
length_map_range f a zero = refl
length_map_range f a (suc n) = ap suc (length_map_range f (a + 1) n)

pub length_places : (obj extent n : ℕ) → length (nth_places obj extent n) ≡ n
length_places obj extent n = length_map_range (nth_place obj extent) 0 n

pub length_block : (obj block : ℕ) → length (block_places obj block) ≡ 64
length_block obj block = length_map_range (λ slot. place obj block slot) 0 64
