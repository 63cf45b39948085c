-- The rows of the first blocks of an extent, and of one block more.
use Rattle.std.proofs.Common.{◌≡◌, ℕ, zero, suc, ◌+◌, ◌*◌, ◌≤◌, ◌<◌, Bool, true, false, ◌==◌, cond, if◌then◌else◌, List, [], ◌∷◌, ◌++◌, map, length, filter, refl, sym, ap, ap₂, ◌∙◌, arith}
use Rattle.std.specs.List.{AllByRecursion, flat_map, range_with_len}
use Rattle.std.proofs.lemmas.Bool.Decides.{nat_tests}
use Rattle.std.proofs.lemmas.List.{append-nil, append_assoc, map-append}
use Rattle.std.proofs.lemmas.List.Elements.{filter-append}
use Rattle.adg_base.specs.Address.{Place, place, block_places}
use Rattle.adg_base.specs.declared.placed.PlacedRow.{PlacedRow}
use Rattle.population.specs.Building.{Building, IsRead, AreRowsOf, Fit, first_places}

range_more : (a n : ℕ) → range_with_len a (n + 1) ≡ range_with_len a n ++ (a + n) ∷ []
range_more a zero = let e : a ≡ a + 0 = omega arith in ap (λ k. k ∷ []) e
range_more a (suc n) =
    let s : suc n + 1 ≡ suc (n + 1) = omega arith in
    let e : a + 1 + n ≡ a + suc n = omega arith in
    ap (range_with_len a) s ∙ ap (λ l. a ∷ l) (range_more (a + 1) n ∙ ap (λ k. range_with_len (a + 1) n ++ k ∷ []) e)

flat_append : (obj : ℕ) (xs ys : List ℕ) → flat_map (block_places obj) (xs ++ ys) ≡ flat_map (block_places obj) xs ++ flat_map (block_places obj) ys
flat_append obj [] ys = refl
flat_append obj (x ∷ xs) ys = ap (λ l. block_places obj x ++ l) (flat_append obj xs ys) ∙ sym (append_assoc (block_places obj x) (flat_map (block_places obj) xs) (flat_map (block_places obj) ys))

places_more : (obj extent n : ℕ) → first_places obj extent (n + 1) ≡ first_places obj extent n ++ block_places obj (16 * extent + n)
places_more obj extent n =
    ap (flat_map (block_places obj)) (range_more (16 * extent) n) ∙ flat_append obj (range_with_len (16 * extent) n) ((16 * extent + n) ∷ [])
    ∙ ap (λ l. first_places obj extent n ++ l) (append-nil (block_places obj (16 * extent + n)))

-- which block an address lies in
abbrev in_block : ℕ → Place → Bool
in_block block a = a.block == block

pub all_append : {X : Type 0} (P : X → Type 0) (xs ys : List X) → AllByRecursion P xs → AllByRecursion P ys → AllByRecursion P (xs ++ ys)
all_append P [] ys h k = k
all_append P (x ∷ xs) ys h k = (h.0, all_append P xs ys h.1 k)

slots_in : (obj block b k n : ℕ) (answer : Bool) → (b == block) ≡ answer → AllByRecursion (λ a. in_block block a ≡ answer) (map (λ slot. place obj b slot) (range_with_len k n))
slots_in obj block b k zero answer e = tt
slots_in obj block b k (suc n) answer e = (e, slots_in obj block b (k + 1) n answer e)

below : (n m : ℕ) → n < m → (n == m) ≡ false
below n m h = grind (arith, nat_tests)

blocks_below : (obj block from n : ℕ) → from + n ≤ block → AllByRecursion (λ a. in_block block a ≡ false) (flat_map (block_places obj) (range_with_len from n))
blocks_below obj block from zero h = tt
blocks_below obj block from (suc n) h =
    all_append (λ a. in_block block a ≡ false) (block_places obj from) (flat_map (block_places obj) (range_with_len (from + 1) n))
    (slots_in obj block from 0 64 false (below from block (omega (arith, h)))) (blocks_below obj block (from + 1) n (omega (arith, h)))

filter_same : (p q : Place → Bool) (xs : List Place) → AllByRecursion (λ a. p a ≡ q a) xs → filter p xs ≡ filter q xs
filter_same p q [] h = refl
filter_same p q (x ∷ xs) h = ap₂ (λ b l. cond b (x ∷ l) l) h.0 (filter_same p q xs h.1)

each_weaker : (P Q : Place → Type 0) (xs : List Place) → ((a : Place) → P a → Q a) → AllByRecursion P xs → AllByRecursion Q xs
each_weaker P Q [] f h = tt
each_weaker P Q (x ∷ xs) f h = (f x h.0, each_weaker P Q xs f h.1)

same_itself : (n : ℕ) → (n == n) ≡ true
same_itself n = grind (arith, nat_tests)

rows_more : (obj extent n : ℕ) (rows more : List PlacedRow) → AreRowsOf (first_places obj extent n) rows → AreRowsOf (block_places obj (16 * extent + n)) more → AreRowsOf (first_places obj extent (n + 1)) (rows ++ more)
rows_more obj extent n rows more old new =
    let block = 16 * extent + n in
    let kept : Place → Bool = λ a. if in_block block a then new.kept a else old.kept a in
    let front : filter kept (first_places obj extent n) ≡ filter old.kept (first_places obj extent n) =
    filter_same kept old.kept (first_places obj extent n)
    (each_weaker (λ a. in_block block a ≡ false) (λ a. kept a ≡ old.kept a) (first_places obj extent n) (λ a e. ap (λ b. if b then new.kept a else old.kept a) e) (blocks_below obj block (16 * extent) n (omega arith))) in
    let back : filter kept (block_places obj block) ≡ filter new.kept (block_places obj block) =
    filter_same kept new.kept (block_places obj block)
    (each_weaker (λ a. in_block block a ≡ true) (λ a. kept a ≡ new.kept a) (block_places obj block) (λ a e. ap (λ b. if b then new.kept a else old.kept a) e) (slots_in obj block block 0 64 true (same_itself block))) in
    record {
      kept = kept;
      order = map-append (λ r. r.addr) rows more ∙ ap₂ (λ x y. x ++ y) (old.order ∙ sym front) (new.order ∙ sym back)
          ∙ sym (ap (filter kept) (places_more obj extent n) ∙ filter-append kept (first_places obj extent n) (block_places obj block));
    }

-- a block more
pub read_more : (b : Building) (more : List PlacedRow) → IsRead b → b.blocks < 16 → AreRowsOf (block_places b.obj (16 * b.extent + b.blocks)) more → Fit b.width more
    → IsRead (record b { blocks = b.blocks + 1; rows = b.rows ++ more })
read_more b more read next places fit = record {
  places = rows_more b.obj b.extent b.blocks b.rows more read.places places;
  fit = all_append (λ r. length r.row ≤ b.width) b.rows more read.fit fit;
  most = omega (arith, next);
}

-- nothing is read at first
pub read_none : (obj extent snapshot width : ℕ) → IsRead (record { obj = obj; extent = extent; snapshot = snapshot; width = width; blocks = 0; rows = [] })
read_none obj extent snapshot width = record { places = record { kept = λ a. false; order = refl }; fit = tt; most = omega arith }
