-- How a scan hands over rows, step by step.
use Rattle.std.proofs.Common.{◌≡◌, ℕ, ◌+◌, ◌*◌, ◌≤◌, Bool, true, false, List, [], ◌∷◌, ◌++◌, length, Option, option_map, refl, sym, ap, subst, ◌∙◌, arith, append_assoc}
use Rattle.std.specs.Int.{from_bool}
use Rattle.std.specs.Prelude.{option_to_list}
use Rattle.std.specs.List.{AllByRecursion, filter_map, flat_map, range_with_len}
use Rattle.std.proofs.lemmas.List.{append-nil, length-map}
use Rattle.adg_base.specs.Address.{Place, block_places}
use Rattle.adg_base.specs.declared.value.Value.{Value}
use Rattle.adg_base.specs.declared.placed.PlacedRow.{PlacedRow}
use Rattle.adg_model.specs.Database.{Rows}
use Rattle.adg_model.specs.Query.{padded}
use Rattle.hybrid_scan.specs.declared.scan.ExtentCounts.{ExtentCounts}
use Rattle.hybrid_scan.specs.Reader.{placed, placed_at, StillCovers}
use Rattle.hybrid_scan.specs.Scan.{wide, wide_rows, extent_rows}
use Rattle.hybrid_scan.specs.Progress.{nth_place, HasAdded, HasScanned}
use Rattle.hybrid_scan.proofs.Places.{nth_places, places_are, places_more, blocks_are, blocks_more, length_places, length_block}
use Rattle.hybrid_scan.proofs.Found.{one_if}
use Rattle.hybrid_scan.proofs.Blocks.{filter_map_more, filter_map_same, wide_placed, length_filter_map}
use Rattle.std.proofs.lemmas.List.Elements.{filter_map-append}

abbrev RowsOf : Type 0
RowsOf = List (List Value)

pub length_append : {X : Type 0} (xs ys : List X) → length (xs ++ ys) ≡ length xs + length ys
length_append [] ys = omega arith
length_append (x ∷ xs) ys = let h = length_append xs ys in omega (arith, h)

-- one more address, whose row is the store's
pub scanned_more : (f h : Place → Option (List Value)) (places : List Place) (a : Place) (row : Option (List Value)) (before now after : RowsOf) (counts counts' : ExtentCounts) (s0 s1 s2 : ℕ)
    → HasScanned (filter_map f places) (filter_map h places) before now counts s0 s1 → HasAdded row now after counts counts' s1 s2 → row ≡ f a → row ≡ h a
    → HasScanned (filter_map f (places ++ a ∷ [])) (filter_map h (places ++ a ∷ [])) before after counts' s0 s2
scanned_more f h places a row before now after counts counts' s0 s1 s2 come added is is_kept =
    let more : filter_map f (places ++ a ∷ []) ≡ filter_map f places ++ option_to_list row = filter_map_more f places a ∙ ap (λ r. filter_map f places ++ option_to_list r) (sym is) in
    let long = length_append (filter_map f places) (option_to_list row) in
    let longer : length (filter_map f (places ++ a ∷ [])) ≡ length (filter_map f places) + length (option_to_list row) = ap length more ∙ long in
    let kept_more : length (filter_map h (places ++ a ∷ [])) ≡ length (filter_map h places) + length (option_to_list row) =
    ap length (filter_map_more h places a ∙ ap (λ r. filter_map h places ++ option_to_list r) (sym is_kept)) ∙ length_append (filter_map h places) (option_to_list row) in
    record {
      added = added.added ∙ ap (λ l. l ++ option_to_list row) come.added ∙ append_assoc before (filter_map f places) (option_to_list row) ∙ ap (λ l. before ++ l) (sym more);
      count = omega (arith, longer, come.count, added.columns, added.blocks);
      blocks = omega (arith, kept_more, come.blocks, added.blocks);
      cost = omega (arith, come.cost, added.cost, added.blocks);
    }

pub nothing_scanned : (before : RowsOf) (s : ℕ) → HasScanned [] [] before before (record { from_columns = 0; from_blocks = 0 }) s s
nothing_scanned before s = record { added = sym (append-nil before); count = refl; blocks = refl; cost = omega arith }

-- how long the list is, and how large the counts
pub scanned_length : (f : Place → Option (List Value)) (stored : RowsOf) (places : List Place) (n : ℕ) (before now : RowsOf) (counts : ExtentCounts) (s0 s1 : ℕ) → HasScanned (filter_map f places) stored before now counts s0 s1 → length places ≡ n
    → (length now ≤ length before + n) × (counts.from_columns ≤ n) × (counts.from_blocks ≤ n)
scanned_length f stored places n before now counts s0 s1 come long =
    let most = length_filter_map f places in
    let all : length now ≡ length before + length (filter_map f places) = ap length come.added ∙ length_append before (filter_map f places) in
    (omega (arith, most, all, long), omega (arith, most, come.count, long), omega (arith, most, come.count, long))

pub still_again : (C C' C'' : ℕ → Type 0) (R R' R'' : ℕ → Rows) → StillCovers C C' R R' → StillCovers C' C'' R' R'' → StillCovers C C'' R R''
still_again C C' C'' R R' R'' h k q c =
    let first = h q c in
    let second = k q first.0 in
    (second.0, λ a. second.1 a ∙ first.1 a)

-- all addresses of the extent
pub all_scanned : (f h : Place → Option (List Value)) (obj extent n : ℕ) (before now : RowsOf) (counts : ExtentCounts) (s0 s1 : ℕ) → n ≡ 1024 → HasScanned (filter_map f (nth_places obj extent n)) (filter_map h (nth_places obj extent n)) before now counts s0 s1
    → HasScanned (extent_rows f obj extent) (extent_rows h obj extent) before now counts s0 s1
unfolding extent_rows
all_scanned f h obj extent n before now counts s0 s1 whole come =
    subst (λ places. HasScanned (filter_map f places) (filter_map h places) before now counts s0 s1) (ap (nth_places obj extent) whole ∙ sym (places_are obj extent)) come

pub all_blocks : (f : Place → Option (List Value)) (obj extent n : ℕ) (before now : RowsOf) (counts : ExtentCounts) (s0 s1 : ℕ) → n ≡ 16 → HasScanned (filter_map f (flat_map (block_places obj) (range_with_len (16 * extent) n))) (filter_map f (flat_map (block_places obj) (range_with_len (16 * extent) n))) before now counts s0 s1
    → HasScanned (extent_rows f obj extent) (extent_rows f obj extent) before now counts s0 s1
unfolding extent_rows
all_blocks f obj extent n before now counts s0 s1 whole come =
    subst (λ k. HasScanned (filter_map f (flat_map (block_places obj) (range_with_len (16 * extent) k))) (filter_map f (flat_map (block_places obj) (range_with_len (16 * extent) k))) before now counts s0 s1) whole come

abbrev pub first_blocks : ℕ → ℕ → ℕ → List Place
first_blocks obj extent n = flat_map (block_places obj) (range_with_len (16 * extent) n)

pub length_blocks : (obj extent n : ℕ) → length (first_blocks obj extent n) ≡ 64 * n
length_blocks obj extent n = ap length (blocks_are obj extent n) ∙ length_places obj extent (64 * n)

all_same : (width : ℕ) (store store' : Rows) → ((a : Place) → store' a ≡ store a) → (places : List Place) → AllByRecursion (λ a. wide width store' a ≡ wide width store a) places
all_same width store store' same [] = tt
all_same width store store' same (a ∷ places) = (ap (option_map (padded width)) (same a), all_same width store store' same places)

pub length_placed : (store : Rows) (obj block : ℕ) → length (placed store (block_places obj block)) ≤ 64
length_placed store obj block =
    let most = length_filter_map (λ a. option_map (placed_at a) (store a)) (block_places obj block) in
    let long = length_block obj block in
    omega (arith, most, long)

-- one more block
pub block_more : (width : ℕ) (store store' : Rows) (obj extent n : ℕ) (rows : List PlacedRow) (before now after : RowsOf) (counts : ExtentCounts) (s0 s1 s2 : ℕ)
    → HasScanned (filter_map (wide width store) (first_blocks obj extent n)) (filter_map (wide width store) (first_blocks obj extent n)) before now counts s0 s1 → ((a : Place) → store' a ≡ store a)
    → rows ≡ placed store' (block_places obj (16 * extent + n)) → after ≡ now ++ wide_rows width rows → s2 ≡ s1 + length rows
    → HasScanned (filter_map (wide width store) (first_blocks obj extent (n + 1))) (filter_map (wide width store) (first_blocks obj extent (n + 1))) before after (record counts { from_blocks = counts.from_blocks + length rows }) s0 s2
block_more width store store' obj extent n rows before now after counts s0 s1 s2 come same is added cost =
    let f = wide width store in
    let block = block_places obj (16 * extent + n) in
    let new : wide_rows width rows ≡ filter_map f block = ap (wide_rows width) is ∙ wide_placed width store' block ∙ filter_map_same (wide width store') f block (all_same width store store' same block) in
    let more : filter_map f (first_blocks obj extent (n + 1)) ≡ filter_map f (first_blocks obj extent n) ++ wide_rows width rows =
    ap (filter_map f) (blocks_more obj extent n) ∙ filter_map-append f (first_blocks obj extent n) block ∙ ap (λ l. filter_map f (first_blocks obj extent n) ++ l) (sym new) in
    let long = length_append (filter_map f (first_blocks obj extent n)) (wide_rows width rows) in
    let as_long = length-map rows (λ r. padded width r.row) in
    let longer : length (filter_map f (first_blocks obj extent (n + 1))) ≡ length (filter_map f (first_blocks obj extent n)) + length (wide_rows width rows) = ap length more ∙ long in
    record {
      added = added ∙ ap (λ l. l ++ wide_rows width rows) come.added ∙ append_assoc before (filter_map f (first_blocks obj extent n)) (wide_rows width rows) ∙ ap (λ l. before ++ l) (sym more);
      count = omega (arith, longer, as_long, come.count);
      blocks = omega (arith, longer, as_long, come.blocks);
      cost = omega (arith, come.cost, cost);
    }

-- the rows of a block as they were counted
pub with_length : (f : Place → Option (List Value)) (obj extent n : ℕ) (before after : RowsOf) (counts : ExtentCounts) (s0 s1 long counted : ℕ) → counted ≡ long
    → HasScanned (filter_map f (first_blocks obj extent n)) (filter_map f (first_blocks obj extent n)) before after (record counts { from_blocks = counts.from_blocks + long }) s0 s1
    → HasScanned (filter_map f (first_blocks obj extent n)) (filter_map f (first_blocks obj extent n)) before after (record counts { from_blocks = counts.from_blocks + counted }) s0 s1
with_length f obj extent n before after counts s0 s1 long counted is come =
    subst (λ k. HasScanned (filter_map f (first_blocks obj extent n)) (filter_map f (first_blocks obj extent n)) before after (record counts { from_blocks = counts.from_blocks + k }) s0 s1) (sym is) come

pub more_places : (f h : Place → Option (List Value)) (obj extent n : ℕ) (before after : RowsOf) (counts : ExtentCounts) (s0 s1 : ℕ) → HasScanned (filter_map f (nth_places obj extent n ++ nth_place obj extent n ∷ [])) (filter_map h (nth_places obj extent n ++ nth_place obj extent n ∷ [])) before after counts s0 s1
    → HasScanned (filter_map f (nth_places obj extent (n + 1))) (filter_map h (nth_places obj extent (n + 1))) before after counts s0 s1
more_places f h obj extent n before after counts s0 s1 come = subst (λ places. HasScanned (filter_map f places) (filter_map h places) before after counts s0 s1) (sym (places_more obj extent n)) come

pub one_most : (b : Bool) → one_if b ≤ 1
one_most true = omega arith
one_most false = omega arith

pub as_one : (b : Bool) → from_bool b ≡ one_if b
as_one true = refl
as_one false = refl
