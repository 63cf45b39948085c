-- A scan of an extent's columns goes over a run of addresses that are not marked.
use Rattle.std.proofs.Common.{◌≡◌, ℕ, zero, suc, ◌+◌, ◌-◌, ◌*◌, ◌/◌, ◌%◌, ◌≤◌, ◌<◌, Bool, true, false, ◌==◌, cond, if◌then◌else◌, List, [], ◌∷◌, ◌++◌, map, length, filter, get_or, Option, None, option_map, refl, sym, ap, ap₂, subst, ◌∙◌, arith}
use Rattle.std.specs.Prelude.{option_to_list, slice_get, slice_index_or, nat_lt}
use Rattle.std.specs.Int.{bit_at}
use Rattle.std.specs.List.{AllByRecursion, filter_map}
use Rattle.std.proofs.lemmas.Bool.Decides.{nat_tests}
use Rattle.std.proofs.lemmas.List.{append-nil, append_assoc}
use Rattle.std.proofs.lemmas.List.Elements.{filter-append}
use Rattle.std.proofs.lemmas.List.FromFn.{map-range_with_len_more}
use Rattle.adg_base.specs.Address.{Place, extent_places}
use Rattle.adg_base.specs.declared.value.Value.{Value}
use Rattle.adg_model.specs.Database.{Rows}
use Rattle.column_codec.specs.Values.{row_at}
use Rattle.column_codec.specs.Extent.{PlacedColumns, row_in}
use Rattle.column_units.specs.Unit.{marks}
use Rattle.column_units.specs.Look.{Look}
use Rattle.hybrid_scan.specs.declared.scan.ExtentCounts.{ExtentCounts}
use Rattle.hybrid_scan.specs.Scan.{wide, seen, stored, rows_from}
use Rattle.hybrid_scan.specs.Progress.{is_here, is_earlier, nth_place, marks_nth, AreClear, IsBorder, HasScanned}
use Rattle.hybrid_scan.proofs.Places.{nth_places, later_places, places_are, places_more, places_cut}
use Rattle.hybrid_scan.proofs.Found.{IsNext, place_if, next_place, row_here}
use Rattle.hybrid_scan.proofs.Blocks.{filter_map_more}
use Rattle.hybrid_scan.proofs.Handed.{length_append}

-- a mark by the number of its address
pub marked_is : (map : List ℕ) (obj extent index : ℕ) → index < 1024 → marks map (nth_place obj extent index) ≡ marks_nth map index
marked_is map obj extent index within =
    let word : (16 * extent + index / 64) % 16 ≡ index / 64 = omega (arith, within) in
    ap (λ w. bit_at (slice_index_or map w 0) (index % 64) == 1) word

-- what is seen, and what of it the store gives, at an address that is not marked, and at one that is
seen_clear : (look : Look) (width : ℕ) (store : Rows) (a : Place) → marks look.marked a ≡ false → seen look width store a ≡ row_in look.columns a
seen_clear look width store a clear = ap (λ b. if b then wide width store a else row_in look.columns a) clear

stored_clear : (look : Look) (width : ℕ) (store : Rows) (a : Place) → marks look.marked a ≡ false → stored look width store a ≡ None
stored_clear look width store a clear = ap (λ b. if b then wide width store a else None) clear

pub seen_marked : (look : Look) (width : ℕ) (store : Rows) (a : Place) → marks look.marked a ≡ true → wide width store a ≡ seen look width store a
seen_marked look width store a mark = sym (ap (λ b. if b then wide width store a else row_in look.columns a) mark)

pub stored_marked : (look : Look) (width : ℕ) (store : Rows) (a : Place) → marks look.marked a ≡ true → wide width store a ≡ stored look width store a
stored_marked look width store a mark = sym (ap (λ b. if b then wide width store a else None) mark)

-- how many of the first so many addresses are kept
abbrev pub kept_to : (Place → Bool) → ℕ → ℕ → ℕ → ℕ
kept_to kept obj extent index = length (filter kept (nth_places obj extent index))

-- the rows at the addresses of a run
pub record RunTo (look : Look) (width : ℕ) (store : Rows) (kept : Place → Bool) (obj extent at mark next : ℕ) : Type 0 where
  pub count : ℕ
  pub most : count + at ≤ mark
  pub place : next + count ≡ kept_to kept obj extent mark
  pub rows : filter_map (seen look width store) (nth_places obj extent mark) ≡ filter_map (seen look width store) (nth_places obj extent at) ++ rows_from look.columns next count
  pub none : filter_map (stored look width store) (nth_places obj extent mark) ≡ filter_map (stored look width store) (nth_places obj extent at)

run_by : (look : Look) (width : ℕ) (store : Rows) (kept : Place → Bool) (obj extent at next n mark : ℕ) → look.columns.addresses ≡ filter kept (extent_places obj extent) → next ≡ kept_to kept obj extent at
    → mark ≡ at + n → mark ≤ 1024 → AreClear look.marked at mark → RunTo look width store kept obj extent at mark next
run_by look width store kept obj extent at next zero mark order here is within clear =
    let same : mark ≡ at = omega (arith, is) in
    let none : next + 0 ≡ next = omega arith in
    record {
      count = 0;
      most = omega (arith, same);
      place = none ∙ here ∙ ap (kept_to kept obj extent) (sym same);
      rows = ap (λ k. filter_map (seen look width store) (nth_places obj extent k)) same ∙ sym (append-nil (filter_map (seen look width store) (nth_places obj extent at)));
      none = ap (λ k. filter_map (stored look width store) (nth_places obj extent k)) same;
    }
run_by look width store kept obj extent at next (suc n) mark order here is within clear =
    more (run_by look width store kept obj extent at next n (at + n) order here refl (omega (arith, is, within)) (λ k from to. clear k from (omega (arith, is, to))))
  where
    f : Place → Option (List Value)
    f = seen look width store

    h : Place → Option (List Value)
    h = stored look width store

    a : Place
    a = nth_place obj extent (at + n)

    as_more : mark ≡ at + n + 1
    as_more = omega (arith, is)

    here_clear : marks look.marked a ≡ false
    here_clear = marked_is look.marked obj extent (at + n) (omega (arith, is, within)) ∙ clear (at + n) (omega arith) (omega (arith, is))

    more : RunTo look width store kept obj extent at (at + n) next → RunTo look width store kept obj extent at mark next
    more r = by_here (is_here (slice_get look.columns.addresses (next + r.count)) a) refl
      where
        now : IsNext obj extent look.columns.addresses (at + n) (next + r.count)
        now = record { kept = kept; order = order; place = r.place }

        row : f a ≡ option_map (row_at look.columns.columns) (place_if (is_here (slice_get look.columns.addresses (next + r.count)) a) (next + r.count))
        row = seen_clear look width store a here_clear ∙ row_here obj extent look.columns (at + n) (next + r.count) now (omega (arith, is, within))

        grown : filter_map f (nth_places obj extent mark) ≡ (filter_map f (nth_places obj extent at) ++ rows_from look.columns next r.count) ++ option_to_list (f a)
        grown = ap (λ k. filter_map f (nth_places obj extent k)) as_more ∙ ap (filter_map f) (places_more obj extent (at + n)) ∙ filter_map_more f (nth_places obj extent (at + n)) a ∙ ap (λ l. l ++ option_to_list (f a)) r.rows

        stands : filter_map h (nth_places obj extent mark) ≡ filter_map h (nth_places obj extent at)
        stands = ap (λ k. filter_map h (nth_places obj extent k)) as_more ∙ ap (filter_map h) (places_more obj extent (at + n)) ∙ filter_map_more h (nth_places obj extent (at + n)) a
            ∙ ap₂ (λ l o. l ++ option_to_list o) r.none (stored_clear look width store a here_clear) ∙ append-nil (filter_map h (nth_places obj extent at))

        following : next + r.count + (if is_here (slice_get look.columns.addresses (next + r.count)) a then 1 else 0) ≡ kept_to kept obj extent mark
        following = next_place obj extent look.columns (at + n) (next + r.count) now (omega (arith, is, within)) ∙ ap (kept_to kept obj extent) (sym as_more)

        by_here : (b : Bool) → is_here (slice_get look.columns.addresses (next + r.count)) a ≡ b → RunTo look width store kept obj extent at mark next
        by_here true e =
            let one : next + (r.count + 1) ≡ next + r.count + 1 = omega arith in
            record {
              count = r.count + 1;
              most = omega (arith, r.most, is);
              place = one ∙ sym (ap (λ b. next + r.count + (if b then 1 else 0)) e) ∙ following;
              rows = grown ∙ ap (λ o. (filter_map f (nth_places obj extent at) ++ rows_from look.columns next r.count) ++ option_to_list o) (row ∙ ap (λ b. option_map (row_at look.columns.columns) (place_if b (next + r.count))) e)
                  ∙ append_assoc (filter_map f (nth_places obj extent at)) (rows_from look.columns next r.count) (row_at look.columns.columns (next + r.count) ∷ [])
                  ∙ ap (λ l. filter_map f (nth_places obj extent at) ++ l) (sym (map-range_with_len_more (row_at look.columns.columns) next r.count (next + r.count) refl));
              none = stands;
            }
        by_here false e =
            let same : next + r.count ≡ next + r.count + 0 = omega arith in
            record {
              count = r.count;
              most = omega (arith, r.most, is);
              place = same ∙ sym (ap (λ b. next + r.count + (if b then 1 else 0)) e) ∙ following;
              rows = grown ∙ ap (λ o. (filter_map f (nth_places obj extent at) ++ rows_from look.columns next r.count) ++ option_to_list o) (row ∙ ap (λ b. option_map (row_at look.columns.columns) (place_if b (next + r.count))) e)
                  ∙ append-nil (filter_map f (nth_places obj extent at) ++ rows_from look.columns next r.count);
              none = stands;
            }

pub run_to : (look : Look) (width : ℕ) (store : Rows) (obj extent at mark next : ℕ) → (n : IsNext obj extent look.columns.addresses at next) → at ≤ mark → mark ≤ 1024 → AreClear look.marked at mark
    → RunTo look width store n.kept obj extent at mark next
run_to look width store obj extent at mark next n upto within clear =
    let is : mark ≡ at + (mark - at) = omega (arith, upto) in
    run_by look width store n.kept obj extent at next (mark - at) mark n.order n.place is within clear

length_rows : (c : PlacedColumns) (place count : ℕ) → length (rows_from c place count) ≡ count
length_rows c place zero = refl
length_rows c place (suc count) = ap suc (length_rows c (place + 1) count)

-- the rows of a run were handed over and counted
pub run_scanned : (look : Look) (width : ℕ) (store : Rows) (kept : Place → Bool) (obj extent at mark next : ℕ) (r : RunTo look width store kept obj extent at mark next) (before now after : List (List Value)) (counts counts' : ExtentCounts) (s0 s1 k : ℕ) → k ≡ r.count
    → HasScanned (filter_map (seen look width store) (nth_places obj extent at)) (filter_map (stored look width store) (nth_places obj extent at)) before now counts s0 s1
    → after ≡ now ++ rows_from look.columns next k → counts' ≡ record counts { from_columns = counts.from_columns + k }
    → HasScanned (filter_map (seen look width store) (nth_places obj extent mark)) (filter_map (stored look width store) (nth_places obj extent mark)) before after counts' s0 s1
run_scanned look width store kept obj extent at mark next r before now after counts counts' s0 s1 k same come more counted =
    let f = seen look width store in
    let old = filter_map f (nth_places obj extent at) in
    let long : length (filter_map f (nth_places obj extent mark)) ≡ length old + r.count = ap length r.rows ∙ length_append old (rows_from look.columns next r.count) ∙ ap (λ x. length old + x) (length_rows look.columns next r.count) in
    let columns : counts'.from_columns ≡ counts.from_columns + r.count = ap (λ x. x.from_columns) counted ∙ ap (λ x. counts.from_columns + x) same in
    let blocks : counts'.from_blocks ≡ counts.from_blocks = ap (λ x. x.from_blocks) counted in
    record {
      added = more ∙ ap₂ (λ l x. l ++ rows_from look.columns next x) come.added same ∙ append_assoc before old (rows_from look.columns next r.count) ∙ ap (λ l. before ++ l) (sym r.rows);
      count = omega (arith, long, columns, blocks, come.count);
      blocks = blocks ∙ come.blocks ∙ sym (ap length r.none);
      cost = omega (arith, come.cost, blocks);
    }

-- ---- where a run ends

earlier_is : (obj extent i k : ℕ) → is_earlier (nth_place obj extent i) (nth_place obj extent k) ≡ nat_lt i k
earlier_is obj extent i k = grind (arith, nat_tests)

abbrev IsSide : Place → Bool → Place → Type 0
IsSide a b x = is_earlier x a ≡ b

side_from : (obj extent mark : ℕ) (b : Bool) (k n : ℕ) → ((i : ℕ) → k ≤ i → i < k + n → nat_lt i mark ≡ b) → AllByRecursion (IsSide (nth_place obj extent mark) b) (later_places obj extent k n)
side_from obj extent mark b k zero h = tt
side_from obj extent mark b k (suc n) h = (earlier_is obj extent k mark ∙ h k (omega arith) (omega arith), side_from obj extent mark b (k + 1) n (λ i from to. h i (omega (arith, from)) (omega (arith, to))))

all_kept : (P : Place → Type 0) (kept : Place → Bool) (xs : List Place) → AllByRecursion P xs → AllByRecursion P (filter kept xs)
all_kept P kept [] all = tt
all_kept P kept (x ∷ xs) all = by_kept (kept x) (all_kept P kept xs all.1)
  where
    by_kept : (b : Bool) → AllByRecursion P (filter kept xs) → AllByRecursion P (cond b (x ∷ filter kept xs) (filter kept xs))
    by_kept true rest = (all.0, rest)
    by_kept false rest = rest

late : (a : Place) (ys : List Place) (k : ℕ) (d : Place) → AllByRecursion (IsSide a false) ys → k < length ys → is_earlier (get_or ys k d) a ≡ false
late a [] k d all within = absurd (omega (arith, within))
late a (y ∷ ys) zero d all within = all.0
late a (y ∷ ys) (suc k) d all within = late a ys k d all.1 (omega (arith, within))

split_at : (a : Place) (xs ys : List Place) → AllByRecursion (IsSide a true) xs → AllByRecursion (IsSide a false) ys → IsBorder (xs ++ ys) a (length xs)
split_at a [] ys before after k d within = late a ys k d after within ∙ grind (arith, nat_tests)
split_at a (x ∷ xs) ys before after zero d within = before.0 ∙ grind (arith, nat_tests)
split_at a (x ∷ xs) ys before after (suc k) d within =
    let rest = split_at a xs ys before.1 after k d (omega (arith, within)) in
    rest ∙ grind (arith, nat_tests)

-- the addresses before one are those that are kept before it
pub border_is : (kept : Place → Bool) (addresses : List Place) (obj extent mark : ℕ) → addresses ≡ filter kept (extent_places obj extent) → mark ≤ 1024
    → IsBorder addresses (nth_place obj extent mark) (kept_to kept obj extent mark) × (kept_to kept obj extent mark ≤ length addresses)
border_is kept addresses obj extent mark order within = (subst (λ l. IsBorder l a (length xs)) (sym split) (split_at a xs ys before after), omega (arith, long))
  where
    a : Place
    a = nth_place obj extent mark

    rest : List Place
    rest = later_places obj extent mark (1024 - mark)

    xs : List Place
    xs = filter kept (nth_places obj extent mark)

    ys : List Place
    ys = filter kept rest

    split : addresses ≡ xs ++ ys
    split = order ∙ ap (filter kept) (places_are obj extent ∙ places_cut obj extent mark within) ∙ filter-append kept (nth_places obj extent mark) rest

    long : length addresses ≡ length xs + length ys
    long = ap length split ∙ length_append xs ys

    before : AllByRecursion (IsSide a true) xs
    before = all_kept (IsSide a true) kept (nth_places obj extent mark) (side_from obj extent mark true 0 mark (λ i from to. grind (arith, nat_tests)))

    after : AllByRecursion (IsSide a false) ys
    after = all_kept (IsSide a false) kept rest (side_from obj extent mark false mark (1024 - mark) (λ i from to. grind (arith, nat_tests)))

-- where a run ends
pub end_is : (look : Look) (width : ℕ) (store : Rows) (obj extent at mark next end : ℕ) (addr : Place) (n : IsNext obj extent look.columns.addresses at next) (r : RunTo look width store n.kept obj extent at mark next) → mark ≤ 1024 → addr ≡ nth_place obj extent mark
    → ((k : ℕ) → IsBorder look.columns.addresses addr k → next ≤ k → k ≤ next + (mark - at) → k ≤ length look.columns.addresses → end ≡ k) → end ≡ next + r.count
end_is look width store obj extent at mark next end addr n r within is found =
    let here = border_is n.kept look.columns.addresses obj extent mark n.order within in
    let few = r.most in
    found (next + r.count)
    (subst (λ a. IsBorder look.columns.addresses a (next + r.count)) (sym is) (subst (IsBorder look.columns.addresses (nth_place obj extent mark)) (sym r.place) here.0))
    (omega arith) (omega (arith, few)) (subst (λ k. k ≤ length look.columns.addresses) (sym r.place) here.1)

-- all of them are kept before the end
pub end_is_last : (look : Look) (width : ℕ) (store : Rows) (obj extent at mark next : ℕ) (n : IsNext obj extent look.columns.addresses at next) (r : RunTo look width store n.kept obj extent at mark next) → mark ≡ 1024 → length look.columns.addresses ≡ next + r.count
end_is_last look width store obj extent at mark next n r whole =
    ap length (n.order ∙ ap (filter n.kept) (places_are obj extent)) ∙ sym (ap (kept_to n.kept obj extent) whole) ∙ sym r.place

-- the next row is one of the columns or stands behind them
pub next_within : (obj extent : ℕ) (addresses : List Place) (index next : ℕ) → IsNext obj extent addresses index next → index ≤ 1024 → next ≤ length addresses
next_within obj extent addresses index next n within = subst (λ k. k ≤ length addresses) (sym n.place) (border_is n.kept addresses obj extent index n.order within).1

-- ---- the rows of a run, one after another

pub rows_more : (c : PlacedColumns) (before now after : List (List Value)) (row : List Value) (from place : ℕ) → from ≤ place → now ≡ before ++ rows_from c from (place - from) → after ≡ now ++ row ∷ [] → row ≡ row_at c.columns place
    → after ≡ before ++ rows_from c from (place + 1 - from)
rows_more c before now after row from place order so_far more is =
    let count : place + 1 - from ≡ place - from + 1 = omega (arith, order) in
    let at : from + (place - from) ≡ place = omega (arith, order) in
    more ∙ ap₂ (λ l r. l ++ r ∷ []) so_far is ∙ append_assoc before (rows_from c from (place - from)) (row_at c.columns place ∷ [])
    ∙ ap (λ l. before ++ l) (sym (ap (rows_from c from) count ∙ map-range_with_len_more (row_at c.columns) from (place - from) place at))

pub rows_long : (c : PlacedColumns) (before now : List (List Value)) (from count : ℕ) → now ≡ before ++ rows_from c from count → length now ≡ length before + count
rows_long c before now from count so_far = ap length so_far ∙ length_append before (rows_from c from count) ∙ ap (λ k. length before + k) (length_rows c from count)
