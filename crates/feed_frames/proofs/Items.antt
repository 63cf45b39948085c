-- A frame that is an item of its delivery, and items one after the other.
use Rattle.std.proofs.Common.{◌≡◌, ℕ, ◌+◌, ◌<◌, ◌≤◌, false, not, nat_lt, nat_le, List, [], ◌∷◌, ◌++◌, length, Option, None, refl, sym, ap, ◌∙◌, arith, append_assoc, append-nil}
use Rattle.std.specs.List.{flat_map, filter_map}
use Rattle.std.proofs.lemmas.Grind.{common_steps, flat_map-append}
use Rattle.std.proofs.lemmas.List.Elements.{filter_map-append}
use Rattle.adg_model.specs.Feed.{Item, Standing, IsItem, IsIn, AreItems, items_bytes, item_bytes, schedule_of, payload_total, redo_total, payload_fault, length_fault, redo_tag, command_tag, schedule_tag, is_in, most_payload, most_redo, most_commands, asked}
use Rattle.adg_model.specs.Feed.Item.{Redo, Asks, Schedules}
use Rattle.feed_frames.proofs.Faults.{first_none, second_none, fails_none}

-- a number of which the test for a range finds nothing wrong
pub in_range : (most n : ℕ) → not (is_in most n) ≡ false → IsIn most n
in_range most n h = grind (arith, common_steps)

pub at_least_one : (n : ℕ) → not (nat_le 1 n) ≡ false → 1 ≤ n
at_least_one n h = grind (arith, common_steps)

not_above : (most n : ℕ) → nat_lt most n ≡ false → n ≤ most
not_above most n h = grind (arith, common_steps)

pub below_most : (most n : ℕ) → nat_le most n ≡ false → n < most
below_most most n h = grind (arith, common_steps)

pub redo_item : (st : Standing) (before : List Item) (len thread : ℕ) (bytes : List ℕ) → length_fault st before redo_tag len ≡ None → payload_fault st before redo_tag (thread ∷ []) ≡ None → len ≡ 1 + length bytes
    → IsItem st before (Redo thread bytes)
redo_item st before len thread bytes h p e =
    let payload : payload_total before + len ≤ most_payload = not_above _ _ (fails_none _ _ (first_none _ _ (second_none _ _ h))) in
    let redo : st.redo + redo_total before + len ≤ most_redo = not_above _ _ (fails_none _ _ (first_none _ _ (second_none _ _ (second_none _ _ h)))) in
    (in_range _ _ (fails_none _ _ (first_none _ _ p)), record { payload = omega (arith, payload, e); redo = omega (arith, redo, e) })

pub command_item : (st : Standing) (before : List Item) (len session : ℕ) (text : List ℕ) → length_fault st before command_tag len ≡ None → payload_fault st before command_tag (session ∷ []) ≡ None → len ≡ 1 + length text
    → st.redo + redo_total before ≤ most_redo → IsItem st before (Asks session text)
command_item st before len session text h p e w =
    let short = in_range 1025 len (fails_none _ _ (first_none _ _ h)) in
    let payload : payload_total before + len ≤ most_payload = not_above _ _ (fails_none _ _ (first_none _ _ (second_none _ _ h))) in
    let few : asked session before < most_commands = below_most _ _ (fails_none _ _ (second_none _ _ p)) in
    (in_range _ _ (fails_none _ _ (first_none _ _ p)), omega (arith, short.1, e), few, record { payload = omega (arith, payload, e); redo = omega (arith, w) })

pub schedule_item : (st : Standing) (before : List Item) (len : ℕ) (bytes : List ℕ) → length_fault st before schedule_tag len ≡ None → len ≡ length bytes
    → st.redo + redo_total before ≤ most_redo → IsItem st before (Schedules bytes)
schedule_item st before len bytes h e w =
    let some : 1 ≤ len = at_least_one len (fails_none _ _ (first_none _ _ h)) in
    let payload : payload_total before + len ≤ most_payload = not_above _ _ (fails_none _ _ (first_none _ _ (second_none _ _ h))) in
    (omega (arith, some, e), record { payload = omega (arith, payload, e); redo = omega (arith, w) })

-- any schedule bytes are good
pub schedule_good : (st : Standing) (before : List Item) (payload : List ℕ) → payload_fault st before schedule_tag payload ≡ None
schedule_good st before [] = refl
schedule_good st before (x ∷ xs) = refl

-- what one more item adds to a list of those that give something
pub gives_one : {Y : Type 0} (h : Item → Option Y) (before : List Item) (item : Item) (list : List Y) (y : Y) → list ≡ filter_map h before → filter_map h (item ∷ []) ≡ y ∷ [] → list ++ y ∷ [] ≡ filter_map h (before ++ item ∷ [])
gives_one h before item list y e s = ap (λ l. l ++ y ∷ []) e ∙ sym (filter_map-append h before (item ∷ []) ∙ ap (λ l. filter_map h before ++ l) s)

pub gives_none : {Y : Type 0} (h : Item → Option Y) (before : List Item) (item : Item) (list : List Y) → list ≡ filter_map h before → filter_map h (item ∷ []) ≡ [] → list ≡ filter_map h (before ++ item ∷ [])
gives_none h before item list e s = e ∙ sym (filter_map-append h before (item ∷ []) ∙ ap (λ l. filter_map h before ++ l) s ∙ append-nil (filter_map h before))

pub gives_bytes : (before : List Item) (item : Item) (list : List ℕ) → list ≡ flat_map schedule_of before → list ++ schedule_of item ≡ flat_map schedule_of (before ++ item ∷ [])
gives_bytes before item list e =
    ap (λ l. l ++ schedule_of item) e ∙ sym (flat_map-append schedule_of before (item ∷ []) ∙ ap (λ l. flat_map schedule_of before ++ l) (append-nil (schedule_of item)))

-- one more item
pub items_push : (st : Standing) (before items : List Item) (item : Item) → AreItems st before items → IsItem st (before ++ items) item → AreItems st before (items ++ item ∷ [])
items_push st before [] item h i = (rw append-nil at i, tt)
items_push st before (x ∷ xs) item h i = (h.0, items_push st (before ++ x ∷ []) xs item h.1 (rw append_assoc i))

pub bytes_push : (items : List Item) (item : Item) → items_bytes (items ++ item ∷ []) ≡ items_bytes items ++ item_bytes item
bytes_push items item = flat_map-append item_bytes items (item ∷ []) ∙ ap (λ l. items_bytes items ++ l) (append-nil (item_bytes item))

pub bytes_none : (before : List Item) (item : Item) (list : List ℕ) → list ≡ flat_map schedule_of before → schedule_of item ≡ [] → list ≡ flat_map schedule_of (before ++ item ∷ [])
bytes_none before item list e none = sym (append-nil list) ∙ ap (λ l. list ++ l) (sym none) ∙ gives_bytes before item list e
