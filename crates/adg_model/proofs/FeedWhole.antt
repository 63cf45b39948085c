-- Laws of whole feeds: no frame goes on as another, so that the deliveries of a feed are its only ones, and a whole feed has no fault.
use Rattle.std.proofs.Common.{◌≡◌, ℕ, ◌+◌, ◌<◌, ◌≤◌, ◌^◌, Bool, true, List, [], ◌∷◌, ◌++◌, length, get_or, take, drop, Option, Some, None, refl, sym, ap, ap₂, ◌∙◌, subst, arith, append_assoc, append-nil, ⊎_elim}
use Rattle.std.specs.Prelude.{if◌then◌else◌}
use Rattle.std.specs.List.{AllByRecursion}
use Rattle.std.specs.Int.{w32, to_be_bytes, from_be_bytes}
use Rattle.std.proofs.lemmas.List.{length-append}
use Rattle.std.proofs.lemmas.Nat.{from_be_bytes-to_be_bytes_4}
use Rattle.std.proofs.lemmas.Bool.{le-leb}
use Rattle.adg_model.specs.declared.fault.FeedKind.{FeedKind}
use Rattle.adg_model.specs.Feed.{Item, Redo, Asks, Schedules, magic, frame, header_tag, redo_tag, command_tag, schedule_tag, end_tag, stop_tag, payload_of, tag_of, item_bytes, items_bytes, end_bytes, stop_bytes, delivery_bytes, opening_bytes, deliveries_bytes, payload_len, payload_total, redo_total, asked, most_payload, most_redo, most_deliveries, most_commands, most_text, Standing, start, after_delivery, after_deliveries, IsIn, IsItem, AreItems, AreDeliveries, IsHeader, IsFeed, BeginsFeed, ◌else_check◌, has_length, stated, tag_fault, length_fault, payload_fault, frame_fault, header_payload_fault, first_frame_fault, IsCut, FrameFails, DeliveryFails, MagicFails, HeaderFails, LaterFails, FeedFails}
use Rattle.adg_model.proofs.VectorsSpelled.{Apart, fronts}
use Rattle.adg_model.proofs.FeedLaws.{item_fits}

-- ---- no frame goes on as another

pub apart_32 : Apart (to_be_bytes w32) (λ n. n < 2 ^ 32)
apart_32 a b x y la lb e =
    (sym (from_be_bytes-to_be_bytes_4 a la) ∙ ap (λ t. from_be_bytes w32 (take 4 t)) e ∙ from_be_bytes-to_be_bytes_4 b lb, ap (drop 4) e)

pub frame_apart : (tag tag' : ℕ) (p p' x y : List ℕ) → length p < 2 ^ 32 → length p' < 2 ^ 32 → frame tag p ++ x ≡ frame tag' p' ++ y → (tag ≡ tag') × (p ≡ p') × (x ≡ y)
unfolding frame
frame_apart tag tag' p p' x y short short' e =
    let first : tag ≡ tag' = ap (λ l. get_or l 0 0) e in
    let lens = apart_32 (length p) (length p') (p ++ x) (p' ++ y) short short' (ap (drop 1) e) in
    let both = fronts p p' x y lens.0 lens.1 in
    (first, both.0, both.1)

-- the first byte is the tag
pub frame_heads : (tag tag' : ℕ) (p p' x y : List ℕ) → frame tag p ++ x ≡ frame tag' p' ++ y → tag ≡ tag'
unfolding frame
frame_heads tag tag' p p' x y e = ap (λ l. get_or l 0 0) e

pub item_not_end : (item : Item) → tag_of item ≡ end_tag → ⊥
item_not_end (Redo t b) e = omega (arith, e)
item_not_end (Asks s t) e = omega (arith, e)
item_not_end (Schedules b) e = omega (arith, e)

pub item_not_stop : (item : Item) → tag_of item ≡ stop_tag → ⊥
item_not_stop (Redo t b) e = omega (arith, e)
item_not_stop (Asks s t) e = omega (arith, e)
item_not_stop (Schedules b) e = omega (arith, e)

-- an item whose payload's length has a spelling
abbrev pub IsShort : Item → Type 0
IsShort item = payload_len item < 2 ^ 32

pub item_short : (st : Standing) (before : List Item) (item : Item) → IsItem st before item → IsShort item
item_short st before item h = let fits = item_fits st before item h in omega (arith, fits.payload)

pub items_short : (st : Standing) (before items : List Item) → AreItems st before items → AllByRecursion IsShort items
items_short st before [] h = tt
items_short st before (item ∷ items) h = (item_short st before item h.0, items_short st (before ++ item ∷ []) items h.1)

same_item : (a b : Item) → tag_of a ≡ tag_of b → payload_of a ≡ payload_of b → a ≡ b
same_item (Redo t b) (Redo u c) tags payloads = cc
same_item (Asks s t) (Asks u c) tags payloads = cc
same_item (Schedules b) (Schedules c) tags payloads = cc
same_item a b tags payloads = absurd (omega (arith, tags))

pub item_apart : (a b : Item) (x y : List ℕ) → IsShort a → IsShort b → item_bytes a ++ x ≡ item_bytes b ++ y → (a ≡ b) × (x ≡ y)
item_apart a b x y short short' e =
    let p = frame_apart (tag_of a) (tag_of b) (payload_of a) (payload_of b) x y short short' e in
    (same_item a b p.0 p.1, p.2)

-- the first item before the others and what follows
pub first_item : (item : Item) (items : List Item) (x : List ℕ) → items_bytes (item ∷ items) ++ x ≡ item_bytes item ++ (items_bytes items ++ x)
first_item item items x = append_assoc (item_bytes item) (items_bytes items) x

pub items_apart : (is js : List Item) (x y : List ℕ) → AllByRecursion IsShort is → AllByRecursion IsShort js → items_bytes is ++ (end_bytes ++ x) ≡ items_bytes js ++ (end_bytes ++ y) → (is ≡ js) × (x ≡ y)
items_apart [] [] x y h k e =
    let p = frame_apart end_tag end_tag [] [] x y (omega arith) (omega arith) e in
    (refl, p.2)
items_apart [] (b ∷ js) x y h k e =
    absurd (item_not_end b (sym (frame_heads end_tag (tag_of b) [] (payload_of b) x (items_bytes js ++ (end_bytes ++ y)) (e ∙ first_item b js (end_bytes ++ y)))))
items_apart (a ∷ is) [] x y h k e =
    absurd (item_not_end a (frame_heads (tag_of a) end_tag (payload_of a) [] (items_bytes is ++ (end_bytes ++ x)) y (sym (first_item a is (end_bytes ++ x)) ∙ e)))
items_apart (a ∷ is) (b ∷ js) x y h k e =
    let p = item_apart a b (items_bytes is ++ (end_bytes ++ x)) (items_bytes js ++ (end_bytes ++ y)) h.0 k.0 (sym (first_item a is (end_bytes ++ x)) ∙ e ∙ first_item b js (end_bytes ++ y)) in
    let later = items_apart is js x y h.1 k.1 p.1 in
    (ap₂ (λ l ls. l ∷ ls) p.0 later.0, later.1)

-- ---- the deliveries of a feed are its only ones

pub first_delivery : (d : List Item) (ds : List (List Item)) (x : List ℕ) → deliveries_bytes (d ∷ ds) ++ x ≡ items_bytes d ++ (end_bytes ++ (deliveries_bytes ds ++ x))
first_delivery d ds x = append_assoc (delivery_bytes d) (deliveries_bytes ds) x ∙ append_assoc (items_bytes d) end_bytes (deliveries_bytes ds ++ x)

delivery_not_stop : (d : List Item) (x y : List ℕ) → items_bytes d ++ (end_bytes ++ x) ≡ stop_bytes ++ y → ⊥
delivery_not_stop [] x y e =
    let tags : end_tag ≡ stop_tag = frame_heads end_tag stop_tag [] [] x y e in
    omega (arith, tags)
delivery_not_stop (a ∷ is) x y e =
    item_not_stop a (frame_heads (tag_of a) stop_tag (payload_of a) [] (items_bytes is ++ (end_bytes ++ x)) y (sym (first_item a is (end_bytes ++ x)) ∙ e))

pub deliveries_rest : (st st' : Standing) (ds es : List (List Item)) (rest y : List ℕ) → AreDeliveries st ds → AreDeliveries st' es → deliveries_bytes ds ++ rest ≡ deliveries_bytes es ++ (stop_bytes ++ y) → (more : List (List Item)) × (es ≡ ds ++ more) × (rest ≡ deliveries_bytes more ++ (stop_bytes ++ y))
deliveries_rest st st' [] es rest y h k e = (es, refl, e)
deliveries_rest st st' (d ∷ ds) [] rest y h k e =
    absurd (delivery_not_stop d (deliveries_bytes ds ++ rest) y (sym (first_delivery d ds rest) ∙ e))
deliveries_rest st st' (d ∷ ds) (f ∷ fs) rest y h k e =
    let p = items_apart d f (deliveries_bytes ds ++ rest) (deliveries_bytes fs ++ (stop_bytes ++ y)) (items_short st [] d h.0.0) (items_short st' [] f k.0.0) (sym (first_delivery d ds rest) ∙ e ∙ first_delivery f fs (stop_bytes ++ y)) in
    let later = deliveries_rest (after_delivery st d) (after_delivery st' f) ds fs rest y h.1 k.1 p.1 in
    (later.0, ap₂ (λ l ls. l ∷ ls) (sym p.0) later.1, later.2)

pub opening_apart : (t s t' s' : ℕ) (x y : List ℕ) → opening_bytes t s ++ x ≡ opening_bytes t' s' ++ y → (t ≡ t') × (s ≡ s') × (x ≡ y)
unfolding frame
opening_apart t s t' s' x y e = (ap (λ l. get_or l 13 0) e, ap (λ l. get_or l 14 0) e, ap (drop 15) e)

-- a reading of the opening and some deliveries, beside that of a whole feed, with what is left
pub feeds_rest : (bytes : List ℕ) (t s : ℕ) (ds : List (List Item)) (rest : List ℕ) → IsFeed t s ds → bytes ≡ opening_bytes t s ++ deliveries_bytes ds ++ rest → (t' s' : ℕ) (ds' : List (List Item)) (unread : List ℕ) → BeginsFeed bytes t' s' ds' unread → (t ≡ t') × (s ≡ s') × ((more : List (List Item)) × (ds' ≡ ds ++ more) × (rest ≡ deliveries_bytes more ++ (stop_bytes ++ unread)))
feeds_rest bytes t s ds rest h e t' s' ds' unread whole =
    let left = append_assoc (opening_bytes t s) (deliveries_bytes ds) rest in
    let right = append_assoc (opening_bytes t' s' ++ deliveries_bytes ds') stop_bytes unread ∙ append_assoc (opening_bytes t' s') (deliveries_bytes ds') (stop_bytes ++ unread) in
    let p = opening_apart t s t' s' (deliveries_bytes ds ++ rest) (deliveries_bytes ds' ++ (stop_bytes ++ unread)) (sym left ∙ sym e ∙ whole.spelled ∙ right) in
    (p.0, p.1, deliveries_rest (start t s) (start t' s') ds ds' rest unread h.1 whole.feed.1 p.2)

pub deliveries_are_one : (bytes : List ℕ) (t s : ℕ) (ds : List (List Item)) (rest : List ℕ) → IsFeed t s ds → bytes ≡ opening_bytes t s ++ deliveries_bytes ds ++ rest → (t' s' : ℕ) (ds' : List (List Item)) (unread : List ℕ) → BeginsFeed bytes t' s' ds' unread → (t ≡ t') × (s ≡ s') × ((more : List (List Item)) × (ds' ≡ ds ++ more))
deliveries_are_one bytes t s ds rest h e t' s' ds' unread whole =
    let p = feeds_rest bytes t s ds rest h e t' s' ds' unread whole in
    (p.0, p.1, (p.2.0, p.2.1))

-- ---- a frame of a feed has no fault

-- the check shows nothing, and the frame is not cut short
pub record IsGood (st : Standing) (before : List Item) (bytes : List ℕ) : Type 0 where
  pub passes : frame_fault st before bytes ≡ None
  pub whole : IsCut bytes → ⊥

says_length : (payload more : List ℕ) → length payload < 2 ^ 32 → stated (to_be_bytes w32 (length payload) ++ (payload ++ more)) ≡ length payload
says_length payload more short = from_be_bytes-to_be_bytes_4 (length payload) short

has_its_length : (n : ℕ) (more : List ℕ) → has_length (to_be_bytes w32 n ++ more) ≡ true
has_its_length n more = le-leb 4 (length (to_be_bytes w32 n ++ more)) (omega arith)

pub frame_not_cut : (tag : ℕ) (payload more : List ℕ) → length payload < 2 ^ 32 → IsCut (frame tag payload ++ more) → ⊥
unfolding frame
frame_not_cut tag payload more short cut =
    let says = says_length payload more short in
    let long = length-append payload more in
    ⊎_elim (λ few. omega (arith, few)) (λ few. omega (arith, says, long, few)) cut

pub frame_fault_whole : (st : Standing) (before : List Item) (tag : ℕ) (payload more : List ℕ) → length payload < 2 ^ 32 → frame_fault st before (frame tag payload ++ more) ≡ tag_fault before tag else_check length_fault st before tag (length payload) else_check payload_fault st before tag (payload ++ more)
unfolding frame frame_fault
frame_fault_whole st before tag payload more short =
    ap₂ (λ (b : Bool) (n : ℕ). tag_fault before tag else_check (if b then length_fault st before tag n else_check payload_fault st before tag (payload ++ more) else None)) (has_its_length (length payload) (payload ++ more)) (says_length payload more short)

-- a frame that passes each check
frame_good : (st : Standing) (before : List Item) (tag : ℕ) (payload more : List ℕ) → length payload < 2 ^ 32 → tag_fault before tag ≡ None → length_fault st before tag (length payload) ≡ None → payload_fault st before tag (payload ++ more) ≡ None → IsGood st before (frame tag payload ++ more)
frame_good st before tag payload more short tags lens firsts = record {
  passes = frame_fault_whole st before tag payload more short ∙ ap₂ (λ a b. a else_check b else_check payload_fault st before tag (payload ++ more)) tags lens ∙ firsts;
  whole = frame_not_cut tag payload more short;
}

redo_length : (st : Standing) (before : List Item) (len : ℕ) → 1 ≤ len → payload_total before + len ≤ most_payload → st.redo + redo_total before + len ≤ most_redo → length_fault st before redo_tag len ≡ None
redo_length st before len some fits redo_fits = grind arith

command_length : (st : Standing) (before : List Item) (len : ℕ) → 1 ≤ len → len ≤ most_text + 1 → payload_total before + len ≤ most_payload → length_fault st before command_tag len ≡ None
command_length st before len some few fits = grind arith

schedule_length : (st : Standing) (before : List Item) (len : ℕ) → 1 ≤ len → payload_total before + len ≤ most_payload → length_fault st before schedule_tag len ≡ None
schedule_length st before len some fits = grind arith

end_length : (st : Standing) (before : List Item) → st.ends < most_deliveries → length_fault st before end_tag 0 ≡ None
end_length st before few = grind arith

redo_first : (st : Standing) (before : List Item) (thread : ℕ) (others : List ℕ) → IsIn st.threads thread → payload_fault st before redo_tag (thread ∷ others) ≡ None
redo_first st before thread others h = let low : 1 ≤ thread = h.0 in let high : thread ≤ st.threads = h.1 in grind arith

command_first : (st : Standing) (before : List Item) (session : ℕ) (others : List ℕ) → IsIn st.sessions session → asked session before < most_commands → payload_fault st before command_tag (session ∷ others) ≡ None
command_first st before session others h few = let low : 1 ≤ session = h.0 in let high : session ≤ st.sessions = h.1 in grind arith

schedule_first : (st : Standing) (before : List Item) (bytes : List ℕ) → payload_fault st before schedule_tag bytes ≡ None
schedule_first st before [] = refl
schedule_first st before (b ∷ bytes) = refl

end_first : (st : Standing) (before : List Item) (bytes : List ℕ) → payload_fault st before end_tag bytes ≡ None
end_first st before [] = refl
end_first st before (b ∷ bytes) = refl

stop_first : (st : Standing) (before : List Item) (bytes : List ℕ) → payload_fault st before stop_tag bytes ≡ None
stop_first st before [] = refl
stop_first st before (b ∷ bytes) = refl

pub good_item : (st : Standing) (before : List Item) (item : Item) → IsItem st before item → (more : List ℕ) → IsGood st before (item_bytes item ++ more)
good_item st before (Redo t b) h more =
    let fits = h.1 in
    frame_good st before redo_tag (t ∷ b) more (item_short st before (Redo t b) h) refl (redo_length st before (length (t ∷ b)) (omega arith) fits.payload (omega (arith, fits.redo))) (redo_first st before t (b ++ more) h.0)
good_item st before (Asks s t) h more =
    let fits = h.3 in
    let few : length t ≤ most_text = h.1 in
    frame_good st before command_tag (s ∷ t) more (item_short st before (Asks s t) h) refl (command_length st before (length (s ∷ t)) (omega arith) (omega (arith, few)) fits.payload) (command_first st before s (t ++ more) h.0 h.2)
good_item st before (Schedules b) h more =
    let fits = h.1 in
    frame_good st before schedule_tag b more (item_short st before (Schedules b) h) refl (schedule_length st before (length b) h.0 fits.payload) (schedule_first st before (b ++ more))

pub good_end : (st : Standing) (before : List Item) → st.ends < most_deliveries → (more : List ℕ) → IsGood st before (end_bytes ++ more)
good_end st before few more = frame_good st before end_tag [] more (omega arith) refl (end_length st before few) (end_first st before more)

pub good_stop : (st : Standing) (before : List Item) → before ≡ [] → (more : List ℕ) → IsGood st before (stop_bytes ++ more)
good_stop st before none more =
    subst (λ is. IsGood st is (stop_bytes ++ more)) (sym none) (frame_good st [] stop_tag [] more (omega arith) refl refl (stop_first st [] more))

-- ---- a whole feed has no fault

none_fails : (check : Option FeedKind) (offset : ℕ) (rest : List ℕ) (kind : FeedKind) (byte : ℕ) → check ≡ None → (IsCut rest → ⊥) → FrameFails check offset rest kind byte → ⊥
none_fails check offset rest kind byte passes whole fails =
    ⊎_elim (λ shown. let clash : None ≡ Some kind = sym passes ∙ shown.0 in absurd cc) (λ cut. whole cut.1) fails

-- the frame after some items of a delivery that is whole
pub good_within : (st : Standing) (before is js : List Item) (rest y : List ℕ) → AreItems st before is → AreItems st before js → st.ends < most_deliveries → items_bytes is ++ rest ≡ items_bytes js ++ (end_bytes ++ y) → IsGood st (before ++ is) rest
good_within st before [] [] rest y h k few e =
    subst (λ l. IsGood st l rest) (sym (append-nil before)) (subst (IsGood st before) (sym e) (good_end st before few y))
good_within st before [] (j ∷ js) rest y h k few e =
    subst (λ l. IsGood st l rest) (sym (append-nil before)) (subst (IsGood st before) (sym (e ∙ first_item j js (end_bytes ++ y))) (good_item st before j k.0 (items_bytes js ++ (end_bytes ++ y))))
good_within st before (i ∷ is) [] rest y h k few e =
    absurd (item_not_end i (frame_heads (tag_of i) end_tag (payload_of i) [] (items_bytes is ++ rest) y (sym (first_item i is rest) ∙ e)))
good_within st before (i ∷ is) (j ∷ js) rest y h k few e =
    let p = item_apart i j (items_bytes is ++ rest) (items_bytes js ++ (end_bytes ++ y)) (item_short st before i h.0) (item_short st before j k.0) (sym (first_item i is rest) ∙ e ∙ first_item j js (end_bytes ++ y)) in
    let others : AreItems st (before ++ i ∷ []) js = subst (λ l. AreItems st (before ++ l ∷ []) js) (sym p.0) k.1 in
    let later = good_within st (before ++ i ∷ []) is js rest y h.1 others few p.1 in
    subst (λ l. IsGood st l rest) (append_assoc before (i ∷ []) is) later

-- the frame after some items, where whole deliveries and a stop follow
pub good_after : (st : Standing) (more : List (List Item)) (is : List Item) (rest y : List ℕ) → AreDeliveries st more → AreItems st [] is → items_bytes is ++ rest ≡ deliveries_bytes more ++ (stop_bytes ++ y) → IsGood st is rest
good_after st [] [] rest y h k e = subst (IsGood st []) (sym e) (good_stop st [] refl y)
good_after st [] (i ∷ is) rest y h k e =
    absurd (item_not_stop i (frame_heads (tag_of i) stop_tag (payload_of i) [] (items_bytes is ++ rest) y (sym (first_item i is rest) ∙ e)))
good_after st (d ∷ more) is rest y h k e =
    good_within st [] is d rest (deliveries_bytes more ++ (stop_bytes ++ y)) k h.0.0 h.0.1 (e ∙ first_delivery d more (stop_bytes ++ y))

deliveries_after : (st : Standing) (ds more : List (List Item)) → AreDeliveries st (ds ++ more) → AreDeliveries (after_deliveries st ds) more
deliveries_after st [] more h = h
deliveries_after st (d ∷ ds) more h = deliveries_after (after_delivery st d) ds more h.1

delivery_no_fault : (st : Standing) (more : List (List Item)) (offset : ℕ) (rest y : List ℕ) (kind : FeedKind) (byte : ℕ) → AreDeliveries st more → rest ≡ deliveries_bytes more ++ (stop_bytes ++ y) → DeliveryFails st offset rest kind byte → ⊥
delivery_no_fault st more offset rest y kind byte h e f =
    let good = good_after st more f.before f.rest y h f.items (sym f.spelled ∙ e) in
    none_fails (frame_fault st f.before f.rest) (offset + length (items_bytes f.before)) f.rest kind byte good.passes good.whole f.fails

later_no_fault : (bytes : List ℕ) (t s : ℕ) (ds : List (List Item)) (unread : List ℕ) (t' s' : ℕ) (ds' : List (List Item)) (kind : FeedKind) (byte : ℕ) → BeginsFeed bytes t s ds unread → LaterFails bytes t' s' ds' kind byte → ⊥
later_no_fault bytes t s ds unread t' s' ds' kind byte whole f =
    let p = feeds_rest bytes t' s' ds' f.rest f.feed f.spelled t s ds unread whole in
    let begun : start t s ≡ start t' s' = ap₂ start (sym p.0) (sym p.1) in
    let all : AreDeliveries (start t' s') (ds' ++ p.2.0) = subst (AreDeliveries (start t' s')) p.2.1 (subst (λ (st : Standing). AreDeliveries st ds) begun whole.feed.1) in
    delivery_no_fault (after_deliveries (start t' s') ds') p.2.0 (length (opening_bytes t' s' ++ deliveries_bytes ds')) f.rest unread kind byte (deliveries_after (start t' s') ds' p.2.0 all) p.2.2 f.fails

header_payload_good : (t s : ℕ) (more : List ℕ) → IsHeader t s → header_payload_fault (t ∷ s ∷ more) ≡ None
header_payload_good t s more h =
    let a : 1 ≤ t = h.0.0 in
    let b : t ≤ 8 = h.0.1 in
    let c : 1 ≤ s = h.1.0 in
    let d : s ≤ 8 = h.1.1 in
    grind arith

pub header_passes : (t s : ℕ) (more : List ℕ) → IsHeader t s → first_frame_fault (frame header_tag (t ∷ s ∷ []) ++ more) ≡ None
unfolding frame first_frame_fault
header_passes t s more h =
    ap₂ (λ (b : Bool) (o : Option FeedKind). if b then o else None) (has_its_length 2 (t ∷ s ∷ more)) (header_payload_good t s more h)

pub opening_long : (t s : ℕ) (x : List ℕ) → (8 ≤ length (opening_bytes t s ++ x)) × (take 8 (opening_bytes t s ++ x) ≡ magic)
unfolding frame
opening_long t s x = (omega arith, refl)

pub opening_behind : (t s : ℕ) (x y : List ℕ) → magic ++ y ≡ opening_bytes t s ++ x → y ≡ frame header_tag (t ∷ s ∷ []) ++ x
unfolding frame
opening_behind t s x y e = ap (drop 8) e

pub whole_excludes_fault : (bytes : List ℕ) (t s : ℕ) (ds : List (List Item)) (unread : List ℕ) (t' s' : ℕ) (ds' : List (List Item)) (kind : FeedKind) (byte : ℕ) → BeginsFeed bytes t s ds unread → FeedFails bytes t' s' ds' kind byte → ⊥
whole_excludes_fault bytes t s ds unread t' s' ds' kind byte whole fails = ⊎_elim (λ early. ⊎_elim magic_no header_no early.1) (λ late. later_no_fault bytes t s ds unread t' s' ds' kind byte whole late) fails
  where
    behind : List ℕ
    behind = deliveries_bytes ds ++ (stop_bytes ++ unread)

    spelled : bytes ≡ opening_bytes t s ++ behind
    spelled = whole.spelled ∙ append_assoc (opening_bytes t s ++ deliveries_bytes ds) stop_bytes unread ∙ append_assoc (opening_bytes t s) (deliveries_bytes ds) (stop_bytes ++ unread)

    magic_no : MagicFails bytes kind byte → ⊥
    magic_no m =
        let open_long = opening_long t s behind in
        let long : 8 ≤ length bytes = subst (λ l. 8 ≤ length l) (sym spelled) open_long.0 in
        ⊎_elim (λ few. omega (arith, few.0, long)) (λ bad. bad.1 (ap (take 8) spelled ∙ open_long.1)) m

    header_no : HeaderFails bytes kind byte → ⊥
    header_no f =
        let e = opening_behind t s behind f.rest (sym f.spelled ∙ spelled) in
        let passes : first_frame_fault f.rest ≡ None = ap first_frame_fault e ∙ header_passes t s behind whole.feed.0 in
        let uncut : IsCut f.rest → ⊥ = λ cut. frame_not_cut header_tag (t ∷ s ∷ []) behind (omega arith) (subst IsCut e cut) in
        none_fails (first_frame_fault f.rest) (length magic) f.rest kind byte passes uncut f.fails
