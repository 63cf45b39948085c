-- Bytes that are no whole feed have at most one first fault.
use Rattle.std.proofs.Common.{◌≡◌, ℕ, ◌+◌, ◌<◌, ◌≤◌, List, [], ◌∷◌, ◌++◌, length, take, drop, Option, Some, None, ◌⊎◌, inl, inr, refl, sym, ap, ap₂, ◌∙◌, subst, arith, append_assoc, append-nil}
use Rattle.adg_model.specs.declared.fault.FeedKind.{FeedKind}
use Rattle.adg_model.specs.Feed.{Item, Standing, AreItems, AreDeliveries, IsCut, magic, header_tag, start, after_delivery, after_deliveries, frame, items_bytes, end_bytes, deliveries_bytes, opening_bytes, frame_fault, first_frame_fault, FrameFails, DeliveryFails, MagicFails, HeaderFails, LaterFails, FeedFails}
use Rattle.adg_model.specs.Laws.{OneFeedFault}
use Rattle.adg_model.proofs.FeedWhole.{IsGood, first_item, item_short, items_short, item_apart, items_apart, first_delivery, good_item, good_within, header_passes, opening_long, opening_behind, opening_apart, frame_not_cut, whole_excludes_fault}

-- the frame that begins here fails
abbrev pub Fails : Option FeedKind → List ℕ → Type 0
Fails check rest = check ≡ None → (IsCut rest → ⊥) → ⊥

-- what makes a frame fail, and that it does so in one way
frame_fails : (check : Option FeedKind) (offset : ℕ) (rest : List ℕ) (kind : FeedKind) (byte : ℕ) → FrameFails check offset rest kind byte → Fails check rest
frame_fails check offset rest kind byte (inl shown) passes whole = let clash : None ≡ Some kind = sym passes ∙ shown.0 in absurd cc
frame_fails check offset rest kind byte (inr cut) passes whole = whole cut.1

same_fault : (check : Option FeedKind) (offset : ℕ) (rest : List ℕ) (k k' : FeedKind) (b b' : ℕ) → FrameFails check offset rest k b → FrameFails check offset rest k' b' → (k ≡ k') × (b ≡ b')
same_fault check offset rest k k' b b' (inl h) (inl j) = let e : Some k ≡ Some k' = sym h.0 ∙ j.0 in (cc, h.1 ∙ sym j.1)
same_fault check offset rest k k' b b' (inl h) (inr j) = let clash : Some k ≡ None = sym h.0 ∙ j.0 in absurd cc
same_fault check offset rest k k' b b' (inr h) (inl j) = let clash : None ≡ Some k' = sym h.0 ∙ j.0 in absurd cc
same_fault check offset rest k k' b b' (inr h) (inr j) = (h.2 ∙ sym j.2, h.3 ∙ sym j.3)

-- Two readings of items up to a frame that fails are one reading.
items_same : (st : Standing) (before is js : List Item) (rest rest' : List ℕ) → AreItems st before is → AreItems st before js → items_bytes is ++ rest ≡ items_bytes js ++ rest' → Fails (frame_fault st (before ++ is) rest) rest → Fails (frame_fault st (before ++ js) rest') rest' → (is ≡ js) × (rest ≡ rest')
items_same st before [] [] rest rest' h k e f g = (refl, e)
items_same st before [] (j ∷ js) rest rest' h k e f g =
    let good : IsGood st before rest = subst (IsGood st before) (sym (e ∙ first_item j js rest')) (good_item st before j k.0 (items_bytes js ++ rest')) in
    absurd (f (ap (λ l. frame_fault st l rest) (append-nil before) ∙ good.passes) good.whole)
items_same st before (i ∷ is) [] rest rest' h k e f g =
    let good : IsGood st before rest' = subst (IsGood st before) (sym (sym e ∙ first_item i is rest)) (good_item st before i h.0 (items_bytes is ++ rest)) in
    absurd (g (ap (λ l. frame_fault st l rest') (append-nil before) ∙ good.passes) good.whole)
items_same st before (i ∷ is) (j ∷ js) rest rest' h k e f g =
    let p = item_apart i j (items_bytes is ++ rest) (items_bytes js ++ rest') (item_short st before i h.0) (item_short st before j k.0) (sym (first_item i is rest) ∙ e ∙ first_item j js rest') in
    let others : AreItems st (before ++ i ∷ []) js = subst (λ l. AreItems st (before ++ l ∷ []) js) (sym p.0) k.1 in
    let left : Fails (frame_fault st ((before ++ i ∷ []) ++ is) rest) rest = subst (λ l. Fails (frame_fault st l rest) rest) (sym (append_assoc before (i ∷ []) is)) f in
    let right : Fails (frame_fault st ((before ++ i ∷ []) ++ js) rest') rest' = subst (λ l. Fails (frame_fault st l rest') rest') (sym (append_assoc before (i ∷ []) js ∙ ap (λ l. before ++ l ∷ js) p.0)) g in
    let later = items_same st (before ++ i ∷ []) is js rest rest' h.1 others p.1 left right in
    (ap₂ (λ l ls. l ∷ ls) p.0 later.0, later.1)

-- The frames of a delivery fail in one way,
delivery_same : (st : Standing) (offset : ℕ) (rest : List ℕ) (k k' : FeedKind) (b b' : ℕ) → DeliveryFails st offset rest k b → DeliveryFails st offset rest k' b' → (k ≡ k') × (b ≡ b')
delivery_same st offset rest k k' b b' h j =
    let one = items_same st [] h.before j.before h.rest j.rest h.items j.items (sym h.spelled ∙ j.spelled) (frame_fails _ _ h.rest k b h.fails) (frame_fails _ _ j.rest k' b' j.fails) in
    let again : FrameFails (frame_fault st h.before h.rest) (offset + length (items_bytes h.before)) h.rest k' b' =
    subst (λ l. FrameFails (frame_fault st h.before l) (offset + length (items_bytes h.before)) l k' b') (sym one.1) (subst (λ l. FrameFails (frame_fault st l j.rest) (offset + length (items_bytes l)) j.rest k' b') (sym one.0) j.fails) in
    same_fault (frame_fault st h.before h.rest) (offset + length (items_bytes h.before)) h.rest k k' b b' h.fails again

-- and no delivery is whole whose frames fail.
not_whole : (st : Standing) (offset : ℕ) (rest more : List ℕ) (d : List Item) (k : FeedKind) (b : ℕ) → AreItems st [] d → st.ends < 65535 → rest ≡ items_bytes d ++ (end_bytes ++ more) → DeliveryFails st offset rest k b → ⊥
not_whole st offset rest more d k b items few e f =
    let good = good_within st [] f.before d f.rest more f.items items few (sym f.spelled ∙ e) in
    frame_fails _ _ f.rest k b f.fails good.passes good.whole

-- Two readings of whole deliveries up to one that fails are one reading.
deliveries_same : (st : Standing) (ds es : List (List Item)) (rest rest' : List ℕ) (o o' : ℕ) (k k' : FeedKind) (b b' : ℕ) → AreDeliveries st ds → AreDeliveries st es → deliveries_bytes ds ++ rest ≡ deliveries_bytes es ++ rest' → DeliveryFails (after_deliveries st ds) o rest k b → DeliveryFails (after_deliveries st es) o' rest' k' b' → (ds ≡ es) × (rest ≡ rest')
deliveries_same st [] [] rest rest' o o' k k' b b' h j e f g = (refl, e)
deliveries_same st [] (d ∷ es) rest rest' o o' k k' b b' h j e f g =
    absurd (not_whole st o rest (deliveries_bytes es ++ rest') d k b j.0.0 j.0.1 (e ∙ first_delivery d es rest') f)
deliveries_same st (d ∷ ds) [] rest rest' o o' k k' b b' h j e f g =
    absurd (not_whole st o' rest' (deliveries_bytes ds ++ rest) d k' b' h.0.0 h.0.1 (sym e ∙ first_delivery d ds rest) g)
deliveries_same st (d ∷ ds) (d' ∷ es) rest rest' o o' k k' b b' h j e f g =
    let p = items_apart d d' (deliveries_bytes ds ++ rest) (deliveries_bytes es ++ rest') (items_short st [] d h.0.0) (items_short st [] d' j.0.0) (sym (first_delivery d ds rest) ∙ e ∙ first_delivery d' es rest') in
    let others : AreDeliveries (after_delivery st d) es = subst (λ l. AreDeliveries (after_delivery st l) es) (sym p.0) j.1 in
    let right : DeliveryFails (after_deliveries (after_delivery st d) es) o' rest' k' b' = subst (λ l. DeliveryFails (after_deliveries (after_delivery st l) es) o' rest' k' b') (sym p.0) g in
    let later = deliveries_same (after_delivery st d) ds es rest rest' o o' k k' b b' h.1 others p.1 f right in
    (ap₂ (λ l ls. l ∷ ls) p.0 later.0, later.1)

later_same : (bytes : List ℕ) (t s t' s' : ℕ) (ds ds' : List (List Item)) (k k' : FeedKind) (b b' : ℕ) → LaterFails bytes t s ds k b → LaterFails bytes t' s' ds' k' b' → (ds ≡ ds') × (k ≡ k') × (b ≡ b')
unfolding frame
later_same bytes t s t' s' ds ds' k k' b b' h j =
    let p = opening_apart t s t' s' (deliveries_bytes ds ++ h.rest) (deliveries_bytes ds' ++ j.rest) (sym h.spelled ∙ j.spelled) in
    let begun : start t' s' ≡ start t s = ap₂ start (sym p.0) (sym p.1) in
    let opened : opening_bytes t' s' ≡ opening_bytes t s = ap₂ opening_bytes (sym p.0) (sym p.1) in
    let fails : DeliveryFails (after_deliveries (start t s) ds') (length (opening_bytes t s ++ deliveries_bytes ds')) j.rest k' b' =
    subst (λ (o : List ℕ). DeliveryFails (after_deliveries (start t s) ds') (length (o ++ deliveries_bytes ds')) j.rest k' b') opened (subst (λ (st : Standing). DeliveryFails (after_deliveries st ds') (length (opening_bytes t' s' ++ deliveries_bytes ds')) j.rest k' b') begun j.fails) in
    let all : AreDeliveries (start t s) ds' = subst (λ (st : Standing). AreDeliveries st ds') begun j.feed.1 in
    let one = deliveries_same (start t s) ds ds' h.rest j.rest _ _ k k' b b' h.feed.1 all p.2 h.fails fails in
    let again : DeliveryFails (after_deliveries (start t s) ds) (length (opening_bytes t s ++ deliveries_bytes ds)) h.rest k' b' =
    subst (λ l. DeliveryFails (after_deliveries (start t s) ds) (length (opening_bytes t s ++ deliveries_bytes ds)) l k' b') (sym one.1) (subst (λ l. DeliveryFails (after_deliveries (start t s) l) (length (opening_bytes t s ++ deliveries_bytes l)) j.rest k' b') (sym one.0) fails) in
    let same = delivery_same (after_deliveries (start t s) ds) (length (opening_bytes t s ++ deliveries_bytes ds)) h.rest k k' b b' h.fails again in
    (one.0, same.0, same.1)

-- the magic, and what is behind it
has_magic : (bytes rest : List ℕ) (k : FeedKind) (b : ℕ) → bytes ≡ magic ++ rest → MagicFails bytes k b → ⊥
has_magic bytes rest k b e (inl few) = let long = ap length e in omega (arith, few.0, long)
has_magic bytes rest k b e (inr bad) = bad.1 (ap (take 8) e)

magic_same : (bytes : List ℕ) (k k' : FeedKind) (b b' : ℕ) → MagicFails bytes k b → MagicFails bytes k' b' → (k ≡ k') × (b ≡ b')
magic_same bytes k k' b b' (inl h) (inl j) = (h.1 ∙ sym j.1, h.2 ∙ sym j.2)
magic_same bytes k k' b b' (inl h) (inr j) = absurd (omega (arith, h.0, j.0))
magic_same bytes k k' b b' (inr h) (inl j) = absurd (omega (arith, h.0, j.0))
magic_same bytes k k' b b' (inr h) (inr j) = (h.2 ∙ sym j.2, h.3 ∙ sym j.3)

header_same : (bytes : List ℕ) (k k' : FeedKind) (b b' : ℕ) → HeaderFails bytes k b → HeaderFails bytes k' b' → (k ≡ k') × (b ≡ b')
header_same bytes k k' b b' h j =
    let one : h.rest ≡ j.rest = ap (drop 8) (sym h.spelled ∙ j.spelled) in
    same_fault (first_frame_fault h.rest) (length magic) h.rest k k' b b' h.fails (subst (λ l. FrameFails (first_frame_fault l) (length magic) l k' b') (sym one) j.fails)

-- what fails before the header is whole, and what fails behind it
early_late : (bytes : List ℕ) (t s : ℕ) (ds : List (List Item)) (k k' : FeedKind) (b b' : ℕ) → MagicFails bytes k b ⊎ HeaderFails bytes k b → LaterFails bytes t s ds k' b' → ⊥
unfolding frame
early_late bytes t s ds k k' b b' (inl m) j =
    let open_long = opening_long t s (deliveries_bytes ds ++ j.rest) in
    magic_or m (subst (λ l. 8 ≤ length l) (sym j.spelled) open_long.0) (ap (take 8) j.spelled ∙ open_long.1)
  where
    magic_or : MagicFails bytes k b → 8 ≤ length bytes → take 8 bytes ≡ magic → ⊥
    magic_or (inl few) long is = omega (arith, few.0, long)
    magic_or (inr bad) long is = bad.1 is
early_late bytes t s ds k k' b b' (inr h) j =
    let behind = deliveries_bytes ds ++ j.rest in
    let e = opening_behind t s behind h.rest (sym h.spelled ∙ j.spelled) in
    let passes : first_frame_fault h.rest ≡ None = ap first_frame_fault e ∙ header_passes t s behind j.feed.0 in
    let uncut : IsCut h.rest → ⊥ = λ cut. frame_not_cut header_tag (t ∷ s ∷ []) behind (omega arith) (subst IsCut e cut) in
    frame_fails (first_frame_fault h.rest) (length magic) h.rest k b h.fails passes uncut

fails_same : (bytes : List ℕ) (t s t' s' : ℕ) (ds ds' : List (List Item)) (k k' : FeedKind) (b b' : ℕ) → FeedFails bytes t s ds k b → FeedFails bytes t' s' ds' k' b' → (ds ≡ ds') × (k ≡ k') × (b ≡ b')
fails_same bytes t s t' s' ds ds' k k' b b' (inl h) (inl j) = by_place h.1 j.1
  where
    with_none : (k ≡ k') × (b ≡ b') → (ds ≡ ds') × (k ≡ k') × (b ≡ b')
    with_none p = (h.0 ∙ sym j.0, p.0, p.1)

    by_place : MagicFails bytes k b ⊎ HeaderFails bytes k b → MagicFails bytes k' b' ⊎ HeaderFails bytes k' b' → (ds ≡ ds') × (k ≡ k') × (b ≡ b')
    by_place (inl m) (inl n) = with_none (magic_same bytes k k' b b' m n)
    by_place (inl m) (inr n) = absurd (has_magic bytes n.rest k b n.spelled m)
    by_place (inr m) (inl n) = absurd (has_magic bytes m.rest k' b' m.spelled n)
    by_place (inr m) (inr n) = with_none (header_same bytes k k' b b' m n)
fails_same bytes t s t' s' ds ds' k k' b b' (inl h) (inr j) = absurd (early_late bytes t' s' ds' k k' b b' h.1 j)
fails_same bytes t s t' s' ds ds' k k' b b' (inr h) (inl j) = absurd (early_late bytes t s ds k' k b' b j.1 h)
fails_same bytes t s t' s' ds ds' k k' b b' (inr h) (inr j) = later_same bytes t s t' s' ds ds' k k' b b' h j

pub one_feed_fault : OneFeedFault
one_feed_fault bytes t s ds fault byte h = (
  λ t' s' ds' fault' byte' j. fails_same bytes t s t' s' ds ds' fault fault' byte byte' h j,
  λ t' s' ds' unread whole. whole_excludes_fault bytes t' s' ds' unread t s ds fault byte whole h,
)
