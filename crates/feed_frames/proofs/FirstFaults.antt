-- Frame after frame to the end of a feed, or to its first fault.
use Rattle.std.proofs.Common.{◌≡◌, ℕ, ◌+◌, ◌<◌, ◌≤◌, Bool, true, false, not, nat_le, ◌==◌, List, [], ◌∷◌, ◌++◌, length, zero, suc, take, drop, Option, Some, None, ◌⊎◌, inl, inr, refl, sym, ap, ◌∙◌, subst, arith, append_assoc, append-nil, length-append, ⊎_elim}
use Rattle.std.specs.Str.{bytes_eq}
use Rattle.std.proofs.lemmas.List.{take-append-drop}
use Rattle.std.proofs.lemmas.List.Sums.{sum_by_push}
use Rattle.std.proofs.lemmas.Bool.Decides.{leb_tells, not_from_Decides}
use Rattle.std.proofs.lemmas.Grind.{common_steps}
use Rattle.std.proofs.lemmas.Slice.Eq.{bytes_eq-Decides}
use Rattle.adg_model.specs.Feed.{Item, Standing, AreItems, AreDeliveries, IsHeader, FeedFails, frame, item_bytes, items_bytes, end_bytes, stop_bytes, deliveries_bytes, header_bytes, opening_bytes, start, after_delivery, after_deliveries, redo_len, redo_total, header_tag, is_tag, magic, has_length, stated, first_tag_fault, first_frame_fault, header_payload_fault, frame_fault, fails, most_redo, most_deliveries}
use Rattle.adg_model.specs.declared.fault.FeedKind.{FeedKind}
use Rattle.adg_model.specs.declared.fault.FeedKind.TheVariants.{BadMagic, BadTag, BadOrder, Truncated}
use Rattle.adg_model.proofs.FeedLaws.{item_fits, redo_bound}
use Rattle.adg_model.proofs.FeedWhole.{first_item, first_delivery}
use Rattle.feed_frames.specs.FirstFault.{AreBytes, HasFeed, HasFirstFault, FeedOrFault, NoFeedHasFault}
use Rattle.feed_frames.proofs.Faults.{first_none, second_none, fails_none}
use Rattle.feed_frames.proofs.Items.{in_range}
use Rattle.feed_frames.proofs.NextFrame.{Broken, Goes, Stops, next, shown, cut, with_payload}

-- what is behind some bytes are bytes
behind : (front more rest : List ℕ) → rest ≡ front ++ more → AreBytes rest → AreBytes more
behind front more rest e bytes = go front (subst AreBytes e bytes)
  where
    go : (front : List ℕ) → AreBytes (front ++ more) → AreBytes more
    go [] b = b
    go (x ∷ xs) b = go xs b.1

-- some frame after items of a delivery fails
pub record BreaksAmong (st : Standing) (before : List Item) (rest : List ℕ) : Type 0 where
  pub items : List Item
  pub more : List ℕ
  pub spelled : rest ≡ items_bytes items ++ more
  pub are : AreItems st before items
  pub broken : Broken (frame_fault st (before ++ items) more) more

-- the delivery comes to its end
pub record EndsAfter (st : Standing) (before : List Item) (rest : List ℕ) : Type 0 where
  pub items : List Item
  pub more : List ℕ
  pub spelled : rest ≡ items_bytes items ++ (end_bytes ++ more)
  pub are : AreItems st before items
  pub few : st.ends < most_deliveries

abbrev pub Among : Standing → List Item → List ℕ → Type 0
Among st before rest = BreaksAmong st before rest ⊎ (EndsAfter st before rest ⊎ Stops before rest)

-- one item in front
after_item : (st : Standing) (before : List Item) (rest : List ℕ) (g : Goes st before rest) → Among st (before ++ g.item ∷ []) g.more → Among st before rest
after_item st before rest g later = ⊎_elim (λ b. inl (breaks b)) (λ others. ⊎_elim (λ e. inr (inl (ends e))) (λ s. absurd (not_none before s.none)) others) later
  where
    breaks : BreaksAmong st (before ++ g.item ∷ []) g.more → BreaksAmong st before rest
    breaks b = record {
      items = g.item ∷ b.items;
      more = b.more;
      spelled = g.spelled ∙ ap (λ l. item_bytes g.item ++ l) b.spelled ∙ sym (first_item g.item b.items b.more);
      are = (g.follows, b.are);
      broken = subst (λ l. Broken (frame_fault st l b.more) b.more) (append_assoc before (g.item ∷ []) b.items) b.broken;
    }

    ends : EndsAfter st (before ++ g.item ∷ []) g.more → EndsAfter st before rest
    ends e = record {
      items = g.item ∷ e.items;
      more = e.more;
      spelled = g.spelled ∙ ap (λ l. item_bytes g.item ++ l) e.spelled ∙ sym (first_item g.item e.items (end_bytes ++ e.more));
      are = (g.follows, e.are);
      few = e.few;
    }

    not_none : (is : List Item) → is ++ g.item ∷ [] ≡ [] → ⊥
    not_none [] e = cc
    not_none (x ∷ xs) e = cc

-- an item takes bytes
shorter : (item : Item) (more rest : List ℕ) → rest ≡ item_bytes item ++ more → length more < length rest
unfolding frame
shorter item more rest e = omega (arith, ap length e, length-append (item_bytes item) more)

among : (fuel : ℕ) (st : Standing) (before : List Item) (rest : List ℕ) → length rest < fuel → AreBytes rest → st.redo + redo_total before ≤ most_redo → Among st before rest
among zero st before rest room bytes w = absurd (omega (arith, room))
among (suc fuel) st before rest room bytes w = elim (next st before rest bytes w) [
  | inl b ↦ inl (record { items = []; more = rest; spelled = refl; are = tt; broken = subst (λ l. Broken (frame_fault st l rest) rest) (sym (append-nil before)) b })
  | inr (inl g) ↦ after_item st before rest g (among fuel st (before ++ g.item ∷ []) g.more (omega (arith, room, shorter g.item g.more rest g.spelled)) (behind (item_bytes g.item) g.more rest g.spelled bytes) (omega (arith, (item_fits st before g.item g.follows).redo, sum_by_push redo_len before g.item)))
  | inr (inr (inl e)) ↦ inr (inl (record { items = []; more = e.more; spelled = e.spelled; are = tt; few = e.few }))
  | inr (inr (inr s)) ↦ inr (inr s)
]

-- ---- delivery after delivery

pub record BreaksLater (st : Standing) (rest : List ℕ) : Type 0 where
  pub deliveries : List (List Item)
  pub more : List ℕ
  pub spelled : rest ≡ deliveries_bytes deliveries ++ more
  pub are : AreDeliveries st deliveries
  pub breaks : BreaksAmong (after_deliveries st deliveries) [] more

pub record StopsLater (st : Standing) (rest : List ℕ) : Type 0 where
  pub deliveries : List (List Item)
  pub more : List ℕ
  pub spelled : rest ≡ deliveries_bytes deliveries ++ (stop_bytes ++ more)
  pub are : AreDeliveries st deliveries

after_one : (st : Standing) (rest : List ℕ) (e : EndsAfter st [] rest) → BreaksLater (after_delivery st e.items) e.more ⊎ StopsLater (after_delivery st e.items) e.more → BreaksLater st rest ⊎ StopsLater st rest
after_one st rest e later = ⊎_elim (λ b. inl (breaks b)) (λ s. inr (stops s)) later
  where
    front : (deliveries : List (List Item)) (x : List ℕ) → e.more ≡ deliveries_bytes deliveries ++ x → rest ≡ deliveries_bytes (e.items ∷ deliveries) ++ x
    front deliveries x h = e.spelled ∙ ap (λ l. items_bytes e.items ++ (end_bytes ++ l)) h ∙ sym (first_delivery e.items deliveries x)

    breaks : BreaksLater (after_delivery st e.items) e.more → BreaksLater st rest
    breaks b = record { deliveries = e.items ∷ b.deliveries; more = b.more; spelled = front b.deliveries b.more b.spelled; are = ((e.are, e.few), b.are); breaks = b.breaks }

    stops : StopsLater (after_delivery st e.items) e.more → StopsLater st rest
    stops s = record { deliveries = e.items ∷ s.deliveries; more = s.more; spelled = front s.deliveries (stop_bytes ++ s.more) s.spelled; are = ((e.are, e.few), s.are) }

end_shorter : (st : Standing) (rest : List ℕ) (e : EndsAfter st [] rest) → length e.more < length rest
unfolding frame
end_shorter st rest e = omega (arith, ap length e.spelled, length-append (items_bytes e.items) (end_bytes ++ e.more), length-append end_bytes e.more)

later : (fuel : ℕ) (st : Standing) (rest : List ℕ) → length rest < fuel → AreBytes rest → st.redo ≤ most_redo → BreaksLater st rest ⊎ StopsLater st rest
later zero st rest room bytes w = absurd (omega (arith, room))
later (suc fuel) st rest room bytes w = elim (among (suc (length rest)) st [] rest (omega arith) bytes (omega (arith, w))) [
  | inl b ↦ inl (record { deliveries = []; more = rest; spelled = refl; are = tt; breaks = b })
  | inr (inl e) ↦ after_one st rest e (later fuel (after_delivery st e.items) e.more (omega (arith, room, end_shorter st rest e)) (behind end_bytes e.more (end_bytes ++ e.more) refl (behind (items_bytes e.items) (end_bytes ++ e.more) rest e.spelled bytes)) (redo_bound st e.items e.are w))
  | inr (inr s) ↦ inr (record { deliveries = []; more = s.more; spelled = s.spelled; are = tt })
]

-- ---- the magic and the header

pub record Opens (rest : List ℕ) : Type 0 where
  pub threads : ℕ
  pub sessions : ℕ
  pub more : List ℕ
  pub spelled : rest ≡ header_bytes threads sessions ++ more
  pub header : IsHeader threads sessions

abbrev pub Opened : List ℕ → Type 0
Opened rest = Broken (first_frame_fault rest) rest ⊎ Opens rest

-- with the header's tag, its length and its numbers in range
header_whole : (a b c d : ℕ) (payload : List ℕ) → AreBytes (a ∷ b ∷ c ∷ d ∷ []) → stated (a ∷ b ∷ c ∷ d ∷ []) ≡ 2 → 2 ≤ length payload → header_payload_fault payload ≡ None → Opens (header_tag ∷ a ∷ b ∷ c ∷ d ∷ payload)
header_whole a b c d [] bytes two fits good = absurd (omega (arith, fits))
header_whole a b c d (t ∷ []) bytes two fits good = absurd (omega (arith, fits))
header_whole a b c d (t ∷ s ∷ others) bytes two fits good = record {
  threads = t;
  sessions = s;
  more = others;
  spelled = with_payload header_tag a b c d (t ∷ s ∷ others) bytes (omega (arith, two)) ∙ ap (λ (n : ℕ). frame header_tag (take n (t ∷ s ∷ others)) ++ drop n (t ∷ s ∷ others)) two;
  header = (in_range 8 t (fails_none _ _ (first_none _ _ good)), in_range 8 s (fails_none _ _ (second_none _ _ good)));
}

tagged : (tag : ℕ) → first_tag_fault tag ≡ None → tag ≡ header_tag
tagged tag h = same (fails_none (not (tag == header_tag)) BadOrder (second_none (fails (not (is_tag tag)) BadTag) _ h))
  where
    same : not (tag == header_tag) ≡ false → tag ≡ header_tag
    same is = grind (arith, common_steps)

header_there : (tag a b c d : ℕ) (payload : List ℕ) → AreBytes (a ∷ b ∷ c ∷ d ∷ []) → first_frame_fault (tag ∷ a ∷ b ∷ c ∷ d ∷ payload) ≡ None → stated (a ∷ b ∷ c ∷ d ∷ []) ≤ length payload → Opens (tag ∷ a ∷ b ∷ c ∷ d ∷ payload)
unfolding first_frame_fault
header_there tag a b c d payload bytes e fits =
    let there : has_length (a ∷ b ∷ c ∷ d ∷ payload) ≡ true = grind (arith, common_steps) in
    let it : tag ≡ header_tag = tagged tag (first_none (first_tag_fault tag) _ e) in
    let same : first_frame_fault (header_tag ∷ a ∷ b ∷ c ∷ d ∷ payload) ≡ None = subst (λ (t : ℕ). first_frame_fault (t ∷ a ∷ b ∷ c ∷ d ∷ payload) ≡ None) it e in
    let checks = rw there at same in
    let two : stated (a ∷ b ∷ c ∷ d ∷ []) ≡ 2 = is_two _ (fails_none _ _ (first_none _ (header_payload_fault payload) checks)) in
    subst (λ (t : ℕ). Opens (t ∷ a ∷ b ∷ c ∷ d ∷ payload)) (sym it) (header_whole a b c d payload bytes two (omega (arith, two, fits)) (second_none _ (header_payload_fault payload) checks))
  where
    is_two : (n : ℕ) → not (n == 2) ≡ false → n ≡ 2
    is_two n h = grind (arith, common_steps)

unbroken : (rest : List ℕ) → AreBytes rest → first_frame_fault rest ≡ None → Opened rest
unbroken [] bytes e = inl (cut _ [] e tt)
unbroken (tag ∷ []) bytes e = inl (cut _ (tag ∷ []) e (inl (omega arith)))
unbroken (tag ∷ a ∷ []) bytes e = inl (cut _ (tag ∷ a ∷ []) e (inl (omega arith)))
unbroken (tag ∷ a ∷ b ∷ []) bytes e = inl (cut _ (tag ∷ a ∷ b ∷ []) e (inl (omega arith)))
unbroken (tag ∷ a ∷ b ∷ c ∷ []) bytes e = inl (cut _ (tag ∷ a ∷ b ∷ c ∷ []) e (inl (omega arith)))
unbroken (tag ∷ a ∷ b ∷ c ∷ d ∷ payload) bytes e =
    let head : AreBytes (a ∷ b ∷ c ∷ d ∷ []) = (bytes.1.0, (bytes.1.1.0, (bytes.1.1.1.0, (bytes.1.1.1.1.0, tt)))) in
    ⊎_elim (λ there. inr (header_there tag a b c d payload head e there.1))
    (λ short. inl (cut _ (tag ∷ a ∷ b ∷ c ∷ d ∷ payload) e (inr short.1)))
    (leb_tells (stated (a ∷ b ∷ c ∷ d ∷ [])) (length payload))

opened : (rest : List ℕ) → AreBytes rest → Opened rest
opened rest bytes = by_check (first_frame_fault rest) refl
  where
    by_check : (check : Option FeedKind) → first_frame_fault rest ≡ check → Opened rest
    by_check (Some k) e = inl (shown (first_frame_fault rest) rest k e)
    by_check None e = unbroken rest bytes e

-- ---- all of the bytes

early : (bytes : List ℕ) (k : FeedKind) (byte : ℕ) → FeedFails bytes 0 0 [] k byte → HasFirstFault bytes
early bytes k byte f = record { threads = 0; sessions = 0; deliveries = []; kind = k; byte = byte; fails = f }

header_fails : (bytes rest : List ℕ) → bytes ≡ magic ++ rest → Broken (first_frame_fault rest) rest → HasFirstFault bytes
header_fails bytes rest e b =
    let at = b.fails (length magic) in
    early bytes b.kind at.0 (inl (refl, inr (record { rest = rest; spelled = e; fails = at.1 })))

-- behind the opening
behind_opening : (bytes rest : List ℕ) (o : Opens rest) → bytes ≡ magic ++ rest → BreaksLater (start o.threads o.sessions) o.more ⊎ StopsLater (start o.threads o.sessions) o.more → HasFeed bytes ⊎ HasFirstFault bytes
behind_opening bytes rest o e found = ⊎_elim (λ b. inr (breaks b)) (λ s. inl (stops s)) found
  where
    front : (deliveries : List (List Item)) (x : List ℕ) → o.more ≡ deliveries_bytes deliveries ++ x → bytes ≡ opening_bytes o.threads o.sessions ++ deliveries_bytes deliveries ++ x
    front deliveries x h =
        e ∙ ap (λ l. magic ++ l) (o.spelled ∙ ap (λ l. header_bytes o.threads o.sessions ++ l) h) ∙ sym (append_assoc magic (header_bytes o.threads o.sessions) (deliveries_bytes deliveries ++ x)) ∙ sym (append_assoc (opening_bytes o.threads o.sessions) (deliveries_bytes deliveries) x)

    stops : StopsLater (start o.threads o.sessions) o.more → HasFeed bytes
    stops s = record {
      threads = o.threads;
      sessions = o.sessions;
      deliveries = s.deliveries;
      unread = s.more;
      begins = record {
        feed = (o.header, s.are);
        spelled = front s.deliveries (stop_bytes ++ s.more) s.spelled ∙ sym (append_assoc (opening_bytes o.threads o.sessions ++ deliveries_bytes s.deliveries) stop_bytes s.more);
      };
    }

    breaks : BreaksLater (start o.threads o.sessions) o.more → HasFirstFault bytes
    breaks b =
        let offset = length (opening_bytes o.threads o.sessions ++ deliveries_bytes b.deliveries) in
        let at = b.breaks.broken.fails (offset + length (items_bytes b.breaks.items)) in
        record {
          threads = o.threads;
          sessions = o.sessions;
          deliveries = b.deliveries;
          kind = b.breaks.broken.kind;
          byte = at.0;
          fails = inr (record {
            rest = b.more;
            feed = (o.header, b.are);
            spelled = front b.deliveries b.more b.spelled;
            fails = record { before = b.breaks.items; rest = b.breaks.more; spelled = b.breaks.spelled; items = b.breaks.are; fails = at.1 };
          });
        }

with_magic : (bytes rest : List ℕ) → bytes ≡ magic ++ rest → AreBytes rest → HasFeed bytes ⊎ HasFirstFault bytes
with_magic bytes rest e are = ⊎_elim (λ b. inr (header_fails bytes rest e b)) (λ o. goes o) (opened rest are)
  where
    goes : Opens rest → HasFeed bytes ⊎ HasFirstFault bytes
    goes o = behind_opening bytes rest o e (later (suc (length o.more)) (start o.threads o.sessions) o.more (omega arith) (behind (header_bytes o.threads o.sessions) o.more rest o.spelled are) (omega arith))

pub feed_or_fault : FeedOrFault
feed_or_fault bytes are = ⊎_elim long short (leb_tells 8 (length bytes))
  where
    short : (nat_le 8 (length bytes) ≡ false) × (length bytes < 8) → HasFeed bytes ⊎ HasFirstFault bytes
    short few = inr (early bytes Truncated (length bytes) (inl (refl, inl (inl (few.1, refl, refl)))))

    by_front : (same : Bool) → bytes_eq (take 8 bytes) magic ≡ same → 8 ≤ length bytes → HasFeed bytes ⊎ HasFirstFault bytes
    by_front true is many =
        let e : bytes ≡ magic ++ drop 8 bytes = sym (take-append-drop 8 bytes) ∙ ap (λ l. l ++ drop 8 bytes) ((bytes_eq-Decides (take 8 bytes) magic).0 is) in
        with_magic bytes (drop 8 bytes) e (behind magic (drop 8 bytes) bytes e are)
    by_front false is many =
        inr (early bytes BadMagic 0 (inl (refl, inl (inr (many, not_from_Decides _ (bytes_eq-Decides (take 8 bytes) magic) is, refl, refl)))))

    long : (nat_le 8 (length bytes) ≡ true) × (8 ≤ length bytes) → HasFeed bytes ⊎ HasFirstFault bytes
    long many = by_front (bytes_eq (take 8 bytes) magic) refl many.1

pub no_feed_has_fault : NoFeedHasFault
no_feed_has_fault bytes are none = ⊎_elim (λ feed. absurd (none feed)) (λ fault. fault) (feed_or_fault bytes are)
