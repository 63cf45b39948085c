-- What begins at a frame: an item, an end or a stop, all of it, or a frame that fails.
use Rattle.std.proofs.Common.{◌≡◌, ℕ, ◌+◌, ◌<◌, ◌≤◌, true, false, not, nat_le, ◌==◌, List, [], ◌∷◌, ◌++◌, length, get_or, zero, suc, take, drop, Option, Some, None, ◌⊎◌, inl, inr, refl, sym, ap, ◌∙◌, subst, arith, ⊎_elim}
use Rattle.std.specs.Int.{w32, to_be_bytes}
use Rattle.std.proofs.lemmas.List.{length-take-le, take-append-drop}
use Rattle.std.proofs.lemmas.Nat.{be_bytes_4}
use Rattle.std.proofs.lemmas.Bool.Decides.{leb_tells, eqb_tells}
use Rattle.std.proofs.lemmas.Grind.{common_steps}
use Rattle.adg_model.specs.Feed.{Item, Standing, IsItem, IsCut, FrameFails, frame, item_bytes, end_bytes, stop_bytes, redo_total, redo_tag, command_tag, schedule_tag, end_tag, stop_tag, header_tag, is_tag, has_length, stated, tag_fault, length_fault, payload_fault, frame_fault, ◌else_check◌, most_redo, most_deliveries}
use Rattle.adg_model.specs.Feed.Item.{Redo, Asks, Schedules}
use Rattle.adg_model.specs.declared.fault.FeedKind.{FeedKind}
use Rattle.adg_model.specs.declared.fault.FeedKind.TheVariants.{BadLength, TooManyDeliveries, Truncated}
use Rattle.feed_frames.specs.FirstFault.{AreBytes}
use Rattle.feed_frames.proofs.Faults.{first_none, second_none, fails_none}
use Rattle.feed_frames.proofs.Frames.{is_zero, stop_first}
use Rattle.feed_frames.proofs.Items.{below_most, redo_item, command_item, schedule_item}

-- the frame that begins here fails, with some kind, wherever it stands
pub record Broken (check : Option FeedKind) (rest : List ℕ) : Type 0 where
  pub kind : FeedKind
  pub fails : (offset : ℕ) → (byte : ℕ) × FrameFails check offset rest kind byte

-- an item begins here, the delivery ends here, or the feed does
pub record Goes (st : Standing) (before : List Item) (rest : List ℕ) : Type 0 where
  pub item : Item
  pub more : List ℕ
  pub spelled : rest ≡ item_bytes item ++ more
  pub follows : IsItem st before item

pub record Ends (st : Standing) (rest : List ℕ) : Type 0 where
  pub more : List ℕ
  pub spelled : rest ≡ end_bytes ++ more
  pub few : st.ends < most_deliveries

pub record Stops (before : List Item) (rest : List ℕ) : Type 0 where
  pub more : List ℕ
  pub spelled : rest ≡ stop_bytes ++ more
  pub none : before ≡ []

abbrev pub Next : Standing → List Item → List ℕ → Type 0
Next st before rest = Broken (frame_fault st before rest) rest ⊎ (Goes st before rest ⊎ (Ends st rest ⊎ Stops before rest))

-- ---- frames that fail

pub shown : (check : Option FeedKind) (rest : List ℕ) (k : FeedKind) → check ≡ Some k → Broken check rest
shown check rest k e = record { kind = k; fails = λ offset. (offset, inl (e, refl)) }

pub cut : (check : Option FeedKind) (rest : List ℕ) → check ≡ None → IsCut rest → Broken check rest
cut check rest e c = record { kind = Truncated; fails = λ offset. (offset + length rest, inr (e, c, refl, refl)) }

-- ---- frames that are whole

-- the payload that a length of four bytes states, and what is behind it
pub with_payload : (tag a b c d : ℕ) (payload : List ℕ) → AreBytes (a ∷ b ∷ c ∷ d ∷ []) → stated (a ∷ b ∷ c ∷ d ∷ []) ≤ length payload → tag ∷ a ∷ b ∷ c ∷ d ∷ payload ≡ frame tag (take (stated (a ∷ b ∷ c ∷ d ∷ [])) payload) ++ drop (stated (a ∷ b ∷ c ∷ d ∷ [])) payload
unfolding frame
with_payload tag a b c d payload bytes fits =
    let n = stated (a ∷ b ∷ c ∷ d ∷ []) in
    let len : length (take n payload) ≡ n = length-take-le n payload fits in
    let each : (i : ℕ) → get_or (a ∷ b ∷ c ∷ d ∷ []) i 0 < 256 = by_place in
    let head : to_be_bytes w32 (length (take n payload)) ≡ a ∷ b ∷ c ∷ d ∷ [] = be_bytes_4 (a ∷ b ∷ c ∷ d ∷ []) (length (take n payload)) (omega arith) each len in
    ap (λ l. tag ∷ a ∷ b ∷ c ∷ d ∷ l) (sym (take-append-drop n payload)) ∙ ap (λ l. tag ∷ l ++ (take n payload ++ drop n payload)) (sym head)
  where
    by_place : (i : ℕ) → get_or (a ∷ b ∷ c ∷ d ∷ []) i 0 < 256
    by_place zero = bytes.0
    by_place (suc zero) = bytes.1.0
    by_place (suc (suc zero)) = bytes.1.1.0
    by_place (suc (suc (suc zero))) = bytes.1.1.1.0
    by_place (suc (suc (suc (suc i)))) = omega arith

-- the checks of a frame whose head is there
pub record Passes (st : Standing) (before : List Item) (tag n : ℕ) (payload : List ℕ) : Type 0 where
  pub good_tag : tag_fault before tag ≡ None
  pub good_length : length_fault st before tag n ≡ None
  pub good_first : payload_fault st before tag payload ≡ None

pub passes : (st : Standing) (before : List Item) (tag a b c d : ℕ) (payload : List ℕ) → frame_fault st before (tag ∷ a ∷ b ∷ c ∷ d ∷ payload) ≡ None → Passes st before tag (stated (a ∷ b ∷ c ∷ d ∷ [])) payload
unfolding frame_fault
passes st before tag a b c d payload e =
    let there : has_length (a ∷ b ∷ c ∷ d ∷ payload) ≡ true = grind (arith, common_steps) in
    let later : length_fault st before tag (stated (a ∷ b ∷ c ∷ d ∷ [])) else_check payload_fault st before tag payload ≡ None = second_none (tag_fault before tag) _ (rw there at e) in
    record {
      good_tag = first_none (tag_fault before tag) _ e;
      good_length = first_none (length_fault st before tag (stated (a ∷ b ∷ c ∷ d ∷ []))) (payload_fault st before tag payload) later;
      good_first = second_none (length_fault st before tag (stated (a ∷ b ∷ c ∷ d ∷ []))) (payload_fault st before tag payload) later;
    }

-- ---- by their tags

redo_next : (st : Standing) (before : List Item) (rest : List ℕ) (n : ℕ) (payload : List ℕ) → rest ≡ frame redo_tag (take n payload) ++ drop n payload → n ≤ length payload → Passes st before redo_tag n payload → Goes st before rest
redo_next st before rest zero payload e fits p = let clash : Some BadLength ≡ None = p.good_length in absurd cc
redo_next st before rest (suc m) [] e fits p = absurd (omega (arith, fits))
redo_next st before rest (suc m) (thread ∷ others) e fits p =
    let len = length-take-le m others (omega (arith, fits)) in
    record { item = Redo thread (take m others); more = drop m others; spelled = e; follows = redo_item st before (suc m) thread (take m others) p.good_length p.good_first (omega (arith, len)) }

command_next : (st : Standing) (before : List Item) (rest : List ℕ) (n : ℕ) (payload : List ℕ) → rest ≡ frame command_tag (take n payload) ++ drop n payload → n ≤ length payload → Passes st before command_tag n payload → st.redo + redo_total before ≤ most_redo → Goes st before rest
command_next st before rest zero payload e fits p w = let clash : Some BadLength ≡ None = p.good_length in absurd cc
command_next st before rest (suc m) [] e fits p w = absurd (omega (arith, fits))
command_next st before rest (suc m) (session ∷ others) e fits p w =
    let len = length-take-le m others (omega (arith, fits)) in
    record { item = Asks session (take m others); more = drop m others; spelled = e; follows = command_item st before (suc m) session (take m others) p.good_length p.good_first (omega (arith, len)) w }

schedule_next : (st : Standing) (before : List Item) (rest : List ℕ) (n : ℕ) (payload : List ℕ) → rest ≡ frame schedule_tag (take n payload) ++ drop n payload → n ≤ length payload → Passes st before schedule_tag n payload → st.redo + redo_total before ≤ most_redo → Goes st before rest
schedule_next st before rest n payload e fits p w =
    record { item = Schedules (take n payload); more = drop n payload; spelled = e; follows = schedule_item st before n (take n payload) p.good_length (sym (length-take-le n payload fits)) w }

end_next : (st : Standing) (before : List Item) (rest : List ℕ) (n : ℕ) (payload : List ℕ) → rest ≡ frame end_tag (take n payload) ++ drop n payload → length_fault st before end_tag n ≡ None → Ends st rest
end_next st before rest zero payload e len = record { more = payload; spelled = e; few = below_most most_deliveries st.ends (fails_none (nat_le most_deliveries st.ends) TooManyDeliveries len) }
end_next st before rest (suc m) payload e len = absurd (omega (arith, is_zero (suc m) (fails_none _ _ (first_none _ _ len))))

stop_next : (st : Standing) (before : List Item) (rest : List ℕ) (n : ℕ) (payload : List ℕ) → rest ≡ frame stop_tag (take n payload) ++ drop n payload → tag_fault before stop_tag ≡ None → length_fault st before stop_tag n ≡ None → Stops before rest
stop_next st before rest zero payload e tag len = record { more = payload; spelled = e; none = stop_first before tag }
stop_next st before rest (suc m) payload e tag len = absurd (omega (arith, is_zero (suc m) (fails_none _ _ (first_none _ _ len))))

-- a tag that may stand here is one of five
abbrev pub OneOfFive : ℕ → Type 0
OneOfFive tag = (tag ≡ redo_tag) ⊎ ((tag ≡ command_tag) ⊎ ((tag ≡ schedule_tag) ⊎ ((tag ≡ end_tag) ⊎ (tag ≡ stop_tag))))

one_of_five : (before : List Item) (tag : ℕ) → tag_fault before tag ≡ None → OneOfFive tag
one_of_five before tag h =
    ⊎_elim (λ it. absurd (no_header (subst (λ (t : ℕ). tag_fault before t ≡ None) it.1 h))) (λ a.
    ⊎_elim (λ it. inl it.1) (λ b.
    ⊎_elim (λ it. inr (inl it.1)) (λ d.
    ⊎_elim (λ it. inr (inr (inl it.1))) (λ f.
    ⊎_elim (λ it. inr (inr (inr (inl it.1)))) (λ g.
    ⊎_elim (λ it. inr (inr (inr (inr it.1)))) (λ k. absurd (no_other a.0 b.0 d.0 f.0 g.0 k.0))
    (eqb_tells tag stop_tag)) (eqb_tells tag end_tag)) (eqb_tells tag schedule_tag)) (eqb_tells tag command_tag)) (eqb_tells tag redo_tag)) (eqb_tells tag header_tag)
  where
    no_header : tag_fault before header_tag ≡ None → ⊥
    no_header e = cc

    no_other : (tag == header_tag) ≡ false → (tag == redo_tag) ≡ false → (tag == command_tag) ≡ false → (tag == schedule_tag) ≡ false → (tag == end_tag) ≡ false → (tag == stop_tag) ≡ false → ⊥
    no_other a b d f g k =
        let none : is_tag tag ≡ false = rw (a, b, d, f, g, k) refl in
        let good : not (is_tag tag) ≡ false = fails_none _ _ (first_none _ _ h) in
        let clash : true ≡ false = ap not (sym none) ∙ good in
        absurd cc

whole : (st : Standing) (before : List Item) (rest : List ℕ) (tag n : ℕ) (payload : List ℕ) → rest ≡ frame tag (take n payload) ++ drop n payload → n ≤ length payload → Passes st before tag n payload → st.redo + redo_total before ≤ most_redo → Next st before rest
whole st before rest tag n payload e fits p w =
    ⊎_elim (λ it. inr (inl (redo_next st before rest n payload (spelled redo_tag it) fits (at_tag redo_tag it))))
    (⊎_elim (λ it. inr (inl (command_next st before rest n payload (spelled command_tag it) fits (at_tag command_tag it) w)))
    (⊎_elim (λ it. inr (inl (schedule_next st before rest n payload (spelled schedule_tag it) fits (at_tag schedule_tag it) w)))
    (⊎_elim (λ it. inr (inr (inl (end_next st before rest n payload (spelled end_tag it) (at_tag end_tag it).good_length))))
    (λ it. inr (inr (inr (stop_next st before rest n payload (spelled stop_tag it) (at_tag stop_tag it).good_tag (at_tag stop_tag it).good_length)))))))
    (one_of_five before tag p.good_tag)
  where
    spelled : (t : ℕ) → tag ≡ t → rest ≡ frame t (take n payload) ++ drop n payload
    spelled t it = subst (λ (t : ℕ). rest ≡ frame t (take n payload) ++ drop n payload) it e

    at_tag : (t : ℕ) → tag ≡ t → Passes st before t n payload
    at_tag t it = subst (λ (t : ℕ). Passes st before t n payload) it p

-- ---- each frame fails, or is whole

unbroken : (st : Standing) (before : List Item) (rest : List ℕ) → AreBytes rest → st.redo + redo_total before ≤ most_redo → frame_fault st before rest ≡ None → Next st before rest
unbroken st before [] bytes w e = inl (cut _ [] e tt)
unbroken st before (tag ∷ []) bytes w e = inl (cut _ (tag ∷ []) e (inl (omega arith)))
unbroken st before (tag ∷ a ∷ []) bytes w e = inl (cut _ (tag ∷ a ∷ []) e (inl (omega arith)))
unbroken st before (tag ∷ a ∷ b ∷ []) bytes w e = inl (cut _ (tag ∷ a ∷ b ∷ []) e (inl (omega arith)))
unbroken st before (tag ∷ a ∷ b ∷ c ∷ []) bytes w e = inl (cut _ (tag ∷ a ∷ b ∷ c ∷ []) e (inl (omega arith)))
unbroken st before (tag ∷ a ∷ b ∷ c ∷ d ∷ payload) bytes w e =
    let n = stated (a ∷ b ∷ c ∷ d ∷ []) in
    let head : AreBytes (a ∷ b ∷ c ∷ d ∷ []) = (bytes.1.0, (bytes.1.1.0, (bytes.1.1.1.0, (bytes.1.1.1.1.0, tt)))) in
    ⊎_elim (λ there. whole st before (tag ∷ a ∷ b ∷ c ∷ d ∷ payload) tag n payload (with_payload tag a b c d payload head there.1) there.1 (passes st before tag a b c d payload e) w)
    (λ short. inl (cut _ (tag ∷ a ∷ b ∷ c ∷ d ∷ payload) e (inr short.1)))
    (leb_tells n (length payload))

pub next : (st : Standing) (before : List Item) (rest : List ℕ) → AreBytes rest → st.redo + redo_total before ≤ most_redo → Next st before rest
next st before rest bytes w = by_check (frame_fault st before rest) refl
  where
    by_check : (check : Option FeedKind) → frame_fault st before rest ≡ check → Next st before rest
    by_check (Some k) e = inl (shown (frame_fault st before rest) rest k e)
    by_check None e = unbroken st before rest bytes w e
