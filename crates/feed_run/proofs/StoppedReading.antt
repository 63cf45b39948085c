-- What the bytes say at which a reading of a feed stopped.
use Rattle.std.proofs.Common.{◌≡◌, ◌≢◌, ◌⊎◌, ◌++◌, ◌+◌, ◌-◌, ℕ, List, [], ◌∷◌, length, take, drop, Option, Some, None, length-append, take-append-drop, ◌∙◌, ap, sym, subst, refl, arith, inl, inr}
use Rattle.std.specs.Ffi.{without_last}
use Rattle.std.proofs.Math.Seq.{take-append-add}
use Rattle.std.proofs.lemmas.List.{length-take, take_all}
use Rattle.adg_model.specs.declared.fault.FeedKind.{FeedKind}
use Rattle.adg_model.specs.declared.fault.FeedKind.TheVariants as kinds
use Rattle.adg_model.specs.Feed.{Item, Standing, AreItems, IsCut, FrameFails, MagicFails, HeaderFails, DeliveryFails, magic, frame, end_bytes, first_frame_fault, frame_fault, items_bytes}
use Rattle.feed_frames.proofs.ReaderLaws.{frame_more, first_more}
use Rattle.feed_frames.specs.declared.fault.FeedFault.{FeedFault}
use Rattle.feed_frames.specs.Frames.{FrameStops}
use Rattle.feed_frames.specs.Intake.{fault_byte}
use Rattle.feed_frames.specs.Answers.{IsOfBytes, MagicStops, OpeningStops, OpeningFails}

-- ---- some bytes and others after them, without the last byte

but_last : (front : List ℕ) (x : ℕ) (xs : List ℕ) → without_last (front ++ x ∷ xs) ≡ front ++ take (length xs) (x ∷ xs)
but_last front x xs =
    let same : length (front ++ x ∷ xs) - 1 ≡ length front + length xs = omega (arith, length-append front (x ∷ xs)) in
    ap (λ (n : ℕ). take n (front ++ x ∷ xs)) same ∙ take-append-add front (x ∷ xs) (length xs)

shorter : (front rest : List ℕ) → rest ≢ [] → without_last (front ++ rest) ≡ front ++ without_last rest
shorter front [] some = absurd (some refl)
shorter front (x ∷ xs) some = but_last front x xs ∙ ap (λ (t : List ℕ). front ++ t) (sym (but_last [] x xs))

append_some : (front rest : List ℕ) → rest ≢ [] → front ++ rest ≢ []
append_some [] rest some e = some e
append_some (x ∷ xs) rest some e = absurd cc

-- ---- what a check says of a frame of which some bytes came

-- a check that does not take back what it found where more bytes come
abbrev Stays : (List ℕ → Option FeedKind) → Type 0
Stays check = (bytes more : List ℕ) (k : FeedKind) → check bytes ≡ Some k → check (bytes ++ more) ≡ Some k

none_before : (check : List ℕ → Option FeedKind) → Stays check → (bytes : List ℕ) → check bytes ≡ None → check (without_last bytes) ≡ None
none_before check stays bytes none = go (check (without_last bytes)) refl
  where
    go : (o : Option FeedKind) → check (without_last bytes) ≡ o → check (without_last bytes) ≡ None
    go None e = e
    go (Some k) e =
        let all : check bytes ≡ Some k = ap check (sym (take-append-drop (length bytes - 1) bytes)) ∙ stays (without_last bytes) (drop (length bytes - 1) bytes) k e in
        absurd (let clash : None ≡ Some k = sym none ∙ all in cc)

-- the frame is cut short, and nothing is wrong with it so far
pub record IsPart (check : List ℕ → Option FeedKind) (bytes : List ℕ) : Type 0 where
  pub none : check bytes ≡ None
  pub cut : IsCut bytes

-- where the source failed
part_read : (check : List ℕ → Option FeedKind) (left : Option (List ℕ)) (bytes : List ℕ) (kind : FeedKind) → kind ≡ kinds.Read → FrameStops kind check left bytes → IsPart check bytes
part_read check left bytes kind e h = let s = subst (λ (k : FeedKind). FrameStops k check left bytes) e h in record { none = s.0; cut = s.1 }

-- where memory was wanting
part_memory : (check : List ℕ → Option FeedKind) → Stays check → (left : Option (List ℕ)) (bytes : List ℕ) (kind : FeedKind) → kind ≡ kinds.Memory → FrameStops kind check left bytes → IsPart check (without_last bytes)
part_memory check stays left bytes kind e h =
    let s = subst (λ (k : FeedKind). FrameStops k check left bytes) e h in record { none = none_before check stays bytes s.0; cut = s.1 }

-- a fault that a check found
abbrev pub IsFound : FeedKind → Type 0
IsFound kind = IsOfBytes kind × (kind ≢ kinds.Truncated)

pub record Found (k : FeedKind) (check : List ℕ → Option FeedKind) (bytes : List ℕ) : Type 0 where
  pub shows : check bytes ≡ Some k
  pub before : IsPart check (without_last bytes)

found : (k : FeedKind) (check : List ℕ → Option FeedKind) (left : Option (List ℕ)) (bytes : List ℕ) → IsFound k → FrameStops k check left bytes → Found k check bytes
found kinds.Read check left bytes o s = absurd o.0
found kinds.Memory check left bytes o s = absurd o.0
found kinds.Truncated check left bytes o s = absurd (o.1 refl)
found kinds.BadMagic check left bytes o s = record { shows = s.0; before = record { none = s.1; cut = s.2 } }
found kinds.BadTag check left bytes o s = record { shows = s.0; before = record { none = s.1; cut = s.2 } }
found kinds.BadOrder check left bytes o s = record { shows = s.0; before = record { none = s.1; cut = s.2 } }
found kinds.BadLength check left bytes o s = record { shows = s.0; before = record { none = s.1; cut = s.2 } }
found kinds.TooLarge check left bytes o s = record { shows = s.0; before = record { none = s.1; cut = s.2 } }
found kinds.TooManyDeliveries check left bytes o s = record { shows = s.0; before = record { none = s.1; cut = s.2 } }
found kinds.BadThread check left bytes o s = record { shows = s.0; before = record { none = s.1; cut = s.2 } }
found kinds.BadSession check left bytes o s = record { shows = s.0; before = record { none = s.1; cut = s.2 } }
found kinds.TooManyCommands check left bytes o s = record { shows = s.0; before = record { none = s.1; cut = s.2 } }

some_bytes : (k : FeedKind) (check : List ℕ → Option FeedKind) (bytes : List ℕ) → check [] ≡ None → Found k check bytes → bytes ≢ []
some_bytes k check bytes none f e = let clash : None ≡ Some k = sym none ∙ ap check (sym e) ∙ f.shows in absurd cc

-- the fault of a frame that was told is the fault of the bytes that came
frame_shown : (k : FeedKind) (check : List ℕ → Option FeedKind) (left : Option (List ℕ)) (rest : List ℕ) (offset byte : ℕ) → IsOfBytes k → FrameStops k check left rest → byte ≡ fault_byte k offset (offset + length rest)
    → FrameFails (check rest) offset rest k byte
frame_shown kinds.Read check left rest offset byte o s e = absurd o
frame_shown kinds.Memory check left rest offset byte o s e = absurd o
frame_shown kinds.Truncated check left rest offset byte o s e = inr (s.0, s.1, refl, e)
frame_shown kinds.BadMagic check left rest offset byte o s e = inl (s.0, e)
frame_shown kinds.BadTag check left rest offset byte o s e = inl (s.0, e)
frame_shown kinds.BadOrder check left rest offset byte o s e = inl (s.0, e)
frame_shown kinds.BadLength check left rest offset byte o s e = inl (s.0, e)
frame_shown kinds.TooLarge check left rest offset byte o s e = inl (s.0, e)
frame_shown kinds.TooManyDeliveries check left rest offset byte o s e = inl (s.0, e)
frame_shown kinds.BadThread check left rest offset byte o s e = inl (s.0, e)
frame_shown kinds.BadSession check left rest offset byte o s e = inl (s.0, e)
frame_shown kinds.TooManyCommands check left rest offset byte o s e = inl (s.0, e)

-- ---- in the magic

-- fewer bytes came than the magic has
few_read : (kind : FeedKind) (left : Option (List ℕ)) (bytes : List ℕ) → kind ≡ kinds.Read → MagicStops kind left bytes → MagicFails bytes kinds.Truncated (length bytes)
few_read kind left bytes e h = inl (subst (λ (k : FeedKind). MagicStops k left bytes) e h, refl, refl)

few_memory : (kind : FeedKind) (left : Option (List ℕ)) (bytes : List ℕ) → kind ≡ kinds.Memory → MagicStops kind left bytes → MagicFails bytes kinds.Truncated (length bytes)
few_memory kind left bytes e h = inl (subst (λ (k : FeedKind). MagicStops k left bytes) e h, refl, refl)

magic_shown : (k : FeedKind) (left : Option (List ℕ)) (bytes : List ℕ) (byte : ℕ) → IsOfBytes k → MagicStops k left bytes → byte ≡ fault_byte k 0 (length bytes) → MagicFails bytes k byte
magic_shown kinds.Truncated left bytes byte o s e = inl (s.0, refl, e)
magic_shown kinds.Read left bytes byte o s e = absurd o
magic_shown kinds.Memory left bytes byte o s e = absurd o
magic_shown kinds.BadMagic left bytes byte o s e = inr (omega (arith, s.0), λ (p : take 8 bytes ≡ magic). s.1 (sym (take_all 8 bytes (omega (arith, s.0))) ∙ p), refl, e)
magic_shown kinds.BadTag left bytes byte o s e = absurd s
magic_shown kinds.BadOrder left bytes byte o s e = absurd s
magic_shown kinds.BadLength left bytes byte o s e = absurd s
magic_shown kinds.TooLarge left bytes byte o s e = absurd s
magic_shown kinds.TooManyDeliveries left bytes byte o s e = absurd s
magic_shown kinds.BadThread left bytes byte o s e = absurd s
magic_shown kinds.BadSession left bytes byte o s e = absurd s
magic_shown kinds.TooManyCommands left bytes byte o s e = absurd s

magic_before : (k : FeedKind) (left : Option (List ℕ)) (bytes : List ℕ) → IsFound k → MagicStops k left bytes → MagicFails (without_last bytes) kinds.Truncated (length (without_last bytes))
magic_before kinds.Truncated left bytes o s = absurd (o.1 refl)
magic_before kinds.Read left bytes o s = absurd o.0
magic_before kinds.Memory left bytes o s = absurd o.0
magic_before kinds.BadMagic left bytes o s = inl (omega (arith, length-take (length bytes - 1) bytes, s.0), refl, refl)
magic_before kinds.BadTag left bytes o s = absurd s
magic_before kinds.BadOrder left bytes o s = absurd s
magic_before kinds.BadLength left bytes o s = absurd s
magic_before kinds.TooLarge left bytes o s = absurd s
magic_before kinds.TooManyDeliveries left bytes o s = absurd s
magic_before kinds.BadThread left bytes o s = absurd s
magic_before kinds.BadSession left bytes o s = absurd s
magic_before kinds.TooManyCommands left bytes o s = absurd s

-- ---- in the opening

-- nothing is wrong with these bytes of an opening but that they end
abbrev pub IsOpeningFront : List ℕ → Type 0
IsOpeningFront bytes = OpeningFails bytes kinds.Truncated (length bytes)

header_part : (rest : List ℕ) → IsPart first_frame_fault rest → HeaderFails (magic ++ rest) kinds.Truncated (length (magic ++ rest))
header_part rest p = record { rest = rest; spelled = refl; fails = inr (p.none, p.cut, refl, length-append magic rest) }

no_first : first_frame_fault [] ≡ None
unfolding first_frame_fault
no_first = refl

header_before : (rest : List ℕ) → rest ≢ [] → IsPart first_frame_fault (without_last rest) → HeaderFails (without_last (magic ++ rest)) kinds.Truncated (length (without_last (magic ++ rest)))
header_before rest some p = subst (λ (t : List ℕ). HeaderFails t kinds.Truncated (length t)) (sym (shorter magic rest some)) (header_part (without_last rest) p)

pub opening_read : (fault : FeedFault) (left : Option (List ℕ)) (bytes : List ℕ) → fault.kind ≡ kinds.Read → OpeningStops fault left bytes → IsOpeningFront bytes
opening_read fault left bytes e (inl h) = inl (few_read fault.kind left bytes e h.0)
opening_read fault left bytes e (inr h) = inr (subst (λ (t : List ℕ). HeaderFails t kinds.Truncated (length t)) (sym h.1) (header_part h.0 (part_read first_frame_fault left h.0 fault.kind e h.2)))

pub opening_memory : (fault : FeedFault) (left : Option (List ℕ)) (bytes : List ℕ) → fault.kind ≡ kinds.Memory → OpeningStops fault left bytes → IsOpeningFront bytes ⊎ IsOpeningFront (without_last bytes)
opening_memory fault left bytes e (inl h) = inl (inl (few_memory fault.kind left bytes e h.0))
opening_memory fault left bytes e (inr h) = go h.0 h.1 (part_memory first_frame_fault first_more left h.0 fault.kind e h.2)
  where
    go : (rest : List ℕ) → bytes ≡ magic ++ rest → IsPart first_frame_fault (without_last rest) → IsOpeningFront bytes ⊎ IsOpeningFront (without_last bytes)
    go [] is p = inl (inr (subst (λ (t : List ℕ). HeaderFails t kinds.Truncated (length t)) (sym is) (header_part [] (record { none = no_first; cut = tt }))))
    go (x ∷ xs) is p = inr (inr (subst (λ (t : List ℕ). HeaderFails (without_last t) kinds.Truncated (length (without_last t))) (sym is) (header_before (x ∷ xs) (λ w. absurd cc) p)))

pub opening_shown : (fault : FeedFault) (left : Option (List ℕ)) (bytes : List ℕ) → IsOfBytes fault.kind → OpeningStops fault left bytes → OpeningFails bytes fault.kind fault.byte
opening_shown fault left bytes o (inl h) = inl (magic_shown fault.kind left bytes fault.byte o h.0 h.1)
opening_shown fault left bytes o (inr h) = inr (record {
  rest = h.0;
  spelled = h.1;
  fails = frame_shown fault.kind first_frame_fault left h.0 (length magic) fault.byte o h.2 (h.3 ∙ ap (fault_byte fault.kind (length magic)) (ap length h.1 ∙ length-append magic h.0));
})

pub opening_before : (fault : FeedFault) (left : Option (List ℕ)) (bytes : List ℕ) → IsFound fault.kind → OpeningStops fault left bytes → IsOpeningFront (without_last bytes)
opening_before fault left bytes o (inl h) = inl (magic_before fault.kind left bytes o h.0)
opening_before fault left bytes o (inr h) =
    let f = found fault.kind first_frame_fault left h.0 o h.2 in
    inr (subst (λ (t : List ℕ). HeaderFails (without_last t) kinds.Truncated (length (without_last t))) (sym h.1) (header_before h.0 (some_bytes fault.kind first_frame_fault h.0 no_first f) f.before))

-- ---- in a delivery, after these bytes

no_frame : (st : Standing) (before : List Item) → frame_fault st before [] ≡ None
unfolding frame_fault
no_frame st before = refl

-- nothing is wrong with these bytes of a delivery but that they end
abbrev pub IsDeliveryFront : Standing → List ℕ → List ℕ → Type 0
IsDeliveryFront st earlier bytes = DeliveryFails st (length earlier) bytes kinds.Truncated (length (earlier ++ bytes))

frame_part : (st : Standing) (earlier : List ℕ) (before : List Item) (rest : List ℕ) → AreItems st [] before → IsPart (frame_fault st before) rest → IsDeliveryFront st earlier (items_bytes before ++ rest)
frame_part st earlier before rest items p = record {
  before = before;
  rest = rest;
  spelled = refl;
  items = items;
  fails = inr (p.none, p.cut, refl, omega (arith, length-append earlier (items_bytes before ++ rest), length-append (items_bytes before) rest));
}

pub delivery_read : (st : Standing) (earlier : List ℕ) (before : List Item) (rest : List ℕ) (left : Option (List ℕ)) (k : FeedKind) → k ≡ kinds.Read → AreItems st [] before → FrameStops k (frame_fault st before) left rest
    → IsDeliveryFront st earlier (items_bytes before ++ rest)
delivery_read st earlier before rest left k e items stops = frame_part st earlier before rest items (part_read (frame_fault st before) left rest k e stops)

-- the same of the bytes without the last: it is one of the delivery's
pub record IsFrontBefore (st : Standing) (earlier bytes : List ℕ) : Type 0 where
  pub rest : List ℕ
  pub spelled : without_last (earlier ++ bytes) ≡ earlier ++ rest
  pub front : IsDeliveryFront st earlier rest

part_before : (st : Standing) (earlier : List ℕ) (before : List Item) (rest : List ℕ) → rest ≢ [] → AreItems st [] before → IsPart (frame_fault st before) (without_last rest) → IsFrontBefore st earlier (items_bytes before ++ rest)
part_before st earlier before rest some items p = record {
  rest = items_bytes before ++ without_last rest;
  spelled = shorter earlier (items_bytes before ++ rest) (append_some (items_bytes before) rest some) ∙ ap (λ (t : List ℕ). earlier ++ t) (shorter (items_bytes before) rest some);
  front = frame_part st earlier before (without_last rest) items p;
}

pub delivery_memory : (st : Standing) (earlier : List ℕ) (before : List Item) (rest : List ℕ) (left : Option (List ℕ)) (k : FeedKind) → k ≡ kinds.Memory → AreItems st [] before → FrameStops k (frame_fault st before) left rest
    → IsDeliveryFront st earlier (items_bytes before ++ rest) ⊎ IsFrontBefore st earlier (items_bytes before ++ rest)
delivery_memory st earlier before [] left k e items stops = inl (frame_part st earlier before [] items (record { none = no_frame st before; cut = tt }))
delivery_memory st earlier before (x ∷ xs) left k e items stops =
    inr (part_before st earlier before (x ∷ xs) (λ w. absurd cc) items (part_memory (frame_fault st before) (frame_more st before) left (x ∷ xs) k e stops))

-- a whole delivery without its last byte
end_part : (st : Standing) (before : List Item) → IsPart (frame_fault st before) (without_last end_bytes)
unfolding frame frame_fault
end_part st before = record { none = refl; cut = inl (omega arith) }

pub delivery_before : (st : Standing) (earlier : List ℕ) (items : List Item) → AreItems st [] items → IsFrontBefore st earlier (items_bytes items ++ end_bytes)
unfolding frame
delivery_before st earlier items are = part_before st earlier items end_bytes (λ w. absurd cc) are (end_part st items)

pub delivery_shown : (st : Standing) (before : List Item) (rest : List ℕ) (left : Option (List ℕ)) (k : FeedKind) (offset byte last : ℕ) → IsOfBytes k → AreItems st [] before → FrameStops k (frame_fault st before) left rest
    → byte ≡ fault_byte k (offset + length (items_bytes before)) last → last ≡ offset + length (items_bytes before) + length rest → DeliveryFails st offset (items_bytes before ++ rest) k byte
delivery_shown st before rest left k offset byte last o items stops e all = record {
  before = before;
  rest = rest;
  spelled = refl;
  items = items;
  fails = frame_shown k (frame_fault st before) left rest (offset + length (items_bytes before)) byte o stops (e ∙ ap (fault_byte k (offset + length (items_bytes before))) all);
}

pub delivery_found : (st : Standing) (earlier : List ℕ) (before : List Item) (rest : List ℕ) (left : Option (List ℕ)) (k : FeedKind) → IsFound k → AreItems st [] before → FrameStops k (frame_fault st before) left rest
    → IsFrontBefore st earlier (items_bytes before ++ rest)
delivery_found st earlier before rest left k o items stops =
    let f = found k (frame_fault st before) left rest o stops in
    part_before st earlier before rest (some_bytes k (frame_fault st before) rest (no_frame st before) f) items f.before

-- nothing is wrong with no bytes of a delivery
pub delivery_none : (st : Standing) (earlier : List ℕ) → IsDeliveryFront st earlier []
delivery_none st earlier = frame_part st earlier [] [] tt (record { none = no_frame st []; cut = tt })
