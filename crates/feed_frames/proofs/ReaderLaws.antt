-- Where the source tells its bytes, what was taken shows the first fault of all of them.
use Rattle.std.proofs.Common.{◌≡◌, ℕ, ◌+◌, true, not, List, [], ◌∷◌, ◌++◌, length, take, Option, Some, None, inl, inr, refl, sym, ap, ◌∙◌, subst, arith, append_assoc, append-nil, length-append}
use Rattle.std.specs.Prelude.{IfSome, Err}
use Rattle.std.proofs.lemmas.List.{take_at}
use Rattle.std.proofs.lemmas.Grind.{common_steps}
use Rattle.adg_model.specs.Feed.{Item, Standing, first_tag_fault, FrameFails, DeliveryFails, MagicFails, ◌else_check◌, fails, has_length, stated, frame_fault, tag_fault, length_fault, payload_fault, first_frame_fault, header_payload_fault, items_bytes, magic, is_in, is_length}
use Rattle.adg_model.specs.declared.fault.FeedKind.{FeedKind}
use Rattle.adg_model.specs.declared.fault.FeedKind.TheVariants as kind
use Rattle.feed_frames.specs.declared.fault.FeedFault.{FeedFault}
use Rattle.feed_frames.specs.declared.phase.Phase.TheVariants.{Fresh}
use Rattle.feed_frames.specs.Intake.{fault_byte}
use Rattle.feed_frames.specs.Frames.{FrameStops, StopsAmong}
use Rattle.feed_frames.specs.Answers.{IsOfBytes, MagicStops, OpeningStops, OpeningFails, HeaderAnswer, AnswersDelivery, failed}
use Rattle.feed_frames.specs.State.{FeedState}
use Rattle.feed_frames.specs.Opening.{NoOpening}
use Rattle.feed_frames.proofs.Faults.{then_none}

-- ---- a fault that is shown stays where more bytes come

else_some : (a b d : Option FeedKind) (k : FeedKind) → (b ≡ Some k → d ≡ Some k) → a else_check b ≡ Some k → a else_check d ≡ Some k
else_some None b d k f h = f h
else_some (Some x) b d k f h = h

some_first : (a b : Option FeedKind) (k : FeedKind) → a ≡ Some k → a else_check b ≡ Some k
some_first None b k h = cc
some_first (Some x) b k h = h

payload_more : (st : Standing) (before : List Item) (tag : ℕ) (payload more : List ℕ) (k : FeedKind) → payload_fault st before tag payload ≡ Some k → payload_fault st before tag (payload ++ more) ≡ Some k
payload_more st before tag [] more k h = cc
payload_more st before tag (x ∷ xs) more k h = h

pub frame_more : (st : Standing) (before : List Item) (bytes more : List ℕ) (k : FeedKind) → frame_fault st before bytes ≡ Some k → frame_fault st before (bytes ++ more) ≡ Some k
unfolding frame_fault
frame_more st before [] more k h = cc
frame_more st before (tag ∷ []) more k h = some_first (tag_fault before tag) _ k (rw then_none at h)
frame_more st before (tag ∷ x ∷ []) more k h = some_first (tag_fault before tag) _ k (rw then_none at h)
frame_more st before (tag ∷ x ∷ y ∷ []) more k h = some_first (tag_fault before tag) _ k (rw then_none at h)
frame_more st before (tag ∷ x ∷ y ∷ z ∷ []) more k h = some_first (tag_fault before tag) _ k (rw then_none at h)
frame_more st before (tag ∷ x ∷ y ∷ z ∷ u ∷ payload) more k h =
    let there : has_length (x ∷ y ∷ z ∷ u ∷ payload) ≡ true = grind (arith, common_steps) in
    let still : has_length (x ∷ y ∷ z ∷ u ∷ (payload ++ more)) ≡ true = grind (arith, common_steps) in
    let len = length_fault st before tag (stated (x ∷ y ∷ z ∷ u ∷ [])) in
    let later = payload_more st before tag payload more k in
    rw still (else_some (tag_fault before tag) (len else_check payload_fault st before tag payload) (len else_check payload_fault st before tag (payload ++ more)) k
    (else_some len (payload_fault st before tag payload) (payload_fault st before tag (payload ++ more)) k later) (rw there at h))

header_more : (payload more : List ℕ) (k : FeedKind) → header_payload_fault payload ≡ Some k → header_payload_fault (payload ++ more) ≡ Some k
header_more [] more k h = cc
header_more (t ∷ []) [] k h = h
header_more (t ∷ []) (s ∷ more) k h = some_first (fails (not (is_in 8 t)) kind.BadThread) _ k h
header_more (t ∷ s ∷ others) more k h = h

pub first_more : (bytes more : List ℕ) (k : FeedKind) → first_frame_fault bytes ≡ Some k → first_frame_fault (bytes ++ more) ≡ Some k
unfolding first_frame_fault
first_more [] more k h = cc
first_more (tag ∷ []) more k h = some_first (first_tag_fault tag) _ k (rw then_none at h)
first_more (tag ∷ x ∷ []) more k h = some_first (first_tag_fault tag) _ k (rw then_none at h)
first_more (tag ∷ x ∷ y ∷ []) more k h = some_first (first_tag_fault tag) _ k (rw then_none at h)
first_more (tag ∷ x ∷ y ∷ z ∷ []) more k h = some_first (first_tag_fault tag) _ k (rw then_none at h)
first_more (tag ∷ x ∷ y ∷ z ∷ u ∷ payload) more k h =
    let there : has_length (x ∷ y ∷ z ∷ u ∷ payload) ≡ true = grind (arith, common_steps) in
    let still : has_length (x ∷ y ∷ z ∷ u ∷ (payload ++ more)) ≡ true = grind (arith, common_steps) in
    let len = fails (not (is_length tag (stated (x ∷ y ∷ z ∷ u ∷ [])))) kind.BadLength in
    let later = header_more payload more k in
    let old = len else_check header_payload_fault payload in
    let new = len else_check header_payload_fault (payload ++ more) in
    rw still (else_some (first_tag_fault tag) old new k (else_some len (header_payload_fault payload) (header_payload_fault (payload ++ more)) k later) (rw there at h))

pub frame_told : (check : List ℕ → Option FeedKind) → ((bytes more : List ℕ) (k : FeedKind) → check bytes ≡ Some k → check (bytes ++ more) ≡ Some k)
    → (k : FeedKind) (offset byte : ℕ) (rest left : List ℕ) → IsOfBytes k → FrameStops k check (Some left) rest → byte ≡ fault_byte k offset (offset + length rest) → FrameFails (check (rest ++ left)) offset (rest ++ left) k byte
frame_told check more kind.Read offset byte rest left o s e = absurd o
frame_told check more kind.Memory offset byte rest left o s e = absurd o
frame_told check more kind.Truncated offset byte rest left o s e =
    let none : rest ++ left ≡ rest = ap (λ l. rest ++ l) s.2 ∙ append-nil rest in
    inr (rw none s.0, rw none s.1, refl, e ∙ ap (λ l. offset + length l) (sym none))
frame_told check more kind.BadMagic offset byte rest left o s e = inl (more rest left _ s.0, e)
frame_told check more kind.BadTag offset byte rest left o s e = inl (more rest left _ s.0, e)
frame_told check more kind.BadOrder offset byte rest left o s e = inl (more rest left _ s.0, e)
frame_told check more kind.BadLength offset byte rest left o s e = inl (more rest left _ s.0, e)
frame_told check more kind.TooLarge offset byte rest left o s e = inl (more rest left _ s.0, e)
frame_told check more kind.TooManyDeliveries offset byte rest left o s e = inl (more rest left _ s.0, e)
frame_told check more kind.BadThread offset byte rest left o s e = inl (more rest left _ s.0, e)
frame_told check more kind.BadSession offset byte rest left o s e = inl (more rest left _ s.0, e)
frame_told check more kind.TooManyCommands offset byte rest left o s e = inl (more rest left _ s.0, e)

-- ---- in the magic, in the header, and in a delivery

magic_told : (k : FeedKind) (byte : ℕ) (bytes left : List ℕ) → IsOfBytes k → MagicStops k (Some left) bytes → byte ≡ fault_byte k 0 (length bytes) → MagicFails (bytes ++ left) k byte
magic_told kind.Truncated byte bytes left o s e =
    let none : bytes ++ left ≡ bytes = ap (λ l. bytes ++ l) s.1 ∙ append-nil bytes in
    inl (rw none s.0, refl, e ∙ ap length (sym none))
magic_told kind.Read byte bytes left o s e = absurd o
magic_told kind.Memory byte bytes left o s e = absurd o
magic_told kind.BadMagic byte bytes left o s e =
    let front : take 8 (bytes ++ left) ≡ bytes = take_at bytes left 8 s.0 in
    inr (omega (arith, length-append bytes left, s.0), λ p. s.1 (sym front ∙ p), refl, e)
magic_told kind.BadTag byte bytes left o s e = absurd s
magic_told kind.BadOrder byte bytes left o s e = absurd s
magic_told kind.BadLength byte bytes left o s e = absurd s
magic_told kind.TooLarge byte bytes left o s e = absurd s
magic_told kind.TooManyDeliveries byte bytes left o s e = absurd s
magic_told kind.BadThread byte bytes left o s e = absurd s
magic_told kind.BadSession byte bytes left o s e = absurd s
magic_told kind.TooManyCommands byte bytes left o s e = absurd s

opening_bytes_told : (fault : FeedFault) (bytes left : List ℕ) → IsOfBytes fault.kind → OpeningStops fault (Some left) bytes → OpeningFails (bytes ++ left) fault.kind fault.byte
opening_bytes_told fault bytes left o s = elim s [
  | inl m ↦ inl (magic_told fault.kind fault.byte bytes left o m.0 m.1)
  | inr h ↦ inr (record {
    rest = h.0 ++ left;
    spelled = ap (λ l. l ++ left) h.1 ∙ append_assoc magic h.0 left;
    fails = frame_told first_frame_fault first_more fault.kind (length magic) fault.byte h.0 left o h.2
        (h.3 ∙ ap (fault_byte fault.kind (length magic)) (ap length h.1 ∙ length-append magic h.0));
  })
]

pub opening_told : (from to : Option (List ℕ)) (first last : ℕ) (fault : FeedFault) → NoOpening from to first last fault → IsOfBytes fault.kind → IfSome from (λ left. OpeningFails left fault.kind fault.byte)
opening_told None to first last fault h o = tt
opening_told (Some left) None first last fault h o = absurd h.took.consumed
opening_told (Some left) (Some rest) first last fault h o = subst (λ l. OpeningFails l fault.kind fault.byte) (sym h.took.consumed) (opening_bytes_told fault h.bytes rest o h.stops)

pub delivery_told : (st : Standing) (from to : Option (List ℕ)) (first last : ℕ) (fault : FeedFault) → StopsAmong st from to first last fault → IsOfBytes fault.kind → IfSome from (λ left. DeliveryFails st first left fault.kind fault.byte)
delivery_told st None to first last fault h o = tt
delivery_told st (Some left) None first last fault h o = absurd h.took.consumed
delivery_told st (Some left) (Some rest) first last fault h o =
    let items = items_bytes h.before in
    let all : last ≡ (first + length items) + length h.rest = omega (arith, h.took.counted, length-append items h.rest) in
    record {
      before = h.before;
      rest = h.rest ++ rest;
      spelled = h.took.consumed ∙ append_assoc items h.rest rest;
      items = h.items;
      fails = frame_told (frame_fault st h.before) (frame_more st h.before) fault.kind (first + length items) fault.byte h.rest rest o h.stops (h.byte ∙ ap (fault_byte fault.kind (first + length items)) all);
    }

-- ---- what the reader answers then

pub header_failed : (old : FeedState) (from to : Option (List ℕ)) (last : ℕ) (fault : FeedFault) → old.phase ≡ Fresh → NoOpening from to old.taken last fault → HeaderAnswer old.phase old (failed old fault last) from to (Err fault)
header_failed old from to last fault e h = rw e (record { bytes = h.bytes; took = h.took; stops = h.stops; first = opening_told from to old.taken last fault h; state = refl })

pub delivery_failed : (old : FeedState) (from to : Option (List ℕ)) (last : ℕ) (fault : FeedFault) → StopsAmong old.standing from to old.taken last fault → AnswersDelivery old (failed old fault last) from to (Err fault)
delivery_failed old from to last fault h = record {
  before = h.before;
  rest = h.rest;
  items = h.items;
  took = h.took;
  stops = h.stops;
  byte = h.byte;
  first = delivery_told old.standing from to old.taken last fault h;
  state = refl;
}
