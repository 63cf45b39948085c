-- A frame that stops at one of its stages: before or at its tag, in or at its length, in its payload.
use Rattle.std.proofs.Common.{◌≡◌, ℕ, ◌+◌, ◌^◌, ◌<◌, ◌≤◌, List, [], ◌∷◌, ◌++◌, length, take, Option, Some, None, refl, sym, subst, ◌∙◌, inl, inr, arith, length-append}
use Rattle.std.specs.Ffi.{without_last}
use Rattle.std.specs.Int.{w32, to_be_bytes}
use Rattle.std.proofs.lemmas.List.{length-take}
use Rattle.std.proofs.lemmas.Nat.{from_be_bytes-to_be_bytes_4}
use Rattle.adg_model.specs.Feed.{Item, Standing, IsCut, frame_fault, tag_fault, length_fault, payload_fault, stated}
use Rattle.adg_model.specs.declared.fault.FeedKind.{FeedKind}
use Rattle.adg_model.specs.declared.fault.FeedKind.TheVariants as kind
use Rattle.feed_frames.specs.Intake.{Took, Misses}
use Rattle.feed_frames.specs.Counts.{IsShown}
use Rattle.feed_frames.specs.Frames.{StopsAfter}
use Rattle.feed_frames.proofs.IntakeLaws.{took_none, took_both}
use Rattle.feed_frames.proofs.Faults.{missing_stops, shown_stops, no_bytes, short_fault, head_fault, none_first, then_none, but_last}

pub no_length : (bytes : List ℕ) → length bytes < 1 → bytes ≡ []
no_length [] h = refl
no_length (x ∷ xs) h = absurd (omega arith)

pub before_tag : {a b : Option (List ℕ)} {m n : ℕ} {k : FeedKind} (st : Standing) (before : List Item) → Misses a b m n 1 k → StopsAfter [] (frame_fault st before) a b m n k
before_tag {a} {b} {m} {n} {k} st before h =
    let none : h.bytes ≡ [] = no_length h.bytes h.fewer in
    record {
      bytes = [];
      took = rw none at h.took;
      stops = missing_stops k (frame_fault st before) b [] h.missing (no_bytes st before) tt;
    }

pub at_tag : {a b : Option (List ℕ)} {m n tag : ℕ} {k : FeedKind} (st : Standing) (before : List Item) → Took a b m n (tag ∷ []) → tag_fault before tag ≡ Some k → IsShown k
    → StopsAfter [] (frame_fault st before) a b m n k
at_tag {a} {b} {m} {n} {tag} {k} st before took fault shown = record {
  bytes = tag ∷ [];
  took = took;
  stops = shown_stops k (frame_fault st before) b (tag ∷ []) shown (short_fault st before tag [] (omega arith) ∙ fault) (no_bytes st before) tt;
}

pub in_length : {a b d : Option (List ℕ)} {m n l tag : ℕ} {k : FeedKind} (st : Standing) (before : List Item) → Took a b m n (tag ∷ []) → tag_fault before tag ≡ None → Misses b d n l 4 k
    → StopsAfter [] (frame_fault st before) a d m l k
in_length {a} {b} {d} {m} {n} {l} {tag} {k} st before took good h = record {
  bytes = tag ∷ h.bytes;
  took = took_both a b d m n l (tag ∷ []) h.bytes took h.took;
  stops = missing_stops k (frame_fault st before) d (tag ∷ h.bytes) h.missing (short_fault st before tag h.bytes h.fewer ∙ good) (inl h.fewer);
}

pub at_length : {a b d : Option (List ℕ)} {m n l tag len : ℕ} {k : FeedKind} (st : Standing) (before : List Item) → Took a b m n (tag ∷ []) → tag_fault before tag ≡ None → Took b d n l (to_be_bytes w32 len) → len < 2 ^ 32
    → length_fault st before tag len ≡ Some k → IsShown k → StopsAfter [] (frame_fault st before) a d m l k
at_length {a} {b} {d} {m} {n} {l} {tag} {len} {k} st before took good more small fault shown = record {
  bytes = tag ∷ to_be_bytes w32 len;
  took = took_both a b d m n l (tag ∷ []) (to_be_bytes w32 len) took more;
  stops = shown_stops k (frame_fault st before) d (tag ∷ to_be_bytes w32 len) shown
      (head_fault st before tag len [] small ∙ none_first _ _ good ∙ then_none _ ∙ fault)
      (short_fault st before tag (take 3 (to_be_bytes w32 len)) (omega arith) ∙ good)
      (inl (omega arith));
}

-- ---- after a head in which no check finds a fault

pub record Headed (st : Standing) (before : List Item) (tag len : ℕ) : Type 0 where
  pub good_tag : tag_fault before tag ≡ None
  pub good_length : length_fault st before tag len ≡ None
  pub small : len < 2 ^ 32

-- then the fault is that of the payload
pub payload_only : {st : Standing} {before : List Item} {tag len : ℕ} (h : Headed st before tag len) (payload : List ℕ) → frame_fault st before (tag ∷ to_be_bytes w32 len ++ payload) ≡ payload_fault st before tag payload
payload_only {st} {before} {tag} {len} h payload = head_fault st before tag len payload h.small ∙ none_first _ _ h.good_tag ∙ none_first _ _ h.good_length

pub cut_payload : (tag len : ℕ) (payload : List ℕ) → len < 2 ^ 32 → length payload < len → IsCut (tag ∷ to_be_bytes w32 len ++ payload)
cut_payload tag len payload small short =
    let same : stated (to_be_bytes w32 len ++ payload) ≡ len = from_be_bytes-to_be_bytes_4 len small in
    inr (rw same short)

pub in_payload : {a b d : Option (List ℕ)} {m n l tag len wanted : ℕ} {k : FeedKind} {st : Standing} {before : List Item} (front : List ℕ) (h : Headed st before tag len) → Took a b m n front → (missed : Misses b d n l wanted k) → length front + wanted ≤ len
    → payload_fault st before tag (front ++ missed.bytes) ≡ None → StopsAfter (tag ∷ to_be_bytes w32 len) (frame_fault st before) a d m l k
in_payload {a} {b} {d} {m} {n} {l} {tag} {len} {wanted} {k} {st} {before} front h took missed room good = record {
  bytes = front ++ missed.bytes;
  took = took_both a b d m n l front missed.bytes took missed.took;
  stops = missing_stops k (frame_fault st before) d (tag ∷ to_be_bytes w32 len ++ (front ++ missed.bytes)) missed.missing
      (payload_only h (front ++ missed.bytes) ∙ good)
      (cut_payload tag len (front ++ missed.bytes) h.small (omega (arith, length-append front missed.bytes, missed.fewer)));
}

-- nothing of the payload came
pub no_payload : {a b : Option (List ℕ)} {m n tag len : ℕ} {k : FeedKind} {st : Standing} {before : List Item} (h : Headed st before tag len) → Misses a b m n 1 k → 1 ≤ len
    → StopsAfter (tag ∷ to_be_bytes w32 len) (frame_fault st before) a b m n k
no_payload {a} {b} {m} {n} {tag} {len} {k} {st} {before} h missed some =
    let none : missed.bytes ≡ [] = no_length missed.bytes missed.fewer in
    in_payload [] h (took_none a m) missed some (rw none refl)

-- the first byte of the payload shows a fault
pub at_first : {a b : Option (List ℕ)} {m n tag len first : ℕ} {k : FeedKind} {st : Standing} {before : List Item} (h : Headed st before tag len) → 1 ≤ len → Took a b m n (first ∷ []) → payload_fault st before tag (first ∷ []) ≡ Some k → IsShown k
    → StopsAfter (tag ∷ to_be_bytes w32 len) (frame_fault st before) a b m n k
at_first {a} {b} {m} {n} {tag} {len} {first} {k} {st} {before} h some took fault shown = record {
  bytes = first ∷ [];
  took = took;
  stops = shown_stops k (frame_fault st before) b (tag ∷ to_be_bytes w32 len ++ first ∷ []) shown (payload_only h (first ∷ []) ∙ fault) (payload_only h []) (cut_payload tag len [] h.small (omega (arith, some)));
}

-- without its last byte the frame is cut short
cut_last : (tag len : ℕ) (payload : List ℕ) → len < 2 ^ 32 → length payload ≤ len → (frame : List ℕ) → frame ≡ to_be_bytes w32 len ++ payload → IsCut (without_last (tag ∷ frame))
cut_last tag len payload small fits frame e =
    subst (λ (n : ℕ). IsCut (take n (tag ∷ frame))) (sym (but_last tag frame))
    (rw e (cut payload fits))
  where
    cut : (p : List ℕ) → length p ≤ len → IsCut (take (length (to_be_bytes w32 len ++ p)) (tag ∷ to_be_bytes w32 len ++ p))
    cut [] short = inl (omega arith)
    cut (x ∷ xs) short = cut_payload tag len (take (length xs) (x ∷ xs)) small (omega (arith, short, length-take (length xs) (x ∷ xs)))

-- memory was wanting after the payload
pub no_memory : {a b : Option (List ℕ)} {m n tag len : ℕ} {st : Standing} {before : List Item} (payload : List ℕ) (h : Headed st before tag len) → Took a b m n payload → length payload ≤ len → payload_fault st before tag payload ≡ None
    → StopsAfter (tag ∷ to_be_bytes w32 len) (frame_fault st before) a b m n kind.Memory
no_memory {a} {b} {m} {n} {tag} {len} {st} {before} payload h took fits good = record { bytes = payload; took = took; stops = (payload_only h payload ∙ good, cut_last tag len payload h.small fits _ refl) }
