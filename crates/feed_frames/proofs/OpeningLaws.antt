-- The first frame, which has to be the header, at each of its stages.
use Rattle.std.proofs.Common.{◌≡◌, ◌≢◌, ℕ, ◌^◌, ◌<◌, ◌==◌, true, false, not, List, [], ◌∷◌, ◌++◌, length, take, Option, Some, None, refl, ap, ◌∙◌, inl, inr, arith, length-append}
use Rattle.std.specs.Int.{w32, to_be_bytes}
use Rattle.std.proofs.lemmas.Nat.{from_be_bytes-to_be_bytes_4}
use Rattle.std.proofs.lemmas.Grind.{common_steps}
use Rattle.adg_model.specs.Feed.{IsIn, first_frame_fault, first_tag_fault, header_payload_fault, header_tag, header_bytes, magic, frame, fails, ◌else_check◌, has_length, stated, is_in}
use Rattle.adg_model.specs.declared.fault.FeedKind.{FeedKind}
use Rattle.adg_model.specs.declared.fault.FeedKind.TheVariants as kind
use Rattle.feed_frames.specs.declared.fault.FeedFault.{FeedFault}
use Rattle.feed_frames.specs.Intake.{Took, Misses, IsMissing, fault_byte}
use Rattle.feed_frames.specs.Answers.{MagicStops}
use Rattle.feed_frames.specs.Counts.{IsShown}
use Rattle.feed_frames.specs.Frames.{StopsAfter}
use Rattle.feed_frames.specs.Opening.{MagicMissing, NoOpening}
use Rattle.feed_frames.proofs.IntakeLaws.{took_both}
use Rattle.feed_frames.proofs.Faults.{missing_stops, shown_stops, then_none, none_first}
use Rattle.feed_frames.proofs.Stages.{no_length, cut_payload}

no_bytes : first_frame_fault [] ≡ None
unfolding first_frame_fault
no_bytes = refl

short_fault : (tag : ℕ) (rest : List ℕ) → length rest < 4 → first_frame_fault (tag ∷ rest) ≡ first_tag_fault tag
unfolding first_frame_fault
short_fault tag rest short =
    let none : has_length rest ≡ false = grind (arith, common_steps) in
    rw none (then_none (first_tag_fault tag))

-- with the header's tag only the length and the payload are at fault
header_fault : (n : ℕ) (payload : List ℕ) → n < 2 ^ 32 → first_frame_fault (header_tag ∷ to_be_bytes w32 n ++ payload) ≡ fails (not (n == 2)) kind.BadLength else_check header_payload_fault payload
unfolding first_frame_fault
header_fault n payload small =
    let there : has_length (to_be_bytes w32 n ++ payload) ≡ true = grind (arith, common_steps) in
    let same : stated (to_be_bytes w32 n ++ payload) ≡ n = from_be_bytes-to_be_bytes_4 n small in
    rw (there, same) refl

-- the head of the header
abbrev pub header_head : List ℕ
header_head = header_tag ∷ to_be_bytes w32 2

payload_fault : (payload : List ℕ) → first_frame_fault (header_head ++ payload) ≡ header_payload_fault payload
payload_fault payload = header_fault 2 payload (omega arith)

pub before_tag : {a b : Option (List ℕ)} {m n : ℕ} {k : FeedKind} → Misses a b m n 1 k → StopsAfter [] first_frame_fault a b m n k
before_tag {a} {b} {m} {n} {k} h =
    let none : h.bytes ≡ [] = no_length h.bytes h.fewer in
    record { bytes = []; took = rw none at h.took; stops = missing_stops k first_frame_fault b [] h.missing no_bytes tt }

pub at_tag : {a b : Option (List ℕ)} {m n tag : ℕ} {k : FeedKind} → Took a b m n (tag ∷ []) → first_tag_fault tag ≡ Some k → IsShown k → StopsAfter [] first_frame_fault a b m n k
at_tag {a} {b} {m} {n} {tag} {k} took fault shown = record {
  bytes = tag ∷ [];
  took = took;
  stops = shown_stops k first_frame_fault b (tag ∷ []) shown (short_fault tag [] (omega arith) ∙ fault) no_bytes tt;
}

pub in_length : {a b d : Option (List ℕ)} {m n l tag : ℕ} {k : FeedKind} → Took a b m n (tag ∷ []) → first_tag_fault tag ≡ None → Misses b d n l 4 k → StopsAfter [] first_frame_fault a d m l k
in_length {a} {b} {d} {m} {n} {l} {tag} {k} took good h = record {
  bytes = tag ∷ h.bytes;
  took = took_both a b d m n l (tag ∷ []) h.bytes took h.took;
  stops = missing_stops k first_frame_fault d (tag ∷ h.bytes) h.missing (short_fault tag h.bytes h.fewer ∙ good) (inl h.fewer);
}

is_other : (n : ℕ) → n ≢ 2 → not (n == 2) ≡ true
is_other n h = grind (arith, common_steps)

pub at_length : {a b d : Option (List ℕ)} {m n l tag len : ℕ} → Took a b m n (tag ∷ []) → tag ≡ header_tag → Took b d n l (to_be_bytes w32 len) → len < 2 ^ 32 → len ≢ 2
    → StopsAfter [] first_frame_fault a d m l kind.BadLength
at_length {a} {b} {d} {m} {n} {l} {tag} {len} took good more small other =
    let first : Took a b m n (header_tag ∷ []) = rw good at took in
    let none : fails (not (len == 2)) kind.BadLength ≡ Some kind.BadLength = ap (λ b. fails b kind.BadLength) (is_other len other) in
    record {
      bytes = header_tag ∷ to_be_bytes w32 len;
      took = took_both a b d m n l (header_tag ∷ []) (to_be_bytes w32 len) first more;
      stops = (header_fault len [] small ∙ then_none _ ∙ none, short_fault header_tag (take 3 (to_be_bytes w32 len)) (omega arith), inl (omega arith));
    }

pub headed : {a b d : Option (List ℕ)} {m n l tag len : ℕ} → Took a b m n (tag ∷ []) → tag ≡ header_tag → Took b d n l (to_be_bytes w32 len) → len ≡ 2 → Took a d m l header_head
headed {a} {b} {d} {m} {n} {l} {tag} {len} took good more two =
    let first : Took a b m n (header_tag ∷ []) = rw good at took in
    let second : Took b d n l (to_be_bytes w32 2) = rw two at more in
    took_both a b d m n l (header_tag ∷ []) (to_be_bytes w32 2) first second

pub no_threads : {a b d : Option (List ℕ)} {m n l : ℕ} {k : FeedKind} → Took a b m n header_head → Misses b d n l 1 k → StopsAfter [] first_frame_fault a d m l k
no_threads {a} {b} {d} {m} {n} {l} {k} took h =
    let none : h.bytes ≡ [] = no_length h.bytes h.fewer in
    record {
      bytes = header_head ++ h.bytes;
      took = took_both a b d m n l header_head h.bytes took h.took;
      stops = missing_stops k first_frame_fault d (header_head ++ h.bytes) h.missing (payload_fault h.bytes ∙ ap header_payload_fault none) (cut_payload header_tag 2 h.bytes (omega arith) (omega (arith, h.fewer)));
    }

out_of : (n : ℕ) → is_in 8 n ≡ false → not (is_in 8 n) ≡ true
out_of n h = rw h refl

inside : (n : ℕ) → is_in 8 n ≡ true → not (is_in 8 n) ≡ false
inside n h = rw h refl

pub in_range : (n : ℕ) → is_in 8 n ≡ true → IsIn 8 n
in_range n h = grind (arith, common_steps)

pub at_threads : {a b d : Option (List ℕ)} {m n l threads : ℕ} → Took a b m n header_head → Took b d n l (threads ∷ []) → is_in 8 threads ≡ false → StopsAfter [] first_frame_fault a d m l kind.BadThread
at_threads {a} {b} {d} {m} {n} {l} {threads} took more out = record {
  bytes = header_head ++ threads ∷ [];
  took = took_both a b d m n l header_head (threads ∷ []) took more;
  stops = (payload_fault (threads ∷ []) ∙ ap (λ b. fails b kind.BadThread) (out_of threads out), payload_fault [], cut_payload header_tag 2 [] (omega arith) (omega arith));
}

with_threads : {a b d : Option (List ℕ)} {m n l threads : ℕ} → Took a b m n header_head → Took b d n l (threads ∷ []) → Took a d m l (header_head ++ threads ∷ [])
with_threads {a} {b} {d} {m} {n} {l} {threads} took more = took_both a b d m n l header_head (threads ∷ []) took more

good_threads : (threads : ℕ) → is_in 8 threads ≡ true → header_payload_fault (threads ∷ []) ≡ None
good_threads threads good = ap (λ b. fails b kind.BadThread) (inside threads good)

pub no_sessions : {a b d e : Option (List ℕ)} {m n l j threads : ℕ} {k : FeedKind} → Took a b m n header_head → Took b d n l (threads ∷ []) → is_in 8 threads ≡ true → Misses d e l j 1 k → StopsAfter [] first_frame_fault a e m j k
no_sessions {a} {b} {d} {e} {m} {n} {l} {j} {threads} {k} took more good h =
    let none : h.bytes ≡ [] = no_length h.bytes h.fewer in
    record {
      bytes = header_head ++ threads ∷ h.bytes;
      took = took_both a d e m l j (header_head ++ threads ∷ []) h.bytes (with_threads took more) h.took;
      stops = missing_stops k first_frame_fault e (header_head ++ threads ∷ h.bytes) h.missing
          (payload_fault (threads ∷ h.bytes) ∙ ap (λ l. header_payload_fault (threads ∷ l)) none ∙ good_threads threads good)
          (cut_payload header_tag 2 (threads ∷ h.bytes) (omega arith) (omega (arith, h.fewer)));
    }

pub at_sessions : {a b d e : Option (List ℕ)} {m n l j threads sessions : ℕ} → Took a b m n header_head → Took b d n l (threads ∷ []) → is_in 8 threads ≡ true → Took d e l j (sessions ∷ []) → is_in 8 sessions ≡ false
    → StopsAfter [] first_frame_fault a e m j kind.BadSession
at_sessions {a} {b} {d} {e} {m} {n} {l} {j} {threads} {sessions} took more good last out = record {
  bytes = header_head ++ threads ∷ sessions ∷ [];
  took = took_both a d e m l j (header_head ++ threads ∷ []) (sessions ∷ []) (with_threads took more) last;
  stops = (payload_fault (threads ∷ sessions ∷ []) ∙ none_first _ _ (good_threads threads good) ∙ ap (λ b. fails b kind.BadSession) (out_of sessions out), payload_fault (threads ∷ []) ∙ good_threads threads good, cut_payload header_tag 2 (threads ∷ []) (omega arith) (omega arith));
}

pub header : {a b d e : Option (List ℕ)} {m n l j threads sessions : ℕ} → Took a b m n header_head → Took b d n l (threads ∷ []) → Took d e l j (sessions ∷ []) → Took a e m j (header_bytes threads sessions)
unfolding frame
header {a} {b} {d} {e} {m} {n} {l} {j} {threads} {sessions} took more last = took_both a d e m l j (header_head ++ threads ∷ []) (sessions ∷ []) (with_threads took more) last

-- ---- with the magic before it

magic_stops : (k : FeedKind) (left : Option (List ℕ)) (bytes : List ℕ) → IsMissing k left → length bytes < 8 → MagicStops k left bytes
magic_stops kind.Truncated left bytes m h = (h, m)
magic_stops kind.Read left bytes m h = h
magic_stops kind.Memory left bytes m h = h
magic_stops kind.BadMagic left bytes m h = absurd m
magic_stops kind.BadTag left bytes m h = absurd m
magic_stops kind.BadOrder left bytes m h = absurd m
magic_stops kind.BadLength left bytes m h = absurd m
magic_stops kind.TooLarge left bytes m h = absurd m
magic_stops kind.TooManyDeliveries left bytes m h = absurd m
magic_stops kind.BadThread left bytes m h = absurd m
magic_stops kind.BadSession left bytes m h = absurd m
magic_stops kind.TooManyCommands left bytes m h = absurd m

pub magic_missing : {a b : Option (List ℕ)} {m n : ℕ} {k : FeedKind} → Misses a b m n 8 k → MagicMissing a b m n k
magic_missing {a} {b} {m} {n} {k} h = record { bytes = h.bytes; took = h.took; stops = magic_stops k b h.bytes h.missing h.fewer }

pub no_header : {a b d : Option (List ℕ)} {m n l : ℕ} {k : FeedKind} {fault : FeedFault} → m ≡ 0 → Took a b m n magic → StopsAfter [] first_frame_fault b d n l k → fault ≡ record { kind = k; byte = fault_byte k n l }
    → NoOpening a d m l fault
no_header {a} {b} {d} {m} {n} {l} {k} {fault} zero took s e =
    let start : n ≡ length magic = omega (arith, took.counted, zero) in
    let all : l ≡ length (magic ++ s.bytes) = omega (arith, start, s.took.counted, length-append magic s.bytes) in
    let byte : fault_byte k n l ≡ fault_byte k (length magic) (length (magic ++ s.bytes)) = ap (λ (x : ℕ). fault_byte k x l) start ∙ ap (λ (y : ℕ). fault_byte k (length magic) y) all in
    record {
      bytes = magic ++ s.bytes;
      took = took_both a b d m n l magic s.bytes took s.took;
      stops = rw e (inr (s.bytes, refl, s.stops, byte));
    }
