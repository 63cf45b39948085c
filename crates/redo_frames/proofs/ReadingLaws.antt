-- Reading on: one more record, the unfinished record that a piece ends, and the rest of the piece.
use Rattle.std.proofs.Common.{◌≡◌, ℕ, ◌+◌, ◌-◌, ◌≤◌, List, [], ◌∷◌, ◌++◌, length, take, drop, max, Option, Some, None, refl, sym, ap, subst, ◌∙◌, append_assoc, arith, inl, inr}
use Rattle.std.specs.List.{flat_map}
use Rattle.std.proofs.Math.Seq.{take-add}
use Rattle.std.proofs.lemmas.List.{append-nil, take_at, take-append-drop, length-append, length-take, length-drop, take_all, flat_map_more}
use Rattle.std.proofs.lemmas.Bool.{cases_Bool}
use Rattle.adg_model.specs.declared.fault.FrameKind.{FrameKind}
use Rattle.adg_model.specs.Records.{Raw, raw_bytes, Mark, mark_of, mark_after, AreRaws, stated_len, record_fault, SplitsFrom}
use Rattle.adg_model.proofs.RecordsSpelled.{length_raw_bytes}
use Rattle.adg_model.proofs.RecordsFault.{fault_nothing, fault_begun}
use Rattle.adg_model.proofs.LogLaws.{mark_after_append}
use Rattle.adg_model.proofs.RecordsSplit.{AreRaws_append, record_fault_append, SplitsFrom_then, SplitsFrom_then_fails}
use Rattle.redo_frames.specs.NextRecord.{raw_at, Begins, Stops}
use Rattle.redo_frames.specs.Reading.{Stands, Reads, Gains, IsPrefix}

pub IsPrefix_append : {X : Type 0} (front more all : List X) → all ≡ front ++ more → IsPrefix front all
IsPrefix_append {X = X} front more all e = ap (λ (l : List X). take (length front) l) e ∙ take_at front more (length front) refl

pub Reads_none : (held : List Raw) (mark : Mark) → Reads held held mark mark []
Reads_none held mark = record { more = []; added = sym (append-nil held); spelled = refl; follow = tt; mark = refl }

pub Reads_more : (before after : List Raw) (from to : Mark) (text rest : List ℕ) → Begins to rest → Reads before after from to text → Reads before (after ++ raw_at rest ∷ []) from (mark_of (raw_at rest)) (text ++ take (stated_len rest) rest)
Reads_more before after from to text rest h p =
    let r = raw_at rest in
    let rises : AreRaws (mark_after from p.more) (r ∷ []) =
    subst (λ (m : Mark). AreRaws m (r ∷ [])) p.mark h.follows in
    record {
      more = p.more ++ r ∷ [];
      added = ap (λ (l : List Raw). l ++ r ∷ []) p.added ∙ append_assoc before p.more (r ∷ []);
      spelled = ap (λ (t : List ℕ). t ++ take (stated_len rest) rest) p.spelled ∙ ap (λ (t : List ℕ). flat_map raw_bytes p.more ++ t) (sym h.spelled) ∙ flat_map_more raw_bytes [] p.more r;
      follow = AreRaws_append from p.more (r ∷ []) p.follow rises;
      mark = sym (mark_after_append from p.more (r ∷ []));
    }

-- the bytes from a place on, as a slice has them
abbrev pub from_place : ℕ → List ℕ → List ℕ
from_place used bytes = take (length bytes - used) (drop used bytes)

pub from_place_is : (used : ℕ) (bytes : List ℕ) → from_place used bytes ≡ drop used bytes
from_place_is used bytes = take_all (length bytes - used) (drop used bytes) (omega (arith, length-drop used bytes))

-- one record more, from its bytes to the place behind them
pub Reads_next : (before after held : List Raw) (from to mark : Mark) (frame : Raw) (bytes : List ℕ) (used len : ℕ) → used ≤ length bytes → Begins to (from_place used bytes) → len ≡ stated_len (from_place used bytes) → frame ≡ raw_at (from_place used bytes) → held ≡ after ++ frame ∷ [] → mark ≡ mark_of frame → Reads before after from to (take used bytes) → (used + len ≤ length bytes) × Reads before held from mark (take (used + len) bytes)
Reads_next before after held from to mark frame bytes used len inside h len_is frame_is held_is mark_is p =
    let rest = from_place used bytes in
    let longer : take used bytes ++ take (stated_len rest) rest ≡ take (used + len) bytes =
    ap (λ (t : List ℕ). take used bytes ++ take (stated_len rest) t) (from_place_is used bytes) ∙ sym (take-add used (stated_len rest) bytes) ∙ ap (λ (n : ℕ). take (used + n) bytes) (sym len_is) in
    let held_as : after ++ raw_at rest ∷ [] ≡ held = ap (λ (r : Raw). after ++ r ∷ []) (sym frame_is) ∙ sym held_is in
    let mark_as : mark_of (raw_at rest) ≡ mark = ap mark_of (sym frame_is) ∙ sym mark_is in
    let more = Reads_more before after from to (take used bytes) rest h p in
    let placed = subst (λ (t : List ℕ). Reads before (after ++ raw_at rest ∷ []) from (mark_of (raw_at rest)) t) longer more in
    let marked = subst (λ (m : Mark). Reads before (after ++ raw_at rest ∷ []) from m (take (used + len) bytes)) mark_as placed in (
      omega (arith, h.whole, len_is, length-take (length bytes - used) (drop used bytes), length-drop used bytes),
      subst (λ (l : List Raw). Reads before l from mark (take (used + len) bytes)) held_as marked,
    )

-- ---- the records of a text, and what is left of it

Stands_from : (fault : Option FrameKind) (from to : Mark) (text : List ℕ) (more : List Raw) (rest : List ℕ) → text ≡ flat_map raw_bytes more ++ rest → AreRaws from more → to ≡ mark_after from more → Stops fault to rest → Stands fault from text more rest
Stands_from None from to text more rest spelled follow mark stops = record {
  spelled = spelled;
  follow = follow;
  part = stops.0;
  good = ap (λ (m : Mark). record_fault m rest) (sym mark) ∙ stops.1;
}
Stands_from (Some kind) from to text more rest spelled follow mark stops = record {
  rest = rest;
  spelled = spelled;
  follow = follow;
  shown = ap (λ (m : Mark). record_fault m rest) (sym mark) ∙ stops;
}

pub Gains_from_reads : (fault : Option FrameKind) (before after : List Raw) (from to : Mark) (bytes : List ℕ) (used : ℕ) → Reads before after from to (take used bytes) → Stops fault to (drop used bytes) → Gains before after from to fault bytes (from_place used bytes)
Gains_from_reads fault before after from to bytes used p stops =
    let spelled : bytes ≡ flat_map raw_bytes p.more ++ drop used bytes =
    sym (take-append-drop used bytes) ∙ ap (λ (t : List ℕ). t ++ drop used bytes) p.spelled in
    let stands = Stands_from fault from to bytes p.more (drop used bytes) spelled p.follow p.mark stops in
    record {
      more = p.more;
      added = p.added;
      mark = p.mark;
      stands = subst (λ (t : List ℕ). Stands fault from bytes p.more t) (sym (from_place_is used bytes)) stands;
    }

-- records are no more than their bytes
pub length_records : (rs : List Raw) → length rs ≤ length (flat_map raw_bytes rs)
length_records [] = omega arith
length_records (r ∷ rs) = omega (arith, length_records rs, length_raw_bytes r, length-append (raw_bytes r) (flat_map raw_bytes rs))

pub length_reads : (before after : List Raw) (from to : Mark) (bytes : List ℕ) → Reads before after from to bytes → length after ≤ length before + length bytes
length_reads before after from to bytes p =
    omega (arith, length_records p.more, ap length p.spelled, ap length p.added, length-append before p.more)

pub Stands_then : (fault : Option FrameKind) (mark : Mark) (text more : List ℕ) (rs ss : List Raw) (rest last : List ℕ) → SplitsFrom mark text rs rest → Stands fault (mark_after mark rs) (rest ++ more) ss last → Stands fault mark (text ++ more) (rs ++ ss) last
Stands_then None mark text more rs ss rest last p q = SplitsFrom_then mark text more rs ss rest last p q
Stands_then (Some kind) mark text more rs ss rest last p q = SplitsFrom_then_fails mark text more rs ss rest kind p q

-- ---- a piece that goes on with an unfinished record

joined : (old piece rest : List ℕ) (used : ℕ) → rest ≡ old ++ take used piece → rest ++ drop used piece ≡ old ++ piece
joined old piece rest used e =
    ap (λ (t : List ℕ). t ++ drop used piece) e ∙ append_assoc old (take used piece) (drop used piece) ∙ ap (λ (t : List ℕ). old ++ t) (take-append-drop used piece)

-- the record that goes on has a fault
pub Gains_fault : (held : List Raw) (mark : Mark) (kind : FrameKind) (old piece rest : List ℕ) (used : ℕ) → rest ≡ old ++ take used piece → record_fault mark rest ≡ Some kind → Gains held held mark mark (Some kind) (old ++ piece) rest
Gains_fault held mark kind old piece rest used e shown = record {
  more = [];
  added = sym (append-nil held);
  mark = refl;
  stands = record {
    rest = old ++ piece;
    spelled = refl;
    follow = tt;
    shown = ap (record_fault mark) (sym (joined old piece rest used e)) ∙ record_fault_append mark rest (drop used piece) kind shown;
  };
}

nothing_wrong : (mark : Mark) → record_fault mark [] ≡ None
nothing_wrong mark =
    elim (cases_Bool mark.ended) [
      | inl ended ↦ fault_nothing mark [] ended refl
      | inr ended ↦ fault_begun mark [] ended (omega arith)
    ]

-- a whole record and no more
SplitsFrom_whole : (mark : Mark) (rest : List ℕ) → Begins mark rest → length rest ≡ stated_len rest → SplitsFrom mark rest (raw_at rest ∷ []) []
SplitsFrom_whole mark rest h len = record {
  spelled = sym (take_all (stated_len rest) rest (omega (arith, len))) ∙ sym h.spelled ∙ sym (append-nil (raw_bytes (raw_at rest))) ∙ sym (append-nil (raw_bytes (raw_at rest) ++ []));
  follow = h.follows;
  part = inl (omega arith);
  good = nothing_wrong (mark_of (raw_at rest));
}

-- the record that goes on is whole, and others come behind it
pub Gains_whole : (fault : Option FrameKind) (before held after : List Raw) (from mark to : Mark) (old piece rest unread : List ℕ) (used : ℕ) → rest ≡ old ++ take used piece → Begins from rest → length rest ≡ stated_len rest → held ≡ before ++ raw_at rest ∷ [] → mark ≡ mark_of (raw_at rest) → Gains held after mark to fault (from_place used piece) unread → Gains before after from to fault (old ++ piece) unread
Gains_whole fault before held after from mark to old piece rest unread used e h len held_is mark_is p =
    let r = raw_at rest in
    let text : rest ++ from_place used piece ≡ old ++ piece =
    ap (λ (t : List ℕ). rest ++ t) (from_place_is used piece) ∙ joined old piece rest used e in
    let later = subst (λ (m : Mark). Stands fault m (from_place used piece) p.more unread) mark_is p.stands in
    let stands = Stands_then fault from rest (from_place used piece) (r ∷ []) p.more [] unread (SplitsFrom_whole from rest h len) later in
    record {
      more = r ∷ p.more;
      added = p.added ∙ ap (λ (l : List Raw). l ++ p.more) held_is ∙ append_assoc before (r ∷ []) p.more;
      mark = p.mark ∙ ap (λ (m : Mark). mark_after m p.more) mark_is;
      stands = subst (λ (t : List ℕ). Stands fault from t (r ∷ p.more) unread) text stands;
    }

pub IsPrefix_shorter : {X : Type 0} (front more all : List X) → IsPrefix (front ++ more) all → IsPrefix front all
IsPrefix_shorter {X = X} front more all h =
    let n = length (front ++ more) in
    IsPrefix_append front (more ++ drop n all) all
    (sym (take-append-drop n all) ∙ ap (λ (l : List X). l ++ drop n all) h ∙ append_assoc front more (drop n all))

-- a record that was less than whole and now is whole ends where its bytes end
pub ends_there : (mark : Mark) (rest : List ℕ) → Begins mark rest → length rest ≤ max 2 (stated_len rest) → length rest ≡ stated_len rest
ends_there mark rest h bound = omega (arith, h.long, h.whole, bound)
