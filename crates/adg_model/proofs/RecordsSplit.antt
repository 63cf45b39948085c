-- The records of a text are those of its parts, however it is cut.
use Rattle.std.proofs.Common.{◌≡◌, ℕ, ◌-◌, ◌≤◌, true, false, List, [], ◌∷◌, ◌++◌, length, take, drop, Option, Some, None, sym, ap, ◌∙◌, append_assoc, arith, inl, inr}
use Rattle.std.specs.List.{flat_map}
use Rattle.std.specs.Prelude.{if◌then◌else◌, ◌==◌, nat_le, not, ◌||◌, ◌^◌}
use Rattle.std.specs.Int.{w16, w64, from_be_bytes}
use Rattle.std.proofs.lemmas.Bool.{cases_lt, cases_Bool}
use Rattle.std.proofs.lemmas.List.{take-append-le, drop-append-le, length-append, length-drop}
use Rattle.std.proofs.lemmas.Grind.{flat_map-append}
use Rattle.adg_model.specs.declared.fault.FrameKind.{FrameKind}
use Rattle.adg_model.specs.declared.fault.FrameKind.TheVariants.{BadTrailer, ScnRange, ScnOrder}
use Rattle.adg_model.specs.Records.{Raw, raw_bytes, Mark, mark_of, mark_after, AreRaws, stated_len, stated_scn, whole_fault, record_fault, SplitsFrom, FailsFrom}
use Rattle.adg_model.proofs.RecordsFault.{trailer_at, fault_after_end, fault_nothing, fault_begun, fault_length, fault_part, fault_whole}
use Rattle.adg_model.proofs.LogLaws.{mark_after_append}

-- ---- a fault stays, whatever comes behind it

-- the answer on a whole record by what it reads there
abbrev fault_by : ℕ → ℕ → ℕ → ℕ → Option FrameKind
fault_by last trailer scn len =
    if not (trailer == len) then Some BadTrailer
    else if (scn == 0) || nat_le (2 ^ 48) scn then Some ScnRange
    else if nat_le scn last then Some ScnOrder
    else None

stated_len_append : (text more : List ℕ) → 2 ≤ length text → stated_len (text ++ more) ≡ stated_len text
stated_len_append text more some = ap (λ (t : List ℕ). from_be_bytes w16 t) (take-append-le 2 text more some)

whole_fault_append : (last : ℕ) (text more : List ℕ) (len : ℕ) → 13 ≤ len → len ≤ length text → whole_fault last (text ++ more) len ≡ whole_fault last text len
whole_fault_append last text more len long whole =
    let back : drop (len - 2) (text ++ more) ≡ drop (len - 2) text ++ more = drop-append-le (len - 2) text more (omega arith) in
    let trailer : trailer_at (text ++ more) len ≡ trailer_at text len =
    ap (λ (t : List ℕ). from_be_bytes w16 (take 2 t)) back ∙ ap (λ (t : List ℕ). from_be_bytes w16 t) (take-append-le 2 (drop (len - 2) text) more (omega (arith, length-drop (len - 2) text))) in
    let inner : drop 2 (text ++ more) ≡ drop 2 text ++ more = drop-append-le 2 text more (omega arith) in
    let scn : stated_scn (text ++ more) ≡ stated_scn text =
    ap (λ (t : List ℕ). from_be_bytes w64 (take 8 t)) inner ∙ ap (λ (t : List ℕ). from_be_bytes w64 t) (take-append-le 8 (drop 2 text) more (omega (arith, length-drop 2 text))) in
    ap (λ (n : ℕ). fault_by last n (stated_scn (text ++ more)) len) trailer ∙ ap (λ (n : ℕ). fault_by last (trailer_at text len) n len) scn

abbrev FaultStays : Mark → List ℕ → List ℕ → FrameKind → Type 0
FaultStays mark text more kind = record_fault mark text ≡ Some kind → record_fault mark (text ++ more) ≡ Some kind

stays_whole : (mark : Mark) (text more : List ℕ) (kind : FrameKind) → mark.ended ≡ false → 13 ≤ stated_len text → stated_len text ≤ length text → FaultStays mark text more kind
stays_whole mark text more kind ended long whole shown =
    let len = stated_len_append text more (omega arith) in
    let longer : stated_len text ≤ length (text ++ more) = omega (arith, length-append text more) in
    fault_whole mark (text ++ more) ended (omega (arith, len)) (omega (arith, len))
    ∙ ap (λ (n : ℕ). whole_fault mark.scn (text ++ more) n) len
    ∙ whole_fault_append mark.scn text more (stated_len text) long whole
    ∙ sym (fault_whole mark text ended long whole)
    ∙ shown

stays_open : (mark : Mark) (text more : List ℕ) (kind : FrameKind) → mark.ended ≡ false → FaultStays mark text more kind
stays_open mark text more kind ended shown =
    elim (cases_lt (length text) 2) [
      | inl few ↦ (let none = fault_begun mark text ended few in absurd cc)
      | inr some ↦ elim (cases_lt (stated_len text) 13) [
        | inl short ↦ (fault_length mark (text ++ more) ended (omega (arith, length-append text more)) (omega (arith, stated_len_append text more some))
            ∙ sym (fault_length mark text ended some short) ∙ shown)
        | inr long ↦ elim (cases_lt (length text) (stated_len text)) [
          | inl part ↦ (let none = fault_part mark text ended some long part in absurd cc)
          | inr whole ↦ stays_whole mark text more kind ended long whole shown
        ]
      ]
    ]

stays_ended : (mark : Mark) (text more : List ℕ) (kind : FrameKind) → mark.ended ≡ true → FaultStays mark text more kind
stays_ended mark text more kind ended shown =
    elim (cases_lt 0 (length text)) [
      | inl some ↦ (fault_after_end mark (text ++ more) ended (omega (arith, length-append text more)) ∙ sym (fault_after_end mark text ended some) ∙ shown)
      | inr none ↦ (let nothing = fault_nothing mark text ended (omega arith) in absurd cc)
    ]

pub record_fault_append : (mark : Mark) (text more : List ℕ) (kind : FrameKind) → record_fault mark text ≡ Some kind → record_fault mark (text ++ more) ≡ Some kind
record_fault_append mark text more kind =
    elim (cases_Bool mark.ended) [
      | inl ended ↦ stays_ended mark text more kind ended
      | inr ended ↦ stays_open mark text more kind ended
    ]

-- ---- one part after another

pub AreRaws_append : (mark : Mark) (rs ss : List Raw) → AreRaws mark rs → AreRaws (mark_after mark rs) ss → AreRaws mark (rs ++ ss)
AreRaws_append mark [] ss p q = q
AreRaws_append mark (r ∷ rs) ss p q = (p.0, p.1, p.2, AreRaws_append (mark_of r) rs ss p.3 q)

pub spelled_append : (text more : List ℕ) (rs ss : List Raw) (rest last : List ℕ) → text ≡ flat_map raw_bytes rs ++ rest → rest ++ more ≡ flat_map raw_bytes ss ++ last → text ++ more ≡ flat_map raw_bytes (rs ++ ss) ++ last
spelled_append text more rs ss rest last p q =
    ap (λ (t : List ℕ). t ++ more) p
    ∙ append_assoc (flat_map raw_bytes rs) rest more
    ∙ ap (λ (t : List ℕ). flat_map raw_bytes rs ++ t) q
    ∙ sym (append_assoc (flat_map raw_bytes rs) (flat_map raw_bytes ss) last)
    ∙ ap (λ (t : List ℕ). t ++ last) (sym (flat_map-append raw_bytes rs ss))

pub SplitsFrom_then : (mark : Mark) (text more : List ℕ) (rs ss : List Raw) (rest last : List ℕ) → SplitsFrom mark text rs rest → SplitsFrom (mark_after mark rs) (rest ++ more) ss last → SplitsFrom mark (text ++ more) (rs ++ ss) last
SplitsFrom_then mark text more rs ss rest last p q = record {
  spelled = spelled_append text more rs ss rest last p.spelled q.spelled;
  follow = AreRaws_append mark rs ss p.follow q.follow;
  part = q.part;
  good = ap (λ (m : Mark). record_fault m last) (mark_after_append mark rs ss) ∙ q.good;
}

pub SplitsFrom_then_fails : (mark : Mark) (text more : List ℕ) (rs ss : List Raw) (rest : List ℕ) (kind : FrameKind) → SplitsFrom mark text rs rest → FailsFrom (mark_after mark rs) (rest ++ more) ss kind → FailsFrom mark (text ++ more) (rs ++ ss) kind
SplitsFrom_then_fails mark text more rs ss rest kind p q = record {
  rest = q.rest;
  spelled = spelled_append text more rs ss rest q.rest p.spelled q.spelled;
  follow = AreRaws_append mark rs ss p.follow q.follow;
  shown = ap (λ (m : Mark). record_fault m q.rest) (mark_after_append mark rs ss) ∙ q.shown;
}

-- what fails goes on to fail, at the same record and for the same fault
pub FailsFrom_append : (mark : Mark) (text more : List ℕ) (rs : List Raw) (kind : FrameKind) → FailsFrom mark text rs kind → FailsFrom mark (text ++ more) rs kind
FailsFrom_append mark text more rs kind p = record {
  rest = p.rest ++ more;
  spelled = ap (λ (t : List ℕ). t ++ more) p.spelled ∙ append_assoc (flat_map raw_bytes rs) p.rest more;
  follow = p.follow;
  shown = record_fault_append (mark_after mark rs) p.rest more kind p.shown;
}
