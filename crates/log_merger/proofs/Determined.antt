-- The whole records of a text are the only ones, also those that are not read yet.
use Rattle.std.proofs.Common.{◌≡◌, ℕ, ◌+◌, ◌-◌, ◌<◌, ◌≤◌, ◌^◌, List, [], ◌∷◌, ◌++◌, length, take, drop, map, Option, Some, None, refl, sym, ap, ap₂, ◌∙◌, subst, arith, append_assoc, length-append}
use Rattle.std.specs.Int.{w16, w64, to_be_bytes, from_be_bytes}
use Rattle.std.specs.List.{flat_map}
use Rattle.std.proofs.lemmas.List.{drop_at, append_cancel_left}
use Rattle.std.proofs.lemmas.Nat.{from_be_bytes-to_be_bytes_2}
use Rattle.adg_base.specs.declared.vector.RedoRecord.{RedoRecord}
use Rattle.adg_model.specs.declared.fault.FrameKind.{FrameKind}
use Rattle.adg_model.specs.Records.{Raw, raw_len, raw_bytes, IsPart, Mark, first_mark, mark_of, mark_after, raw_of, AreRaws, stated_scn, whole_fault, record_fault, HasRecords, HasBadVector, AreReadable, FailsFrom}
use Rattle.adg_model.specs.Log.{thread_mark, frontier}
use Rattle.adg_model.proofs.RecordsFault.{trailer_at, fault_whole}
use Rattle.adg_model.proofs.RecordsSpelled.{reads_as, raw_bytes_apart, raw_no_part}
use Rattle.adg_model.specs.declared.fault.RedoKind.TheVariants.{Frame, BadVector, Unsound}
use Rattle.adg_model.specs.Spelling.{AreVectors}
use Rattle.change_vectors.proofs.Bodies.{bad_excludes}
use Rattle.redo_frames.specs.NextRecord.{Stops}
use Rattle.redo_frames.specs.Reading.{Stands}
use Rattle.log_merger.specs.Thread.{Receiving, raws, HasRead}
use Rattle.log_merger.specs.Law.{GoodIsNotBad}
use Rattle.log_merger.specs.Merge.{marks_of, frontier_of}
use Rattle.log_merger.specs.Merger.{RecordsFrom, Part, ThreadsFrom}

-- ---- a record that may follow has no fault

-- the bytes of a record before its last two
front_bytes : Raw → List ℕ
front_bytes r = to_be_bytes w16 (raw_len r) ++ to_be_bytes w64 r.scn ++ r.count ∷ r.body

front_apart : (r : Raw) (rest : List ℕ) → raw_bytes r ++ rest ≡ front_bytes r ++ (to_be_bytes w16 (raw_len r) ++ rest)
unfolding raw_bytes front_bytes
front_apart r rest = append_assoc (to_be_bytes w16 (raw_len r) ++ to_be_bytes w64 r.scn ++ r.count ∷ r.body) (to_be_bytes w16 (raw_len r)) rest

length_front : (r : Raw) → length (front_bytes r) ≡ raw_len r - 2
unfolding front_bytes
length_front r = omega (arith, length-append (to_be_bytes w16 (raw_len r) ++ to_be_bytes w64 r.scn) (r.count ∷ r.body))

trailer_is : (r : Raw) (rest : List ℕ) → raw_len r < 2 ^ 16 → trailer_at (raw_bytes r ++ rest) (raw_len r) ≡ raw_len r
trailer_is r rest lt =
    ap (λ (t : List ℕ). from_be_bytes w16 (take 2 (drop (raw_len r - 2) t))) (front_apart r rest)
    ∙ ap (λ (t : List ℕ). from_be_bytes w16 (take 2 t)) (drop_at (front_bytes r) (to_be_bytes w16 (raw_len r) ++ rest) (raw_len r - 2) (length_front r))
    ∙ from_be_bytes-to_be_bytes_2 (raw_len r) lt

whole_good : (last : ℕ) (bytes : List ℕ) (len : ℕ) → trailer_at bytes len ≡ len → 1 ≤ stated_scn bytes → stated_scn bytes < 2 ^ 48 → last < stated_scn bytes → whole_fault last bytes len ≡ None
whole_good last bytes len good from to rises = grind arith

record_good : (m : Mark) (r : Raw) (rest : List ℕ) → AreRaws m (r ∷ []) → record_fault m (raw_bytes r ++ rest) ≡ None
record_good m r rest h =
    let text = raw_bytes r ++ rest in
    let p = reads_as r rest h.0 in
    fault_whole m text h.1 (omega (arith, p.len)) (omega (arith, p.len, p.whole))
    ∙ ap (λ (n : ℕ). whole_fault m.scn text n) p.len
    ∙ whole_good m.scn text (raw_len r) (trailer_is r rest h.0.len) (omega (arith, p.scn, h.0.from)) (omega (arith, p.scn, h.0.to)) (omega (arith, p.scn, h.2))

-- ---- two lists of records of one text

first_apart : (r : Raw) (rs : List Raw) (rest : List ℕ) → flat_map raw_bytes (r ∷ rs) ++ rest ≡ raw_bytes r ++ (flat_map raw_bytes rs ++ rest)
first_apart r rs rest = append_assoc (raw_bytes r) (flat_map raw_bytes rs) rest

no_stop : (o : Option FrameKind) (m : Mark) (r : Raw) (rest : List ℕ) → AreRaws m (r ∷ []) → Stops o m (raw_bytes r ++ rest) → ⊥
no_stop None m r rest h s = raw_no_part r rest h.0 s.0
no_stop (Some kind) m r rest h s = let good = record_good m r rest h in absurd cc

same_raws : (o : Option FrameKind) (m : Mark) (rs ss : List Raw) (x y : List ℕ) → AreRaws m rs → AreRaws m ss → IsPart x → Stops o (mark_after m ss) y → flat_map raw_bytes rs ++ x ≡ flat_map raw_bytes ss ++ y → rs ≡ ss
same_raws o m [] [] x y h k part stop e = refl
same_raws o m [] (s ∷ ss) x y h k part stop e = absurd (raw_no_part s (flat_map raw_bytes ss ++ y) k.0 (subst IsPart (e ∙ first_apart s ss y) part))
same_raws o m (r ∷ rs) [] x y h k part stop e = absurd (no_stop o m r (flat_map raw_bytes rs ++ x) (h.0, h.1, h.2, tt) (subst (Stops o m) (sym e ∙ first_apart r rs x) stop))
same_raws o m (r ∷ rs) (s ∷ ss) x y h k part stop e =
    let p = raw_bytes_apart r s (flat_map raw_bytes rs ++ x) (flat_map raw_bytes ss ++ y) h.0 k.0 (sym (first_apart r rs x) ∙ e ∙ first_apart s ss y) in
    ap₂ (λ (t : Raw) (ts : List Raw). t ∷ ts) p.0 (same_raws o (mark_of s) rs ss x y (subst (λ (t : Raw). AreRaws (mark_of t) rs) p.0 h.3) k.3 part stop p.1)

record Ending (o : Option FrameKind) (m : Mark) (text : List ℕ) (rs : List Raw) : Type 0 where
  tail : List ℕ
  spelled : text ≡ flat_map raw_bytes rs ++ tail
  follow : AreRaws m rs
  stop : Stops o (mark_after m rs) tail

ending : (o : Option FrameKind) (m : Mark) (text : List ℕ) (rs : List Raw) (rest : List ℕ) → Stands o m text rs rest → Ending o m text rs
ending None m text rs rest s = record { tail = rest; spelled = s.spelled; follow = s.follow; stop = (s.part, s.good) }
ending (Some kind) m text rs rest s = record { tail = s.rest; spelled = s.spelled; follow = s.follow; stop = s.shown }

-- a thread stands where the records of its text leave it
mark_same : (t : Receiving) (text : List ℕ) (read records : List RedoRecord) → HasRead t text read → HasRecords text records → t.mark ≡ thread_mark records
mark_same t text read records h k =
    let all = (map raw_of read ++ raws t.unread) ++ t.assembly.held in
    let end = ending t.assembly.refused first_mark text all t.assembly.rest h.holds.stands in
    let same = same_raws t.assembly.refused first_mark (map raw_of records) all k.rest end.tail k.raws.follow end.follow k.raws.part end.stop (sym k.raws.spelled ∙ end.spelled) in
    h.mark ∙ h.holds.mark ∙ ap (mark_after first_mark) (sym same)

marks_same : (n low : ℕ) (texts : ℕ → List ℕ) (ts : List Receiving) (ps : List Part) (records : List (List RedoRecord)) → ThreadsFrom n low texts ts ps → length records ≡ length ts → RecordsFrom n texts records → marks_of ts ≡ map thread_mark records
marks_same n low texts [] [] [] h many k = refl
marks_same n low texts [] [] (r ∷ rs) h many k = absurd (omega (arith, many))
marks_same n low texts [] (p ∷ ps) records h many k = absurd h
marks_same n low texts (t ∷ ts) [] records h many k = absurd h
marks_same n low texts (t ∷ ts) (p ∷ ps) [] h many k = absurd (omega (arith, many))
marks_same n low texts (t ∷ ts) (p ∷ ps) (r ∷ rs) h many k =
    ap₂ (λ (m : Mark) (ms : List Mark). m ∷ ms) (mark_same t (texts n) (p.shown ++ p.more) r h.0.read k.0) (marks_same (n + 1) low texts ts ps rs h.1 (omega (arith, many)) k.1)

pub frontier_same : (low : ℕ) (texts : ℕ → List ℕ) (ts : List Receiving) (ps : List Part) (records : List (List RedoRecord)) → ThreadsFrom 1 low texts ts ps → length records ≡ length ts → RecordsFrom 1 texts records → frontier_of (marks_of ts) ≡ frontier records
unfolding frontier
frontier_same low texts ts ps records h many k = ap frontier_of (marks_same 1 low texts ts ps records h many k)

-- ---- a text with all its records has no bad one

begins_raws : (m : Mark) (rs ss : List Raw) (x y : List ℕ) → AreRaws m rs → AreRaws m ss → IsPart x → flat_map raw_bytes rs ++ x ≡ flat_map raw_bytes ss ++ y → (ks : List Raw) × (rs ≡ ss ++ ks)
begins_raws m rs [] x y h k part e = (rs, refl)
begins_raws m [] (s ∷ ss) x y h k part e = absurd (raw_no_part s (flat_map raw_bytes ss ++ y) k.0 (subst IsPart (e ∙ first_apart s ss y) part))
begins_raws m (r ∷ rs) (s ∷ ss) x y h k part e =
    let p = raw_bytes_apart r s (flat_map raw_bytes rs ++ x) (flat_map raw_bytes ss ++ y) h.0 k.0 (sym (first_apart r rs x) ∙ e ∙ first_apart s ss y) in
    let later = begins_raws (mark_of s) rs ss x y (subst (λ (t : Raw). AreRaws (mark_of t) rs) p.0 h.3) k.3 part p.1 in
    (later.0, ap₂ (λ (t : Raw) (ts : List Raw). t ∷ ts) p.0 later.1)

raw_heads : (a b : Raw) (xs ys : List Raw) → a ∷ xs ≡ b ∷ ys → (a ≡ b) × (xs ≡ ys)
raw_heads a b xs ys e = (cc, cc)

record Found (raw : Raw) : Type 0 where
  found : RedoRecord
  same : raw_of found ≡ raw
  readable : AreVectors (length found.vectors) found.vectors

find_record : (records : List RedoRecord) (front : List Raw) (raw : Raw) (ks : List Raw) → map raw_of records ≡ (front ++ raw ∷ []) ++ ks → AreReadable records → Found raw
find_record [] [] raw ks e h = absurd cc
find_record [] (f ∷ fs) raw ks e h = absurd cc
find_record (r ∷ rs) [] raw ks e h = record { found = r; same = (raw_heads (raw_of r) raw (map raw_of rs) ks e).0; readable = h.0 }
find_record (r ∷ rs) (f ∷ fs) raw ks e h = find_record rs fs raw ks (raw_heads (raw_of r) f (map raw_of rs) ((fs ++ raw ∷ []) ++ ks) e).1 h.1

no_bad_vector : (text : List ℕ) (records before : List RedoRecord) (index : ℕ) → HasRecords text records → HasBadVector text before index → ⊥
no_bad_vector text records before index h bad =
    let raws_of = map raw_of before in
    let goes = begins_raws first_mark (map raw_of records) (raws_of ++ bad.bad ∷ []) h.rest bad.rest h.raws.follow bad.follow h.raws.part (sym h.raws.spelled ∙ bad.spelled) in
    let f = find_record records raws_of bad.bad goes.0 goes.1 h.vectors in
    let count : length f.found.vectors ≡ bad.bad.count = ap (λ (r : Raw). r.count) f.same in
    bad_excludes bad.bad.count index bad.bad.body f.found.vectors bad.shown (subst (λ (n : ℕ). AreVectors n f.found.vectors) count f.readable) count (sym (ap (λ (r : Raw). r.body) f.same))

no_bad_frame : (text : List ℕ) (records before : List RedoRecord) (kind : FrameKind) → HasRecords text records → FailsFrom first_mark text (map raw_of before) kind → ⊥
no_bad_frame text records before kind h bad =
    let rs = map raw_of records in
    let spelled = sym h.raws.spelled ∙ bad.spelled in
    let same : rs ≡ map raw_of before = same_raws (Some kind) first_mark rs (map raw_of before) h.rest bad.rest h.raws.follow bad.follow h.raws.part bad.shown spelled in
    let rest : h.rest ≡ bad.rest = append_cancel_left (flat_map raw_bytes rs) h.rest bad.rest (spelled ∙ ap (λ (l : List Raw). flat_map raw_bytes l ++ bad.rest) (sym same)) in
    let shown : record_fault (mark_after first_mark rs) h.rest ≡ Some kind = ap₂ (λ (l : List Raw) (t : List ℕ). record_fault (mark_after first_mark l) t) same rest ∙ bad.shown in
    some_is_not_none kind (sym shown ∙ h.raws.good)
  where
    some_is_not_none : (k : FrameKind) → Some k ≡ None → ⊥
    some_is_not_none k e = absurd cc

pub good_is_not_bad : GoodIsNotBad
good_is_not_bad text records before (Frame fault) h bad = no_bad_frame text records before fault h bad.0
good_is_not_bad text records before (BadVector index) h bad = no_bad_vector text records before index h bad
good_is_not_bad text records before (Unsound index check) h bad = bad
