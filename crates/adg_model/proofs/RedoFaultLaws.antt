-- Deliveries have at most one redo fault.
use Rattle.std.proofs.Common.{◌≡◌, ℕ, zero, suc, ◌+◌, ◌-◌, ◌<◌, ◌≤◌, ◌^◌, false, List, [], ◌∷◌, ◌++◌, map, length, take, drop, Some, None, ◌⊎◌, inl, inr, refl, sym, ap, ap₂, ◌∙◌, subst, arith, append_assoc, append-nil}
use Rattle.std.specs.List.{flat_map}
use Rattle.std.specs.Int.{w16, w64, to_be_bytes, from_be_bytes}
use Rattle.std.proofs.lemmas.Bool.{cases_lt}
use Rattle.std.proofs.lemmas.List.{drop_at, length-append}
use Rattle.std.proofs.lemmas.Nat.{from_be_bytes-to_be_bytes_2}
use Rattle.adg_base.specs.declared.vector.Vector.{Vector}
use Rattle.adg_base.specs.declared.vector.RedoRecord.{RedoRecord}
use Rattle.adg_base.specs.declared.log.LogEntry.{LogEntry}
use Rattle.adg_model.specs.declared.delivery.RawDelivery.{RawDelivery}
use Rattle.adg_model.specs.declared.fault.FrameKind.{FrameKind}
use Rattle.adg_model.specs.declared.fault.CheckKind.{CheckKind}
use Rattle.adg_model.specs.declared.fault.RedoKind.{RedoKind}
use Rattle.adg_model.specs.declared.fault.RedoKind.TheVariants.{Frame, BadVector, Unsound}
use Rattle.adg_model.specs.declared.fault.RedoFault.{RedoFault}
use Rattle.adg_model.specs.Spelling.{vector_bytes, vectors_bytes, AreVectors, IsBadVector}
use Rattle.adg_model.specs.Records.{Raw, raw_len, raw_bytes, IsRaw, Mark, first_mark, mark_of, mark_after, AreRaws, IsPart, stated_scn, whole_fault, record_fault, FailsFrom, raw_of, thread_text, AreReadable, HasRecords, HasBadVector, HasBadRecord}
use Rattle.adg_model.specs.Log.{merged_log, ReceivedFrom}
use Rattle.adg_model.specs.Database.{Database, no_database, after, walked, database}
use Rattle.adg_model.specs.Sound.{refusal, SoundFrom, IsFirstUnsound, IsFirstBadRecord, IsFirstUnsoundEntry, IsRedoFault}
use Rattle.adg_model.specs.Laws.{OneRedoFault}
use Rattle.adg_model.proofs.VectorsSpelled.{vector_bytes_apart}
use Rattle.adg_model.proofs.RecordsFault.{trailer_at, fault_whole}
use Rattle.adg_model.proofs.RecordsSpelled.{reads_as, raw_bytes_apart, raw_no_part}
use Rattle.adg_model.proofs.DeliveryLaws.{raws_go_on, same_record, records_are_determined}
use Rattle.adg_model.proofs.LogLaws.{raws_after}

-- ---- a good record has no fault

-- all of a record but its last two bytes
abbrev front_of : Raw → List ℕ
front_of r = to_be_bytes w16 (raw_len r) ++ to_be_bytes w64 r.scn ++ r.count ∷ r.body

trailer_is : (r : Raw) (rest : List ℕ) → raw_len r < 2 ^ 16 → trailer_at (raw_bytes r ++ rest) (raw_len r) ≡ raw_len r
unfolding raw_bytes
trailer_is r rest lt =
    let len : length (front_of r) ≡ raw_len r - 2 = omega (arith, length-append (to_be_bytes w16 (raw_len r) ++ to_be_bytes w64 r.scn) (r.count ∷ r.body)) in
    let back : drop (raw_len r - 2) (raw_bytes r ++ rest) ≡ to_be_bytes w16 (raw_len r) ++ rest =
    ap (drop (raw_len r - 2)) (append_assoc (front_of r) (to_be_bytes w16 (raw_len r)) rest) ∙ drop_at (front_of r) (to_be_bytes w16 (raw_len r) ++ rest) (raw_len r - 2) len in
    ap (λ (t : List ℕ). from_be_bytes w16 (take 2 t)) back ∙ from_be_bytes-to_be_bytes_2 (raw_len r) lt

whole_good : (last : ℕ) (bytes : List ℕ) (len : ℕ) → trailer_at bytes len ≡ len → 1 ≤ stated_scn bytes → stated_scn bytes < 2 ^ 48 → last < stated_scn bytes → whole_fault last bytes len ≡ None
whole_good last bytes len good from to rises = grind arith

no_fault : (mark : Mark) (r : Raw) (rest : List ℕ) → IsRaw r → mark.ended ≡ false → mark.scn < r.scn → record_fault mark (raw_bytes r ++ rest) ≡ None
no_fault mark r rest good running rises =
    let p = reads_as r rest good in
    let bytes = raw_bytes r ++ rest in
    fault_whole mark bytes running (omega (arith, p.len)) (omega (arith, p.len, p.whole))
    ∙ ap (whole_fault mark.scn bytes) p.len
    ∙ whole_good mark.scn bytes (raw_len r) (trailer_is r rest good.len) (omega (arith, p.scn, good.from)) (omega (arith, p.scn, good.to)) (omega (arith, p.scn, rises))

-- ---- the record that fails in a text

first_raw : (r : Raw) (rs : List Raw) (x : List ℕ) → flat_map raw_bytes (r ∷ rs) ++ x ≡ raw_bytes r ++ (flat_map raw_bytes rs ++ x)
first_raw r rs x = append_assoc (raw_bytes r) (flat_map raw_bytes rs) x

-- Two readings of a text up to a record that fails are one reading. The second may also be of whole
-- records behind which nothing fails: then it is no longer than the first.
raws_within : (mark : Mark) (rs ss : List Raw) (x y : List ℕ) (fault : FrameKind) → AreRaws mark rs → AreRaws mark ss → flat_map raw_bytes rs ++ x ≡ flat_map raw_bytes ss ++ y → record_fault (mark_after mark rs) x ≡ Some fault → (ks : List Raw) × (rs ≡ ss ++ ks) × (flat_map raw_bytes ks ++ x ≡ y)
raws_within mark rs [] x y fault h k e f = (rs, refl, e)
raws_within mark [] (s ∷ ss) x y fault h k e f =
    let none = no_fault mark s (flat_map raw_bytes ss ++ y) k.0 k.1 k.2 in
    let here : record_fault mark x ≡ None = ap (record_fault mark) (e ∙ first_raw s ss y) ∙ none in
    let clash : None ≡ Some fault = sym here ∙ f in
    absurd cc
raws_within mark (r ∷ rs) (s ∷ ss) x y fault h k e f =
    let p = raw_bytes_apart r s (flat_map raw_bytes rs ++ x) (flat_map raw_bytes ss ++ y) h.0 k.0 (sym (first_raw r rs x) ∙ e ∙ first_raw s ss y) in
    let others : AreRaws (mark_of r) ss = subst (λ (t : Raw). AreRaws (mark_of t) ss) (sym p.0) k.3 in
    let later = raws_within (mark_of r) rs ss x y fault h.3 others p.1 f in
    (later.0, ap₂ (λ t ts. t ∷ ts) p.0 later.1, later.2)

-- Of two readings of a text as whole records one goes on as the other.
raws_compare : (mark : Mark) (rs ss : List Raw) (x y : List ℕ) → AreRaws mark rs → AreRaws mark ss → flat_map raw_bytes rs ++ x ≡ flat_map raw_bytes ss ++ y → ((ks : List Raw) × (rs ≡ ss ++ ks)) ⊎ ((ks : List Raw) × (ss ≡ rs ++ ks))
raws_compare mark [] ss x y h k e = inr (ss, refl)
raws_compare mark (r ∷ rs) [] x y h k e = inl (r ∷ rs, refl)
raws_compare mark (r ∷ rs) (s ∷ ss) x y h k e =
    let p = raw_bytes_apart r s (flat_map raw_bytes rs ++ x) (flat_map raw_bytes ss ++ y) h.0 k.0 (sym (first_raw r rs x) ∙ e ∙ first_raw s ss y) in
    let others : AreRaws (mark_of r) ss = subst (λ (t : Raw). AreRaws (mark_of t) ss) (sym p.0) k.3 in
    both p.0 (raws_compare (mark_of r) rs ss x y h.3 others p.1)
  where
    both : r ≡ s → ((ks : List Raw) × (rs ≡ ss ++ ks)) ⊎ ((ks : List Raw) × (ss ≡ rs ++ ks)) → ((ks : List Raw) × (r ∷ rs ≡ s ∷ ss ++ ks)) ⊎ ((ks : List Raw) × (s ∷ ss ≡ r ∷ rs ++ ks))
    both e (inl p) = inl (p.0, ap₂ (λ t ts. t ∷ ts) e p.1)
    both e (inr p) = inr (p.0, ap₂ (λ t ts. t ∷ ts) (sym e) p.1)

tails : {X : Type 0} (a b : X) (x y : List X) → a ∷ x ≡ b ∷ y → (a ≡ b) × (x ≡ y)
tails a b x y e = (cc, cc)

-- the last of a list, and what a longer list has before its last
lasts : {X : Type 0} (xs ys : List X) (b c : X) → xs ++ b ∷ [] ≡ ys ++ c ∷ [] → (xs ≡ ys) × (b ≡ c)
lasts [] [] b c e = (refl, (tails b c [] [] e).0)
lasts [] (y ∷ ys) b c e = absurd (omega (arith, ap length e, length-append ys (c ∷ [])))
lasts (x ∷ xs) [] b c e = absurd (omega (arith, ap length e, length-append xs (b ∷ [])))
lasts (x ∷ xs) (y ∷ ys) b c e =
    let p = tails x y (xs ++ b ∷ []) (ys ++ c ∷ []) e in
    let later = lasts xs ys b c p.1 in
    (ap₂ (λ t ts. t ∷ ts) p.0 later.0, later.1)

before_last : {X : Type 0} (xs ys ks : List X) (b k : X) → xs ++ b ∷ [] ≡ ys ++ k ∷ ks → (more : List X) × (xs ≡ ys ++ more)
before_last xs [] ks b k e = (xs, refl)
before_last [] (y ∷ ys) ks b k e = absurd (omega (arith, ap length e, length-append ys (k ∷ ks)))
before_last (x ∷ xs) (y ∷ ys) ks b k e =
    let p = tails x y (xs ++ b ∷ []) (ys ++ k ∷ ks) e in
    let later = before_last xs ys ks b k p.1 in
    (later.0, ap₂ (λ t ts. t ∷ ts) p.0 later.1)

-- ---- the vector that cannot be read

vectors_within : (count : ℕ) (vs ws : List Vector) (x y : List ℕ) → AreVectors count vs → AreVectors count ws → length vs ≤ length ws → vectors_bytes vs ++ x ≡ vectors_bytes ws ++ y → (more : List Vector) × (ws ≡ vs ++ more) × (x ≡ vectors_bytes more ++ y)
vectors_within count [] ws x y h k le e = (ws, refl, e)
vectors_within count (v ∷ vs) [] x y h k le e = absurd (omega (arith, le))
vectors_within count (v ∷ vs) (w ∷ ws) x y h k le e =
    let p = vector_bytes_apart count v w (vectors_bytes vs ++ x) (vectors_bytes ws ++ y) h.0 k.0 (sym (append_assoc (vector_bytes v) (vectors_bytes vs) x) ∙ e ∙ append_assoc (vector_bytes w) (vectors_bytes ws) y) in
    let later = vectors_within count vs ws x y h.1 k.1 (omega (arith, le)) p.1 in
    (later.0, ap₂ (λ t ts. t ∷ ts) (sym p.0) later.1, later.2)

-- where a vector stands that can be read, none is bad
reads_on : (count : ℕ) (body : List ℕ) (index : ℕ) (more : List Vector) (y : List ℕ) (b : IsBadVector count body index) → AreVectors count more → index ≤ count → 1 ≤ length more → b.rest ≡ vectors_bytes more ++ y → ⊥
reads_on count body index [] y b h within some e = omega (arith, some)
reads_on count body index (v ∷ more) y b h within some e = b.none within v (vectors_bytes more ++ y) h.0 (e ∙ append_assoc (vector_bytes v) (vectors_bytes more) y)

each_behind : (count : ℕ) (vs more ws : List Vector) → ws ≡ vs ++ more → AreVectors count ws → AreVectors count more
each_behind count [] more ws e h = subst (AreVectors count) e h
each_behind count (v ∷ vs) more [] e h = absurd cc
each_behind count (v ∷ vs) more (w ∷ ws) e h = each_behind count vs more ws (tails w v ws (vs ++ more) e).1 h.1

not_earlier : (count : ℕ) (body : List ℕ) (i j : ℕ) (a : IsBadVector count body i) (b : IsBadVector count body j) → length a.before < length b.before → ⊥
not_earlier count body i j a b lt =
    let p = vectors_within count a.before b.before a.rest b.rest a.readable b.readable (omega (arith, lt)) (sym a.spelled ∙ b.spelled) in
    let len = ap length p.1 in
    reads_on count body i p.0 b.rest a (each_behind count a.before p.0 b.before p.1 b.readable) (omega (arith, a.place, b.place, b.within, lt)) (omega (arith, lt, len, length-append a.before p.0)) p.2

same_index : (count : ℕ) (body : List ℕ) (i j : ℕ) → IsBadVector count body i → IsBadVector count body j → i ≡ j
same_index count body i j a b =
    elim (cases_lt (length a.before) (length b.before)) [
      | inl lt ↦ absurd (not_earlier count body i j a b lt)
      | inr ge ↦ elim (cases_lt (length b.before) (length a.before)) [
        | inl lt ↦ absurd (not_earlier count body j i b a lt)
        | inr le ↦ omega (arith, ge, le, a.place, b.place)
      ]
    ]

good_vectors : (vs : List Vector) (index : ℕ) → AreVectors (length vs) vs → IsBadVector (length vs) (vectors_bytes vs) index → ⊥
good_vectors vs index h b =
    let p = vectors_within (length vs) b.before vs b.rest [] b.readable h (omega (arith, b.place, b.within)) (sym b.spelled ∙ sym (append-nil (vectors_bytes vs))) in
    let len = ap length p.1 in
    let more = each_behind (length vs) b.before p.0 vs p.1 h in
    elim (cases_lt (length b.before) (length vs)) [
      | inl lt ↦ reads_on (length vs) (vectors_bytes vs) index p.0 [] b more (omega (arith, b.place, lt)) (omega (arith, lt, len, length-append b.before p.0)) p.2
      | inr ge ↦ (
          let none : length p.0 ≡ 0 = omega (arith, ge, len, length-append b.before p.0) in
          let left : b.rest ≡ [] = nothing p.0 none p.2 in
          let some = b.remains (omega (arith, b.place, b.within, ge)) in
          omega (arith, some, ap length left))
    ]
  where
    nothing : (more : List Vector) → length more ≡ 0 → b.rest ≡ vectors_bytes more ++ [] → b.rest ≡ []
    nothing [] n e = e
    nothing (v ∷ more) n e = absurd (omega (arith, n))

-- a record among those that can be read has no bad vector
among : (rs bs : List RedoRecord) (bad : Raw) (ks : List Raw) → AreReadable rs → map raw_of rs ≡ map raw_of bs ++ bad ∷ ks → (r : RedoRecord) × (raw_of r ≡ bad) × AreVectors (length r.vectors) r.vectors
among [] [] bad ks h e = absurd cc
among [] (b ∷ bs) bad ks h e = absurd cc
among (r ∷ rs) [] bad ks h e = (r, (tails (raw_of r) bad (map raw_of rs) ks e).0, h.0)
among (r ∷ rs) (b ∷ bs) bad ks h e = among rs bs bad ks h.1 (tails (raw_of r) (raw_of b) (map raw_of rs) (map raw_of bs ++ bad ∷ ks) e).1

not_bad : (rs bs : List RedoRecord) (bad : Raw) (ks : List Raw) (index : ℕ) → AreReadable rs → map raw_of rs ≡ map raw_of bs ++ bad ∷ ks → IsBadVector bad.count bad.body index → ⊥
not_bad rs bs bad ks index h e shown =
    let r = among rs bs bad ks h e in
    good_vectors r.0.vectors index r.2 (subst (λ (t : Raw). IsBadVector t.count t.body index) (sym r.1) shown)

records_same : (rs ss : List RedoRecord) → AreReadable rs → AreReadable ss → map raw_of rs ≡ map raw_of ss → rs ≡ ss
records_same [] [] h k e = refl
records_same [] (s ∷ ss) h k e = absurd cc
records_same (r ∷ rs) [] h k e = absurd cc
records_same (r ∷ rs) (s ∷ ss) h k e =
    let p = tails (raw_of r) (raw_of s) (map raw_of rs) (map raw_of ss) e in
    ap₂ (λ t ts. t ∷ ts) (same_record r s h.0 k.0 p.0) (records_same rs ss h.1 k.1 p.1)

-- ---- the first bad record of a text

nothing_more : {X : Type 0} (xs ys ks ls : List X) → xs ≡ ys ++ ks → ys ≡ xs ++ ls → length ks ≡ 0
nothing_more xs ys ks ls e f = omega (arith, ap length e, ap length f, length-append ys ks, length-append xs ls)

same_frame : (text : List ℕ) (rs ss : List RedoRecord) (f g : FrameKind) → FailsFrom first_mark text (map raw_of rs) f → FailsFrom first_mark text (map raw_of ss) g → AreReadable rs → AreReadable ss → (rs ≡ ss) × (f ≡ g)
same_frame text rs ss f g h k a b =
    let p = raws_within first_mark (map raw_of rs) (map raw_of ss) h.rest k.rest f h.follow k.follow (sym h.spelled ∙ k.spelled) h.shown in
    let q = raws_within first_mark (map raw_of ss) (map raw_of rs) k.rest h.rest g k.follow h.follow (sym k.spelled ∙ h.spelled) k.shown in
    let none : length p.0 ≡ 0 = nothing_more (map raw_of rs) (map raw_of ss) p.0 q.0 p.1 q.1 in
    let one = nothing p.0 none p.1 p.2 in
    let shown : Some f ≡ Some g = sym h.shown ∙ ap₂ (λ ms t. record_fault (mark_after first_mark ms) t) one.0 one.1 ∙ k.shown in
    (records_same rs ss a b one.0, cc)
  where
    nothing : (ks : List Raw) → length ks ≡ 0 → map raw_of rs ≡ map raw_of ss ++ ks → flat_map raw_bytes ks ++ h.rest ≡ k.rest → (map raw_of rs ≡ map raw_of ss) × (h.rest ≡ k.rest)
    nothing [] n e r = (e ∙ append-nil (map raw_of ss), r)
    nothing (k' ∷ ks) n e r = absurd (omega (arith, n))

frame_or_vector : (text : List ℕ) (rs ss : List RedoRecord) (f : FrameKind) (index : ℕ) → FailsFrom first_mark text (map raw_of rs) f → AreReadable rs → HasBadVector text ss index → ⊥
frame_or_vector text rs ss f index h a k =
    let p = raws_within first_mark (map raw_of rs) (map raw_of ss ++ k.bad ∷ []) h.rest k.rest f h.follow k.follow (sym h.spelled ∙ k.spelled) h.shown in
    not_bad rs ss k.bad p.0 index a (p.1 ∙ append_assoc (map raw_of ss) (k.bad ∷ []) p.0) k.shown

same_vector : (text : List ℕ) (rs ss : List RedoRecord) (i j : ℕ) → HasBadVector text rs i → HasBadVector text ss j → (rs ≡ ss) × (i ≡ j)
same_vector text rs ss i j h k = by_length (raws_compare first_mark (map raw_of rs ++ h.bad ∷ []) (map raw_of ss ++ k.bad ∷ []) h.rest k.rest h.follow k.follow (sym h.spelled ∙ k.spelled))
  where
    one : map raw_of rs ++ h.bad ∷ [] ≡ map raw_of ss ++ k.bad ∷ [] → (rs ≡ ss) × (i ≡ j)
    one e =
        let p = lasts (map raw_of rs) (map raw_of ss) h.bad k.bad e in
        (records_same rs ss h.vectors k.vectors p.0, same_index k.bad.count k.bad.body i j (subst (λ (t : Raw). IsBadVector t.count t.body i) p.1 h.shown) k.shown)

    longer : (xs ys : List RedoRecord) (b c : Raw) (n : ℕ) (ks : List Raw) → AreReadable xs → IsBadVector c.count c.body n → map raw_of xs ++ b ∷ [] ≡ (map raw_of ys ++ c ∷ []) ++ ks → (map raw_of xs ++ b ∷ [] ≡ map raw_of ys ++ c ∷ [] → (rs ≡ ss) × (i ≡ j)) → (rs ≡ ss) × (i ≡ j)
    longer xs ys b c n [] readable shown e go = go (e ∙ append-nil (map raw_of ys ++ c ∷ []))
    longer xs ys b c n (l ∷ ks) readable shown e go =
        let p = before_last (map raw_of xs) (map raw_of ys ++ c ∷ []) ks b l e in
        absurd (not_bad xs ys c p.0 n readable (p.1 ∙ append_assoc (map raw_of ys) (c ∷ []) p.0) shown)

    by_length : ((ks : List Raw) × (map raw_of rs ++ h.bad ∷ [] ≡ (map raw_of ss ++ k.bad ∷ []) ++ ks)) ⊎ ((ks : List Raw) × (map raw_of ss ++ k.bad ∷ [] ≡ (map raw_of rs ++ h.bad ∷ []) ++ ks)) → (rs ≡ ss) × (i ≡ j)
    by_length (inl p) = longer rs ss h.bad k.bad j p.0 h.vectors k.shown p.1 one
    by_length (inr p) = longer ss rs k.bad h.bad i p.0 k.vectors h.shown p.1 (λ e. one (sym e))

-- a text that is read whole has no bad record
no_bad : (text : List ℕ) (rs bs : List RedoRecord) (kind : RedoKind) → HasRecords text rs → HasBadRecord text bs kind → ⊥
no_bad text rs bs (Frame f) h (fails, readable) =
    let p = raws_within first_mark (map raw_of bs) (map raw_of rs) fails.rest h.rest f fails.follow h.raws.follow (sym fails.spelled ∙ h.raws.spelled) fails.shown in
    behind p.0 p.1 p.2
  where
    behind : (ks : List Raw) → map raw_of bs ≡ map raw_of rs ++ ks → flat_map raw_bytes ks ++ fails.rest ≡ h.rest → ⊥
    behind [] e r =
        let same = e ∙ append-nil (map raw_of rs) in
        let clash : Some f ≡ None = sym fails.shown ∙ ap₂ (λ ms t. record_fault (mark_after first_mark ms) t) same r ∙ h.raws.good in
        absurd cc
    behind (k ∷ ks) e r =
        let follow = raws_after first_mark (map raw_of rs) (k ∷ ks) (subst (AreRaws first_mark) e fails.follow) in
        raw_no_part k (flat_map raw_bytes ks ++ fails.rest) follow.0 (subst IsPart (sym r ∙ first_raw k ks fails.rest) h.raws.part)
no_bad text rs bs (BadVector index) h b =
    let p = raws_go_on first_mark (map raw_of bs ++ b.bad ∷ []) (map raw_of rs) b.rest h.rest [] b.follow h.raws.follow h.raws.part (append-nil (flat_map raw_bytes (map raw_of bs ++ b.bad ∷ []) ++ b.rest) ∙ sym b.spelled ∙ h.raws.spelled) in
    not_bad rs bs b.bad p.0 index h.vectors (p.1 ∙ append_assoc (map raw_of bs) (b.bad ∷ []) p.0) b.shown
no_bad text rs bs (Unsound index check) h b = b

same_bad : (text : List ℕ) (rs ss : List RedoRecord) (k k' : RedoKind) → HasBadRecord text rs k → HasBadRecord text ss k' → (rs ≡ ss) × (k ≡ k')
same_bad text rs ss (Frame f) (Frame g) h j = let p = same_frame text rs ss f g h.0 j.0 h.1 j.1 in (p.0, ap Frame p.1)
same_bad text rs ss (Frame f) (BadVector i) h j = absurd (frame_or_vector text rs ss f i h.0 h.1 j)
same_bad text rs ss (Frame f) (Unsound i c) h j = absurd j
same_bad text rs ss (BadVector i) (Frame g) h j = absurd (frame_or_vector text ss rs g i j.0 j.1 h)
same_bad text rs ss (BadVector i) (BadVector i') h j = let p = same_vector text rs ss i i' h j in (p.0, ap BadVector p.1)
same_bad text rs ss (BadVector i) (Unsound i' c) h j = absurd j
same_bad text rs ss (Unsound i c) k' h j = absurd h

-- ---- the lowest thread

received_at : (thread : ℕ) (ds : List RawDelivery) (all : List (List RedoRecord)) (n : ℕ) → ReceivedFrom thread ds all → n < length all → (rs : List RedoRecord) × HasRecords (thread_text (thread + n) ds) rs
received_at thread ds [] n h lt = absurd (omega (arith, lt))
received_at thread ds (rs ∷ all) zero h lt =
    let here : thread + 0 ≡ thread = omega arith in
    (rs, subst (λ t. HasRecords (thread_text t ds) rs) (sym here) h.0)
received_at thread ds (rs ∷ all) (suc n) h lt =
    let later = received_at (thread + 1) ds all n h.1 (omega (arith, lt)) in
    let there : thread + 1 + n ≡ thread + suc n = omega arith in
    (later.0, subst (λ t. HasRecords (thread_text t ds) later.0) there later.1)

-- a bad record of a thread that was read whole, by the number of threads below it
not_read : (threads : ℕ) (ds : List RawDelivery) (a : RedoFault) (all : List (List RedoRecord)) (h : IsFirstBadRecord threads ds a) → ReceivedFrom 1 ds all → length h.below < length all → ⊥
not_read threads ds a all h received lt =
    let p = received_at 1 ds all (length h.below) received lt in
    let there : 1 + length h.below ≡ a.thread = omega (arith, h.thread) in
    no_bad (thread_text a.thread ds) p.0 h.records a.kind (subst (λ t. HasRecords (thread_text t ds) p.0) there p.1) h.bad

abbrev fault_from : ℕ → ℕ → RedoKind → RedoFault
fault_from t n k = record { thread = t; number = n; kind = k }

same_bad_record : (threads : ℕ) (ds : List RawDelivery) (a b : RedoFault) → IsFirstBadRecord threads ds a → IsFirstBadRecord threads ds b → (a.thread ≡ b.thread) × (a.number ≡ b.number) × (a.kind ≡ b.kind)
same_bad_record threads ds a b h k =
    elim (cases_lt (length h.below) (length k.below)) [
      | inl lt ↦ absurd (not_read threads ds a k.below h k.received lt)
      | inr ge ↦ elim (cases_lt (length k.below) (length h.below)) [
        | inl lt ↦ absurd (not_read threads ds b h.below k h.received lt)
        | inr le ↦ (
            let thread : a.thread ≡ b.thread = omega (arith, ge, le, h.thread, k.thread) in
            let p = same_bad (thread_text b.thread ds) h.records k.records a.kind b.kind (subst (λ t. HasBadRecord (thread_text t ds) h.records a.kind) thread h.bad) k.bad in
            (thread, h.number ∙ ap (λ rs. length rs + 1) p.0 ∙ sym k.number, p.1))
      ]
    ]

bad_or_unsound : (threads : ℕ) (ds : List RawDelivery) (a b : RedoFault) → IsFirstBadRecord threads ds a → IsFirstUnsoundEntry threads ds b → ⊥
bad_or_unsound threads ds a b h k = not_read threads ds a k.records h k.received (omega (arith, h.is_thread, k.all))

-- ---- the first entry that is not sound

first_same : (db : Database) (xs ys later later' : List LogEntry) (e e' : LogEntry) (c c' : CheckKind) → SoundFrom db xs → SoundFrom db ys → xs ++ e ∷ later ≡ ys ++ e' ∷ later' → refusal (walked db xs) e.vector ≡ Some c → refusal (walked db ys) e'.vector ≡ Some c' → (e ≡ e') × (c ≡ c')
first_same db [] [] later later' e e' c c' h k same f g =
    let p = tails e e' later later' same in
    let shown : Some c ≡ Some c' = sym f ∙ ap (λ (x : LogEntry). refusal db x.vector) p.0 ∙ g in
    (p.0, cc)
first_same db [] (y ∷ ys) later later' e e' c c' h k same f g =
    let p = tails e y later (ys ++ e' ∷ later') same in
    let clash : Some c ≡ None = sym f ∙ ap (λ (x : LogEntry). refusal db x.vector) p.0 ∙ k.1 in
    absurd cc
first_same db (x ∷ xs) [] later later' e e' c c' h k same f g =
    let p = tails x e' (xs ++ e ∷ later) later' same in
    let clash : None ≡ Some c' = sym h.1 ∙ ap (λ (z : LogEntry). refusal db z.vector) p.0 ∙ g in
    absurd cc
first_same db (x ∷ xs) (y ∷ ys) later later' e e' c c' h k same f g =
    let p = tails x y (xs ++ e ∷ later) (ys ++ e' ∷ later') same in
    let there = sym (ap (λ (z : LogEntry). after db z.vector) p.0) in
    first_same (after db x.vector) xs ys later later' e e' c c' h.2 (subst (λ d. SoundFrom d ys) there k.2) p.1 f (subst (λ d. refusal (walked d ys) e'.vector ≡ Some c') there g)

same_entry : (log : List LogEntry) (e e' : LogEntry) (c c' : CheckKind) → IsFirstUnsound log e c → IsFirstUnsound log e' c' → (e ≡ e') × (c ≡ c')
unfolding database
same_entry log e e' c c' h k = first_same no_database h.before k.before h.later k.later e e' c c' h.sound k.sound (sym h.split ∙ k.split) h.fails k.fails

same_unsound : (threads : ℕ) (ds : List RawDelivery) (a b : RedoFault) → IsFirstUnsoundEntry threads ds a → IsFirstUnsoundEntry threads ds b → (a.thread ≡ b.thread) × (a.number ≡ b.number) × (a.kind ≡ b.kind)
same_unsound threads ds a b h k =
    let one = records_are_determined ds h.records k.records (h.all ∙ sym k.all) h.received k.received in
    let p = same_entry (merged_log k.records) h.entry k.entry h.check k.check (subst (λ rs. IsFirstUnsound (merged_log rs) h.entry h.check) one h.unsound) k.unsound in
    (h.thread ∙ ap (λ (x : LogEntry). x.thread) p.0 ∙ sym k.thread, h.number ∙ ap (λ (x : LogEntry). x.number) p.0 ∙ sym k.number, h.kind ∙ ap₂ (λ (x : LogEntry) d. Unsound x.index d) p.0 p.1 ∙ sym k.kind)

-- ---- one fault

by_sort : (threads : ℕ) (ds : List RawDelivery) (thread number : ℕ) (kind : RedoKind) → IsRedoFault threads ds (fault_from thread number kind) → IsFirstBadRecord threads ds (fault_from thread number kind) ⊎ IsFirstUnsoundEntry threads ds (fault_from thread number kind)
by_sort threads ds thread number (Frame f) h = inl h
by_sort threads ds thread number (BadVector index) h = inl h
by_sort threads ds thread number (Unsound index check) h = inr h

same_fields : (threads : ℕ) (ds : List RawDelivery) (a b : RedoFault) → IsFirstBadRecord threads ds a ⊎ IsFirstUnsoundEntry threads ds a → IsFirstBadRecord threads ds b ⊎ IsFirstUnsoundEntry threads ds b → (a.thread ≡ b.thread) × (a.number ≡ b.number) × (a.kind ≡ b.kind)
same_fields threads ds a b (inl h) (inl k) = same_bad_record threads ds a b h k
same_fields threads ds a b (inl h) (inr k) = absurd (bad_or_unsound threads ds a b h k)
same_fields threads ds a b (inr h) (inl k) = absurd (bad_or_unsound threads ds b a k h)
same_fields threads ds a b (inr h) (inr k) = same_unsound threads ds a b h k

pub one_redo_fault : OneRedoFault
one_redo_fault threads ds a b h k =
    let p = same_fields threads ds a b (by_sort threads ds a.thread a.number a.kind h) (by_sort threads ds b.thread b.number b.kind k) in
    ap (λ n. fault_from n a.number a.kind) p.0 ∙ ap (λ n. fault_from b.thread n a.kind) p.1 ∙ ap (fault_from b.thread b.number) p.2
