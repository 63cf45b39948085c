-- A record that was written.
use Rattle.std.proofs.Common.{◌≡◌, ℕ, ◌+◌, ◌-◌, ◌^◌, ◌<◌, ◌≤◌, List, [], ◌++◌, length, refl, sym, ap, subst, ◌∙◌, append_assoc, arith}
use Rattle.adg_base.specs.declared.vector.Vector.{Vector}
use Rattle.adg_base.specs.declared.vector.RedoRecord.{RedoRecord}
use Rattle.adg_model.specs.Spelling.{vectors_bytes, AreVectors}
use Rattle.change_vectors.specs.Room.{framed}
use Rattle.adg_model.specs.Records.{raw_bytes, record_bytes, IsRecord}

of_parts : (r : RedoRecord) (left : ℕ) → 1 ≤ r.scn → r.scn < 2 ^ 48 → length r.vectors < 256 → left + length (vectors_bytes r.vectors) ≡ 65522 → AreVectors (length r.vectors) r.vectors → IsRecord r
of_parts r left from to count len valid = record {
  raw = record { from = from; to = to; count = omega arith; len = omega arith };
  vectors = valid;
}

pub is_record : (r : RedoRecord) (vectors : List Vector) (left : ℕ) → vectors ≡ r.vectors → (r.scn ≡ 0 → ⊥) → r.scn < 2 ^ 48 → length vectors < 256 → left + length (vectors_bytes vectors) ≡ 65522 → AreVectors (length vectors) vectors → IsRecord r
is_record r vectors left same some to count len valid =
    let P : List Vector → Type 0 = λ vs. (length vs < 256) × (left + length (vectors_bytes vs) ≡ 65522) × AreVectors (length vs) vs in
    let all = subst P same (count, len, valid) in
    of_parts r left (omega arith) to all.0 all.1 all.2

of_length : (r : RedoRecord) (len : ℕ) → len ≡ 13 + length (vectors_bytes r.vectors) → framed len r.scn r.vectors ≡ record_bytes r
unfolding raw_bytes
of_length r len e = subst (λ (n : ℕ). framed n r.scn r.vectors ≡ record_bytes r) (sym e) refl

pub is_spelled : (r : RedoRecord) (vectors : List Vector) (len left : ℕ) (before bytes : List ℕ) → vectors ≡ r.vectors → before ≡ [] → len ≡ 65535 - left → left + length (vectors_bytes vectors) ≡ 65522 → bytes ≡ before ++ framed len r.scn vectors → bytes ≡ record_bytes r
is_spelled r vectors len left before bytes same empty is room e =
    let size : len ≡ 13 + length (vectors_bytes r.vectors) = rw (← same) (omega arith) in
    e ∙ ap (λ (x : List ℕ). x ++ framed len r.scn vectors) empty ∙ ap (λ (vs : List Vector). framed len r.scn vs) same ∙ of_length r len size

pub in_three : (a b c d head body tail : List ℕ) → b ≡ a ++ head → c ≡ b ++ body → d ≡ c ++ tail → d ≡ a ++ (head ++ body ++ tail)
in_three a b c d head body tail p q r = r ∙ ap (λ (x : List ℕ). x ++ tail) (q ∙ ap (λ (x : List ℕ). x ++ body) p) ∙ simp append_assoc
