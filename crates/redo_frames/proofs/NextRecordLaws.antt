-- The bytes of a whole record with nothing wrong are its spelling.
use Rattle.std.proofs.Common.{◌≡◌, ℕ, ◌+◌, ◌-◌, ◌<◌, ◌≤◌, ◌^◌, false, List, [], ◌∷◌, ◌++◌, length, get_or, take, drop, drop-cons, refl, sym, ap, ◌∙◌, arith}
use Rattle.std.specs.Int.{w16, w64, to_be_bytes, from_be_bytes}
use Rattle.std.proofs.Math.Seq.{take-add}
use Rattle.std.proofs.lemmas.List.{length-take, length-drop}
use Rattle.std.proofs.lemmas.Nat.{be_bytes_2, be_bytes_8}
use Rattle.adg_model.specs.Records.{Raw, raw_len, raw_bytes, Mark, stated_len, stated_scn}
use Rattle.adg_model.proofs.Bytes.{IsBytes, IsBytes_drop, IsBytes_take}
use Rattle.redo_frames.specs.NextRecord.{raw_at, Begins}

-- what the checks of a whole record find where it passes them
pub record PassesChecks (mark : Mark) (bytes : List ℕ) : Type 0 where
  pub open_thread : mark.ended ≡ false
  pub long : 13 ≤ stated_len bytes
  pub whole : stated_len bytes ≤ length bytes
  pub trailer : from_be_bytes w16 (take 2 (drop (stated_len bytes - 2) bytes)) ≡ stated_len bytes
  pub from : 1 ≤ stated_scn bytes
  pub to : stated_scn bytes < 2 ^ 48
  pub rises : mark.scn < stated_scn bytes

-- the length of the record that begins here
raw_len_raw_at : (bytes : List ℕ) → 13 ≤ stated_len bytes → stated_len bytes ≤ length bytes → raw_len (raw_at bytes) ≡ stated_len bytes
raw_len_raw_at bytes long whole = omega (arith, length-take (stated_len bytes - 13) (drop 11 bytes), length-drop 11 bytes)

stated_len_below : (bytes : List ℕ) → IsBytes bytes → stated_len bytes < 2 ^ 16
stated_len_below bytes fits = let part = IsBytes_take 2 bytes fits in omega (arith, part 0, part 1)

-- the fields of a record, as parts of the bytes
len_bytes : (bytes : List ℕ) → IsBytes bytes → 2 ≤ length bytes → to_be_bytes w16 (stated_len bytes) ≡ take 2 bytes
len_bytes bytes fits some = be_bytes_2 (take 2 bytes) _ (omega (arith, length-take 2 bytes)) (IsBytes_take 2 bytes fits) refl

scn_bytes : (bytes : List ℕ) → IsBytes bytes → 10 ≤ length bytes → to_be_bytes w64 (stated_scn bytes) ≡ take 8 (drop 2 bytes)
scn_bytes bytes fits some = be_bytes_8 (take 8 (drop 2 bytes)) _ (omega (arith, length-take 8 (drop 2 bytes), length-drop 2 bytes)) (IsBytes_take 8 (drop 2 bytes) (IsBytes_drop 2 bytes fits)) refl

count_bytes : (bytes : List ℕ) → 11 ≤ length bytes → get_or bytes 10 0 ∷ [] ≡ take 1 (drop 10 bytes)
count_bytes bytes some = sym (ap (λ (t : List ℕ). take 1 t) (drop-cons bytes 10 0 (omega arith)))

trailer_bytes : (bytes : List ℕ) → IsBytes bytes → 2 ≤ stated_len bytes → stated_len bytes ≤ length bytes → from_be_bytes w16 (take 2 (drop (stated_len bytes - 2) bytes)) ≡ stated_len bytes → to_be_bytes w16 (stated_len bytes) ≡ take 2 (drop (stated_len bytes - 2) bytes)
trailer_bytes bytes fits long whole good =
    let back = drop (stated_len bytes - 2) bytes in
    be_bytes_2 (take 2 back) _ (omega (arith, length-take 2 back, length-drop (stated_len bytes - 2) bytes)) (IsBytes_take 2 back (IsBytes_drop (stated_len bytes - 2) bytes fits)) (sym good)

-- a front, and the bytes behind it
longer : (n m k : ℕ) (bytes : List ℕ) → n + m ≡ k → take n bytes ++ take m (drop n bytes) ≡ take k bytes
longer n m k bytes e = sym (take-add n m bytes) ∙ ap (λ (i : ℕ). take i bytes) e

raw_bytes_parts : (r : Raw) → raw_bytes r ≡ to_be_bytes w16 (raw_len r) ++ to_be_bytes w64 r.scn ++ (r.count ∷ []) ++ r.body ++ to_be_bytes w16 (raw_len r)
unfolding raw_bytes
raw_bytes_parts r = refl

abbrev five : List ℕ → List ℕ → List ℕ → List ℕ → List ℕ → List ℕ
five a b c d e = a ++ b ++ c ++ d ++ e

five_parts : (bytes : List ℕ) (len : ℕ) → 13 ≤ len → five (take 2 bytes) (take 8 (drop 2 bytes)) (take 1 (drop 10 bytes)) (take (len - 13) (drop 11 bytes)) (take 2 (drop (len - 2) bytes)) ≡ take len bytes
five_parts bytes len long =
    let body = take (len - 13) (drop 11 bytes) in
    let back = take 2 (drop (len - 2) bytes) in
    ap (λ (t : List ℕ). t ++ take 1 (drop 10 bytes) ++ body ++ back) (longer 2 8 10 bytes refl)
    ∙ ap (λ (t : List ℕ). t ++ body ++ back) (longer 10 1 11 bytes refl)
    ∙ ap (λ (t : List ℕ). t ++ back) (longer 11 (len - 13) (len - 2) bytes (omega arith))
    ∙ longer (len - 2) 2 len bytes (omega arith)

raw_bytes_raw_at : (mark : Mark) (bytes : List ℕ) → IsBytes bytes → PassesChecks mark bytes → raw_bytes (raw_at bytes) ≡ take (stated_len bytes) bytes
raw_bytes_raw_at mark bytes fits h =
    let r = raw_at bytes in
    let front = take 2 bytes in
    let number = take 8 (drop 2 bytes) in
    let count = take 1 (drop 10 bytes) in
    let back = take 2 (drop (stated_len bytes - 2) bytes) in
    raw_bytes_parts r
    ∙ ap (λ (n : ℕ). five (to_be_bytes w16 n) (to_be_bytes w64 r.scn) (r.count ∷ []) r.body (to_be_bytes w16 n)) (raw_len_raw_at bytes h.long h.whole)
    ∙ ap (λ (t : List ℕ). five t (to_be_bytes w64 r.scn) (r.count ∷ []) r.body (to_be_bytes w16 (stated_len bytes))) (len_bytes bytes fits (omega (arith, h.long, h.whole)))
    ∙ ap (λ (t : List ℕ). five front t (r.count ∷ []) r.body (to_be_bytes w16 (stated_len bytes))) (scn_bytes bytes fits (omega (arith, h.long, h.whole)))
    ∙ ap (λ (t : List ℕ). five front number t r.body (to_be_bytes w16 (stated_len bytes))) (count_bytes bytes (omega (arith, h.long, h.whole)))
    ∙ ap (λ (t : List ℕ). five front number count r.body t) (trailer_bytes bytes fits (omega (arith, h.long)) h.whole h.trailer)
    ∙ five_parts bytes (stated_len bytes) h.long

pub Begins_where_checked : (mark : Mark) (bytes : List ℕ) → IsBytes bytes → PassesChecks mark bytes → Begins mark bytes
Begins_where_checked mark bytes fits h = record {
  long = h.long;
  whole = h.whole;
  follows = (record { from = h.from; to = h.to; count = fits 10; len = omega (arith, raw_len_raw_at bytes h.long h.whole, stated_len_below bytes fits) }, h.open_thread, h.rises, tt);
  spelled = raw_bytes_raw_at mark bytes fits h;
}
