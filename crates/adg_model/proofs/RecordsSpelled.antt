-- What stands where in the spelling of a record, and so that it is read back.
use Rattle.std.proofs.Common.{◌≡◌, ℕ, ◌-◌, ◌<◌, ◌≤◌, ◌^◌, List, ◌∷◌, ◌++◌, length, get_or, take, drop, refl, sym, ap, ◌∙◌, append_assoc, arith, ⊎_elim}
use Rattle.std.specs.Int.{w16, w64, to_be_bytes}
use Rattle.std.proofs.lemmas.List.{take_at, drop_at, length-append}
use Rattle.std.proofs.lemmas.Nat.{from_be_bytes-to_be_bytes_2, from_be_bytes-to_be_bytes_8}
use Rattle.adg_model.specs.Records.{Raw, raw_len, raw_bytes, IsRaw, IsPart, stated_len, stated_scn}

-- the length of a spelled record
pub length_raw_bytes : (r : Raw) → length (raw_bytes r) ≡ raw_len r
unfolding raw_bytes
length_raw_bytes r = omega (arith, length-append (to_be_bytes w16 (raw_len r) ++ to_be_bytes w64 r.scn ++ r.count ∷ r.body) (to_be_bytes w16 (raw_len r)), length-append (to_be_bytes w16 (raw_len r) ++ to_be_bytes w64 r.scn) (r.count ∷ r.body))

-- a text that begins with a record, field by field
pub record ReadsAs (r : Raw) (text rest : List ℕ) : Type 0 where
  pub len : stated_len text ≡ raw_len r
  pub scn : stated_scn text ≡ r.scn
  pub count : get_or text 10 0 ≡ r.count
  pub body : take (raw_len r - 13) (drop 11 text) ≡ r.body
  pub rest_is : drop (raw_len r) text ≡ rest
  pub whole : raw_len r ≤ length text

tail_is : (r : Raw) (rest : List ℕ) → drop 11 (raw_bytes r ++ rest) ≡ r.body ++ (to_be_bytes w16 (raw_len r) ++ rest)
unfolding raw_bytes
tail_is r rest = append_assoc r.body (to_be_bytes w16 (raw_len r)) rest

-- the bytes of the vectors
body_is : (r : Raw) (rest : List ℕ) → take (raw_len r - 13) (drop 11 (raw_bytes r ++ rest)) ≡ r.body
body_is r rest = rw (tail_is r rest) (take_at r.body (to_be_bytes w16 (raw_len r) ++ rest) (raw_len r - 13) (omega arith))

len_is : (r : Raw) (rest : List ℕ) → raw_len r < 2 ^ 16 → stated_len (raw_bytes r ++ rest) ≡ raw_len r
unfolding raw_bytes
len_is r rest lt = from_be_bytes-to_be_bytes_2 (raw_len r) lt

scn_is : (r : Raw) (rest : List ℕ) → r.scn < 2 ^ 48 → stated_scn (raw_bytes r ++ rest) ≡ r.scn
unfolding raw_bytes
scn_is r rest lt = from_be_bytes-to_be_bytes_8 r.scn (omega arith)

count_is : (r : Raw) (rest : List ℕ) → get_or (raw_bytes r ++ rest) 10 0 ≡ r.count
unfolding raw_bytes
count_is r rest = refl

pub reads_as : (r : Raw) (rest : List ℕ) → IsRaw r → ReadsAs r (raw_bytes r ++ rest) rest
reads_as r rest good = record {
  len = len_is r rest good.len;
  scn = scn_is r rest good.to;
  count = count_is r rest;
  body = body_is r rest;
  rest_is = drop_at (raw_bytes r) rest (raw_len r) (length_raw_bytes r);
  whole = omega (arith, length_raw_bytes r, length-append (raw_bytes r) rest);
}

abbrev raw_from : ℕ → ℕ → List ℕ → Raw
raw_from scn count body = record { scn = scn; count = count; body = body }

pub raw_same : (a b : Raw) → a.scn ≡ b.scn → a.count ≡ b.count → a.body ≡ b.body → a ≡ b
raw_same a b scn count body =
    ap (λ (n : ℕ). raw_from n a.count a.body) scn ∙ ap (λ (n : ℕ). raw_from b.scn n a.body) count ∙ ap (λ (t : List ℕ). raw_from b.scn b.count t) body

-- no record's spelling goes on as another's
pub raw_bytes_apart : (a b : Raw) (x y : List ℕ) → IsRaw a → IsRaw b → raw_bytes a ++ x ≡ raw_bytes b ++ y → (a ≡ b) × (x ≡ y)
raw_bytes_apart a b x y good_a good_b e =
    let p = reads_as a x good_a in
    let q = reads_as b y good_b in
    let len : raw_len a ≡ raw_len b = sym p.len ∙ ap stated_len e ∙ q.len in
    let scn : a.scn ≡ b.scn = sym p.scn ∙ ap stated_scn e ∙ q.scn in
    let count : a.count ≡ b.count = sym p.count ∙ ap (λ (t : List ℕ). get_or t 10 0) e ∙ q.count in
    let body : a.body ≡ b.body = sym p.body ∙ ap (λ (t : List ℕ). take (raw_len a - 13) (drop 11 t)) e ∙ ap (λ (n : ℕ). take (n - 13) (drop 11 (raw_bytes b ++ y))) len ∙ q.body in
    let rest : x ≡ y = sym p.rest_is ∙ ap (λ (t : List ℕ). drop (raw_len a) t) e ∙ ap (λ (n : ℕ). drop n (raw_bytes b ++ y)) len ∙ q.rest_is in
    (raw_same a b scn count body, rest)

-- where a record's spelling begins there is a whole record
pub raw_no_part : (r : Raw) (rest : List ℕ) → IsRaw r → IsPart (raw_bytes r ++ rest) → ⊥
raw_no_part r rest good part =
    let p = reads_as r rest good in
    ⊎_elim (λ few. omega (arith, p.whole, few)) (λ few. omega (arith, p.whole, p.len, few)) part
