-- The fields of vectors are read as they are spelled.
use Rattle.std.proofs.Common.{◌≡◌, ℕ, ◌^◌, ◌<◌, ◌≤◌, Bool, true, false, cond, ltb, List, [], ◌∷◌, ◌++◌, length, take, drop, Option, Some, None, refl, sym, ap, subst, ◌∙◌, arith}
use Rattle.std.specs.Int.{Width, w16, w64, byte_len, from_be_bytes, to_be_bytes}
use Rattle.std.proofs.lemmas.Bool.{ltb-false, le-ltb}
use Rattle.std.proofs.lemmas.List.{take_at, drop_at, take-append-drop, length-append, length-take}
use Rattle.std.proofs.lemmas.Nat.{be_bytes_2, be_bytes_8, from_be_bytes-to_be_bytes_2, from_be_bytes-to_be_bytes_8}
use Rattle.change_vectors.specs.Reading.{byte_at, number_at, not_zero}
use Rattle.adg_model.specs.Records.{IsByte}
use Rattle.adg_model.proofs.Bytes.{IsBytes, IsBytes_drop, IsBytes_take}
use Rattle.change_vectors.proofs.Readers.{IsBytes_rest, some_is, Takes, Reads}

byte_takes : (bytes : List ℕ) (x : ℕ) (rest : List ℕ) → IsBytes bytes → byte_at bytes ≡ Some (x, rest) → Takes bytes (x ∷ []) rest × IsByte x
byte_takes [] x rest fits e = absurd cc
byte_takes (b ∷ bytes) x rest fits e =
    subst (λ (y : ℕ × List ℕ). Takes (b ∷ bytes) (y.0 ∷ []) y.1 × IsByte y.0) (some_is (b, bytes) (x, rest) e) (record { parts = refl; rest_fits = IsBytes_rest b bytes fits }, fits 0)

pub byte_reads : Reads byte_at (λ x. x ∷ []) IsByte
byte_reads = record { takes = byte_takes; again = λ x rest good. refl }

-- ---- numbers

pub record IsWide (w : Width) (limit : ℕ) : Type 0 where
  pub len : (n : ℕ) → length (to_be_bytes w n) ≡ byte_len w
  pub back : (bytes : List ℕ) → length bytes ≡ byte_len w → IsBytes bytes → to_be_bytes w (from_be_bytes w bytes) ≡ bytes
  pub again : (n : ℕ) → n < limit → from_be_bytes w (to_be_bytes w n) ≡ n
  pub below : (bytes : List ℕ) → IsBytes bytes → from_be_bytes w bytes < limit

pub wide16 : IsWide w16 (2 ^ 16)
wide16 = record {
  len = λ n. refl;
  back = λ bytes len fits. be_bytes_2 bytes _ len fits refl;
  again = λ n lt. from_be_bytes-to_be_bytes_2 n lt;
  below = λ bytes fits. omega (arith, fits 0, fits 1);
}

pub wide64 : IsWide w64 (2 ^ 64)
wide64 = record {
  len = λ n. refl;
  back = λ bytes len fits. be_bytes_8 bytes _ len fits refl;
  again = λ n lt. from_be_bytes-to_be_bytes_8 n lt;
  below = λ bytes fits. omega (arith, fits 0, fits 1, fits 2, fits 3, fits 4, fits 5, fits 6, fits 7);
}

-- a test that did not fail
pub unless_some : {A : Type 0} (b : Bool) (x y : A) → cond b None (Some x) ≡ Some y → (b ≡ false) × (x ≡ y)
unless_some true x y e = absurd cc
unless_some false x y e = (refl, cc)

pub when_some : {A : Type 0} (b : Bool) (x y : A) → cond b (Some x) None ≡ Some y → (b ≡ true) × (x ≡ y)
when_some true x y e = (refl, cc)
when_some false x y e = absurd cc

number_takes : (w : Width) (limit : ℕ) (wide : IsWide w limit) (bytes : List ℕ) (n : ℕ) (rest : List ℕ) → IsBytes bytes → number_at w bytes ≡ Some (n, rest) → Takes bytes (to_be_bytes w n) rest × (n < limit)
number_takes w limit wide bytes n rest fits e =
    let g = unless_some (ltb (length bytes) (byte_len w)) (from_be_bytes w (take (byte_len w) bytes), drop (byte_len w) bytes) (n, rest) e in
    let long : byte_len w ≤ length bytes = ltb-false _ _ g.0 in
    let n-is : from_be_bytes w (take (byte_len w) bytes) ≡ n = ap (λ (p : ℕ × List ℕ). p.0) g.1 in
    let rest-is : drop (byte_len w) bytes ≡ rest = ap (λ (p : ℕ × List ℕ). p.1) g.1 in
    let front : to_be_bytes w n ≡ take (byte_len w) bytes = rw (← n-is) (wide.back (take (byte_len w) bytes) (omega (arith, length-take (byte_len w) bytes)) (IsBytes_take (byte_len w) bytes fits)) in
    (record { parts = rw (front, ← rest-is) (sym (take-append-drop (byte_len w) bytes)); rest_fits = rw (← rest-is) (IsBytes_drop (byte_len w) bytes fits) }, rw (← n-is) (wide.below (take (byte_len w) bytes) (IsBytes_take (byte_len w) bytes fits)))

number_again : (w : Width) (limit : ℕ) (wide : IsWide w limit) (n : ℕ) (rest : List ℕ) → n < limit → number_at w (to_be_bytes w n ++ rest) ≡ Some (n, rest)
number_again w limit wide n rest lt =
    let len = wide.len n in
    let long : ltb (length (to_be_bytes w n ++ rest)) (byte_len w) ≡ false = le-ltb _ _ (omega (arith, length-append (to_be_bytes w n) rest)) in
    rw (long, take_at (to_be_bytes w n) rest (byte_len w) len, drop_at (to_be_bytes w n) rest (byte_len w) len, wide.again n lt) refl

pub number_reads : (w : Width) (limit : ℕ) (wide : IsWide w limit) → Reads (number_at w) (to_be_bytes w) (λ n. n < limit)
number_reads w limit wide = record { takes = number_takes w limit wide; again = number_again w limit wide }

-- ---- numbers that are not 0

not_zero_some : (r : Option (ℕ × List ℕ)) (n : ℕ) (rest : List ℕ) → not_zero r ≡ Some (n, rest) → (r ≡ Some (n, rest)) × (1 ≤ n)
not_zero_some None n rest e = absurd cc
not_zero_some (Some (m, more)) n rest e = grind arith

not_zero_again : (n : ℕ) (rest : List ℕ) → 1 ≤ n → not_zero (Some (n, rest)) ≡ Some (n, rest)
not_zero_again n rest some = grind arith

abbrev pub IsName : ℕ → ℕ → Type 0
IsName limit n = (1 ≤ n) × (n < limit)

abbrev pub name_at : Width → List ℕ → Option (ℕ × List ℕ)
name_at w bytes = not_zero (number_at w bytes)

name_takes : (w : Width) (limit : ℕ) (wide : IsWide w limit) (bytes : List ℕ) (n : ℕ) (rest : List ℕ) → IsBytes bytes → name_at w bytes ≡ Some (n, rest) → Takes bytes (to_be_bytes w n) rest × IsName limit n
name_takes w limit wide bytes n rest fits e =
    let s = not_zero_some (number_at w bytes) n rest e in
    let t = number_takes w limit wide bytes n rest fits s.0 in
    (t.0, (s.1, t.1))

name_again : (w : Width) (limit : ℕ) (wide : IsWide w limit) (n : ℕ) (rest : List ℕ) → IsName limit n → name_at w (to_be_bytes w n ++ rest) ≡ Some (n, rest)
name_again w limit wide n rest good = ap not_zero (number_again w limit wide n rest good.1) ∙ not_zero_again n rest good.0

pub name_reads : (w : Width) (limit : ℕ) (wide : IsWide w limit) → Reads (name_at w) (to_be_bytes w) (IsName limit)
name_reads w limit wide = record { takes = name_takes w limit wide; again = name_again w limit wide }
