-- The vectors of a body: they are determined by it, and a body with a vector that cannot be read has none.
use Rattle.std.proofs.Common.{◌≡◌, ℕ, ◌+◌, ◌<◌, ◌≤◌, List, [], ◌∷◌, ◌++◌, length, Some, None, Result, Ok, Err, ◌⊎◌, inl, refl, sym, ap, subst, ◌∙◌, append_assoc, arith}
use Rattle.std.proofs.lemmas.List.{append-nil, nil_from_length, length_push}
use Rattle.std.proofs.lemmas.List.Concat.{flat_map-append}
use Rattle.adg_base.specs.declared.vector.Vector.{Vector}
use Rattle.adg_model.specs.Spelling.{vector_bytes, vectors_bytes, IsVector, AreVectors, IsBadVector}
use Rattle.change_vectors.specs.declared.refused.VectorsRefused.{VectorsRefused}
use Rattle.change_vectors.specs.declared.refused.VectorsRefused.TheVariants.{BadVector, Memory}
use Rattle.change_vectors.specs.Reading.{vector_at, many_at}
use Rattle.adg_model.proofs.Bytes.{IsBytes}
use Rattle.change_vectors.proofs.Readers.{apart, some, AreMany, many_reads}
use Rattle.change_vectors.proofs.Vectors.{vector_reads}

-- no spelling of a vector begins that of another
pub vector_apart : (n : ℕ) (a b : Vector) (x y : List ℕ) → IsVector n a → IsVector n b → vector_bytes a ++ x ≡ vector_bytes b ++ y → (a ≡ b) × (x ≡ y)
vector_apart n a b x y p q e = apart (vector_at n) vector_bytes (IsVector n) (vector_reads n) a b x y p q e

-- the spelling of vectors and their number determine them, whatever follows
pub vectors_apart : (n : ℕ) (a b : List Vector) (x y : List ℕ) → AreVectors n a → AreVectors n b → length a ≡ length b → vectors_bytes a ++ x ≡ vectors_bytes b ++ y → (a ≡ b) × (x ≡ y)
vectors_apart n a b x y p q len e =
    apart (many_at (vector_at n) (length b)) vectors_bytes (AreMany (IsVector n) (length b)) (many_reads (vector_at n) vector_bytes (IsVector n) (vector_reads n) (length b)) a b x y (len, p) (refl, q) e

pub vectors_unique : (n : ℕ) (a b : List Vector) → AreVectors n a → AreVectors n b → length a ≡ length b → vectors_bytes a ≡ vectors_bytes b → a ≡ b
vectors_unique n a b p q len e = (vectors_apart n a b [] [] p q len (ap (λ (x : List ℕ). x ++ []) e)).0

-- vectors at the front of the spelling of others are the first of them
record Prefix (n : ℕ) (front all : List Vector) (rest : List ℕ) : Type 0 where
  others : List Vector
  valid : AreVectors n others
  len : length front + length others ≡ length all
  spelled : rest ≡ vectors_bytes others

prefix_of : (n : ℕ) (front all : List Vector) (rest : List ℕ) → AreVectors n front → AreVectors n all → length front ≤ length all → vectors_bytes front ++ rest ≡ vectors_bytes all → Prefix n front all rest
prefix_of n [] all rest p q le e = record { others = all; valid = q; len = omega arith; spelled = e }
prefix_of n (v ∷ front) [] rest p q le e = absurd (omega arith)
prefix_of n (v ∷ front) (w ∷ all) rest p q le e =
    let left : vectors_bytes (v ∷ front) ++ rest ≡ vector_bytes v ++ (vectors_bytes front ++ rest) = append_assoc (vector_bytes v) (vectors_bytes front) rest in
    let both = vector_apart n v w (vectors_bytes front ++ rest) (vectors_bytes all) p.0 q.0 (sym left ∙ e) in
    let deep = prefix_of n front all rest p.1 q.1 (omega arith) both.1 in
    record { others = deep.others; valid = deep.valid; len = let l = deep.len in omega arith; spelled = deep.spelled }

no_others : (n : ℕ) (others : List Vector) (rest : List ℕ) → AreVectors n others → rest ≡ vectors_bytes others → (1 ≤ length others → (vector : Vector) (more : List ℕ) → IsVector n vector → rest ≡ vector_bytes vector ++ more → ⊥) → (length others ≡ 0 → 1 ≤ length rest) → ⊥
no_others n [] rest valid spelled none remains =
    let some : 1 ≤ length rest = remains refl in
    let nothing : length rest ≡ 0 = ap length spelled in
    absurd (omega arith)
no_others n (v ∷ others) rest valid spelled none remains = none (omega arith) v (vectors_bytes others) valid.0 spelled

-- a body with a vector that cannot be read is no spelling of vectors
pub bad_excludes : (count index : ℕ) (body : List ℕ) (vectors : List Vector) → IsBadVector count body index → AreVectors count vectors → length vectors ≡ count → body ≡ vectors_bytes vectors → ⊥
bad_excludes count index body vectors bad valid len e =
    let place = bad.place in
    let within = bad.within in
    let front = prefix_of count bad.before vectors bad.rest bad.readable valid (omega arith) (sym bad.spelled ∙ e) in
    let total = front.len in
    no_others count front.others bad.rest front.valid front.spelled (λ some. bad.none (omega arith)) (λ none. bad.remains (omega arith))

-- ---- reading a body

-- the vectors before an index were read from a body, and these bytes are left
pub record HasRead (count i : ℕ) (body : List ℕ) (vectors : List Vector) (rest : List ℕ) : Type 0 where
  pub len : length vectors ≡ i
  pub valid : AreVectors count vectors
  pub spelled : body ≡ vectors_bytes vectors ++ rest
  pub fits : IsBytes rest

pub begins : (count : ℕ) (body : List ℕ) → IsBytes body → HasRead count 0 body [] body
begins count body fits = record { len = refl; valid = tt; spelled = refl; fits = fits }

are_more : (n : ℕ) (vectors : List Vector) (v : Vector) → AreVectors n vectors → IsVector n v → AreVectors n (vectors ++ v ∷ [])
are_more n [] v all one = (one, tt)
are_more n (w ∷ vectors) v all one = (all.0, are_more n vectors v all.1 one)

pub goes_on : (count i : ℕ) (body : List ℕ) (vectors : List Vector) (rest : List ℕ) (v : Vector) (after : List ℕ) → HasRead count i body vectors rest → vector_at count rest ≡ Some (v, after) → HasRead count (i + 1) body (vectors ++ v ∷ []) after
goes_on count i body vectors rest v after read e =
    let t = (vector_reads count).takes rest v after read.fits e in
    let more : vectors_bytes (vectors ++ v ∷ []) ≡ vectors_bytes vectors ++ vector_bytes v = flat_map-append vector_bytes vectors (v ∷ []) ∙ ap (λ (x : List ℕ). vectors_bytes vectors ++ x) (append-nil (vector_bytes v)) in
    let whole : body ≡ (vectors_bytes vectors ++ vector_bytes v) ++ after = read.spelled ∙ ap (λ (x : List ℕ). vectors_bytes vectors ++ x) t.0.parts ∙ sym (append_assoc (vectors_bytes vectors) (vector_bytes v) after) in
    let len = read.len in
    record {
      len = length_push vectors v ∙ ap (λ (n : ℕ). n + 1) len;
      valid = are_more count vectors v read.valid t.1;
      spelled = whole ∙ ap (λ (x : List ℕ). x ++ after) (sym more);
      fits = t.0.rest_fits;
    }

no_vector : (count : ℕ) (v : Vector) (more rest : List ℕ) → IsVector count v → rest ≡ vector_bytes v ++ more → vector_at count rest ≡ None → ⊥
no_vector count v more rest good is e =
    let read : vector_at count rest ≡ Some (v, more) = ap (vector_at count) is ∙ (vector_reads count).again v more good in
    absurd cc

pub ends : (count i : ℕ) (body : List ℕ) (vectors : List Vector) (rest : List ℕ) → HasRead count i body vectors rest → i < count → vector_at count rest ≡ None → IsBadVector count body (i + 1)
ends count i body vectors rest read lt e =
    let len = read.len in
    record {
      before = vectors;
      rest = rest;
      place = omega arith;
      within = omega arith;
      readable = read.valid;
      spelled = read.spelled;
      none = λ le v more good is. no_vector count v more rest good is e;
      remains = λ is. absurd (omega arith);
    }

pub remains : (count i : ℕ) (body : List ℕ) (vectors : List Vector) (rest : List ℕ) → HasRead count i body vectors rest → i ≡ count → 1 ≤ length rest → IsBadVector count body (count + 1)
remains count i body vectors rest read is some =
    let len = read.len in
    record {
      before = vectors;
      rest = rest;
      place = omega arith;
      within = omega arith;
      readable = read.valid;
      spelled = read.spelled;
      none = λ le v more good same. absurd (omega arith);
      remains = λ same. some;
    }

pub is_whole : (count i : ℕ) (body : List ℕ) (vectors : List Vector) (rest : List ℕ) → HasRead count i body vectors rest → i ≡ count → length rest ≡ 0 → AreVectors count vectors × (length vectors ≡ count) × (body ≡ vectors_bytes vectors)
is_whole count i body vectors rest read is none =
    let empty : rest ≡ [] = nil_from_length rest none in
    (read.valid, read.len ∙ is, read.spelled ∙ ap (λ (x : List ℕ). vectors_bytes vectors ++ x) empty ∙ append-nil (vectors_bytes vectors))

-- ---- what a call answered

abbrev refused : VectorsRefused → Result (List Vector) VectorsRefused
refused e = Err e

abbrev answered : List Vector → Result (List Vector) VectorsRefused
answered vectors = Ok vectors

same_index : (i j : ℕ) → refused (BadVector i) ≡ refused (BadVector j) → i ≡ j
same_index i j e = cc

pub shows_bad : (count i : ℕ) (body : List ℕ) → IsBadVector count body i → (index : ℕ) → refused (BadVector i) ≡ refused (BadVector index) → IsBadVector count body index
shows_bad count i body bad index e = subst (λ (n : ℕ). IsBadVector count body n) (same_index i index e) bad

pub none_is_left : (count i : ℕ) (body : List ℕ) → IsBadVector count body i → (vectors : List Vector) → AreVectors count vectors → length vectors ≡ count → body ≡ vectors_bytes vectors → (refused (BadVector i) ≡ answered vectors) ⊎ (refused (BadVector i) ≡ refused Memory)
none_is_left count i body bad vectors valid len e = absurd (bad_excludes count i body vectors bad valid len e)

pub is_the_one : (count : ℕ) (body : List ℕ) (found : List Vector) → AreVectors count found × (length found ≡ count) × (body ≡ vectors_bytes found) → (vectors : List Vector) → AreVectors count vectors → length vectors ≡ count → body ≡ vectors_bytes vectors → (answered found ≡ answered vectors) ⊎ (answered found ≡ refused Memory)
is_the_one count body found read vectors valid len e = inl (ap answered (vectors_unique count found vectors read.0 valid (read.1 ∙ sym len) (sym read.2 ∙ e)))
