-- No vector's spelling goes on as another's, so that the vectors of a record are the only ones with its bytes.
use Rattle.std.proofs.Common.{◌≡◌, ℕ, ◌<◌, ◌^◌, Bool, true, false, List, [], ◌∷◌, ◌++◌, length, get_or, take, drop, refl, sym, ap, ap₂, ◌∙◌, append_assoc, arith}
use Rattle.std.proofs.lemmas.Int.{to_z-of_z}
use Rattle.std.proofs.Math.Facts.{Fits-of_z}
use Rattle.std.specs.Prelude.{FitsSigned}
use Rattle.std.specs.List.{flat_map, AllByRecursion}
use Rattle.std.specs.Int.{w16, w64, to_be_bytes, from_be_bytes, cast_unsigned, cast_signed}
use Rattle.std.proofs.lemmas.List.{take_at, drop_at}
use Rattle.std.proofs.lemmas.Nat.{from_be_bytes-to_be_bytes_2, from_be_bytes-to_be_bytes_8}
use Rattle.adg_base.specs.declared.value.ColKind.{ColKind}
use Rattle.adg_base.specs.declared.value.ColKind.TheVariants as kind
use Rattle.adg_base.specs.declared.value.Value.TheVariants.{Null, Int, Text}
use Rattle.adg_base.specs.declared.vector.Vector.{Vector}
use Rattle.adg_base.specs.declared.vector.Vector.TheVariants.{Begin, Put, Delete, Undo, Commit, Abort, Create, DropObject, AddColumn, NoInMemory, EndThread}
use Rattle.adg_model.specs.Spelling.{flag_byte, kind_byte, value_bytes, row_bytes, change_bytes, vector_bytes, vectors_bytes, IsValue, IsRow, IsChange, IsVector, AreVectors}

-- of two things with spellings, one's goes on as the other's only where they are the same
abbrev pub Apart : {X : Type 0} → (X → List ℕ) → (X → Type 0) → Type 0
Apart {X} spell Is = (a b : X) (x y : List ℕ) → Is a → Is b → spell a ++ x ≡ spell b ++ y → (a ≡ b) × (x ≡ y)

pub heads : (m n : ℕ) (xs ys : List ℕ) → m ∷ xs ≡ n ∷ ys → m ≡ n
heads m n xs ys e = ap (λ l. get_or l 0 0) e

-- fronts of one length
pub fronts : (xs ys x y : List ℕ) → length xs ≡ length ys → xs ++ x ≡ ys ++ y → (xs ≡ ys) × (x ≡ y)
fronts xs ys x y n e =
    (sym (take_at xs x (length xs) refl) ∙ ap (take (length xs)) e ∙ take_at ys y (length xs) (sym n), sym (drop_at xs x (length xs) refl) ∙ ap (drop (length xs)) e ∙ drop_at ys y (length xs) (sym n))

pub apart_16 : Apart (to_be_bytes w16) (λ n. n < 2 ^ 16)
apart_16 a b x y la lb e =
    (sym (from_be_bytes-to_be_bytes_2 a la) ∙ ap (λ t. from_be_bytes w16 (take 2 t)) e ∙ from_be_bytes-to_be_bytes_2 b lb, ap (drop 2) e)

pub apart_64 : Apart (to_be_bytes w64) (λ n. n < 2 ^ 64)
apart_64 a b x y la lb e =
    (sym (from_be_bytes-to_be_bytes_8 a la) ∙ ap (λ t. from_be_bytes w64 (take 8 t)) e ∙ from_be_bytes-to_be_bytes_8 b lb, ap (drop 8) e)

apart_int : Apart (λ n. to_be_bytes w64 (cast_unsigned w64 n)) (FitsSigned w64)
apart_int a b x y fa fb e =
    let fa_fits = Fits-of_z fa in
    let fb_fits = Fits-of_z fb in
    let r = apart_64 (cast_unsigned w64 a) (cast_unsigned w64 b) x y (fa_fits.fits) (fb_fits.fits) e in
    (sym (to_z-of_z w64 a fa) ∙ ap (cast_signed w64) r.0 ∙ to_z-of_z w64 b fb, r.1)

same_flag : (a b : Bool) → flag_byte a ≡ flag_byte b → a ≡ b
same_flag false false e = refl
same_flag false true e = absurd (omega arith)
same_flag true false e = absurd (omega arith)
same_flag true true e = refl

same_kind : (a b : ColKind) → kind_byte a ≡ kind_byte b → a ≡ b
same_kind kind.Int kind.Int e = refl
same_kind kind.Int kind.Text e = absurd (omega arith)
same_kind kind.Text kind.Int e = absurd (omega arith)
same_kind kind.Text kind.Text e = refl

apart_value : Apart value_bytes IsValue
apart_value Null Null x y ha hb e = (refl, ap (drop 1) e)
apart_value (Int a) (Int b) x y ha hb e = let r = apart_int a b x y ha hb (ap (drop 1) e) in (ap Int r.0, r.1)
apart_value (Text a) (Text b) x y ha hb e =
    let n : length a ≡ length b = ap (λ l. get_or l 1 0) e in
    let r = fronts a b x y n (ap (drop 2) e) in
    (ap Text r.0, r.1)
apart_value a b x y ha hb e = absurd (omega (arith, ap (λ l. get_or l 0 0) e))

-- as many on both sides
apart_many : {X : Type 0} (spell : X → List ℕ) (Is : X → Type 0) → Apart spell Is → (cs ds : List X) (x y : List ℕ) → length cs ≡ length ds → AllByRecursion Is cs → AllByRecursion Is ds → flat_map spell cs ++ x ≡ flat_map spell ds ++ y → (cs ≡ ds) × (x ≡ y)
apart_many spell Is apart [] [] x y n ha hb e = (refl, e)
apart_many spell Is apart [] (d ∷ ds) x y n ha hb e = absurd (omega arith)
apart_many spell Is apart (c ∷ cs) [] x y n ha hb e = absurd (omega arith)
apart_many spell Is apart (c ∷ cs) (d ∷ ds) x y n ha hb e =
    let here = apart c d (flat_map spell cs ++ x) (flat_map spell ds ++ y) ha.0 hb.0 (sym (append_assoc (spell c) (flat_map spell cs) x) ∙ e ∙ append_assoc (spell d) (flat_map spell ds) y) in
    let later = apart_many spell Is apart cs ds x y (omega arith) ha.1 hb.1 here.1 in
    (ap₂ (λ f fs. f ∷ fs) here.0 later.0, later.1)

apart_row : Apart row_bytes IsRow
apart_row a b x y ha hb e =
    apart_many value_bytes IsValue apart_value a b x y (ap (λ l. get_or l 0 0) e) ha.values hb.values (ap (drop 1) e)

record SameChange (t o b s t' o' b' s' : ℕ) (x y : List ℕ) : Type 0 where
  txn : t ≡ t'
  obj : o ≡ o'
  block : b ≡ b'
  slot : s ≡ s'
  rest : x ≡ y

apart_change : (t o b s t' o' b' s' : ℕ) (x y : List ℕ) → IsChange t o b s → IsChange t' o' b' s' → change_bytes t o b s ++ x ≡ change_bytes t' o' b' s' ++ y → SameChange t o b s t' o' b' s' x y
apart_change t o b s t' o' b' s' x y h k e =
    let p = apart_64 t t' (to_be_bytes w16 o ++ (to_be_bytes w16 b ++ s ∷ x)) (to_be_bytes w16 o' ++ (to_be_bytes w16 b' ++ s' ∷ y)) h.good_txn.1 k.good_txn.1 e in
    let q = apart_16 o o' (to_be_bytes w16 b ++ s ∷ x) (to_be_bytes w16 b' ++ s' ∷ y) h.good_obj.1 k.good_obj.1 p.1 in
    let r = apart_16 b b' (s ∷ x) (s' ∷ y) h.good_block k.good_block q.1 in
    record { txn = p.0; obj = q.0; block = r.0; slot = heads s s' x y r.1; rest = ap (drop 1) r.1 }

apart_kinds : (cs ds : List ColKind) (x y : List ℕ) → length cs ≡ length ds → flat_map (λ k. kind_byte k ∷ []) cs ++ x ≡ flat_map (λ k. kind_byte k ∷ []) ds ++ y → (cs ≡ ds) × (x ≡ y)
apart_kinds [] [] x y n e = (refl, e)
apart_kinds [] (d ∷ ds) x y n e = absurd (omega arith)
apart_kinds (c ∷ cs) [] x y n e = absurd (omega arith)
apart_kinds (c ∷ cs) (d ∷ ds) x y n e =
    let later = apart_kinds cs ds x y (omega arith) (ap (drop 1) e) in
    (ap₂ (λ f fs. f ∷ fs) (same_kind c d (ap (λ l. get_or l 0 0) e)) later.0, later.1)

pub vector_bytes_apart : (count : ℕ) → Apart vector_bytes (IsVector count)
vector_bytes_apart count (Begin t) (Begin u) x y h k e = let p = apart_64 t u x y h.1 k.1 (ap (drop 1) e) in (ap Begin p.0, p.1)
vector_bytes_apart count (Put t o b s row) (Put t' o' b' s' row') x y h k e =
    let p = apart_change t o b s t' o' b' s' (row_bytes row ++ x) (row_bytes row' ++ y) h.0 k.0 (ap (drop 1) e) in
    let q = apart_row row row' x y h.1 k.1 p.rest in
    (ap (λ n. Put n o b s row) p.txn ∙ ap (λ n. Put t' n b s row) p.obj ∙ ap (λ n. Put t' o' n s row) p.block ∙ ap (λ n. Put t' o' b' n row) p.slot ∙ ap (Put t' o' b' s') q.0, q.1)
vector_bytes_apart count (Delete t o b s) (Delete t' o' b' s') x y h k e =
    let p = apart_change t o b s t' o' b' s' x y h k (ap (drop 1) e) in
    (ap (λ n. Delete n o b s) p.txn ∙ ap (λ n. Delete t' n b s) p.obj ∙ ap (λ n. Delete t' o' n s) p.block ∙ ap (Delete t' o' b') p.slot, p.rest)
vector_bytes_apart count (Undo t o b s) (Undo t' o' b' s') x y h k e =
    let p = apart_change t o b s t' o' b' s' x y h k (ap (drop 1) e) in
    (ap (λ n. Undo n o b s) p.txn ∙ ap (λ n. Undo t' n b s) p.obj ∙ ap (λ n. Undo t' o' n s) p.block ∙ ap (Undo t' o' b') p.slot, p.rest)
vector_bytes_apart count (Commit t f) (Commit u g) x y h k e =
    let p = apart_64 t u (flag_byte f ∷ x) (flag_byte g ∷ y) h.1 k.1 (ap (drop 1) e) in
    (ap₂ Commit p.0 (same_flag f g (heads (flag_byte f) (flag_byte g) x y p.1)), ap (drop 1) p.1)
vector_bytes_apart count (Abort t) (Abort u) x y h k e = let p = apart_64 t u x y h.1 k.1 (ap (drop 1) e) in (ap Abort p.0, p.1)
vector_bytes_apart count (Create o n f cs) (Create o' n' f' cs') x y h k e =
    let tail = flag_byte f ∷ length cs ∷ (flat_map (λ k. kind_byte k ∷ []) cs ++ x) in
    let tail' = flag_byte f' ∷ length cs' ∷ (flat_map (λ k. kind_byte k ∷ []) cs' ++ y) in
    let p = apart_16 o o' (to_be_bytes w16 n ++ tail) (to_be_bytes w16 n' ++ tail') h.good_obj.1 k.good_obj.1 (ap (drop 1) e) in
    let few : n < 2 ^ 16 = omega (arith, h.few_extents) in
    let few' : n' < 2 ^ 16 = omega (arith, k.few_extents) in
    let q = apart_16 n n' tail tail' few few' p.1 in
    let flags = same_flag f f' (ap (λ l. get_or l 0 0) q.1) in
    let r = apart_kinds cs cs' x y (ap (λ l. get_or l 1 0) q.1) (ap (drop 2) q.1) in
    (ap (λ m. Create m n f cs) p.0 ∙ ap (λ m. Create o' m f cs) q.0 ∙ ap (λ m. Create o' n' m cs) flags ∙ ap (Create o' n' f') r.0, r.1)
vector_bytes_apart count (DropObject o) (DropObject o') x y h k e = let p = apart_16 o o' x y h.1 k.1 (ap (drop 1) e) in (ap DropObject p.0, p.1)
vector_bytes_apart count (AddColumn o c) (AddColumn o' c') x y h k e =
    let p = apart_16 o o' (kind_byte c ∷ x) (kind_byte c' ∷ y) h.1 k.1 (ap (drop 1) e) in
    (ap₂ AddColumn p.0 (same_kind c c' (heads (kind_byte c) (kind_byte c') x y p.1)), ap (drop 1) p.1)
vector_bytes_apart count (NoInMemory o) (NoInMemory o') x y h k e = let p = apart_16 o o' x y h.1 k.1 (ap (drop 1) e) in (ap NoInMemory p.0, p.1)
vector_bytes_apart count EndThread EndThread x y h k e = (refl, ap (drop 1) e)
vector_bytes_apart count a b x y h k e = absurd (omega (arith, ap (λ l. get_or l 0 0) e))

-- the vectors of a record with so many
pub vectors_bytes_same : (count : ℕ) (vs ws : List Vector) → length vs ≡ length ws → AreVectors count vs → AreVectors count ws → vectors_bytes vs ≡ vectors_bytes ws → vs ≡ ws
vectors_bytes_same count vs ws n h k e = (apart_many vector_bytes (IsVector count) (vector_bytes_apart count) vs ws [] [] n h k (ap (λ l. l ++ []) e)).0
