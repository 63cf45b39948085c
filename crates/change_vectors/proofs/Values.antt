-- Flags, kinds, values and rows are read as they are spelled.
use Rattle.std.proofs.Common.{◌≡◌, ℕ, ◌^◌, ◌<◌, ◌≤◌, ℤ, Bool, true, false, cond, ltb, leb, eqb, ◌&&◌, List, [], ◌∷◌, ◌++◌, length, take, drop, Option, Some, None, refl, sym, ap, subst, arith}
use Rattle.std.specs.Prelude.{FitsSigned}
use Rattle.std.specs.Int.{w64, to_be_bytes, cast_signed, cast_unsigned}
use Rattle.std.specs.List.{flat_map, AllByRecursion}
use Rattle.std.proofs.lemmas.Bool.{ltb-false, le-ltb, leb-true, le-leb, eqb-true, and_parts, and_from}
use Rattle.std.proofs.lemmas.List.{take_at, drop_at, take-append-drop, length-append, length-take}
use Rattle.std.proofs.lemmas.Int.{of_z-to_z, to_z-of_z}
use borrow.Author.Gap.{read_sfits}
use mir.ValLaws.{of_z_fits}
use Rattle.adg_base.specs.Text.{is_text}
use Rattle.adg_base.specs.declared.value.ColKind.{ColKind}
use Rattle.adg_base.specs.declared.value.ColKind.TheVariants as kind
use Rattle.adg_base.specs.declared.value.Value.{Value}
use Rattle.adg_base.specs.declared.value.Value.TheVariants.{Null, Int, Text}
use Rattle.adg_model.specs.Spelling.{flag_byte, kind_byte, value_bytes, row_bytes, IsValue, IsRow}
use Rattle.change_vectors.specs.Reading.{number_at, flag_of, kind_of, flag_at, kind_at, width_at, int_at, text_at, value_at, row_at, columns_at, many_at}
use Rattle.adg_model.proofs.Bytes.{IsBytes, IsBytes_drop}
use Rattle.change_vectors.proofs.Readers.{IsBytes_rest, some_is, bind_some, Takes, Takes_then, Reads, step, many_reads}
use Rattle.change_vectors.proofs.Fields.{wide64, number_reads, when_some}

-- ---- tests

choose_by : {A : Type 0} (P : ℕ → Type 0) (t k : ℕ) (x y : Option A) (z : A) (b : Bool) → eqb t k ≡ b → (x ≡ Some z → P k) → (y ≡ Some z → P t) → cond b x y ≡ Some z → P t
choose_by P t k x y z true is f g e = subst P (sym (eqb-true t k is)) (f e)
choose_by P t k x y z false is f g e = g e

-- one of two, by a test of a number
pub choose : {A : Type 0} (P : ℕ → Type 0) (t k : ℕ) (x y : Option A) (z : A) → (x ≡ Some z → P k) → (y ≡ Some z → P t) → cond (eqb t k) x y ≡ Some z → P t
choose P t k x y z f g e = choose_by P t k x y z (eqb t k) refl f g e

unless_is : {A : Type 0} (b : Bool) (x : Option A) (y : A) → cond b None x ≡ Some y → (b ≡ false) × (x ≡ Some y)
unless_is true x y e = absurd cc
unless_is false x y e = (refl, e)

-- ---- flags and kinds

flag_is : (byte : ℕ) (flag : Bool) → flag_of byte ≡ Some flag → flag_byte flag ≡ byte
flag_is byte true e = grind arith
flag_is byte false e = grind arith

flag_again : (flag : Bool) → flag_of (flag_byte flag) ≡ Some flag
flag_again true = refl
flag_again false = refl

kind_is : (byte : ℕ) (k : ColKind) → kind_of byte ≡ Some k → kind_byte k ≡ byte
kind_is byte kind.Int e = grind arith
kind_is byte kind.Text e = grind arith

kind_again : (k : ColKind) → kind_of (kind_byte k) ≡ Some k
kind_again kind.Int = refl
kind_again kind.Text = refl

abbrev pub Always : {X : Type 0} → X → Type 0
Always x = Unit {0}

abbrev pub flag_bytes : Bool → List ℕ
flag_bytes flag = flag_byte flag ∷ []

abbrev pub kind_bytes : ColKind → List ℕ
kind_bytes k = kind_byte k ∷ []

flag_takes : (bytes : List ℕ) (flag : Bool) (rest : List ℕ) → IsBytes bytes → flag_at bytes ≡ Some (flag, rest) → Takes bytes (flag_bytes flag) rest × Always flag
unfolding flag_at
flag_takes [] flag rest fits e = absurd cc
flag_takes (b ∷ bytes) flag rest fits e =
    let f = bind_some (flag_of b) (λ x. Some (x, bytes)) (flag, rest) e in
    let is = flag_is b f.0 f.1 in
    subst (λ (y : Bool × List ℕ). Takes (b ∷ bytes) (flag_bytes y.0) y.1 × Always y.0) (some_is (f.0, bytes) (flag, rest) f.2) (record { parts = rw is refl; rest_fits = IsBytes_rest b bytes fits }, tt)

pub flag_reads : Reads flag_at flag_bytes Always
unfolding flag_at
flag_reads = record { takes = flag_takes; again = λ flag rest good. rw (flag_again flag) refl }

kind_takes : (bytes : List ℕ) (k : ColKind) (rest : List ℕ) → IsBytes bytes → kind_at bytes ≡ Some (k, rest) → Takes bytes (kind_bytes k) rest × Always k
unfolding kind_at
kind_takes [] k rest fits e = absurd cc
kind_takes (b ∷ bytes) k rest fits e =
    let f = bind_some (kind_of b) (λ x. Some (x, bytes)) (k, rest) e in
    let is = kind_is b f.0 f.1 in
    subst (λ (y : ColKind × List ℕ). Takes (b ∷ bytes) (kind_bytes y.0) y.1 × Always y.0) (some_is (f.0, bytes) (k, rest) f.2) (record { parts = rw is refl; rest_fits = IsBytes_rest b bytes fits }, tt)

pub kind_reads : Reads kind_at kind_bytes Always
unfolding kind_at
kind_reads = record { takes = kind_takes; again = λ k rest good. rw (kind_again k) refl }

-- ---- how many there are

abbrev pub IsWidth : ℕ → Type 0
IsWidth n = (1 ≤ n) × (n ≤ 16)

width_takes : (bytes : List ℕ) (n : ℕ) (rest : List ℕ) → IsBytes bytes → width_at bytes ≡ Some (n, rest) → Takes bytes (n ∷ []) rest × IsWidth n
unfolding width_at
width_takes [] n rest fits e = absurd cc
width_takes (b ∷ bytes) n rest fits e =
    let g = when_some (leb 1 b && leb b 16) (b, bytes) (n, rest) e in
    let p = and_parts (leb 1 b) (leb b 16) g.0 in
    subst (λ (y : ℕ × List ℕ). Takes (b ∷ bytes) (y.0 ∷ []) y.1 × IsWidth y.0) g.1 (record { parts = refl; rest_fits = IsBytes_rest b bytes fits }, (leb-true 1 b p.0, leb-true b 16 p.1))

width_again : (n : ℕ) (rest : List ℕ) → IsWidth n → width_at (n ∷ rest) ≡ Some (n, rest)
unfolding width_at
width_again n rest good = rw (and_from (leb 1 n) (leb n 16) (le-leb 1 n good.0) (le-leb n 16 good.1)) refl

pub width_reads : Reads width_at (λ n. n ∷ []) IsWidth
width_reads = record { takes = width_takes; again = width_again }

-- ---- values

int_takes : (bytes : List ℕ) (v : Value) (rest : List ℕ) → IsBytes bytes → int_at bytes ≡ Some (v, rest) → Takes (1 ∷ bytes) (value_bytes v) rest × IsValue v
unfolding int_at
int_takes bytes v rest fits e =
    let s = step (number_at w64) (to_be_bytes w64) (λ n. n < 2 ^ 64) (number_reads w64 (2 ^ 64) wide64) (λ n. Some (Int (cast_signed w64 n.0), n.1)) bytes (v, rest) fits e in
    let back : cast_unsigned w64 (cast_signed w64 s.value) ≡ s.value = of_z-to_z w64 s.value s.good in
    let spelled : 1 ∷ bytes ≡ value_bytes (Int (cast_signed w64 s.value)) ++ s.rest = rw back (ap (λ (t : List ℕ). 1 ∷ t) s.took.parts) in
    subst (λ (y : Value × List ℕ). Takes (1 ∷ bytes) (value_bytes y.0) y.1 × IsValue y.0) (some_is (Int (cast_signed w64 s.value), s.rest) (v, rest) s.later) (record { parts = spelled; rest_fits = s.took.rest_fits }, read_sfits w64 s.value)

int_again : (n : ℤ) (rest : List ℕ) → FitsSigned w64 n → int_at (to_be_bytes w64 (cast_unsigned w64 n) ++ rest) ≡ Some (Int n, rest)
unfolding int_at
int_again n rest good =
    let reads = number_reads w64 (2 ^ 64) wide64 in
    let number = reads.again (cast_unsigned w64 n) rest (of_z_fits w64 n good).fits in
    rw number (ap (λ (m : ℤ). Some (Int m, rest)) (to_z-of_z w64 n good))

text_takes : (bytes : List ℕ) (v : Value) (rest : List ℕ) → IsBytes bytes → text_at bytes ≡ Some (v, rest) → Takes (2 ∷ bytes) (value_bytes v) rest × IsValue v
unfolding text_at
text_takes [] v rest fits e = absurd cc
text_takes (n ∷ bytes) v rest fits e =
    let g = unless_is (ltb (length bytes) n) (cond (is_text (take n bytes)) (Some (Text (take n bytes), drop n bytes)) None) (v, rest) e in
    let t = when_some (is_text (take n bytes)) (Text (take n bytes), drop n bytes) (v, rest) g.1 in
    let long : n ≤ length bytes = ltb-false _ _ g.0 in
    let len : length (take n bytes) ≡ n = omega (arith, length-take n bytes) in
    let spelled : 2 ∷ n ∷ bytes ≡ value_bytes (Text (take n bytes)) ++ drop n bytes = rw (len, take-append-drop) refl in
    subst (λ (y : Value × List ℕ). Takes (2 ∷ n ∷ bytes) (value_bytes y.0) y.1 × IsValue y.0) t.1 (record { parts = spelled; rest_fits = IsBytes_drop n bytes (IsBytes_rest n bytes fits) }, t.0)

text_again : (text rest : List ℕ) → is_text text ≡ true → text_at (length text ∷ text ++ rest) ≡ Some (Text text, rest)
unfolding text_at
text_again text rest good =
    let long : ltb (length (text ++ rest)) (length text) ≡ false = le-ltb _ _ (omega (arith, length-append text rest)) in
    rw (long, take_at text rest (length text) refl, drop_at text rest (length text) refl, good) refl

null_takes : (bytes : List ℕ) (v : Value) (rest : List ℕ) → IsBytes bytes → ◌≡◌ {A = Option (Value × List ℕ)} (Some (Null, bytes)) (Some (v, rest)) → Takes (0 ∷ bytes) (value_bytes v) rest × IsValue v
null_takes bytes v rest fits e =
    subst (λ (y : Value × List ℕ). Takes (0 ∷ bytes) (value_bytes y.0) y.1 × IsValue y.0) (some_is (Null, bytes) (v, rest) e) (record { parts = refl; rest_fits = fits }, tt)

value_again : (v : Value) (rest : List ℕ) → IsValue v → value_at (value_bytes v ++ rest) ≡ Some (v, rest)
unfolding value_at
value_again Null rest good = refl
value_again (Int n) rest good = int_again n rest good
value_again (Text text) rest good = text_again text rest good

value_takes : (bytes : List ℕ) (v : Value) (rest : List ℕ) → IsBytes bytes → value_at bytes ≡ Some (v, rest) → Takes bytes (value_bytes v) rest × IsValue v
unfolding value_at
value_takes [] v rest fits e = absurd cc
value_takes (tag ∷ bytes) v rest fits e =
    let after = IsBytes_rest tag bytes fits in
    let P : ℕ → Type 0 = λ t. Takes (t ∷ bytes) (value_bytes v) rest × IsValue v in
    choose P tag 0 (Some (Null, bytes)) (cond (eqb tag 1) (int_at bytes) (cond (eqb tag 2) (text_at bytes) None)) (v, rest) (λ is. null_takes bytes v rest after is)
    (choose P tag 1 (int_at bytes) (cond (eqb tag 2) (text_at bytes) None) (v, rest) (λ is. int_takes bytes v rest after is)
    (choose P tag 2 (text_at bytes) None (v, rest) (λ is. text_takes bytes v rest after is) (λ is. absurd cc))) e

pub value_reads : Reads value_at value_bytes IsValue
value_reads = record { takes = value_takes; again = value_again }

-- ---- rows and columns

row_takes : (bytes : List ℕ) (row : List Value) (rest : List ℕ) → IsBytes bytes → row_at bytes ≡ Some (row, rest) → Takes bytes (row_bytes row) rest × IsRow row
unfolding row_at
row_takes bytes row rest fits e =
    let w = step width_at (λ n. n ∷ []) IsWidth width_reads (λ n. many_at value_at n.0 n.1) bytes (row, rest) fits e in
    let values = many_reads value_at value_bytes IsValue value_reads w.value in
    let t = values.takes w.rest row rest w.took.rest_fits w.later in
    let both = Takes_then bytes (w.value ∷ []) w.rest (flat_map value_bytes row) rest w.took t.0 in
    let len : length row ≡ w.value = t.1.0 in
    (subst (λ (n : ℕ). Takes bytes (n ∷ flat_map value_bytes row) rest) (sym len) both, record { some = omega (arith, w.good); few = omega (arith, w.good); values = t.1.1 })

row_again : (row : List Value) (rest : List ℕ) → IsRow row → row_at (row_bytes row ++ rest) ≡ Some (row, rest)
unfolding row_at
row_again row rest good =
    let values = many_reads value_at value_bytes IsValue value_reads (length row) in
    rw (width_again (length row) (flat_map value_bytes row ++ rest) (good.some, good.few)) (values.again row rest (refl, good.values))

pub row_reads : Reads row_at row_bytes IsRow
row_reads = record { takes = row_takes; again = row_again }

abbrev pub columns_bytes : List ColKind → List ℕ
columns_bytes columns = length columns ∷ flat_map (λ k. kind_byte k ∷ []) columns

abbrev pub AreColumns : List ColKind → Type 0
AreColumns columns = IsWidth (length columns)

columns_takes : (bytes : List ℕ) (columns : List ColKind) (rest : List ℕ) → IsBytes bytes → columns_at bytes ≡ Some (columns, rest) → Takes bytes (columns_bytes columns) rest × AreColumns columns
unfolding columns_at
columns_takes bytes columns rest fits e =
    let w = step width_at (λ n. n ∷ []) IsWidth width_reads (λ n. many_at kind_at n.0 n.1) bytes (columns, rest) fits e in
    let kinds = many_reads kind_at kind_bytes Always kind_reads w.value in
    let t = kinds.takes w.rest columns rest w.took.rest_fits w.later in
    let both = Takes_then bytes (w.value ∷ []) w.rest (flat_map kind_bytes columns) rest w.took t.0 in
    let len : length columns ≡ w.value = t.1.0 in
    (subst (λ (n : ℕ). Takes bytes (n ∷ flat_map kind_bytes columns) rest) (sym len) both, subst IsWidth (sym len) w.good)

always : {X : Type 0} (xs : List X) → AllByRecursion Always xs
always [] = tt
always (x ∷ xs) = (tt, always xs)

columns_again : (columns : List ColKind) (rest : List ℕ) → AreColumns columns → columns_at (columns_bytes columns ++ rest) ≡ Some (columns, rest)
unfolding columns_at
columns_again columns rest good =
    let kinds = many_reads kind_at kind_bytes Always kind_reads (length columns) in
    rw (width_again (length columns) (flat_map kind_bytes columns ++ rest) good) (kinds.again columns rest (refl, always columns))

pub columns_reads : Reads columns_at columns_bytes AreColumns
columns_reads = record { takes = columns_takes; again = columns_again }
