-- The place of a key among distinct keys, and pieces of one length for each of them, one behind another.
use Rattle.std.proofs.Common.{◌≡◌, ℕ, suc, ◌+◌, ◌*◌, ◌<◌, Bool, true, false, not, ◌||◌, cond, List, [], ◌∷◌, ◌++◌, length, take, drop, Option, Some, None, refl, sym, ap, ap₂, ◌∙◌, arith, true≢false, ⊎_elim}
use Rattle.std.specs.List.{flat_map, list_any, position, position_or_len}
use Rattle.std.proofs.Math.Nat.{suc-mul, zero-mul}
use Rattle.std.proofs.Math.Seq.{take-append_seam, drop-append_seam}
use Rattle.std.proofs.lemmas.Bool.{cases_Bool}
use Rattle.std.proofs.lemmas.Bool.Decides.{nat_tests}
use Rattle.std.proofs.lemmas.List.{append_assoc, length-append}
use Rattle.std.proofs.lemmas.List.Folds.{position_or_len_push}
use Rattle.std.proofs.lemmas.Grind.{flat_map-append}

-- a list of three parts, cut where they meet
pub front_of : {X : Type 0} (n : ℕ) (xs ys zs : List X) → length xs ≡ n → take n (xs ++ ys ++ zs) ≡ xs
front_of {X} n xs ys zs long =
    ap (take n) (append_assoc xs ys zs)
    ∙ ap (λ (k : ℕ). take k (xs ++ (ys ++ zs))) (sym long)
    ∙ take-append_seam xs (ys ++ zs)

past_front : {X : Type 0} (n : ℕ) (xs ys zs : List X) → length xs ≡ n → drop n (xs ++ ys ++ zs) ≡ ys ++ zs
past_front n xs ys zs long =
    ap (drop n) (append_assoc xs ys zs)
    ∙ ap (λ (k : ℕ). drop k (xs ++ (ys ++ zs))) (sym long)
    ∙ drop-append_seam xs (ys ++ zs)

pub middle_of : {X : Type 0} (n w : ℕ) (xs ys zs : List X) → length xs ≡ n → length ys ≡ w → take w (drop n (xs ++ ys ++ zs)) ≡ ys
middle_of n w xs ys zs long wide =
    ap (take w) (past_front n xs ys zs long)
    ∙ ap (λ (k : ℕ). take k (ys ++ zs)) (sym wide)
    ∙ take-append_seam ys zs

pub back_of : {X : Type 0} (n w : ℕ) (xs ys zs : List X) → length xs ≡ n → length ys ≡ w → drop (n + w) (xs ++ ys ++ zs) ≡ zs
back_of n w xs ys zs long wide =
    let whole : length (xs ++ ys) ≡ n + w = length-append xs ys ∙ ap₂ (λ (a b : ℕ). a + b) long wide in
    ap (λ (k : ℕ). drop k (xs ++ ys ++ zs)) (sym whole) ∙ drop-append_seam (xs ++ ys) zs

-- pieces of one length
pub length_pieces : {X Y : Type 0} (f : X → List Y) (w : ℕ) → ((x : X) → length (f x) ≡ w) → (xs : List X) → length (flat_map f xs) ≡ length xs * w
length_pieces f w wide [] = sym (zero-mul w)
length_pieces f w wide (x ∷ xs) =
    let rest = length_pieces f w wide xs in
    let head = wide x in
    let both = length-append (f x) (flat_map f xs) in
    let times : suc (length xs) * w ≡ length xs * w + w = suc-mul (length xs) w in
    both ∙ (omega (arith, rest, head) ∙ sym times)

-- pieces before one key, its own piece, and those behind it
pub three_parts : {X Y : Type 0} (f : X → List Y) (xs : List X) (k : X) (zs : List X) → flat_map f (xs ++ k ∷ zs) ≡ flat_map f xs ++ f k ++ flat_map f zs
three_parts f xs k zs = flat_map-append f xs (k ∷ zs) ∙ sym (append_assoc (flat_map f xs) (f k) (flat_map f zs))

-- where no element passes, none has a place
pub place_or_len : {X : Type 0} (p : X → Bool) (xs : List X) → list_any p xs ≡ false → position_or_len p xs ≡ length xs
place_or_len p [] none = refl
place_or_len {X} p (x ∷ xs) none = by_first (p x) refl (place_or_len p xs)
  where
    by_first : (b : Bool) → p x ≡ b → (list_any p xs ≡ false → position_or_len p xs ≡ length xs) → position_or_len p (x ∷ xs) ≡ length (x ∷ xs)
    by_first true e ih = absurd (true≢false (sym (ap (λ (b : Bool). b || list_any p xs) e) ∙ none))
    by_first false e ih =
        let rest = ih (sym (ap (λ (b : Bool). b || list_any p xs) e) ∙ none) in
        ap (λ (b : Bool). cond (not b) (1 + position_or_len p xs) 0) e ∙ omega (arith, rest)

place_below : {X : Type 0} (p : X → Bool) (xs : List X) → list_any p xs ≡ true → position_or_len p xs < length xs
place_below p [] some = absurd (true≢false (sym some))
place_below {X} p (x ∷ xs) some = by_first (p x) refl (place_below p xs)
  where
    by_first : (b : Bool) → p x ≡ b → (list_any p xs ≡ true → position_or_len p xs < length xs) → position_or_len p (x ∷ xs) < length (x ∷ xs)
    by_first true e ih =
        let here : position_or_len p (x ∷ xs) ≡ 0 = ap (λ (b : Bool). cond (not b) (1 + position_or_len p xs) 0) e in
        omega (arith, here)
    by_first false e ih =
        let rest = ih (sym (ap (λ (b : Bool). b || list_any p xs) e) ∙ some) in
        let here : position_or_len p (x ∷ xs) ≡ 1 + position_or_len p xs = ap (λ (b : Bool). cond (not b) (1 + position_or_len p xs) 0) e in
        omega (arith, here, rest)

pub no_place : {X : Type 0} (p : X → Bool) (xs : List X) → list_any p xs ≡ false → position p xs ≡ None
no_place p xs none = let at = place_or_len p xs none in grind (arith, nat_tests, at)

pub none_from_no_place : {X : Type 0} (p : X → Bool) (xs : List X) → position p xs ≡ None → list_any p xs ≡ false
none_from_no_place {X} p xs none = ⊎_elim (λ y. absurd (found y)) (λ e. e) (cases_Bool (list_any p xs))
  where
    found : list_any p xs ≡ true → ⊥
    found y =
        let below = place_below p xs y in
        let some : position p xs ≡ Some (position_or_len p xs) = grind (arith, nat_tests, below) in
        let clash : (a : Option ℕ) → a ≡ None → a ≡ Some (position_or_len p xs) → ⊥ = λ a m n. cc in
        clash (position p xs) none some

-- one element more at the end
pub place_of_new : {X : Type 0} (p : X → Bool) (xs : List X) (y : X) → list_any p xs ≡ false → p y ≡ true → position p (xs ++ y ∷ []) ≡ Some (length xs)
place_of_new p xs y none e =
    let at = place_or_len p xs none in
    let pushed = position_or_len_push p xs y in
    let long = length-append xs (y ∷ []) in
    grind (arith, nat_tests, at, pushed, long, e)

pub place_of_old : {X : Type 0} (p : X → Bool) (xs : List X) (y : X) → p y ≡ false → position p (xs ++ y ∷ []) ≡ position p xs
place_of_old p xs y e =
    let pushed = position_or_len_push p xs y in
    let long = length-append xs (y ∷ []) in
    grind (arith, nat_tests, pushed, long, e)
