-- Loops that write the elements of a list in their order, or take them out.
use Rattle.std.proofs.Common.{◌≡◌, ℕ, Bool, true, false, cond, filter, ◌+◌, ◌-◌, ◌<◌, ◌≤◌, List, [], ◌∷◌, ◌++◌, length, map, take, drop, get_or, set, refl, sym, ap, ap₂, ◌∙◌, arith}
use Rattle.std.specs.Iterator.{Yields}
use Rattle.std.specs.List.{AllByRecursion, zip}
use Rattle.std.specs.Vec.Iter.{into_iter_items, into_iter_steps}
use Rattle.std.specs.declared.vec.IntoIter.{IntoIter}
use Rattle.std.proofs.lemmas.List.{get_or-append_right, get_or-drop, set-append_right, length-take-le, take_more, drop_more, append_assoc}

-- what comes behind a front that is written
pub after_front : {X : Type 0} (front xs : List X) (i : ℕ) (d : X) → length front ≡ i → get_or (front ++ drop i xs) i d ≡ get_or xs i d
after_front front xs i d long =
    get_or-append_right front (drop i xs) i i d long (omega arith)
    ∙ get_or-drop i xs (i - i) d
    ∙ ap (λ (n : ℕ). get_or xs n d) (omega arith)

-- one element more is written
pub front_more : {X : Type 0} (front xs : List X) (i : ℕ) (y : X) → length front ≡ i → i < length xs → set (front ++ drop i xs) i y ≡ (front ++ y ∷ []) ++ drop (i + 1) xs
front_more {X} front xs i y long within =
    let zero : i - i ≡ 0 = omega arith in
    set-append_right front (drop i xs) i i y long (omega arith)
    ∙ ap (λ (n : ℕ). front ++ set (drop i xs) n y) zero
    ∙ ap (λ (l : List X). front ++ set l 0 y) (drop_more xs i y within)
    ∙ sym (append_assoc front (y ∷ []) (drop (i + 1) xs))

zip_push : {X : Type 0} (f : X × X → X) (xs zs : List X) (x z : X) → length xs ≡ length zs → map f (zip (xs ++ x ∷ []) (zs ++ z ∷ [])) ≡ map f (zip xs zs) ++ f (x, z) ∷ []
zip_push f [] [] x z e = refl
zip_push f [] (b ∷ zs) x z e = absurd cc
zip_push f (a ∷ xs) [] x z e = absurd cc
zip_push f (a ∷ xs) (b ∷ zs) x z e = ap (λ l. f (a, b) ∷ l) (zip_push f xs zs x z (omega (arith, e)))

-- the front of a loop that writes f of the elements of two lists
pub zip_front : {X : Type 0} (f : X × X → X) (xs zs : List X) (i : ℕ) (d e : X) → i < length xs → i < length zs → map f (zip (take (i + 1) xs) (take (i + 1) zs)) ≡ map f (zip (take i xs) (take i zs)) ++ f (get_or xs i d, get_or zs i e) ∷ []
zip_front {X} f xs zs i d e w v =
    ap₂ (λ (a b : List X). map f (zip a b)) (take_more xs i d w) (take_more zs i e v)
    ∙ zip_push f (take i xs) (take i zs) (get_or xs i d) (get_or zs i e) (length-take-le i xs (omega (arith, w)) ∙ sym (length-take-le i zs (omega (arith, v))))

length_zip : {X : Type 0} (f : X × X → X) (xs zs : List X) → length xs ≡ length zs → length (map f (zip xs zs)) ≡ length xs
length_zip f [] [] e = refl
length_zip f [] (b ∷ zs) e = refl
length_zip f (a ∷ xs) [] e = absurd (omega (arith, e))
length_zip f (a ∷ xs) (b ∷ zs) e = let rest = length_zip f xs zs (omega (arith, e)) in omega (arith, rest)

pub length_zip_front : {X : Type 0} (f : X × X → X) (xs zs : List X) (i : ℕ) → i ≤ length xs → i ≤ length zs → length (map f (zip (take i xs) (take i zs))) ≡ i
length_zip_front f xs zs i w v =
    let left = length-take-le i xs w in
    let right = length-take-le i zs v in
    length_zip f (take i xs) (take i zs) (left ∙ sym right) ∙ left

-- what the iterator of a vector has given is a front of its items
pub taken_front : {X A : Type 0} (s : IntoIter X A) (xs : List X) (t : IntoIter X A) → Yields into_iter_steps s xs t → into_iter_items s ≡ xs ++ into_iter_items t
taken_front s [] t y = ap into_iter_items y
taken_front s (x ∷ xs) t y = y.1.0 ∙ ap (λ ys. x ∷ ys) (taken_front y.0 xs t y.2)

-- what holds of all elements holds of the one behind some
pub of_middle : {X : Type 0} (P : X → Type 0) (xs : List X) (x : X) (zs : List X) → AllByRecursion P (xs ++ x ∷ zs) → P x
of_middle P [] x zs a = a.0
of_middle P (y ∷ xs) x zs a = of_middle P xs x zs a.1

-- what passes a test is no more than all
pub filter_fewer : {X : Type 0} (p : X → Bool) (xs : List X) → length (filter p xs) ≤ length xs
filter_fewer p [] = omega arith
filter_fewer {X} p (x ∷ xs) = by_first (p x) (filter_fewer p xs)
  where
    by_first : (b : Bool) → length (filter p xs) ≤ length xs → length (cond b (x ∷ filter p xs) (filter p xs)) ≤ length (x ∷ xs)
    by_first true few = omega (arith, few)
    by_first false few = omega (arith, few)
