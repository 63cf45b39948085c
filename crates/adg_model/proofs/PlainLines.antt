-- Lemmas on the lines of a SELECT as the plain program computes them.
use Rattle.std.proofs.Common.{◌≡◌, ℕ, suc, ◌+◌, ◌-◌, ◌<◌, ◌≤◌, ℤ, ◌+ℤ◌, List, [], ◌∷◌, ◌++◌, length, map, take, drop, insert, get_or, Option, Some, None, option_map, refl, sym, ap, ap₂, ◌∙◌, arith}
use Rattle.std.proofs.lemmas.List.{drop_more, take_more, map-append}
use Rattle.std.specs.declared.cmp.Ordering.{Ordering}
use Rattle.std.specs.declared.cmp.Ordering.TheVariants.{Less, Equal, Greater}
use Rattle.adg_base.specs.declared.value.Value.{Value}
use Rattle.adg_model.specs.Query.{by_order, with_key, number_of, total}
use Rattle.adg_base.specs.Values.{value_cmp}
use Rattle.adg_model.specs.Plain.{key_place}

-- a key is put where it goes
pub record IsPlace (k : Value) (xs : List Value) (n : ℕ) : Type 0 where
  pub within : n ≤ length xs
  pub put : insert xs n k ≡ with_key k xs

first_place : (k : Value) (xs more : List Value) (n : ℕ) → Some 0 ≡ Some n → with_key k xs ≡ k ∷ xs → IsPlace k xs n
first_place k xs more n e w =
    let here : n ≡ 0 = cc in
    record { within = omega (arith, here); put = ap (λ (i : ℕ). insert xs i k) here ∙ sym w }

pub place_fits : (k : Value) (xs : List Value) (n : ℕ) → key_place k xs ≡ Some n → IsPlace k xs n
place_fits k [] n e = first_place k [] [] n e refl
place_fits k (x ∷ xs) n e = by_order_of (value_cmp k x) refl e (place_fits k xs)
  where
    behind : (at : Option ℕ) → key_place k xs ≡ at → option_map (λ m. m + 1) at ≡ Some n → ((m : ℕ) → key_place k xs ≡ Some m → IsPlace k xs m) → (n ≤ length (x ∷ xs)) × (insert (x ∷ xs) n k ≡ x ∷ with_key k xs)
    behind None i j ih = absurd cc
    behind (Some m) i j ih =
        let p = ih m i in
        let there : n ≡ suc m = let same : m + 1 ≡ n = some_same (m + 1) n j in omega (arith, same) in
        (omega (arith, there, p.within), ap (λ (h : ℕ). insert (x ∷ xs) h k) there ∙ ap (λ l. x ∷ l) p.put)
      where
        some_same : (a b : ℕ) → Some a ≡ Some b → a ≡ b
        some_same a b e = cc

    by_order_of : (o : Ordering) → value_cmp k x ≡ o → by_order o (Some 0) None (option_map (λ m. m + 1) (key_place k xs)) ≡ Some n → ((m : ℕ) → key_place k xs ≡ Some m → IsPlace k xs m) → IsPlace k (x ∷ xs) n
    by_order_of Less o j ih = first_place k (x ∷ xs) xs n j (ap (λ (c : Ordering). by_order c (k ∷ x ∷ xs) (x ∷ xs) (x ∷ with_key k xs)) o)
    by_order_of Equal o j ih = absurd cc
    by_order_of Greater o j ih =
        let p = behind (key_place k xs) refl j ih in
        record { within = p.0; put = p.1 ∙ sym (ap (λ (c : Ordering). by_order c (k ∷ x ∷ xs) (x ∷ xs) (x ∷ with_key k xs)) o) }

pub no_place : (k : Value) (xs : List Value) → key_place k xs ≡ None → xs ≡ with_key k xs
no_place k [] e = absurd cc
no_place k (x ∷ xs) e = by_order_of (value_cmp k x) refl e (no_place k xs)
  where
    nowhere : (at : Option ℕ) → option_map (λ m. m + 1) at ≡ None → at ≡ None
    nowhere None j = refl
    nowhere (Some m) j = absurd cc

    by_order_of : (o : Ordering) → value_cmp k x ≡ o → by_order o (Some 0) None (option_map (λ m. m + 1) (key_place k xs)) ≡ None → (key_place k xs ≡ None → xs ≡ with_key k xs) → x ∷ xs ≡ with_key k (x ∷ xs)
    by_order_of Less o j ih = absurd cc
    by_order_of Equal o j ih = sym (ap (λ (c : Ordering). by_order c (k ∷ x ∷ xs) (x ∷ xs) (x ∷ with_key k xs)) o)
    by_order_of Greater o j ih = ap (λ l. x ∷ l) (ih (nowhere (key_place k xs) j)) ∙ sym (ap (λ (c : Ordering). by_order c (k ∷ x ∷ xs) (x ∷ xs) (x ∷ with_key k xs)) o)

-- one value more in front
pub total_more : (values : List Value) (left : ℕ) (v : Value) (sum : ℤ) → 0 < left → left ≤ length values → v ≡ get_or values (left - 1) v → sum ≡ total (drop left values) → number_of v +ℤ sum ≡ total (drop (left - 1) values)
total_more values left v sum some within is so_far =
    let at : left - 1 + 1 ≡ left = omega arith in
    let parts : drop (left - 1) values ≡ v ∷ drop left values =
    drop_more values (left - 1) v (omega arith) ∙ ap₂ (λ (h : Value) (t : List Value). h ∷ t) (sym is) (ap (λ (n : ℕ). drop n values) at) in
    ap (λ z. number_of v +ℤ z) so_far ∙ sym (ap total parts)

-- one more of what a list is mapped to
pub map_take_more : {X Y : Type 0} (f : X → Y) (xs : List X) (i : ℕ) (d : X) → i < length xs → map f (take (i + 1) xs) ≡ map f (take i xs) ++ f (get_or xs i d) ∷ []
map_take_more f xs i d lt = ap (map f) (take_more xs i d lt) ∙ map-append f (take i xs) (get_or xs i d ∷ [])
