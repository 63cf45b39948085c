-- Lemmas on lists: the element at a place, one place set, membership, tests, filters and parts of a list.
use Rattle.std.proofs.Common.{◌≡◌, ℕ, zero, suc, ◌+◌, ◌<◌, ◌≤◌, Bool, true, false, cond, ◌||◌, List, [], ◌∷◌, ◌++◌, map, filter, length, take, drop, replicate, get_or, Option, Some, None, ◌⊎◌, inl, inr, refl, sym, ap, ◌∙◌, subst, arith, true≢false}
use Rattle.std.specs.Prelude.{slice_get, slice_set}
use Rattle.std.specs.List.{Contains, AllByRecursion, list_any, filter_map, flat_map, range_with_len, cons_option}
use Rattle.std.proofs.lemmas.Option.{slice_get_within}
use Rattle.core_rules.specs.State.{At}

-- there is at most one element at a place, and it lies in the list
pub at_same : {X : Type 0} (xs : List X) (n : ℕ) (x y : X) → At xs n x → At xs n y → x ≡ y
at_same xs n x y h k = let e : Some x ≡ Some y = sym h ∙ k in cc

pub at_within : {X : Type 0} (xs : List X) (n : ℕ) (x : X) → At xs n x → n < length xs
at_within xs n x h = slice_get_within xs n x h

pub at_exists : {X : Type 0} (xs : List X) (n : ℕ) → n < length xs → (x : X) × At xs n x
at_exists [] n h = absurd (omega arith)
at_exists (x ∷ xs) zero h = (x, refl)
at_exists (x ∷ xs) (suc n) h = at_exists xs n (omega arith)

-- one place set
pub at_set_same : {X : Type 0} (xs : List X) (n : ℕ) (y : X) → n < length xs → At (slice_set xs n y) n y
at_set_same [] n y h = absurd (omega arith)
at_set_same (x ∷ xs) zero y h = refl
at_set_same (x ∷ xs) (suc n) y h = at_set_same xs n y (omega arith)

pub at_set_other : {X : Type 0} (xs : List X) (n m : ℕ) (y : X) → (m ≡ n → ⊥) → slice_get (slice_set xs n y) m ≡ slice_get xs m
at_set_other [] n m y h = refl
at_set_other (x ∷ xs) zero zero y h = absurd (h refl)
at_set_other (x ∷ xs) zero (suc m) y h = refl
at_set_other (x ∷ xs) (suc n) zero y h = refl
at_set_other (x ∷ xs) (suc n) (suc m) y h = at_set_other xs n m y (λ e. h (ap suc e))

-- what stands at a place after one was set: what was set, or what stood there
pub at_set_cases : {X : Type 0} (xs : List X) (n m : ℕ) (x y : X) → At (slice_set xs n y) m x → ((m ≡ n) × (x ≡ y)) ⊎ ((m ≡ n → ⊥) × At xs m x)
at_set_cases [] n m x y h = let e : None ≡ Some x = h in absurd cc
at_set_cases (z ∷ xs) zero zero x y h = let e : Some y ≡ Some x = h in inl (refl, cc)
at_set_cases (z ∷ xs) zero (suc m) x y h = inr ((λ e. absurd (omega arith)), h)
at_set_cases (z ∷ xs) (suc n) zero x y h = inr ((λ e. absurd (omega arith)), h)
at_set_cases (z ∷ xs) (suc n) (suc m) x y h = later (at_set_cases xs n m x y h)
  where
    later : ((m ≡ n) × (x ≡ y)) ⊎ ((m ≡ n → ⊥) × At xs m x) → ((suc m ≡ suc n) × (x ≡ y)) ⊎ ((suc m ≡ suc n → ⊥) × At (z ∷ xs) (suc m) x)
    later (inl p) = inl (ap suc p.0, p.1)
    later (inr p) = inr ((λ e. p.0 (omega arith)), p.1)

pub at_set_kept : {X : Type 0} (xs : List X) (n m : ℕ) (x y : X) → (m ≡ n → ⊥) → At xs m x → At (slice_set xs n y) m x
at_set_kept xs n m x y h k = at_set_other xs n m y h ∙ k

-- maps
pub at_map : {X Y : Type 0} (f : X → Y) (xs : List X) (n : ℕ) (x : X) → At xs n x → At (map f xs) n (f x)
at_map f [] n x h = let e : None ≡ Some x = h in absurd cc
at_map f (y ∷ xs) zero x h = let e : Some y ≡ Some x = h in let k : y ≡ x = cc in ap (λ z. Some (f z)) k
at_map f (y ∷ xs) (suc n) x h = at_map f xs n x h

pub at_map_back : {X Y : Type 0} (f : X → Y) (xs : List X) (n : ℕ) (y : Y) → At (map f xs) n y → (x : X) × At xs n x × (f x ≡ y)
at_map_back f [] n y h = let e : None ≡ Some y = h in absurd cc
at_map_back f (x ∷ xs) zero y h = let e : Some (f x) ≡ Some y = h in (x, refl, cc)
at_map_back f (x ∷ xs) (suc n) y h = at_map_back f xs n y h

-- a map of a list with one place set, where the map does not see it
pub map_set_same : {X Y : Type 0} (f : X → Y) (xs : List X) (n : ℕ) (x y : X) → At xs n x → f y ≡ f x → map f (slice_set xs n y) ≡ map f xs
map_set_same f [] n x y h k = refl
map_set_same f (z ∷ xs) zero x y h k = let e : Some z ≡ Some x = h in let e' : z ≡ x = cc in ap (λ w. w ∷ map f xs) (k ∙ ap f (sym e'))
map_set_same f (z ∷ xs) (suc n) x y h k = ap (λ ws. f z ∷ ws) (map_set_same f xs n x y h k)

pub map_set : {X Y : Type 0} (f : X → Y) (xs : List X) (n : ℕ) (y : X) → map f (slice_set xs n y) ≡ slice_set (map f xs) n (f y)
map_set f [] n y = refl
map_set f (z ∷ xs) zero y = refl
map_set f (z ∷ xs) (suc n) y = ap (λ ws. f z ∷ ws) (map_set f xs n y)

-- parts of a list
pub at_append_left : {X : Type 0} (xs ys : List X) (n : ℕ) (x : X) → At xs n x → At (xs ++ ys) n x
at_append_left [] ys n x h = let e : None ≡ Some x = h in absurd cc
at_append_left (z ∷ xs) ys zero x h = h
at_append_left (z ∷ xs) ys (suc n) x h = at_append_left xs ys n x h

pub at_append_within : {X : Type 0} (xs ys : List X) (n : ℕ) (x : X) → n < length xs → At (xs ++ ys) n x → At xs n x
at_append_within [] ys n x l h = absurd (omega arith)
at_append_within (z ∷ xs) ys zero x l h = h
at_append_within (z ∷ xs) ys (suc n) x l h = at_append_within xs ys n x (omega arith) h

pub at_take : {X : Type 0} (xs : List X) (k n : ℕ) (x : X) → n < k → At xs n x → At (take k xs) n x
at_take xs zero n x l h = absurd (omega arith)
at_take [] (suc k) n x l h = h
at_take (z ∷ xs) (suc k) zero x l h = h
at_take (z ∷ xs) (suc k) (suc n) x l h = at_take xs k n x (omega arith) h

pub at_take_back : {X : Type 0} (xs : List X) (k n : ℕ) (x : X) → At (take k xs) n x → At xs n x × (n < k)
at_take_back xs zero n x h = let e : None ≡ Some x = h in absurd cc
at_take_back [] (suc k) n x h = let e : None ≡ Some x = h in absurd cc
at_take_back (z ∷ xs) (suc k) zero x h = (h, omega arith)
at_take_back (z ∷ xs) (suc k) (suc n) x h = let p = at_take_back xs k n x h in (p.0, omega arith)

take_suc : {X : Type 0} (xs : List X) (n : ℕ) (x : X) → At xs n x → take (suc n) xs ≡ take n xs ++ x ∷ []
take_suc [] n x h = let e : None ≡ Some x = h in absurd cc
take_suc (z ∷ xs) zero x h = let e : Some z ≡ Some x = h in let e' : z ≡ x = cc in ap (λ w. w ∷ []) e'
take_suc (z ∷ xs) (suc n) x h = ap (λ ws. z ∷ ws) (take_suc xs n x h)

pub take_next : {X : Type 0} (xs : List X) (n : ℕ) (x : X) → At xs n x → take (n + 1) xs ≡ take n xs ++ x ∷ []
take_next xs n x h = let e : n + 1 ≡ suc n = omega arith in ap (λ k. take k xs) e ∙ take_suc xs n x h

pub at_replicate : {X : Type 0} (k n : ℕ) (x y : X) → At (replicate k y) n x → x ≡ y
at_replicate zero n x y h = let e : None ≡ Some x = h in absurd cc
at_replicate (suc k) zero x y h = let e : Some y ≡ Some x = h in cc
at_replicate (suc k) (suc n) x y h = at_replicate k n x y h

-- membership by place
pub contains_at : {X : Type 0} (xs : List X) (x : X) → Contains xs x → (n : ℕ) × At xs n x
contains_at xs x h = (h.0, step xs h.0 h.1 h.2)
  where
    step : (ys : List _) (n : ℕ) → n < length ys → get_or ys n x ≡ x → At ys n x
    step [] n l e = absurd (omega arith)
    step (y ∷ ys) zero l e = ap Some e
    step (y ∷ ys) (suc n) l e = step ys n (omega arith) e

pub at_contains : {X : Type 0} (xs : List X) (n : ℕ) (x : X) → At xs n x → Contains xs x
at_contains xs n x h = (n, at_within xs n x h, step xs n h)
  where
    step : (ys : List _) (k : ℕ) → At ys k x → get_or ys k x ≡ x
    step [] k e = refl
    step (y ∷ ys) zero e = let e' : Some y ≡ Some x = e in cc
    step (y ∷ ys) (suc k) e = step ys k e

-- Membership by recursion, in which the lemmas are proved.
abbrev pub Has : {X : Type 0} → List X → X → Type 0
Has [] x = ⊥
Has (y ∷ ys) x = (y ≡ x) ⊎ Has ys x

pub has_at : {X : Type 0} (xs : List X) (n : ℕ) (x : X) → At xs n x → Has xs x
has_at [] n x h = let e : None ≡ Some x = h in absurd cc
has_at (y ∷ ys) zero x h = let e : Some y ≡ Some x = h in inl cc
has_at (y ∷ ys) (suc n) x h = inr (has_at ys n x h)

pub at_has : {X : Type 0} (xs : List X) (x : X) → Has xs x → (n : ℕ) × At xs n x
at_has [] x h = absurd h
at_has (y ∷ ys) x (inl e) = (0, ap Some e)
at_has (y ∷ ys) x (inr h) = let p = at_has ys x h in (suc p.0, p.1)

pub has : {X : Type 0} (xs : List X) (x : X) → Contains xs x → Has xs x
has xs x h = let p = contains_at xs x h in has_at xs p.0 x p.1

pub contains : {X : Type 0} (xs : List X) (x : X) → Has xs x → Contains xs x
contains xs x h = let p = at_has xs x h in at_contains xs p.0 x p.1

-- what holds of each element
pub each_has : {X : Type 0} (P : X → Type 0) (xs : List X) (x : X) → AllByRecursion P xs → Has xs x → P x
each_has P [] x h k = absurd k
each_has P (y ∷ ys) x h (inl e) = subst P e h.0
each_has P (y ∷ ys) x h (inr k) = each_has P ys x h.1 k

pub each_contains : {X : Type 0} (P : X → Type 0) (xs : List X) (x : X) → AllByRecursion P xs → Contains xs x → P x
each_contains P xs x h k = each_has P xs x h (has xs x k)

pub each_at : {X : Type 0} (P : X → Type 0) (xs : List X) (n : ℕ) (x : X) → AllByRecursion P xs → At xs n x → P x
each_at P xs n x h k = each_has P xs x h (has_at xs n x k)

pub each_from_has : {X : Type 0} (P : X → Type 0) (xs : List X) → ((x : X) → Has xs x → P x) → AllByRecursion P xs
each_from_has P [] h = tt
each_from_has P (y ∷ ys) h = (h y (inl refl), each_from_has P ys (λ x k. h x (inr k)))

pub each_from : {X : Type 0} (P : X → Type 0) (xs : List X) → ((x : X) → Contains xs x → P x) → AllByRecursion P xs
each_from P xs h = each_from_has P xs (λ x k. h x (contains xs x k))

pub each_weaker : {X : Type 0} (P Q : X → Type 0) (xs : List X) → ((x : X) → P x → Q x) → AllByRecursion P xs → AllByRecursion Q xs
each_weaker P Q [] f h = tt
each_weaker P Q (x ∷ xs) f h = (f x h.0, each_weaker P Q xs f h.1)

pub each_append : {X : Type 0} (P : X → Type 0) (xs ys : List X) → AllByRecursion P xs → AllByRecursion P ys → AllByRecursion P (xs ++ ys)
each_append P [] ys h k = k
each_append P (x ∷ xs) ys h k = (h.0, each_append P xs ys h.1 k)

pub each_drop : {X : Type 0} (P : X → Type 0) (n : ℕ) (xs : List X) → AllByRecursion P xs → AllByRecursion P (drop n xs)
each_drop P zero xs h = h
each_drop P (suc n) [] h = tt
each_drop P (suc n) (x ∷ xs) h = each_drop P n xs h.1

-- the rest behind one element more
each_drop_suc : {X : Type 0} (P : X → Type 0) (n : ℕ) (xs : List X) → AllByRecursion P (drop n xs) → AllByRecursion P (drop (suc n) xs)
each_drop_suc P zero [] h = tt
each_drop_suc P zero (x ∷ xs) h = h.1
each_drop_suc P (suc n) [] h = tt
each_drop_suc P (suc n) (x ∷ xs) h = each_drop_suc P n xs h

pub each_drop_next : {X : Type 0} (P : X → Type 0) (n : ℕ) (xs : List X) → AllByRecursion P (drop n xs) → AllByRecursion P (drop (n + 1) xs)
each_drop_next P n xs h = let e : suc n ≡ n + 1 = omega arith in subst (λ k. AllByRecursion P (drop k xs)) e (each_drop_suc P n xs h)

-- what holds of the rest holds of an element that is not before it
pub each_drop_at : {X : Type 0} (P : X → Type 0) (n k : ℕ) (xs : List X) (x : X) → AllByRecursion P (drop n xs) → n ≤ k → At xs k x → P x
each_drop_at P zero k xs x h l a = each_at P xs k x h a
each_drop_at P (suc n) k [] x h l a = let e : None ≡ Some x = a in absurd cc
each_drop_at P (suc n) zero (y ∷ xs) x h l a = absurd (omega arith)
each_drop_at P (suc n) (suc k) (y ∷ xs) x h l a = each_drop_at P n k xs x h (omega arith) a

-- filters
pub has_filter : {X : Type 0} (p : X → Bool) (xs : List X) (x : X) → Has xs x → p x ≡ true → Has (filter p xs) x
has_filter p [] x h k = absurd h
has_filter p (y ∷ ys) x (inl e) k = by_test (p y) (ap p e ∙ k)
  where
    by_test : (b : Bool) → b ≡ true → Has (cond b (y ∷ filter p ys) (filter p ys)) x
    by_test true u = inl e
    by_test false u = absurd (true≢false (sym u))
has_filter p (y ∷ ys) x (inr h) k = by_test (p y) (has_filter p ys x h k)
  where
    by_test : (b : Bool) → Has (filter p ys) x → Has (cond b (y ∷ filter p ys) (filter p ys)) x
    by_test true u = inr u
    by_test false u = u

pub has_filter_back : {X : Type 0} (p : X → Bool) (xs : List X) (x : X) → Has (filter p xs) x → Has xs x × (p x ≡ true)
has_filter_back p [] x h = absurd h
has_filter_back p (y ∷ ys) x h = by_test (p y) refl h (has_filter_back p ys x)
  where
    by_test : (b : Bool) → p y ≡ b → Has (cond b (y ∷ filter p ys) (filter p ys)) x → (Has (filter p ys) x → Has ys x × (p x ≡ true)) → Has (y ∷ ys) x × (p x ≡ true)
    by_test true u (inl e) ih = (inl e, ap p (sym e) ∙ u)
    by_test true u (inr k) ih = let r = ih k in (inr r.0, r.1)
    by_test false u k ih = let r = ih k in (inr r.0, r.1)

pub contains_filter : {X : Type 0} (p : X → Bool) (xs : List X) (x : X) → Contains xs x → p x ≡ true → Contains (filter p xs) x
contains_filter p xs x h k = contains (filter p xs) x (has_filter p xs x (has xs x h) k)

pub contains_filter_back : {X : Type 0} (p : X → Bool) (xs : List X) (x : X) → Contains (filter p xs) x → Contains xs x × (p x ≡ true)
contains_filter_back p xs x h = let r = has_filter_back p xs x (has (filter p xs) x h) in (contains xs x r.0, r.1)

-- maps that leave out
pub has_filter_map : {X Y : Type 0} (f : X → Option Y) (xs : List X) (x : X) (y : Y) → Has xs x → f x ≡ Some y → Has (filter_map f xs) y
has_filter_map f [] x y h k = absurd h
has_filter_map f (z ∷ zs) x y (inl e) k = by_value (f z) (ap f e ∙ k)
  where
    by_value : (o : Option _) → o ≡ Some y → Has (cons_option o (filter_map f zs)) y
    by_value None u = absurd cc
    by_value (Some w) u = inl cc
has_filter_map f (z ∷ zs) x y (inr h) k = by_value (f z) (has_filter_map f zs x y h k)
  where
    by_value : (o : Option _) → Has (filter_map f zs) y → Has (cons_option o (filter_map f zs)) y
    by_value None u = u
    by_value (Some w) u = inr u

pub has_filter_map_back : {X Y : Type 0} (f : X → Option Y) (xs : List X) (y : Y) → Has (filter_map f xs) y → (x : X) × Has xs x × (f x ≡ Some y)
has_filter_map_back f [] y h = absurd h
has_filter_map_back f (z ∷ zs) y h = by_value (f z) refl h (has_filter_map_back f zs y)
  where
    by_value : (o : Option _) → f z ≡ o → Has (cons_option o (filter_map f zs)) y → (Has (filter_map f zs) y → (x : _) × Has zs x × (f x ≡ Some y)) → (x : _) × Has (z ∷ zs) x × (f x ≡ Some y)
    by_value None u k ih = let r = ih k in (r.0, inr r.1, r.2)
    by_value (Some w) u (inl e) ih = (z, inl refl, u ∙ ap Some e)
    by_value (Some w) u (inr k) ih = let r = ih k in (r.0, inr r.1, r.2)

pub contains_filter_map : {X Y : Type 0} (f : X → Option Y) (xs : List X) (x : X) (y : Y) → Contains xs x → f x ≡ Some y → Contains (filter_map f xs) y
contains_filter_map f xs x y h k = contains (filter_map f xs) y (has_filter_map f xs x y (has xs x h) k)

pub contains_filter_map_back : {X Y : Type 0} (f : X → Option Y) (xs : List X) (y : Y) → Contains (filter_map f xs) y → (x : X) × Contains xs x × (f x ≡ Some y)
contains_filter_map_back f xs y h = let r = has_filter_map_back f xs y (has (filter_map f xs) y h) in (r.0, contains xs r.0 r.1, r.2)

-- appended lists, and lists of lists
pub has_append_left : {X : Type 0} (xs ys : List X) (x : X) → Has xs x → Has (xs ++ ys) x
has_append_left [] ys x h = absurd h
has_append_left (z ∷ xs) ys x (inl e) = inl e
has_append_left (z ∷ xs) ys x (inr h) = inr (has_append_left xs ys x h)

pub has_append_right : {X : Type 0} (xs ys : List X) (x : X) → Has ys x → Has (xs ++ ys) x
has_append_right [] ys x h = h
has_append_right (z ∷ xs) ys x h = inr (has_append_right xs ys x h)

pub has_append_cases : {X : Type 0} (xs ys : List X) (x : X) → Has (xs ++ ys) x → Has xs x ⊎ Has ys x
has_append_cases [] ys x h = inr h
has_append_cases (z ∷ xs) ys x (inl e) = inl (inl e)
has_append_cases (z ∷ xs) ys x (inr h) = later (has_append_cases xs ys x h)
  where
    later : Has xs x ⊎ Has ys x → Has (z ∷ xs) x ⊎ Has ys x
    later (inl k) = inl (inr k)
    later (inr k) = inr k

pub has_flat_map : {X Y : Type 0} (f : X → List Y) (xs : List X) (x : X) (y : Y) → Has xs x → Has (f x) y → Has (flat_map f xs) y
has_flat_map f [] x y h k = absurd h
has_flat_map f (z ∷ zs) x y (inl e) k = has_append_left (f z) (flat_map f zs) y (subst (λ w. Has (f w) y) (sym e) k)
has_flat_map f (z ∷ zs) x y (inr h) k = has_append_right (f z) (flat_map f zs) y (has_flat_map f zs x y h k)

pub has_flat_map_back : {X Y : Type 0} (f : X → List Y) (xs : List X) (y : Y) → Has (flat_map f xs) y → (x : X) × Has xs x × Has (f x) y
has_flat_map_back f [] y h = absurd h
has_flat_map_back f (z ∷ zs) y h = either (has_append_cases (f z) (flat_map f zs) y h) (has_flat_map_back f zs y)
  where
    either : Has (f z) y ⊎ Has (flat_map f zs) y → (Has (flat_map f zs) y → (x : _) × Has zs x × Has (f x) y) → (x : _) × Has (z ∷ zs) x × Has (f x) y
    either (inl k) ih = (z, inl refl, k)
    either (inr k) ih = let r = ih k in (r.0, inr r.1, r.2)

pub has_map : {X Y : Type 0} (f : X → Y) (xs : List X) (x : X) → Has xs x → Has (map f xs) (f x)
has_map f [] x h = absurd h
has_map f (z ∷ zs) x (inl e) = inl (ap f e)
has_map f (z ∷ zs) x (inr h) = inr (has_map f zs x h)

pub has_map_back : {X Y : Type 0} (f : X → Y) (xs : List X) (y : Y) → Has (map f xs) y → (x : X) × Has xs x × (f x ≡ y)
has_map_back f [] y h = absurd h
has_map_back f (z ∷ zs) y (inl e) = (z, inl refl, e)
has_map_back f (z ∷ zs) y (inr h) = let r = has_map_back f zs y h in (r.0, inr r.1, r.2)

pub has_range : (n a k : ℕ) → k < n → Has (range_with_len a n) (a + k)
has_range zero a k l = absurd (omega arith)
has_range (suc n) a zero l = inl (omega arith)
has_range (suc n) a (suc k) l = let e : a + 1 + k ≡ a + suc k = omega arith in inr (subst (λ m. Has (range_with_len (a + 1) n) m) e (has_range n (a + 1) k (omega arith)))

pub has_range_back : (n a k : ℕ) → Has (range_with_len a n) k → (a ≤ k) × (k < a + n)
has_range_back zero a k h = absurd h
has_range_back (suc n) a k (inl e) = (omega arith, omega arith)
has_range_back (suc n) a k (inr h) = let r = has_range_back n (a + 1) k h in (omega arith, omega arith)

-- first elements
pub has_take : {X : Type 0} (n : ℕ) (xs : List X) (x : X) → Has (take n xs) x → Has xs x
has_take zero xs x h = absurd h
has_take (suc n) [] x h = absurd h
has_take (suc n) (z ∷ zs) x (inl e) = inl e
has_take (suc n) (z ∷ zs) x (inr h) = inr (has_take n zs x h)

pub has_take_cases : {X : Type 0} (n : ℕ) (xs : List X) (x : X) → Has xs x → Has (take n xs) x ⊎ Has (drop n xs) x
has_take_cases zero xs x h = inr h
has_take_cases (suc n) [] x h = absurd h
has_take_cases (suc n) (z ∷ zs) x (inl e) = inl (inl e)
has_take_cases (suc n) (z ∷ zs) x (inr h) = later (has_take_cases n zs x h)
  where
    later : Has (take n zs) x ⊎ Has (drop n zs) x → Has (take (suc n) (z ∷ zs)) x ⊎ Has (drop (suc n) (z ∷ zs)) x
    later (inl k) = inl (inr k)
    later (inr k) = inr k

pub contains_take : {X : Type 0} (n : ℕ) (xs : List X) (x : X) → Contains (take n xs) x → Contains xs x
contains_take n xs x h = contains xs x (has_take n xs x (has (take n xs) x h))

pub contains_take_cases : {X : Type 0} (n : ℕ) (xs : List X) (x : X) → Contains xs x → Contains (take n xs) x ⊎ Contains (drop n xs) x
contains_take_cases n xs x h = step (has_take_cases n xs x (has xs x h))
  where
    step : Has (take n xs) x ⊎ Has (drop n xs) x → Contains (take n xs) x ⊎ Contains (drop n xs) x
    step (inl k) = inl (contains (take n xs) x k)
    step (inr k) = inr (contains (drop n xs) x k)

-- tests
pub any_has : {X : Type 0} (p : X → Bool) (xs : List X) (x : X) → Has xs x → p x ≡ true → list_any p xs ≡ true
any_has p [] x h k = absurd h
any_has p (z ∷ zs) x (inl e) k = by_test (p z) (ap p e ∙ k)
  where
    by_test : (b : Bool) → b ≡ true → (b || list_any p zs) ≡ true
    by_test true u = refl
    by_test false u = absurd (true≢false (sym u))
any_has p (z ∷ zs) x (inr h) k = by_test (p z) (any_has p zs x h k)
  where
    by_test : (b : Bool) → list_any p zs ≡ true → (b || list_any p zs) ≡ true
    by_test true u = refl
    by_test false u = u

pub any_has_back : {X : Type 0} (p : X → Bool) (xs : List X) → list_any p xs ≡ true → (x : X) × Has xs x × (p x ≡ true)
any_has_back p [] h = absurd (true≢false (sym h))
any_has_back p (z ∷ zs) h = by_test (p z) refl h (any_has_back p zs)
  where
    by_test : (b : Bool) → p z ≡ b → (b || list_any p zs) ≡ true → (list_any p zs ≡ true → (x : _) × Has zs x × (p x ≡ true)) → (x : _) × Has (z ∷ zs) x × (p x ≡ true)
    by_test true u k ih = (z, inl refl, u)
    by_test false u k ih = let r = ih k in (r.0, inr r.1, r.2)

pub any_contains : {X : Type 0} (p : X → Bool) (xs : List X) (x : X) → Contains xs x → p x ≡ true → list_any p xs ≡ true
any_contains p xs x h k = any_has p xs x (has xs x h) k

pub any_contains_back : {X : Type 0} (p : X → Bool) (xs : List X) → list_any p xs ≡ true → (x : X) × Contains xs x × (p x ≡ true)
any_contains_back p xs h = let r = any_has_back p xs h in (r.0, contains xs r.0 r.1, r.2)

pub any_none : {X : Type 0} (p : X → Bool) (xs : List X) → ((x : X) → Contains xs x → p x ≡ true → ⊥) → list_any p xs ≡ false
any_none p xs h = by_test (list_any p xs) refl
  where
    by_test : (b : Bool) → list_any p xs ≡ b → b ≡ false
    by_test false e = refl
    by_test true e = let r = any_contains_back p xs e in absurd (h r.0 r.1 r.2)

pub any_false : {X : Type 0} (p : X → Bool) (xs : List X) (x : X) → list_any p xs ≡ false → Contains xs x → p x ≡ true → ⊥
any_false p xs x h k u = true≢false (sym (any_contains p xs x k u) ∙ h)

-- what is true or false
pub is_true : (b : Bool) → (b ≡ true) ⊎ (b ≡ false)
is_true true = inl refl
is_true false = inr refl

pub not_both : (b : Bool) → b ≡ true → b ≡ false → ⊥
not_both b h k = true≢false (sym h ∙ k)

-- The places of a filtered list stand in the order of those of the list.
pub filter_order : {X : Type 0} (p : X → Bool) (xs : List X) (i j : ℕ) (x y : X) → i < j → At (filter p xs) i x → At (filter p xs) j y
    → (m : ℕ) × (n : ℕ) × At xs m x × At xs n y × (m < n)
filter_order p [] i j x y l h k = let e : None ≡ Some x = h in absurd cc
filter_order p (z ∷ zs) i j x y l h k = by_test (p z) refl h k (λ a b. filter_order p zs a b x y)
  where
    later : (m : ℕ) × (n : ℕ) × At zs m x × At zs n y × (m < n) → (m : ℕ) × (n : ℕ) × At (z ∷ zs) m x × At (z ∷ zs) n y × (m < n)
    later r = (suc r.0, suc r.1, r.2, r.3, omega arith)

    by_test : (b : Bool) → p z ≡ b → At (cond b (z ∷ filter p zs) (filter p zs)) i x → At (cond b (z ∷ filter p zs) (filter p zs)) j y
        → ((a b : ℕ) → a < b → At (filter p zs) a x → At (filter p zs) b y → (m : ℕ) × (n : ℕ) × At zs m x × At zs n y × (m < n))
        → (m : ℕ) × (n : ℕ) × At (z ∷ zs) m x × At (z ∷ zs) n y × (m < n)
    by_test false u a b ih = later (ih i j l a b)
    by_test true u a b ih = by_place i j l a b
      where
        by_place : (i j : ℕ) → i < j → At (z ∷ filter p zs) i x → At (z ∷ filter p zs) j y → (m : ℕ) × (n : ℕ) × At (z ∷ zs) m x × At (z ∷ zs) n y × (m < n)
        by_place i zero l a b = absurd (omega arith)
        by_place zero (suc j) l a b =
            let r = at_has zs y (has_filter_back p zs y (has_at (filter p zs) j y b)).0 in
            (0, suc r.0, a, r.1, omega arith)
        by_place (suc i) (suc j) l a b = later (ih i j (omega arith) a b)
