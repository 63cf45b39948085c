-- How often a test passes: an entry that ends a transaction stands once in the log, and so once in all shares.
use Rattle.std.proofs.Common.{◌≡◌, ℕ, zero, suc, ◌+◌, ◌<◌, ◌≤◌, ◌%◌, Bool, true, false, cond, ◌||◌, List, [], ◌∷◌, ◌++◌, map, filter, Option, Some, None, ◌⊎◌, inl, inr, refl, sym, ap, ap₂, ◌∙◌, subst, arith, true≢false}
use Rattle.std.specs.List.{list_any, filter_map, flat_map, range_with_len, cons_option, count_by}
use Rattle.std.proofs.lemmas.Bool.{cases_eq, eqb-true}
use Rattle.std.proofs.lemmas.List.Sums.{sum_by-append}
use Rattle.adg_base.specs.Shard.{shard_of_txn, shard_of_vector}
use Rattle.adg_base.specs.declared.log.LogEntry.{LogEntry}
use Rattle.core_rules.specs.Share.{is_shared_by, share, shares, ends}
use Rattle.core_rules.specs.State.{At}
use Rattle.core_rules.specs.LogFacts.{LogFacts}
use Rattle.core_rules.proofs.Lists.{Has, at_has, at_contains, has_filter_back}
use Rattle.core_rules.proofs.Shares.{end_shard}

pub count_append : {X : Type 0} (p : X → Bool) (xs ys : List X) → count_by p (xs ++ ys) ≡ count_by p xs + count_by p ys
count_append p xs ys = sum_by-append (λ x. cond (p x) 1 0) xs ys

pub count_cons : {X : Type 0} (p : X → Bool) (x : X) (xs : List X) → count_by p (x ∷ xs) ≡ cond (p x) 1 0 + count_by p xs
count_cons p x xs = let one : count_by p (x ∷ []) ≡ cond (p x) 1 0 = omega arith in let all : count_by p ((x ∷ []) ++ xs) ≡ count_by p (x ∷ []) + count_by p xs = count_append p (x ∷ []) xs in all ∙ ap (λ n. n + count_by p xs) one

pub count_none : {X : Type 0} (p : X → Bool) (xs : List X) → ((x : X) → Has xs x → p x ≡ false) → count_by p xs ≡ 0
count_none p [] h = refl
count_none p (x ∷ xs) h =
    let first : cond (p x) 1 0 ≡ 0 = ap (λ b. cond {A = ℕ} b 1 0) (h x (inl refl)) in
    let ih : count_by p xs ≡ 0 = count_none p xs (λ y k. h y (inr k)) in
    count_cons p x xs ∙ ap₂ (λ n m. n + m) first ih

pub count_some : {X : Type 0} (p : X → Bool) (xs : List X) → list_any p xs ≡ true → 1 ≤ count_by p xs
count_some p [] h = absurd (true≢false (sym h))
count_some p (x ∷ xs) h = subst (λ n. 1 ≤ n) (sym (count_cons p x xs)) (by_test (p x) h (count_some p xs))
  where
    by_test : (b : Bool) → (b || list_any p xs) ≡ true → (list_any p xs ≡ true → 1 ≤ count_by p xs) → 1 ≤ cond b 1 0 + count_by p xs
    by_test true k ih = omega arith
    by_test false k ih = let l : 1 ≤ count_by p xs = ih k in omega arith

-- where a test passes at two parts of a list of lists it passes twice
part_counted : {X : Type 0} (p : X → Bool) (parts : List (List X)) (i : ℕ) (x : List X) → At parts i x → list_any p x ≡ true → 1 ≤ count_by p (flat_map (λ part. part) parts)
part_counted p [] i x h k = let e : None ≡ Some x = h in absurd cc
part_counted p (z ∷ zs) zero x h k =
    let e : Some z ≡ Some x = h in
    let same : x ≡ z = cc in
    let here : 1 ≤ count_by p z = count_some p z (subst (λ w. list_any p w ≡ true) same k) in
    let all = count_append p z (flat_map (λ part. part) zs) in
    omega arith
part_counted p (z ∷ zs) (suc i) x h k =
    let there : 1 ≤ count_by p (flat_map (λ part. part) zs) = part_counted p zs i x h k in
    let all = count_append p z (flat_map (λ part. part) zs) in
    omega arith

pub two_counted : {X : Type 0} (p : X → Bool) (parts : List (List X)) (i j : ℕ) (x y : List X) → i < j → At parts i x → At parts j y → list_any p x ≡ true → list_any p y ≡ true
    → 2 ≤ count_by p (flat_map (λ part. part) parts)
two_counted p [] i j x y l h k u w = let e : None ≡ Some x = h in absurd cc
two_counted p (z ∷ zs) i zero x y l h k u w = absurd (omega arith)
two_counted p (z ∷ zs) zero (suc j) x y l h k u w =
    let e : Some z ≡ Some x = h in
    let same : x ≡ z = cc in
    let here : 1 ≤ count_by p z = count_some p z (subst (λ v. list_any p v ≡ true) same u) in
    let there : 1 ≤ count_by p (flat_map (λ part. part) zs) = part_counted p zs j y k w in
    let all = count_append p z (flat_map (λ part. part) zs) in
    omega arith
two_counted p (z ∷ zs) (suc i) (suc j) x y l h k u w =
    let there : 2 ≤ count_by p (flat_map (λ part. part) zs) = two_counted p zs i j x y (omega arith) h k u w in
    let all = count_append p z (flat_map (λ part. part) zs) in
    omega arith

-- what passes at no two places passes at most once
pub count_once : {X : Type 0} (p : X → Bool) (xs : List X) → ((i j : ℕ) (x y : X) → At xs i x → At xs j y → p x ≡ true → p y ≡ true → i ≡ j) → count_by p xs ≤ 1
count_once p [] h = omega arith
count_once p (x ∷ xs) h = subst (λ n. n ≤ 1) (sym (count_cons p x xs)) (by_test (p x) refl (count_once p xs (λ i j a b k l u w. let e : suc i ≡ suc j = h (suc i) (suc j) a b k l u w in omega arith)))
  where
    none : p x ≡ true → (y : _) → Has xs y → p y ≡ false
    none u y k = by (p y) refl
      where
        by : (b : Bool) → p y ≡ b → b ≡ false
        by false e = refl
        by true e = let at = at_has xs y k in let clash : 0 ≡ suc at.0 = h 0 (suc at.0) x y refl at.1 u e in absurd (omega arith)

    by_test : (b : Bool) → p x ≡ b → count_by p xs ≤ 1 → cond b 1 0 + count_by p xs ≤ 1
    by_test true e ih = let zero_left : count_by p xs ≡ 0 = count_none p xs (none e) in omega arith
    by_test false e ih = omega arith

pub count_filter : {X : Type 0} (p q : X → Bool) (xs : List X) → count_by p (filter q xs) ≤ count_by p xs
count_filter p q [] = omega arith
count_filter p q (x ∷ xs) = subst (λ n. count_by p (filter q (x ∷ xs)) ≤ n) (sym (count_cons p x xs)) (by_test (q x) (count_filter p q xs))
  where
    by_test : (b : Bool) → count_by p (filter q xs) ≤ count_by p xs → count_by p (cond b (x ∷ filter q xs) (filter q xs)) ≤ cond (p x) 1 0 + count_by p xs
    by_test true ih = let first = count_cons p x (filter q xs) in omega arith
    by_test false ih = omega arith

pub count_map : {X Y : Type 0} (p : Y → Bool) (q : X → Bool) (f : X → Y) (xs : List X) → ((x : X) → p (f x) ≡ true → q x ≡ true) → count_by p (map f xs) ≤ count_by q xs
count_map p q f [] h = omega arith
count_map p q f (x ∷ xs) h = subst (λ n. n ≤ count_by q (x ∷ xs)) (sym (count_cons p (f x) (map f xs)))
    (subst (λ n. cond (p (f x)) 1 0 + count_by p (map f xs) ≤ n) (sym (count_cons q x xs)) (by_test (p (f x)) refl (count_map p q f xs h)))
  where
    by_test : (b : Bool) → p (f x) ≡ b → count_by p (map f xs) ≤ count_by q xs → cond b 1 0 + count_by p (map f xs) ≤ cond (q x) 1 0 + count_by q xs
    by_test false e ih = omega arith
    by_test true e ih = let one : cond {A = ℕ} (q x) 1 0 ≡ 1 = ap (λ b. cond {A = ℕ} b 1 0) (h x e) in omega arith

pub count_filter_map : {X Y : Type 0} (p : Y → Bool) (q : X → Bool) (f : X → Option Y) (xs : List X) → ((x : X) (y : Y) → f x ≡ Some y → p y ≡ true → q x ≡ true)
    → count_by p (filter_map f xs) ≤ count_by q xs
count_filter_map p q f [] h = omega arith
count_filter_map p q f (x ∷ xs) h = subst (λ n. count_by p (filter_map f (x ∷ xs)) ≤ n) (sym (count_cons q x xs)) (by_value (f x) refl (count_filter_map p q f xs h))
  where
    by_value : (o : Option _) → f x ≡ o → count_by p (filter_map f xs) ≤ count_by q xs → count_by p (cons_option o (filter_map f xs)) ≤ cond (q x) 1 0 + count_by q xs
    by_value None e ih = omega arith
    by_value (Some y) e ih = subst (λ n. n ≤ cond (q x) 1 0 + count_by q xs) (sym (count_cons p y (filter_map f xs))) (by_test (p y) refl)
      where
        by_test : (b : Bool) → p y ≡ b → cond b 1 0 + count_by p (filter_map f xs) ≤ cond (q x) 1 0 + count_by q xs
        by_test false k = omega arith
        by_test true k = let one : cond {A = ℕ} (q x) 1 0 ≡ 1 = ap (λ b. cond {A = ℕ} b 1 0) (h x y e k) in omega arith

-- where a test passes in one of some lists alone
one_list : {X : Type 0} (p : X → Bool) (f : ℕ → List X) (only : ℕ) (n a : ℕ) → count_by p (f only) ≤ 1 → ((w : ℕ) → (w ≡ only → ⊥) → count_by p (f w) ≡ 0)
    → count_by p (flat_map f (range_with_len a n)) ≤ 1 × (only < a → count_by p (flat_map f (range_with_len a n)) ≡ 0)
one_list p f only zero a h k = (omega arith, λ l. refl)
one_list p f only (suc n) a h k = by_case (cases_eq a only) (one_list p f only n (a + 1) h k)
  where
    rest : ℕ
    rest = count_by p (flat_map f (range_with_len (a + 1) n))

    all : count_by p (flat_map f (range_with_len a (suc n))) ≡ count_by p (f a) + rest
    all = count_append p (f a) (flat_map f (range_with_len (a + 1) n))

    by_case : (a ≡ only) ⊎ (a ≡ only → ⊥) → (rest ≤ 1) × (only < a + 1 → rest ≡ 0)
        → (count_by p (flat_map f (range_with_len a (suc n))) ≤ 1) × (only < a → count_by p (flat_map f (range_with_len a (suc n))) ≡ 0)
    by_case (inl e) ih =
        let below : only < a + 1 = omega arith in
        let none : rest ≡ 0 = ih.1 below in
        let here : count_by p (f a) ≤ 1 = subst (λ w. count_by p (f w) ≤ 1) (sym e) h in
        (omega (arith, all), λ l. absurd (omega arith))
    by_case (inr d) ih =
        let here : count_by p (f a) ≡ 0 = k a d in
        let few : rest ≤ 1 = ih.0 in
        (omega (arith, all), λ l. let below : only < a + 1 = omega arith in let none : rest ≡ 0 = ih.1 below in omega (arith, all))

-- An entry that ends a transaction stands once in all shares.
pub end_once : (log : List LogEntry) (frontier workers t : ℕ) → LogFacts log frontier → 0 < workers → count_by (λ (e : LogEntry). ends t e.vector) (shares workers log) ≤ 1
end_once log frontier workers t facts manned = (one_list (λ (e : LogEntry). ends t e.vector) (λ w. share workers w log) (shard_of_txn t % workers) workers 0 here others).0
  where
    test : LogEntry → Bool
    test e = ends t e.vector

    in_log : count_by (λ (e : LogEntry). ends t e.vector) log ≤ 1
    in_log = count_once (λ (e : LogEntry). ends t e.vector) log (λ i j e f h k u w.
        let one : e ≡ f = facts.ended_once t e f (at_contains log i e h) (at_contains log j f k) u w in
        let poses : e.pos ≡ f.pos = ap (λ (x : LogEntry). x.pos) one in
        let a : e.pos ≡ i = facts.positions i e h in
        let b : f.pos ≡ j = facts.positions j f k in
        omega arith)

    here : count_by (λ (e : LogEntry). ends t e.vector) (share workers (shard_of_txn t % workers) log) ≤ 1
    here =
        let few = count_filter (λ (e : LogEntry). ends t e.vector) (λ (e : LogEntry). is_shared_by workers (shard_of_txn t % workers) (shard_of_vector e.vector)) log in
        let all : count_by (λ (e : LogEntry). ends t e.vector) log ≤ 1 = in_log in
        omega (arith, few)

    others : (w : ℕ) → (w ≡ shard_of_txn t % workers → ⊥) → count_by (λ (e : LogEntry). ends t e.vector) (share workers w log) ≡ 0
    others w d = count_none (λ (e : LogEntry). ends t e.vector) (share workers w log) (λ e k. none e (has_filter_back (λ (x : LogEntry). is_shared_by workers w (shard_of_vector x.vector)) log e k).1)
      where
        none : (e : LogEntry) → is_shared_by workers w (shard_of_vector e.vector) ≡ true → ends t e.vector ≡ false
        none e own = by (ends t e.vector) refl
          where
            by : (b : Bool) → ends t e.vector ≡ b → b ≡ false
            by false k = refl
            by true k =
                let same : is_shared_by workers w (Some (shard_of_txn t)) ≡ true = subst (λ o. is_shared_by workers w o ≡ true) (end_shard t e.vector k) own in
                let is : shard_of_txn t % workers ≡ w = eqb-true (shard_of_txn t % workers) w same in
                absurd (d (sym is))
