-- Lemmas on the slots of a block that are in use.
use Rattle.std.proofs.Common.{◌≡◌, ℕ, zero, suc, ◌+◌, ◌<◌, ◌≤◌, ◌==◌, Bool, true, false, ◌||◌, true≢false, cond, List, [], ◌∷◌, ◌++◌, map, length, set, slice_index_or, get_or, Option, Some, None, Result, Ok, Err, OnOk, OnErr, refl, sym, ap, ap₂, subst, ◌∙◌, arith, inl, inr, ◌⊎◌}
use Rattle.std.specs.List.{slice_get, list_any}
use Rattle.std.proofs.Math.Dec.{eqb}
use Rattle.std.proofs.lemmas.Bool.{cases_eq, cases_lt, eq-eqb}
use Rattle.std.proofs.lemmas.Bool.Decides.{eqb_tells}
use Rattle.std.proofs.lemmas.Option.{same_Some, slice_get_within, slice_get_past, get_or_from_slice_get}
use Rattle.std.proofs.lemmas.List.{get_or-set_other, set-get_or, length-set}
use Rattle.std.proofs.lemmas.Grind.{get_or-set_at}
use Rattle.std.proofs.lemmas.Map.Keys.{IsDistinct-from_apart}
use Rattle.std.proofs.lemmas.Map.Steps.{length-le_from_distinct_below}
use Rattle.row_blocks.specs.declared.version.Version.{Version}
use Rattle.row_blocks.specs.declared.block.Slot.{Slot}
use Rattle.row_blocks.specs.declared.block.Slot.TheVariants.{One}
use Rattle.row_blocks.specs.Block.{SetsSlot}
use Rattle.row_blocks.specs.Held.{list_of, number_of, seen_of, slots_from, AreKept, IsPlaceOf}

-- what is read after a list was changed at a place, or got one more
get_set_same : (used : List Slot) (i : ℕ) (x : Slot) → i < length used → slice_get (set used i x) i ≡ Some x
get_set_same [] i x h = absurd (omega arith)
get_set_same (y ∷ ys) zero x h = refl
get_set_same (y ∷ ys) (suc i) x h = get_set_same ys i x (omega arith)

get_set_other : (used : List Slot) (i j : ℕ) (x : Slot) → (j ≡ i → ⊥) → slice_get (set used i x) j ≡ slice_get used j
get_set_other [] i j x h = refl
get_set_other (y ∷ ys) zero zero x h = absurd (h refl)
get_set_other (y ∷ ys) zero (suc j) x h = refl
get_set_other (y ∷ ys) (suc i) zero x h = refl
get_set_other (y ∷ ys) (suc i) (suc j) x h = get_set_other ys i j x (λ e. h (ap suc e))

get_last : (used : List Slot) (x : Slot) → slice_get (used ++ x ∷ []) (length used) ≡ Some x
get_last [] x = refl
get_last (y ∷ ys) x = get_last ys x

get_before : (used : List Slot) (i : ℕ) (x : Slot) → i < length used → slice_get (used ++ x ∷ []) i ≡ slice_get used i
get_before [] i x h = absurd (omega arith)
get_before (y ∷ ys) zero x h = refl
get_before (y ∷ ys) (suc i) x h = get_before ys i x (omega arith)

length_more : (used : List Slot) (x : Slot) → length (used ++ x ∷ []) ≡ length used + 1
length_more [] x = refl
length_more (y ∷ ys) x = let ih : length (ys ++ x ∷ []) ≡ length ys + 1 = length_more ys x in omega arith

-- the versions at a slot of a block
seen_at : (n : ℕ) (used : List Slot) (places : List ℕ) (s : ℕ) → s < length places
    → slice_index_or (slots_from n used places) s [] ≡ seen_of (n + s) (slice_get used (slice_index_or places s 0))
seen_at n used [] s h = absurd (omega arith)
seen_at n used (p ∷ ps) zero h = let e : n ≡ n + 0 = omega arith in ap (λ k. seen_of k (slice_get used p)) e
seen_at n used (p ∷ ps) (suc s) h =
    let e : n + 1 + s ≡ n + suc s = omega arith in
    seen_at (n + 1) used ps s (omega arith) ∙ ap (λ k. seen_of k (slice_get used (slice_index_or ps s 0))) e

seen_first : (used : List Slot) (places : List ℕ) (s : ℕ) → s < length places
    → slice_index_or (slots_from 0 used places) s [] ≡ seen_of s (slice_get used (slice_index_or places s 0))
seen_first used places s h =
    let e : 0 + s ≡ s = omega arith in
    seen_at 0 used places s h ∙ ap (λ k. seen_of k (slice_get used (slice_index_or places s 0))) e

unseen_at : (n : ℕ) (used : List Slot) (places : List ℕ) (s : ℕ) → length places ≤ s → slice_index_or (slots_from n used places) s [] ≡ []
unseen_at n used [] s h = refl
unseen_at n used (p ∷ ps) zero h = absurd (omega arith)
unseen_at n used (p ∷ ps) (suc s) h = unseen_at (n + 1) used ps s (omega arith)

-- a slot is seen by its own number, and not by another
seen_own : (n : ℕ) (x : Slot) → number_of x ≡ n → seen_of n (Some x) ≡ list_of x
seen_own n x e = rw (eq-eqb (number_of x) n e) refl

seen_other : (n : ℕ) (x : Slot) → (number_of x ≡ n → ⊥) → seen_of n (Some x) ≡ []
seen_other n x h = by_test (eqb_tells (number_of x) n)
  where
    by_test : ((eqb (number_of x) n ≡ true) × (number_of x ≡ n)) ⊎ ((eqb (number_of x) n ≡ false) × (number_of x ≡ n → ⊥)) → seen_of n (Some x) ≡ []
    by_test (inl e) = absurd (h e.1)
    by_test (inr e) = rw e.0 refl

-- the versions of a slot whose place is known, and of one that is not in use
pub seen_known : (n place : ℕ) (used : List Slot) (places : List ℕ) → n < length places → (is : IsPlaceOf n places used (Some place))
    → slice_index_or (slots_from 0 used places) n [] ≡ list_of is.0
seen_known n place used places h is =
    seen_first used places n h ∙ ap (λ p. seen_of n (slice_get used p)) is.3 ∙ ap (seen_of n) is.1 ∙ seen_own n is.0 is.2

seen_unused : (n : ℕ) (used : List Slot) (place : ℕ) → ((i : ℕ) (x : Slot) → slice_get used i ≡ Some x → number_of x ≡ n → ⊥) → seen_of n (slice_get used place) ≡ []
seen_unused n used place none = by_found (slice_get used place) refl
  where
    by_found : (found : Option Slot) → slice_get used place ≡ found → seen_of n found ≡ []
    by_found None e = refl
    by_found (Some x) e = seen_other n x (none place x e)

pub seen_none : (n : ℕ) (used : List Slot) (places : List ℕ) → n < length places → IsPlaceOf n places used None
    → slice_index_or (slots_from 0 used places) n [] ≡ []
seen_none n used places h none = seen_first used places n h ∙ seen_unused n used (slice_index_or places n 0) none

-- one slot sees other versions, and each other slot the same
sets_seen : (before after : List Slot) (places later : List ℕ) (n : ℕ) (versions : List Version) → length places ≡ 64 → length later ≡ 64 → n < 64
    → seen_of n (slice_get after (slice_index_or later n 0)) ≡ versions
    → ((s : ℕ) → (s ≡ n → ⊥) → seen_of s (slice_get after (slice_index_or later s 0)) ≡ seen_of s (slice_get before (slice_index_or places s 0)))
    → SetsSlot (slots_from 0 before places) (slots_from 0 after later) n versions
sets_seen before after places later n versions long1 long2 within own other s = by_bound (cases_lt s 64) (eqb_tells s n)
  where
    Goal : Bool → Type 0
    Goal test = slice_index_or (slots_from 0 after later) s [] ≡ cond test versions (slice_index_or (slots_from 0 before places) s [])

    by_bound : ((s < 64) ⊎ (64 ≤ s)) → ((eqb s n ≡ true) × (s ≡ n)) ⊎ ((eqb s n ≡ false) × (s ≡ n → ⊥)) → Goal (s == n)
    by_bound (inl h) (inl e) =
        rw e.0 (seen_first after later s (omega arith) ∙ ap (λ k. seen_of k (slice_get after (slice_index_or later k 0))) e.1 ∙ own)
    by_bound (inl h) (inr e) =
        rw e.0 (seen_first after later s (omega arith) ∙ other s e.1 ∙ sym (seen_first before places s (omega arith)))
    by_bound (inr h) (inl e) = absurd (omega arith)
    by_bound (inr h) (inr e) = rw e.0 (unseen_at 0 after later s (omega arith) ∙ sym (unseen_at 0 before places s (omega arith)))

-- a slot in use was changed in its place
pub sets_known : (n place : ℕ) (used : List Slot) (places : List ℕ) (x : Slot) → length places ≡ 64 → n < 64 → IsPlaceOf n places used (Some place) → number_of x ≡ n
    → SetsSlot (slots_from 0 used places) (slots_from 0 (set used place x) places) n (list_of x)
sets_known n place used places x long within is own =
    sets_seen used (set used place x) places places n (list_of x) long long within
    (ap (λ p. seen_of n (slice_get (set used place x) p)) is.3
    ∙ ap (seen_of n) (get_set_same used place x (slice_get_within used place is.0 is.1)) ∙ seen_own n x own)
    (λ s apart. by_place s apart (cases_eq (slice_index_or places s 0) place))
  where
    by_place : (s : ℕ) → (s ≡ n → ⊥) → ((slice_index_or places s 0 ≡ place) ⊎ (slice_index_or places s 0 ≡ place → ⊥))
        → seen_of s (slice_get (set used place x) (slice_index_or places s 0)) ≡ seen_of s (slice_get used (slice_index_or places s 0))
    by_place s apart (inl e) =
        ap (λ p. seen_of s (slice_get (set used place x) p)) e ∙ ap (seen_of s) (get_set_same used place x (slice_get_within used place is.0 is.1))
        ∙ seen_other s x (λ k. apart (sym k ∙ own)) ∙ sym (seen_other s is.0 (λ k. apart (sym k ∙ is.2)))
        ∙ ap (seen_of s) (sym is.1) ∙ ap (λ p. seen_of s (slice_get used p)) (sym e)
    by_place s apart (inr e) = ap (seen_of s) (get_set_other used place (slice_index_or places s 0) x e)

pub kept_known : (place : ℕ) (used : List Slot) (places : List ℕ) (old x : Slot) → AreKept places used → slice_get used place ≡ Some old → number_of x ≡ number_of old
    → AreKept places (set used place x)
kept_known place used places old x kept was same i slot is = by_place (cases_eq i place)
  where
    by_place : ((i ≡ place) ⊎ (i ≡ place → ⊥)) → (number_of slot < 64) × (slice_index_or places (number_of slot) 0 ≡ i)
    by_place (inl e) =
        let found : slice_get (set used place x) i ≡ Some x = ap (slice_get (set used place x)) e ∙ get_set_same used place x (slice_get_within used place old was) in
        let number : number_of old ≡ number_of slot = sym same ∙ ap number_of (same_Some x slot (sym found ∙ is)) in
        subst (λ k. (k < 64) × (slice_index_or places k 0 ≡ i)) number ((kept place old was).0, (kept place old was).1 ∙ sym e)
    by_place (inr e) = kept i slot (sym (get_set_other used place i x e) ∙ is)

-- a slot that was not in use is the last now
pub sets_open : (n : ℕ) (used : List Slot) (places : List ℕ) (x : Slot) → length places ≡ 64 → n < 64 → IsPlaceOf n places used None → number_of x ≡ n
    → length (set places n (length used)) ≡ 64
    → SetsSlot (slots_from 0 used places) (slots_from 0 (used ++ x ∷ []) (set places n (length used))) n (list_of x)
sets_open n used places x long within none own still =
    sets_seen used (used ++ x ∷ []) places (set places n (length used)) n (list_of x) long still within
    (ap (λ p. seen_of n (slice_get (used ++ x ∷ []) p)) (get_or-set_at places n n (length used) 0 refl (omega arith))
    ∙ ap (seen_of n) (get_last used x) ∙ seen_own n x own)
    (λ s apart. ap (λ p. seen_of s (slice_get (used ++ x ∷ []) p)) (get_or-set_other places n s (length used) 0 apart)
    ∙ by_place s apart (slice_index_or places s 0))
  where
    more : (p : ℕ) → length used + 1 ≤ p → slice_get (used ++ x ∷ []) p ≡ None
    more p h = slice_get_past (used ++ x ∷ []) p (subst (λ k. k ≤ p) (sym (length_more used x)) h)

    by_place : (s : ℕ) → (s ≡ n → ⊥) → (p : ℕ) → seen_of s (slice_get (used ++ x ∷ []) p) ≡ seen_of s (slice_get used p)
    by_place s apart p = by_length (cases_lt p (length used)) (cases_eq p (length used))
      where
        by_length : ((p < length used) ⊎ (length used ≤ p)) → ((p ≡ length used) ⊎ (p ≡ length used → ⊥)) → seen_of s (slice_get (used ++ x ∷ []) p) ≡ seen_of s (slice_get used p)
        by_length (inl h) e = ap (seen_of s) (get_before used p x h)
        by_length (inr h) (inl e) =
            ap (λ k. seen_of s (slice_get (used ++ x ∷ []) k)) e ∙ ap (seen_of s) (get_last used x) ∙ seen_other s x (λ k. apart (sym k ∙ own))
            ∙ sym (ap (seen_of s) (slice_get_past used p h))
        by_length (inr h) (inr e) =
            let far : length used + 1 ≤ p = omega arith in
            ap (seen_of s) (more p far) ∙ sym (ap (seen_of s) (slice_get_past used p h))

pub kept_open : (n : ℕ) (used : List Slot) (places : List ℕ) (x : Slot) → length places ≡ 64 → n < 64 → AreKept places used → IsPlaceOf n places used None → number_of x ≡ n
    → AreKept (set places n (length used)) (used ++ x ∷ [])
kept_open n used places x long within kept none own i slot is = by_length (cases_lt i (length used))
  where
    by_length : ((i < length used) ⊎ (length used ≤ i)) → (number_of slot < 64) × (slice_index_or (set places n (length used)) (number_of slot) 0 ≡ i)
    by_length (inl h) =
        let was : slice_get used i ≡ Some slot = sym (get_before used i x h) ∙ is in
        ((kept i slot was).0, get_or-set_other places n (number_of slot) (length used) 0 (none i slot was) ∙ (kept i slot was).1)
    by_length (inr h) =
        let short : i < length (used ++ x ∷ []) = slice_get_within (used ++ x ∷ []) i slot is in
        let long_by : length (used ++ x ∷ []) ≡ length used + 1 = length_more used x in
        let e : length used ≡ i = omega arith in
        let same : x ≡ slot = same_Some x slot (sym (get_last used x) ∙ ap (slice_get (used ++ x ∷ [])) e ∙ is) in
        let number : n ≡ number_of slot = sym own ∙ ap number_of same in
        subst (λ k. (k < 64) × (slice_index_or (set places n (length used)) k 0 ≡ i)) number
        (within, get_or-set_at places n n (length used) 0 refl (omega arith) ∙ e)

-- no more slots are in use than there are
number_at : (used : List Slot) (i d : ℕ) → i < length used → (x : Slot) × (slice_get used i ≡ Some x) × (get_or (map number_of used) i d ≡ number_of x)
number_at [] i d h = absurd (omega arith)
number_at (y ∷ ys) zero d h = (y, refl, refl)
number_at (y ∷ ys) (suc i) d h = number_at ys i d (omega arith)

length_numbers : (used : List Slot) → length (map number_of used) ≡ length used
length_numbers [] = refl
length_numbers (y ∷ ys) = ap suc (length_numbers ys)

below : (used : List Slot) → ((i : ℕ) (x : Slot) → slice_get used i ≡ Some x → number_of x < 64) → (q : ℕ) → list_any (eqb q) (map number_of used) ≡ true → q < 64
below [] all q h = absurd (true≢false (sym h))
below (y ∷ ys) all q h = by_first (eqb_tells q (number_of y)) (below ys (λ i x. all (suc i) x) q)
  where
    by_first : ((eqb q (number_of y) ≡ true) × (q ≡ number_of y)) ⊎ ((eqb q (number_of y) ≡ false) × (q ≡ number_of y → ⊥))
        → (list_any (eqb q) (map number_of ys) ≡ true → q < 64) → q < 64
    by_first (inl e) rest = subst (λ k. k < 64) (sym e.1) (all 0 y refl)
    by_first (inr e) rest = rest (subst (λ b. (b || list_any (eqb q) (map number_of ys)) ≡ true) e.0 h)

pub few : (places : List ℕ) (used : List Slot) → AreKept places used → length used ≤ 64
few places used kept =
    subst (λ k. k ≤ 64) (length_numbers used)
    (length-le_from_distinct_below (map number_of used) 64
    (IsDistinct-from_apart eqb (map number_of used) apart)
    (below used (λ i x h. (kept i x h).0)))
  where
    apart : (i j d : ℕ) → i < j → j < length (map number_of used) → eqb (get_or (map number_of used) i d) (get_or (map number_of used) j d) ≡ false
    apart i j d less within = by_test (eqb_tells (get_or (map number_of used) i d) (get_or (map number_of used) j d))
      where
        at_i : (x : Slot) × (slice_get used i ≡ Some x) × (get_or (map number_of used) i d ≡ number_of x)
        at_i = let e : length (map number_of used) ≡ length used = length_numbers used in number_at used i d (omega arith)

        at_j : (x : Slot) × (slice_get used j ≡ Some x) × (get_or (map number_of used) j d ≡ number_of x)
        at_j = let e : length (map number_of used) ≡ length used = length_numbers used in number_at used j d (omega arith)

        by_test : ((eqb (get_or (map number_of used) i d) (get_or (map number_of used) j d) ≡ true) × (get_or (map number_of used) i d ≡ get_or (map number_of used) j d))
            ⊎ ((eqb (get_or (map number_of used) i d) (get_or (map number_of used) j d) ≡ false) × (get_or (map number_of used) i d ≡ get_or (map number_of used) j d → ⊥))
            → eqb (get_or (map number_of used) i d) (get_or (map number_of used) j d) ≡ false
        by_test (inl e) =
            let numbers : number_of at_i.0 ≡ number_of at_j.0 = sym at_i.2 ∙ e.1 ∙ at_j.2 in
            let places_same : i ≡ j = sym (kept i at_i.0 at_i.1).1 ∙ ap (λ k. slice_index_or places k 0) numbers ∙ (kept j at_j.0 at_j.1).1 in
            absurd (omega arith)
        by_test (inr e) = e.0

-- a block whose slots have nothing
empty_from : (n : ℕ) (places : List ℕ) (s : ℕ) → slice_index_or (slots_from n [] places) s [] ≡ []
empty_from n [] s = refl
empty_from n (p ∷ ps) zero = refl
empty_from n (p ∷ ps) (suc s) = empty_from (n + 1) ps s

pub empty_block : (used : List Slot) (places : List ℕ) (s : ℕ) → used ≡ [] → slice_index_or (slots_from 0 used places) s [] ≡ []
empty_block used places s none = ap (λ u. slice_index_or (slots_from 0 u places) s []) none ∙ empty_from 0 places s

-- the versions of a slot that was read at its place
pub read_known : (n place : ℕ) (used : List Slot) (places : List ℕ) (now : List (List Version)) (x : Slot) → length places ≡ 64 → n < 64 → slots_from 0 used places ≡ now
    → IsPlaceOf n places used (Some place) → x ≡ get_or used place x → list_of x ≡ slice_index_or now n []
read_known n place used places now x long within view is read =
    ap list_of (read ∙ get_or_from_slice_get used place is.0 x is.1)
    ∙ sym (seen_known n place used places (subst (λ k. n < k) (sym long) within) is) ∙ ap (λ b. slice_index_or b n []) view

-- a slot that was read at its place has what f makes of its versions
pub sets_read : (f : List Version → List Version) (n place : ℕ) (used : List Slot) (places : List ℕ) (now : List (List Version)) (x y : Slot)
    → length places ≡ 64 → n < 64 → slots_from 0 used places ≡ now → IsPlaceOf n places used (Some place) → x ≡ get_or used place x
    → number_of y ≡ number_of x → list_of y ≡ f (list_of x) → SetsSlot now (slots_from 0 (set used place y) places) n (f (slice_index_or now n []))
sets_read f n place used places now x y long within view is read number versions s =
    let same : x ≡ is.0 = read ∙ get_or_from_slice_get used place is.0 x is.1 in
    sets_known n place used places y long within is (number ∙ ap number_of same ∙ is.2) s
    ∙ ap (λ vs. cond (s == n) vs (slice_index_or (slots_from 0 used places) s [])) (versions ∙ ap f (read_known n place used places now x long within view is read))
    ∙ ap (λ b. cond (s == n) (f (slice_index_or now n [])) (slice_index_or b s [])) view

-- a slot that is not in use got a version
pub sets_first : (n : ℕ) (used more : List Slot) (places later : List ℕ) (now : List (List Version)) (v : Version)
    → length places ≡ 64 → n < 64 → slots_from 0 used places ≡ now → IsPlaceOf n places used None
    → later ≡ set places n (length used) → more ≡ used ++ One n v ∷ [] → SetsSlot now (slots_from 0 more later) n (slice_index_or now n [] ++ v ∷ [])
sets_first n used more places later now v long within view none places_are used_are s =
    ap₂ (λ u p. slice_index_or (slots_from 0 u p) s []) used_are places_are
    ∙ sets_open n used places (One n v) long within none refl (length-set places n (length used) ∙ long) s
    ∙ ap (λ vs. cond (s == n) vs (slice_index_or (slots_from 0 used places) s [])) (sym (ap (λ vs. vs ++ v ∷ []) (nothing)))
    ∙ ap (λ b. cond (s == n) (slice_index_or now n [] ++ v ∷ []) (slice_index_or b s [])) view
  where
    nothing : slice_index_or now n [] ≡ []
    nothing = ap (λ b. slice_index_or b n []) (sym view) ∙ seen_none n used places (subst (λ k. n < k) (sym long) within) none

-- a slot that has nothing stays as it is
pub sets_nothing : (f : List Version → List Version) (n : ℕ) (used : List Slot) (places : List ℕ) (now : List (List Version))
    → length places ≡ 64 → n < 64 → slots_from 0 used places ≡ now → IsPlaceOf n places used None → f [] ≡ [] → SetsSlot now now n (f (slice_index_or now n []))
sets_nothing f n used places now long within view none keeps s = by_test (eqb_tells s n)
  where
    nothing : slice_index_or now n [] ≡ []
    nothing = ap (λ b. slice_index_or b n []) (sym view) ∙ seen_none n used places (subst (λ k. n < k) (sym long) within) none

    by_test : ((eqb s n ≡ true) × (s ≡ n)) ⊎ ((eqb s n ≡ false) × (s ≡ n → ⊥)) → slice_index_or now s [] ≡ cond (s == n) (f (slice_index_or now n [])) (slice_index_or now s [])
    by_test (inl e) = rw e.0 (ap (λ k. slice_index_or now k []) e.1 ∙ nothing ∙ sym (ap f nothing ∙ keeps))
    by_test (inr e) = rw e.0 refl

-- a slot put back as it was read
pub set_same : (place : ℕ) (used : List Slot) (x y : Slot) → x ≡ get_or used place x → y ≡ x → set used place y ≡ used
set_same place used x y read same = ap (set used place) (same ∙ read) ∙ set-get_or used place x

-- the slots in use stay kept when a slot becomes one of them, or memory was wanting
pub kept_after : {T E : Type 0} (n : ℕ) (used more : List Slot) (places later : List ℕ) (v : Version) (result : Result T E) → length places ≡ 64 → n < 64 → AreKept places used
    → IsPlaceOf n places used None → OnOk result (later ≡ set places n (length used)) → OnOk result (more ≡ used ++ One n v ∷ [])
    → OnErr result ((later ≡ places) × (more ≡ used)) → (length later ≡ 64) × AreKept later more
kept_after n used more places later v (Ok x) long within kept none placed opened failed =
    subst (λ p. (length p ≡ 64) × AreKept p more) (sym placed)
    (length-set places n (length used) ∙ long, subst (AreKept (set places n (length used))) (sym opened) (kept_open n used places (One n v) long within kept none refl))
kept_after n used more places later v (Err x) long within kept none placed opened failed =
    subst (λ p. (length p ≡ 64) × AreKept p more) (sym failed.0) (long, subst (AreKept places) (sym failed.1) kept)

pub on_both : {T E P Q R : Type 0} (r : Result T E) → (P → Q → R) → OnOk r P → OnOk r Q → OnOk r R
on_both (Ok x) f p q = f p q
on_both (Err x) f p q = tt
