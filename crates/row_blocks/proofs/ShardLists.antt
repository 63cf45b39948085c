-- Lemmas on shards in a list.
use Rattle.std.proofs.Common.{◌≡◌, ℕ, zero, suc, ◌+◌, ◌<◌, ◌≤◌, ◌==◌, true, false, List, [], ◌∷◌, ◌++◌, length, get_or, slice_set, Option, Some, None, Result, Ok, Err, OnErr, refl, sym, ap, ◌∙◌, arith, subst, inl, inr, ◌⊎◌, true≢false}
use Rattle.std.specs.List.{slice_get}
use Rattle.std.proofs.lemmas.Option.{slice_get-get_or}
use Rattle.std.proofs.lemmas.Bool.{eqb-true, eq-eqb, cases_eq}
use Rattle.adg_base.specs.Shard.{shard_of_vector}
use Rattle.adg_base.specs.declared.log.LogEntry.{LogEntry}
use Rattle.row_blocks.specs.Stands.{Kept, none_kept, same_shard, is_own, SameKept, after_entry}
use Rattle.row_blocks.specs.declared.shard.Shard.{Shard}
use Rattle.row_blocks.specs.Shard.{shown}
use Rattle.row_blocks.specs.Shards.{kept_or, shards_in, AreNumbered, KeepSame, PassesEntry}
use Rattle.row_blocks.proofs.Together.{all_pass}

pub get_set_same : (xs : List Shard) (i : ℕ) (x : Shard) → i < length xs → slice_get (slice_set xs i x) i ≡ Some x
get_set_same [] i x h = absurd (omega arith)
get_set_same (y ∷ xs) zero x h = refl
get_set_same (y ∷ xs) (suc i) x h = get_set_same xs i x (omega arith)

pub get_set_other : (xs : List Shard) (i n : ℕ) (x : Shard) → (n ≡ i → ⊥) → slice_get (slice_set xs i x) n ≡ slice_get xs n
get_set_other [] i n x h = refl
get_set_other (y ∷ xs) zero zero x h = absurd (h refl)
get_set_other (y ∷ xs) zero (suc n) x h = refl
get_set_other (y ∷ xs) (suc i) zero x h = refl
get_set_other (y ∷ xs) (suc i) (suc n) x h = get_set_other xs i n x (λ e. h (ap suc e))

pub get_push_end : (xs : List Shard) (x : Shard) → slice_get (xs ++ x ∷ []) (length xs) ≡ Some x
get_push_end [] x = refl
get_push_end (y ∷ xs) x = get_push_end xs x

pub get_push_before : (xs : List Shard) (n : ℕ) (x : Shard) → n < length xs → slice_get (xs ++ x ∷ []) n ≡ slice_get xs n
get_push_before [] n x h = absurd (omega arith)
get_push_before (y ∷ xs) zero x h = refl
get_push_before (y ∷ xs) (suc n) x h = get_push_before xs n x (omega arith)

same_by_get : (n : ℕ) (a b : Option Shard) (k : Kept) → a ≡ b → SameKept (kept_or n b) k → SameKept (kept_or n a) k
same_by_get n a b k e s = rw e s

kept_refl : (k : Kept) → SameKept k k
kept_refl k = record { number = refl; applied = refl; versions = λ a h. refl; ends = λ t. refl }

-- one more new shard
pub push_new : (xs : List Shard) (x : Shard) (m : ℕ) → length xs ≡ m → ((n : ℕ) → n < m → SameKept (shards_in xs n) (none_kept n)) → SameKept (shown x) (none_kept m)
    → (n : ℕ) → n < m + 1 → SameKept (shards_in (xs ++ x ∷ []) n) (none_kept n)
push_new xs x m count h k n l = by_case (cases_eq n m)
  where
    by_case : ((n ≡ m) ⊎ (n ≡ m → ⊥)) → SameKept (shards_in (xs ++ x ∷ []) n) (none_kept n)
    by_case (inl e) = same_by_get n (slice_get (xs ++ x ∷ []) n) (Some x) (none_kept n) (ap (slice_get (xs ++ x ∷ [])) (e ∙ sym count) ∙ get_push_end xs x) (subst (λ j. SameKept (shown x) (none_kept j)) (sym e) k)
    by_case (inr e) = same_by_get n (slice_get (xs ++ x ∷ []) n) (slice_get xs n) (none_kept n) (get_push_before xs n x (omega arith)) (h n (omega arith))

-- a shard in the place of another
module _ (xs : List Shard) (i : ℕ) (d is : Shard) (within : i < length xs) where
  at_place : shards_in xs i ≡ shown (get_or xs i d)
  at_place = ap (kept_or i) (slice_get-get_or xs i d within)

  placed_new : shards_in (slice_set xs i is) i ≡ shown is
  placed_new = ap (kept_or i) (get_set_same xs i is within)

  others : (n : ℕ) → (n ≡ i → ⊥) → shards_in (slice_set xs i is) n ≡ shards_in xs n
  others n h = ap (kept_or n) (get_set_other xs i n is h)

  pub set_numbers : is.number ≡ (get_or xs i d).number → AreNumbered (shards_in xs) → AreNumbered (shards_in (slice_set xs i is))
  set_numbers e h n l = by_case (cases_eq n i)
    where
      by_case : ((n ≡ i) ⊎ (n ≡ i → ⊥)) → (shards_in (slice_set xs i is) n).number ≡ n
      by_case (inl k) = ap (λ j. (shards_in (slice_set xs i is) j).number) k ∙ ap (λ (x : Kept). x.number) placed_new ∙ e
          ∙ ap (λ (x : Kept). x.number) (sym at_place) ∙ ap (λ j. (shards_in xs j).number) (sym k) ∙ h n l
      by_case (inr k) = ap (λ (x : Kept). x.number) (others n k) ∙ h n l

  pub set_same : SameKept (shown is) (shown (get_or xs i d)) → KeepSame (shards_in (slice_set xs i is)) (shards_in xs)
  set_same s n l = by_case (cases_eq n i)
    where
      by_case : ((n ≡ i) ⊎ (n ≡ i → ⊥)) → SameKept (shards_in (slice_set xs i is) n) (shards_in xs n)
      by_case (inl k) = subst (λ j. SameKept (shards_in (slice_set xs i is) j) (shards_in xs j)) (sym k) (rw (placed_new, at_place) s)
      by_case (inr k) = rw (others n k) (kept_refl (shards_in xs n))

  pub set_passes : (e : LogEntry) → shard_of_vector e.vector ≡ Some i → ((get_or xs i d).applied ≤ e.pos → SameKept (shown is) (after_entry (shown (get_or xs i d)) e)) → PassesEntry (shards_in xs) e (shards_in (slice_set xs i is))
  set_passes e own s = all_pass (shards_in xs) (shards_in (slice_set xs i is)) e other mine
    where
      own_is : (n : ℕ) → is_own n e ≡ (i == n)
      own_is n = ap (same_shard n) own

      other : (n : ℕ) → n < 64 → is_own n e ≡ false → SameKept (shards_in (slice_set xs i is) n) (shards_in xs n)
      other n l h = by_case (cases_eq n i)
        where
          by_case : ((n ≡ i) ⊎ (n ≡ i → ⊥)) → SameKept (shards_in (slice_set xs i is) n) (shards_in xs n)
          by_case (inl k) = absurd (true≢false (sym (own_is n ∙ eq-eqb i n (sym k)) ∙ h))
          by_case (inr k) = rw (others n k) (kept_refl (shards_in xs n))

      mine : (n : ℕ) → n < 64 → is_own n e ≡ true → (shards_in xs n).applied ≤ e.pos → SameKept (shards_in (slice_set xs i is) n) (after_entry (shards_in xs n) e)
      mine n l h a =
          let k : i ≡ n = eqb-true i n (sym (own_is n) ∙ h) in
          let before : (get_or xs i d).applied ≤ e.pos = subst (λ (x : Kept). x.applied ≤ e.pos) at_place (subst (λ j. (shards_in xs j).applied ≤ e.pos) (sym k) a) in
          subst (λ j. SameKept (shards_in (slice_set xs i is) j) (after_entry (shards_in xs j) e)) k (rw (placed_new, at_place) (s before))

-- an entry that has no shard
pub none_passes : (xs : List Shard) (e : LogEntry) → shard_of_vector e.vector ≡ None → PassesEntry (shards_in xs) e (shards_in xs)
none_passes xs e none = all_pass (shards_in xs) (shards_in xs) e (λ n l h. kept_refl (shards_in xs n)) (λ n l h. absurd (true≢false (sym h ∙ ap (same_shard n) none)))

pub on_err : {T E P : Type 0} (r : Result T E) → P → OnErr r P
on_err (Ok x) p = tt
on_err (Err e) p = p
