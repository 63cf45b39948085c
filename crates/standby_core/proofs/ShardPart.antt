-- The addresses of a unit shard, in a list in the order of unit shards.
use Rattle.std.proofs.Common.{◌≡◌, ℕ, ◌+◌, ◌-◌, ◌<◌, ◌≤◌, min, true, false, leb, ltb, List, [], length, take, drop, get_or, ◌⊎◌, inl, inr, ◌↔◌, sym, ap, ◌∙◌, arith, length-take, length-drop, get_or-take, get_or-drop, Some}
use Rattle.std.specs.List.{Contains}
use Rattle.std.specs.List.Sorted.{IsNonDecreasingBy, IsPartitionPoint}
use Rattle.std.specs.Prelude.{slice_get}
use Rattle.std.proofs.lemmas.Option.{get_or_from_slice_get}
use Rattle.std.proofs.lemmas.Bool.{ltb-true, ltb-false, leb-true, leb-false, le-leb, lt-leb, cases_lt}
use Rattle.adg_base.specs.Address.{Place, place}
use Rattle.standby_core.specs.Links.{shard_of_place}
use Rattle.standby_core.specs.Touching.{StartsAt, EndsAt, IsInShard}

-- the element at a place of a part
part_at : (xs : List Place) (base size i : ℕ) (d : Place) → i < size → get_or (take size (drop base xs)) i d ≡ get_or xs (base + i) d
part_at xs base size i d h = rw (get_or-take, get_or-drop)

module _ (xs : List Place) (shard from to : ℕ) (start : from ≤ length xs) (end : to ≤ length xs)
    (low : IsPartitionPoint (λ x. ltb (shard_of_place x) shard ≡ true) (λ x. ltb (shard_of_place x) shard ≡ false) xs from)
    (high : IsPartitionPoint (λ x. leb (shard_of_place x) shard ≡ true) (λ x. leb (shard_of_place x) shard ≡ false) xs to) where
  pub part_order : from ≤ to
  part_order = by (cases_lt to from)
    where
      by : (to < from) ⊎ (from ≤ to) → from ≤ to
      by (inr l) = l
      by (inl l) =
          let a : shard_of_place (get_or xs to (place 0 0 0)) < shard = ltb-true (shard_of_place (get_or xs to (place 0 0 0))) shard (low.0 to (place 0 0 0) (omega arith) l) in
          let b : shard < shard_of_place (get_or xs to (place 0 0 0)) = leb-false (shard_of_place (get_or xs to (place 0 0 0))) shard (high.1 to (place 0 0 0) (omega arith) (omega arith)) in
          absurd (omega arith)

  pub part_has : (a : Place) → Contains (take (to - from) (drop from xs)) a ↔ IsInShard xs shard a
  part_has a = (into, back)
    where
      into : Contains (take (to - from) (drop from xs)) a → IsInShard xs shard a
      into c =
          let t : length (take (to - from) (drop from xs)) ≡ min (to - from) (length (drop from xs)) = length-take (to - from) (drop from xs) in
          let w : c.0 < length (take (to - from) (drop from xs)) = c.1 in
          let l : c.0 < to - from = omega arith in
          let e : get_or xs (from + c.0) a ≡ a = sym (part_at xs from (to - from) c.0 a l) ∙ c.2 in
          let x : shard ≤ shard_of_place (get_or xs (from + c.0) a) = ltb-false (shard_of_place (get_or xs (from + c.0) a)) shard (low.1 (from + c.0) a (omega arith) (omega arith)) in
          let y : shard_of_place (get_or xs (from + c.0) a) ≤ shard = leb-true (shard_of_place (get_or xs (from + c.0) a)) shard (high.0 (from + c.0) a (omega arith) (omega arith)) in
          let s : shard_of_place (get_or xs (from + c.0) a) ≡ shard_of_place a = ap shard_of_place e in
          record { noted = (from + c.0, omega arith, e); of = omega arith }

      back : IsInShard xs shard a → Contains (take (to - from) (drop from xs)) a
      back h =
          let k : ℕ = h.noted.0 in
          let w : k < length xs = h.noted.1 in
          let e : get_or xs k a ≡ a = h.noted.2 in
          let s : shard_of_place (get_or xs k a) ≡ shard = ap shard_of_place e ∙ h.of in
          at k w e s (cases_lt k from) (cases_lt k to)
        where
          at : (k : ℕ) → k < length xs → get_or xs k a ≡ a → shard_of_place (get_or xs k a) ≡ shard → (k < from) ⊎ (from ≤ k) → (k < to) ⊎ (to ≤ k) → Contains (take (to - from) (drop from xs)) a
          at k w e s (inl l) m =
              let x : shard_of_place (get_or xs k a) < shard = ltb-true (shard_of_place (get_or xs k a)) shard (low.0 k a (omega arith) l) in
              absurd (omega arith)
          at k w e s (inr l) (inr m) =
              let x : shard < shard_of_place (get_or xs k a) = leb-false (shard_of_place (get_or xs k a)) shard (high.1 k a m w) in
              absurd (omega arith)
          at k w e s (inr l) (inl m) =
              let t : length (take (to - from) (drop from xs)) ≡ min (to - from) (length (drop from xs)) = length-take (to - from) (drop from xs) in
              let d : length (drop from xs) ≡ length xs - from = length-drop from xs in
              let r : from + (k - from) ≡ k = omega arith in
              (k - from, omega arith, part_at xs from (to - from) (k - from) a (omega arith) ∙ ap (λ n. get_or xs n a) r ∙ e)

beyond : (a b c : ℕ) → a ≤ b → b ≤ c → (b ≡ a → ⊥) → a < c
beyond a b c h k n = omega (arith, n)

-- where the first behind the lower shards is of a higher one, the shard ends where it starts
pub ends_at_once : (shard from : ℕ) (xs : List Place) → IsNonDecreasingBy shard_of_place xs → StartsAt shard xs from
    → (from < length xs → (a : Place) → shard_of_place (get_or xs from a) ≡ shard → ⊥) → EndsAt shard xs from
ends_at_once shard from xs order low none = (below, above)
  where
    below : (k : ℕ) (a : Place) → 0 ≤ k → k < from → leb (shard_of_place (get_or xs k a)) shard ≡ true
    below k a z l =
        let x : shard_of_place (get_or xs k a) < shard = ltb-true (shard_of_place (get_or xs k a)) shard (low.0 k a z l) in
        le-leb (shard_of_place (get_or xs k a)) shard (omega arith)

    above : (k : ℕ) (a : Place) → from ≤ k → k < length xs → leb (shard_of_place (get_or xs k a)) shard ≡ false
    above k a l w =
        let x : shard ≤ shard_of_place (get_or xs from a) = ltb-false (shard_of_place (get_or xs from a)) shard (low.1 from a (omega arith) (omega arith)) in
        let y : shard_of_place (get_or xs from a) ≤ shard_of_place (get_or xs k a) = order from k a l w in
        lt-leb (shard_of_place (get_or xs k a)) shard (beyond shard (shard_of_place (get_or xs from a)) (shard_of_place (get_or xs k a)) x y (none (omega arith) a))

-- what the first and the last address of a list tell
module _ (xs : List Place) (shard : ℕ) (first last : Place) (order : IsNonDecreasingBy shard_of_place xs) (head : Some first ≡ slice_get xs 0) (back : Some last ≡ slice_get xs (length xs - 1)) where
  lowest : (k : ℕ) (a : Place) → k < length xs → get_or xs k a ≡ a → shard_of_place first ≤ shard_of_place a
  lowest k a w e =
      let f : get_or xs 0 a ≡ first = get_or_from_slice_get xs 0 first a (sym head) in
      let l : shard_of_place (get_or xs 0 a) ≤ shard_of_place (get_or xs k a) = order 0 k a (omega arith) w in
      let s : shard_of_place (get_or xs 0 a) ≡ shard_of_place first = ap shard_of_place f in
      let t : shard_of_place (get_or xs k a) ≡ shard_of_place a = ap shard_of_place e in
      omega arith

  highest : (k : ℕ) (a : Place) → k < length xs → get_or xs k a ≡ a → shard_of_place a ≤ shard_of_place last
  highest k a w e =
      let f : get_or xs (length xs - 1) a ≡ last = get_or_from_slice_get xs (length xs - 1) last a (sym back) in
      let l : shard_of_place (get_or xs k a) ≤ shard_of_place (get_or xs (length xs - 1) a) = order k (length xs - 1) a (omega arith) (omega arith) in
      let s : shard_of_place (get_or xs (length xs - 1) a) ≡ shard_of_place last = ap shard_of_place f in
      let t : shard_of_place (get_or xs k a) ≡ shard_of_place a = ap shard_of_place e in
      omega arith

  -- where the shard is below that of the first or above that of the last, no address is of it
  pub none_between : (low high : ℕ) → low ≡ shard_of_place first → high ≡ shard_of_place last → (shard < low) ⊎ ((low ≤ shard) × (high < shard)) → (a : Place) → Contains [] a ↔ IsInShard xs shard a
  none_between low high f l out a = (λ c. absurd (omega (arith, c.1)), λ h. absurd (none h out))
    where
      none : IsInShard xs shard a → (shard < low) ⊎ ((low ≤ shard) × (high < shard)) → ⊥
      none h (inl b) = let x = lowest h.noted.0 a h.noted.1 h.noted.2 in omega (arith, b, x, f, h.of)
      none h (inr b) = let x = highest h.noted.0 a h.noted.1 h.noted.2 in omega (arith, b.1, x, l, h.of)

  -- where both are of the shard, all are
  pub all_between : (low high : ℕ) → low ≡ shard_of_place first → high ≡ shard_of_place last → low ≤ shard → shard ≤ high → low ≡ high → (a : Place) → Contains xs a ↔ IsInShard xs shard a
  all_between low high f l above below same a = (all, λ h. h.noted)
    where
      all : Contains xs a → IsInShard xs shard a
      all c =
          let x = lowest c.0 a c.1 c.2 in
          let y = highest c.0 a c.1 c.2 in
          record { noted = c; of = omega (arith, f, l, above, below, same, x, y) }
