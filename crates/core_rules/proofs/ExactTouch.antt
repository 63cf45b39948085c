-- Where Touch, Done and Publish can happen there is a state that they make.
use Rattle.std.proofs.Common.{◌≡◌, ℕ, ◌+◌, ◌-◌, ◌*◌, ◌<◌, ◌≤◌, Bool, true, false, cond, ◌&&◌, ◌||◌, List, length, Option, Some, None, ◌⊎◌, inl, inr, refl, sym, ap, ◌∙◌, subst, arith}
use Rattle.std.specs.Prelude.{◌==◌, nat_lt, nat_le}
use Rattle.std.specs.List.{Contains, list_any}
use Rattle.std.proofs.lemmas.Bool.{eqb-true, eq-eqb, ltb-true, lt-ltb, leb-true, le-leb, and_parts, and_from}
use Rattle.adg_base.specs.Address.{Place, same_place}
use Rattle.adg_base.specs.Shard.{shard_of_unit}
use Rattle.adg_base.specs.declared.node.Item.{Item}
use Rattle.core_rules.specs.State.{CoreState, Collected, ColumnUnit, Units, has_change, has_coarse, has_drop}
use Rattle.core_rules.specs.Flush.{CanTouch, Touches, Marks, IsMarked, IsTouched, CanFinish, Finishes, CanPublish, Publishes}
use Rattle.core_rules.proofs.Lists.{any_contains, any_contains_back, is_true}

same_places : (a b : Place) → same_place a b ≡ true → a ≡ b
same_places a b h =
    let p = and_parts ((a.obj == b.obj) && (a.block == b.block)) (a.slot == b.slot) h in
    let q = and_parts (a.obj == b.obj) (a.block == b.block) p.0 in
    let o : a.obj ≡ b.obj = eqb-true a.obj b.obj q.0 in
    let k : a.block ≡ b.block = eqb-true a.block b.block q.1 in
    let s : a.slot ≡ b.slot = eqb-true a.slot b.slot p.1 in
    let x : Place = record { obj = a.obj; block = a.block; slot = a.slot } in
    let y : Place = record { obj = b.obj; block = b.block; slot = b.slot } in
    let e : x ≡ y = cc in
    e

place_itself : (a : Place) → same_place a a ≡ true
place_itself a = and_from ((a.obj == a.obj) && (a.block == a.block)) (a.slot == a.slot) (and_from (a.obj == a.obj) (a.block == a.block) (eq-eqb a.obj a.obj refl) (eq-eqb a.block a.block refl)) (eq-eqb a.slot a.slot refl)

-- whether an address lies in an extent, and whether it is to be marked there
abbrev pub in_extent : (obj extent : ℕ) → Place → Bool
in_extent obj extent a = (a.obj == obj) && (nat_le (16 * extent) a.block && nat_lt a.block (16 * extent + 16))

abbrev pub collects : List Item → Place → Collected → Bool
collects items a x = has_change x.txn items && list_any (same_place a) x.places

abbrev pub is_hit : List Item → List Collected → (obj extent : ℕ) → Place → Bool
is_hit items collected obj extent a = in_extent obj extent a && list_any (collects items a) collected

hit_marks : (items : List Item) (collected : List Collected) (obj extent : ℕ) (a : Place) → is_hit items collected obj extent a ≡ true → Marks items collected obj extent a
hit_marks items collected obj extent a h =
    let p = and_parts (in_extent obj extent a) (list_any (collects items a) collected) h in
    let q = and_parts (a.obj == obj) (nat_le (16 * extent) a.block && nat_lt a.block (16 * extent + 16)) p.0 in
    let r = and_parts (nat_le (16 * extent) a.block) (nat_lt a.block (16 * extent + 16)) q.1 in
    let x = any_contains_back (collects items a) collected p.1 in
    let y = and_parts (has_change x.0.txn items) (list_any (same_place a) x.0.places) x.2 in
    let z = any_contains_back (same_place a) x.0.places y.1 in
    let one : a ≡ z.0 = same_places a z.0 z.2 in
    record {
      txn = x.0.txn;
      change = y.0;
      noted = record { entry = x.0; within = x.1; of = refl; noted = subst (Contains x.0.places) (sym one) z.1 };
      within = record { object = eqb-true a.obj obj q.0; from = leb-true (16 * extent) a.block r.0; below = ltb-true a.block (16 * extent + 16) r.1 };
    }

marks_hit : (items : List Item) (collected : List Collected) (obj extent : ℕ) (a : Place) → Marks items collected obj extent a → is_hit items collected obj extent a ≡ true
marks_hit items collected obj extent a m =
    and_from (in_extent obj extent a) (list_any (collects items a) collected)
    (and_from (a.obj == obj) (nat_le (16 * extent) a.block && nat_lt a.block (16 * extent + 16)) (eq-eqb a.obj obj m.within.object)
    (and_from (nat_le (16 * extent) a.block) (nat_lt a.block (16 * extent + 16)) (le-leb (16 * extent) a.block m.within.from) (lt-ltb a.block (16 * extent + 16) m.within.below)))
    (any_contains (collects items a) collected m.noted.entry m.noted.within
    (and_from (has_change m.noted.entry.txn items) (list_any (same_place a) m.noted.entry.places)
    (ap (λ n. has_change n items) m.noted.of ∙ m.change)
    (any_contains (same_place a) m.noted.entry.places a m.noted.noted (place_itself a))))

-- a unit with the marks of a worklink
abbrev pub touched_unit : List Item → List Collected → (obj extent : ℕ) → ColumnUnit → ColumnUnit
touched_unit items collected obj extent u = record u { marked = λ a. u.marked a || is_hit items collected obj extent a; all = u.all || has_coarse items }

abbrev pub touched_one : List Item → List Collected → (obj extent : ℕ) → Option ColumnUnit → Option ColumnUnit
touched_one items collected obj extent None = None
touched_one items collected obj extent (Some u) = cond (has_drop obj items) None (Some (touched_unit items collected obj extent u))

unit_marked : (items : List Item) (collected : List Collected) (obj extent : ℕ) (u : ColumnUnit) → IsMarked items collected obj extent u (touched_unit items collected obj extent u)
unit_marked items collected obj extent u = record {
  same = refl;
  all = refl;
  kept = λ a h. ap (λ b. b || is_hit items collected obj extent a) h;
  gained = λ a m. either_true (u.marked a) (is_hit items collected obj extent a) (marks_hit items collected obj extent a m);
  only = λ a h. by_test a (is_true (u.marked a)) h;
}
  where
    either_true : (b d : Bool) → d ≡ true → (b || d) ≡ true
    either_true true d h = refl
    either_true false d h = h

    by_test : (a : Place) → (u.marked a ≡ true) ⊎ (u.marked a ≡ false) → (u.marked a || is_hit items collected obj extent a) ≡ true → (u.marked a ≡ true) ⊎ Marks items collected obj extent a
    by_test a (inl k) h = inl k
    by_test a (inr k) h = inr (hit_marks items collected obj extent a (sym (ap (λ b. b || is_hit items collected obj extent a) k) ∙ h))

one_touched : (items : List Item) (collected : List Collected) (obj extent : ℕ) (o : Option ColumnUnit) → IsTouched items collected obj extent o (touched_one items collected obj extent o)
one_touched items collected obj extent None = refl
one_touched items collected obj extent (Some u) = by_test (has_drop obj items) refl
  where
    by_test : (b : Bool) → has_drop obj items ≡ b → IsTouched items collected obj extent (Some u) (cond b None (Some (touched_unit items collected obj extent u)))
    by_test true e = inl (e, refl)
    by_test false e = inr (record { kept = e; unit = touched_unit items collected obj extent u; stands = refl; marked = unit_marked items collected obj extent u })

abbrev pub touched_units : List Item → List Collected → (shard : ℕ) → Units → Units
touched_units items collected shard units = λ obj extent. cond (shard_of_unit obj extent == shard) (touched_one items collected obj extent (units obj extent)) (units obj extent)

pub possible_touch : (c : CoreState) (actor : ℕ) → CanTouch c actor → (new : CoreState) × Touches c actor new
possible_touch c actor can = (
  _,
  record {
    number = can.number;
    link = can.link;
    cursor = can.cursor;
    collected = can.collected;
    has = can.has;
    shard = can.cursor - length c.workers;
    at = let l : length c.workers ≤ can.cursor = can.from in omega arith;
    is_shard = let l : length c.workers ≤ can.cursor = can.from in let k : can.cursor < length c.workers + 32 = can.below in omega arith;
    units = touched_units can.link.items can.collected (can.cursor - length c.workers) c.units;
    touched = touched;
    others = others;
    effect = refl;
  },
)
  where
    touched : (obj extent : ℕ) → shard_of_unit obj extent ≡ can.cursor - length c.workers
        → IsTouched can.link.items can.collected obj extent (c.units obj extent) (touched_units can.link.items can.collected (can.cursor - length c.workers) c.units obj extent)
    touched obj extent e =
        subst (λ b. IsTouched can.link.items can.collected obj extent (c.units obj extent) (cond b (touched_one can.link.items can.collected obj extent (c.units obj extent)) (c.units obj extent)))
        (sym (eq-eqb (shard_of_unit obj extent) (can.cursor - length c.workers) e)) (one_touched can.link.items can.collected obj extent (c.units obj extent))

    others : (obj extent : ℕ) → (shard_of_unit obj extent ≡ can.cursor - length c.workers → ⊥) → touched_units can.link.items can.collected (can.cursor - length c.workers) c.units obj extent ≡ c.units obj extent
    others obj extent d = by_test (shard_of_unit obj extent == (can.cursor - length c.workers)) refl
      where
        by_test : (b : Bool) → (shard_of_unit obj extent == (can.cursor - length c.workers)) ≡ b → cond b (touched_one can.link.items can.collected obj extent (c.units obj extent)) (c.units obj extent) ≡ c.units obj extent
        by_test false e = refl
        by_test true e = absurd (d (eqb-true (shard_of_unit obj extent) (can.cursor - length c.workers) e))

pub possible_finish : (c : CoreState) (actor : ℕ) → CanFinish c actor → (new : CoreState) × Finishes c actor new
possible_finish c actor can = (_, record { number = can.number; link = can.link; cursor = can.cursor; collected = can.collected; has = can.has; end = can.end; effect = refl })

pub possible_publish : (c : CoreState) → CanPublish c → (new : CoreState) × Publishes c new
possible_publish c can = (_, record { through = can.through; flushing = can.flushing; done = can.done; effect = refl })
