-- Units of a shard that gain marks.
use Rattle.std.proofs.Common.{◌≡◌, ℕ, ◌+◌, ◌/◌, ◌<◌, Bool, true, false, ◌==◌, ◌&&◌, ◌||◌, if◌then◌else◌, List, [], ◌∷◌, ◌++◌, length, take, get_or, Option, Some, None, option_map, ◌⊎◌, inl, inr, refl, sym, ap, ◌∙◌, subst, arith}
use Rattle.std.specs.List.{Contains}
use Rattle.std.proofs.lemmas.Bool.{eqb-true, eq-eqb, and_parts, and_from, or_right}
use Rattle.std.proofs.lemmas.Cmp.{nat_eq_equiv}
use Rattle.std.proofs.lemmas.List.{take_more}
use Rattle.std.proofs.lemmas.List.Elements.{Contains-append_left, Contains-push, Contains-push_cases}
use Rattle.adg_base.specs.Address.{Place, same_place}
use Rattle.adg_base.specs.declared.node.Item.{Item}
use Rattle.adg_base.specs.declared.node.Item.TheVariants as item
use Rattle.worklinks.specs.declared.collected.Collected.{Collected as Gathered}
use Rattle.column_units.specs.declared.unit.Unit.{Unit as OwnUnit}
use Rattle.column_units.specs.Unit.{is_marked, marked_whole}
use Rattle.column_units.specs.Shard.{Units, unit_at, KeepsOthers, MakesEach, MarksIn}
use Rattle.dictionary.proofs.Chains.{same_place_true, same_place_refl}
use Rattle.core_rules.specs.State.{has_coarse, has_drop, is_drop_of}
use Rattle.core_rules.proofs.Lists.{is_true, not_both}
use Rattle.standby_core.specs.Touching.{IsOfExtent, GainsAny, MarksUnits, IsInShard, IsListed, TouchesAny, TouchesUnits}
use Rattle.standby_core.proofs.Gathering.{any_more}

or_none : (b : Bool) → b ≡ (b || false)
or_none true = refl
or_none false = refl

or_more : (a b d : Bool) → ((a || b) || d) ≡ (a || (b || d))
or_more true b d = refl
or_more false b d = refl

-- nothing is marked in an extent
gains_none : (P : Place → Type 0) (o e : ℕ) (u : Option OwnUnit) → ((a : Place) → P a → IsOfExtent o e a → ⊥) → GainsAny P false o e u u
gains_none P o e None never = refl
gains_none P o e (Some u) never = record {
  snapshot = refl;
  ticket = refl;
  state = refl;
  all = or_none u.all;
  kept = λ a h. h;
  gained = λ a p w. absurd (never a p w);
  only = λ a h. inl h;
}

pub marks_none : (P : Place → Type 0) (s : Units) → ((a : Place) → P a → ⊥) → MarksUnits P false s s
marks_none P s never = record { number = refl; units = λ o e. gains_none P o e (unit_at s o e) (λ a p w. never a p) }

-- one address is marked
gains_one : (a : Place) (u v : Option OwnUnit) → MarksIn a u v → GainsAny (λ b. a ≡ b) false a.obj (a.block / 16) u v
gains_one a None v h = h
gains_one a (Some u) None h = h
gains_one a (Some u) (Some v) m = record {
  snapshot = m.snapshot;
  ticket = m.ticket;
  state = m.state;
  all = m.all ∙ or_none u.all;
  kept = λ b k. m.marked b ∙ ap (λ x. x || same_place b a) k;
  gained = λ b e w. m.marked b ∙ or_right (is_marked u b) (same_place b a) (subst (λ z. same_place z a ≡ true) e (same_place_refl a));
  only = λ b k. only b (is_true (is_marked u b)) k;
}
  where
    here : (b : Place) → a ≡ b → IsOfExtent a.obj (a.block / 16) b
    here b e = record { object = ap (λ (z : Place). z.obj) (sym e); extent_is = ap (λ (z : Place). z.block / 16) (sym e) }

    only : (b : Place) → (is_marked u b ≡ true) ⊎ (is_marked u b ≡ false) → is_marked v b ≡ true → (is_marked u b ≡ true) ⊎ ((a ≡ b) × IsOfExtent a.obj (a.block / 16) b)
    only b (inl y) k = inl y
    only b (inr n) k =
        let t : same_place b a ≡ true = sym (ap (λ x. x || same_place b a) n) ∙ sym (m.marked b) ∙ k in
        let e : a ≡ b = sym (same_place_true b a t) in
        inr (e, here b e)

pub marks_one : (a : Place) (old new : Units) → MarksIn a (unit_at old a.obj (a.block / 16)) (unit_at new a.obj (a.block / 16)) → KeepsOthers a.obj (a.block / 16) old new → MarksUnits (λ b. a ≡ b) false old new
marks_one a old new m k = record { number = k.number; units = λ o e. by o e ((o == a.obj) && (e == (a.block / 16))) refl }
  where
    by : (o e : ℕ) (t : Bool) → ((o == a.obj) && (e == (a.block / 16))) ≡ t → GainsAny (λ b. a ≡ b) false o e (unit_at old o e) (unit_at new o e)
    by o e true t =
        let p = and_parts (o == a.obj) (e == (a.block / 16)) t in
        let F : ℕ → ℕ → Type 0 = λ x y. GainsAny (λ b. a ≡ b) false x y (unit_at old x y) (unit_at new x y) in
        subst (λ x. F x e) (sym (eqb-true o a.obj p.0)) (subst (F a.obj) (sym (eqb-true e (a.block / 16) p.1)) (gains_one a (unit_at old a.obj (a.block / 16)) (unit_at new a.obj (a.block / 16)) m))
    by o e false t =
        subst (GainsAny (λ b. a ≡ b) false o e (unit_at old o e)) (sym (k.others o e t))
        (gains_none (λ b. a ≡ b) o e (unit_at old o e) (λ b p w.
        let x : o ≡ a.obj = sym w.object ∙ ap (λ (z : Place). z.obj) (sym p) in
        let y : e ≡ a.block / 16 = sym w.extent_is ∙ ap (λ (z : Place). z.block / 16) (sym p) in
        not_both ((o == a.obj) && (e == (a.block / 16))) (and_from (o == a.obj) (e == (a.block / 16)) (eq-eqb o a.obj x) (eq-eqb e (a.block / 16) y)) t))

-- marks gained one after another
gains_both : (P Q : Place → Type 0) (x y : Bool) (o e : ℕ) (u v w : Option OwnUnit) → GainsAny P x o e u v → GainsAny Q y o e v w → GainsAny (λ a. P a ⊎ Q a) (x || y) o e u w
gains_both P Q x y o e None v w h k = subst (λ z. GainsAny Q y o e z w) h k
gains_both P Q x y o e (Some u) None w h k = absurd h
gains_both P Q x y o e (Some u) (Some v) None h k = k
gains_both P Q x y o e (Some u) (Some v) (Some w) h k = record {
  snapshot = k.snapshot ∙ h.snapshot;
  ticket = k.ticket ∙ h.ticket;
  state = k.state ∙ h.state;
  all = k.all ∙ ap (λ b. b || y) h.all ∙ or_more u.all x y;
  kept = λ a m. k.kept a (h.kept a m);
  gained = λ a p i. gained a p i;
  only = λ a m. only a (k.only a m);
}
  where
    gained : (a : Place) → P a ⊎ Q a → IsOfExtent o e a → is_marked w a ≡ true
    gained a (inl p) i = k.kept a (h.gained a p i)
    gained a (inr q) i = k.gained a q i

    first : (a : Place) → (is_marked u a ≡ true) ⊎ (P a × IsOfExtent o e a) → (is_marked u a ≡ true) ⊎ ((P a ⊎ Q a) × IsOfExtent o e a)
    first a (inl m) = inl m
    first a (inr p) = inr (inl p.0, p.1)

    only : (a : Place) → (is_marked v a ≡ true) ⊎ (Q a × IsOfExtent o e a) → (is_marked u a ≡ true) ⊎ ((P a ⊎ Q a) × IsOfExtent o e a)
    only a (inl m) = first a (h.only a m)
    only a (inr q) = inr (inr q.0, q.1)

gains_same : (P Q : Place → Type 0) (x : Bool) (o e : ℕ) (u v : Option OwnUnit) → ((a : Place) → P a → Q a) → ((a : Place) → Q a → P a) → GainsAny P x o e u v → GainsAny Q x o e u v
gains_same P Q x o e None v f g h = h
gains_same P Q x o e (Some u) None f g h = h
gains_same P Q x o e (Some u) (Some v) f g h = record {
  snapshot = h.snapshot;
  ticket = h.ticket;
  state = h.state;
  all = h.all;
  kept = h.kept;
  gained = λ a q i. h.gained a (g a q) i;
  only = λ a m. only a (h.only a m);
}
  where
    only : (a : Place) → (is_marked u a ≡ true) ⊎ (P a × IsOfExtent o e a) → (is_marked u a ≡ true) ⊎ (Q a × IsOfExtent o e a)
    only a (inl m) = inl m
    only a (inr p) = inr (f a p.0, p.1)

pub marks_both : (P Q R : Place → Type 0) (x y : Bool) (s0 s1 s2 : Units) → MarksUnits P x s0 s1 → MarksUnits Q y s1 s2 → ((a : Place) → P a ⊎ Q a → R a) → ((a : Place) → R a → P a ⊎ Q a) → MarksUnits R (x || y) s0 s2
marks_both P Q R x y s0 s1 s2 h k f g = record {
  number = k.number ∙ h.number;
  units = λ o e. gains_same (λ a. P a ⊎ Q a) R (x || y) o e (unit_at s0 o e) (unit_at s2 o e) f g
      (gains_both P Q x y o e (unit_at s0 o e) (unit_at s1 o e) (unit_at s2 o e) (h.units o e) (k.units o e));
}

pub marks_same : (P Q : Place → Type 0) (x : Bool) (s t : Units) → ((a : Place) → P a → Q a) → ((a : Place) → Q a → P a) → MarksUnits P x s t → MarksUnits Q x s t
marks_same P Q x s t f g h = record { number = h.number; units = λ o e. gains_same P Q x o e (unit_at s o e) (unit_at t o e) f g (h.units o e) }

-- what the first so many elements and one more contain
more_back : {X : Type 0} (xs : List X) (i : ℕ) (x y : X) → i < length xs → x ≡ get_or xs i x → Contains (take (i + 1) xs) y → Contains (take i xs) y ⊎ (x ≡ y)
more_back xs i x y within is c =
    Contains-push_cases (take i xs) x y (subst (λ l. Contains l y) (take_more xs i x within ∙ ap (λ z. take i xs ++ z ∷ []) (sym is)) c)

more_there : {X : Type 0} (xs : List X) (i : ℕ) (x y : X) → i < length xs → x ≡ get_or xs i x → Contains (take i xs) y ⊎ (x ≡ y) → Contains (take (i + 1) xs) y
more_there xs i x y within is (inl c) = subst (λ l. Contains l y) (ap (λ z. take i xs ++ z ∷ []) is ∙ sym (take_more xs i x within)) (Contains-append_left (take i xs) (x ∷ []) y c)
more_there xs i x y within is (inr e) =
    subst (λ l. Contains l y) (ap (λ z. take i xs ++ z ∷ []) is ∙ sym (take_more xs i x within)) (subst (Contains (take i xs ++ x ∷ [])) e (Contains-push (take i xs) x))

pub contains_none : {X : Type 0} (x : X) → Contains [] x → ⊥
contains_none x c = absurd (omega (arith, c.1))

-- one address more
pub marks_more : (addrs : List Place) (i : ℕ) (a : Place) (s0 s1 s2 : Units) → i < length addrs → a ≡ get_or addrs i a → MarksUnits (Contains (take i addrs)) false s0 s1
    → MarksIn a (unit_at s1 a.obj (a.block / 16)) (unit_at s2 a.obj (a.block / 16)) → KeepsOthers a.obj (a.block / 16) s1 s2 → MarksUnits (Contains (take (i + 1) addrs)) false s0 s2
marks_more addrs i a s0 s1 s2 within is h m k =
    marks_both (Contains (take i addrs)) (λ b. a ≡ b) (Contains (take (i + 1) addrs)) false false s0 s1 s2 h (marks_one a s1 s2 m k)
    (λ b. more_there addrs i a b within is) (λ b. more_back addrs i a b within is)

-- one list more
pub lists_more : (lists : List Gathered) (i shard : ℕ) (list : Gathered) (s0 s1 s2 : Units) → i < length lists → list ≡ get_or lists i list → MarksUnits (IsListed (take i lists) shard) false s0 s1
    → MarksUnits (IsInShard list.addrs shard) false s1 s2 → MarksUnits (IsListed (take (i + 1) lists) shard) false s0 s2
lists_more lists i shard list s0 s1 s2 within is h k =
    marks_both (IsListed (take i lists) shard) (IsInShard list.addrs shard) (IsListed (take (i + 1) lists) shard) false false s0 s1 s2 h k there back
  where
    there : (a : Place) → IsListed (take i lists) shard a ⊎ IsInShard list.addrs shard a → IsListed (take (i + 1) lists) shard a
    there a (inl x) = record { list = x.list; within = more_there lists i list x.list within is (inl x.within); there = x.there }
    there a (inr x) = record { list = list; within = more_there lists i list list within is (inr refl); there = x }

    back : (a : Place) → IsListed (take (i + 1) lists) shard a → IsListed (take i lists) shard a ⊎ IsInShard list.addrs shard a
    back a x = by (more_back lists i list x.list within is x.within)
      where
        by : Contains (take i lists) x.list ⊎ (list ≡ x.list) → IsListed (take i lists) shard a ⊎ IsInShard list.addrs shard a
        by (inl c) = inl (record { list = x.list; within = c; there = x.there })
        by (inr e) = inr (subst (λ (l : Gathered). IsInShard l.addrs shard a) (sym e) x.there)

pub listed_none : (shard : ℕ) (a : Place) → IsListed [] shard a → ⊥
listed_none shard a x = contains_none x.list x.within

-- all are marked wholly
gains_whole : (o e : ℕ) (u : Option OwnUnit) → GainsAny (λ a. ⊥) true o e u (option_map marked_whole u)
gains_whole o e None = refl
gains_whole o e (Some u) = record {
  snapshot = refl;
  ticket = refl;
  state = refl;
  all = whole u.all;
  kept = λ a h. h;
  gained = λ a p w. absurd p;
  only = λ a h. inl h;
}
  where
    whole : (b : Bool) → true ≡ (b || true)
    whole true = refl
    whole false = refl

pub marks_whole : (s t : Units) → MakesEach (λ o unit. option_map marked_whole unit) s t → MarksUnits (λ a. ⊥) true s t
marks_whole s t h = record {
  number = h.number;
  units = λ o e. subst (GainsAny (λ a. ⊥) true o e (unit_at s o e)) (sym (h.units o e)) (gains_whole o e (unit_at s o e));
}

-- objects are dropped
either_dropped : (b d : Bool) (u : Option OwnUnit) → (if d then None else (if b then None else u)) ≡ (if b || d then None else u)
either_dropped true true u = refl
either_dropped true false u = refl
either_dropped false true u = refl
either_dropped false false u = refl

pub drops_none : (s : Units) → MakesEach (λ o unit. if false then None else unit) s s
drops_none s = record { number = refl; units = λ o e. refl }

pub drops_one : (obj : ℕ) (s t : Units) → MakesEach (λ o unit. if o == obj then None else unit) s t → MakesEach (λ o unit. if is_drop_of o (item.DropObject obj) then None else unit) s t
drops_one obj s t h = record { number = h.number; units = λ o e. h.units o e ∙ ap (λ (b : Bool). if b then None else unit_at s o e) (nat_eq_equiv.symm o obj) }

pub drops_more : (items : List Item) (i : ℕ) (x : Item) (s0 s1 s2 : Units) → i < length items → x ≡ get_or items i x → MakesEach (λ o unit. if has_drop o (take i items) then None else unit) s0 s1
    → MakesEach (λ o unit. if is_drop_of o x then None else unit) s1 s2 → MakesEach (λ o unit. if has_drop o (take (i + 1) items) then None else unit) s0 s2
drops_more items i x s0 s1 s2 within is h k = record {
  number = k.number ∙ h.number;
  units = λ o e.
      k.units o e ∙ ap (λ (u : Option OwnUnit). if is_drop_of o x then None else u) (h.units o e) ∙ either_dropped (has_drop o (take i items)) (is_drop_of o x) (unit_at s0 o e)
      ∙ ap (λ (b : Bool). if b then None else unit_at s0 o e) (sym (any_more (is_drop_of o) items i x within is));
}

-- marked, and then dropped
touches_any : (items : List Item) (P : Place → Type 0) (o e : ℕ) (u v : Option OwnUnit) (b : Bool) → has_drop o items ≡ b → GainsAny P (has_coarse items) o e u v → TouchesAny items P o e u (if b then None else v)
touches_any items P o e None v true d h = refl
touches_any items P o e None v false d h = h
touches_any items P o e (Some u) v true d h = inl (d, refl)
touches_any items P o e (Some u) None false d h = absurd h
touches_any items P o e (Some u) (Some v) false d h = inr (record { kept = d; unit = v; stands = refl; marks = h })

pub touches_units : (items : List Item) (lists : List Gathered) (s0 s1 s2 s3 : Units) → MarksUnits (IsListed lists s0.number) false s0 s1 → MarksUnits (λ a. ⊥) (has_coarse items) s1 s2
    → MakesEach (λ o unit. if has_drop o items then None else unit) s2 s3 → TouchesUnits items lists s0 s3
touches_units items lists s0 s1 s2 s3 h k d = record {
  number = d.number ∙ k.number ∙ h.number;
  units = λ o e.
      subst (TouchesAny items (IsListed lists s0.number) o e (unit_at s0 o e)) (sym (d.units o e))
      (touches_any items (IsListed lists s0.number) o e (unit_at s0 o e) (unit_at s2 o e) (has_drop o items) refl (marked.units o e));
}
  where
    there : (a : Place) → IsListed lists s0.number a ⊎ ⊥ → IsListed lists s0.number a
    there a (inl x) = x
    there a (inr x) = absurd x

    marked : MarksUnits (IsListed lists s0.number) (has_coarse items) s0 s2
    marked = marks_both (IsListed lists s0.number) (λ a. ⊥) (IsListed lists s0.number) false (has_coarse items) s0 s1 s2 h k there (λ a x. inl x)
