-- Areas that hold the same, by membership and by transaction.
use Rattle.std.proofs.Common.{◌≡◌, ℕ, Bool, true, false, nat_eq, ◌&&◌, if◌then◌else◌, List, [], Option, Some, ◌⊎◌, inl, inr, refl, sym, ap, ◌∙◌, subst}
use Rattle.std.specs.List.{Contains, IsDistinct}
use Rattle.std.proofs.lemmas.Bool.{eqb-true, eq-eqb, and_parts, and_from}
use Rattle.adg_base.specs.Address.{Place}
use Rattle.adg_base.specs.Area.{Held, HoldsPlace, HoldsBegin}
use Rattle.adg_model.specs.declared.mined.Mined.{Mined}
use Rattle.adg_model.specs.declared.mined.Mined.TheVariants as mined
use Rattle.adg_journal.specs.Area.{held_of, places_in, begun_in, places_of, is_begun, Sets, HoldsSame, IsArea}
use Rattle.adg_journal.specs.Places.{with_place}
use Rattle.adg_journal.proofs.Membership.{place_is_held, begin_is_held, with_place_cases, with_place_keeps, with_place_has}
use Rattle.core_rules.specs.State.{holds_begin}
use Rattle.core_rules.specs.Applying.{AreaTakes}
use Rattle.core_rules.proofs.Lists.{any_contains, any_contains_back}
use Rattle.standby_core.specs.Held.{SameHeld}

-- an area that holds nothing
pub no_area : IsArea []
unfolding IsDistinct
no_area = record { once = tt; each = λ txn. tt }

pub nothing_held : SameHeld [] []
nothing_held = record { places = λ t a h. h; places_back = λ t a h. h; begins = λ t h. h; begins_back = λ t h. h }

-- where two areas hold the same by transaction they hold the same by membership
pub holds_same : (xs ys : List Held) → IsArea xs → IsArea ys → HoldsSame xs ys → SameHeld ys xs
holds_same xs ys is is' same = record {
  places = λ t a h. (place_is_held xs t a is).1 (subst (λ o. Contains (places_in o) a) (same t) ((place_is_held ys t a is').0 h));
  places_back = λ t a h. (place_is_held ys t a is').1 (subst (λ o. Contains (places_in o) a) (sym (same t)) ((place_is_held xs t a is).0 h));
  begins = λ t h. (begin_is_held xs t is).1 (sym (ap begun_in (same t)) ∙ (begin_is_held ys t is').0 h);
  begins_back = λ t h. (begin_is_held ys t is').1 (ap begun_in (same t) ∙ (begin_is_held xs t is).0 h);
}

pub same_held_trans : (xs ys zs : List Held) → SameHeld xs ys → SameHeld ys zs → SameHeld xs zs
same_held_trans xs ys zs h k = record {
  places = λ t a p. k.places t a (h.places t a p);
  places_back = λ t a p. h.places_back t a (k.places_back t a p);
  begins = λ t p. k.begins t (h.begins t p);
  begins_back = λ t p. h.begins_back t (k.begins_back t p);
}

-- two that held the same and take the same hold the same
pub takes_same : (what : Option Mined) (xs xs' ws ws' : List Held) → SameHeld xs ws → AreaTakes what xs xs' → AreaTakes what ws ws' → SameHeld xs' ws'
takes_same what xs xs' ws ws' s x w = record {
  places = λ t a h. by_place t a (x.places_only t a h);
  places_back = λ t a h. by_place_back t a (w.places_only t a h);
  begins = λ t h. by_begin t (x.begins_only t h);
  begins_back = λ t h. by_begin_back t (w.begins_only t h);
}
  where
    by_place : (t : ℕ) (a : Place) → HoldsPlace xs t a ⊎ (what ≡ Some (mined.Note t a)) → HoldsPlace ws' t a
    by_place t a (inl h) = w.places_kept t a (s.places t a h)
    by_place t a (inr e) = w.places_new t a e

    by_place_back : (t : ℕ) (a : Place) → HoldsPlace ws t a ⊎ (what ≡ Some (mined.Note t a)) → HoldsPlace xs' t a
    by_place_back t a (inl h) = x.places_kept t a (s.places_back t a h)
    by_place_back t a (inr e) = x.places_new t a e

    by_begin : (t : ℕ) → HoldsBegin xs t ⊎ (what ≡ Some (mined.Begin t)) → HoldsBegin ws' t
    by_begin t (inl h) = w.begins_kept t (s.begins t h)
    by_begin t (inr e) = w.begins_new t e

    by_begin_back : (t : ℕ) → HoldsBegin ws t ⊎ (what ≡ Some (mined.Begin t)) → HoldsBegin xs' t
    by_begin_back t (inl h) = x.begins_kept t (s.begins_back t h)
    by_begin_back t (inr e) = x.begins_new t e

-- an area that takes nothing stays
pub takes_nothing : (what : Option Mined) (area : List Held) → ((t : ℕ) (a : Place) → what ≡ Some (mined.Note t a) → ⊥) → ((t : ℕ) → what ≡ Some (mined.Begin t) → ⊥) → AreaTakes what area area
takes_nothing what area no_note no_begin = record {
  places_kept = λ t a h. h;
  places_new = λ t a h. absurd (no_note t a h);
  places_only = λ t a h. inl h;
  begins_kept = λ t h. h;
  begins_new = λ t h. absurd (no_begin t h);
  begins_only = λ t h. inl h;
}

-- the addresses and the mark of one transaction after it was set
set_places : (old new : List Held) (txn : ℕ) (held : Held) → Sets old new txn (Some held) → (t : ℕ) → ((t ≡ txn) × (places_of new t ≡ held.places)) ⊎ (places_of new t ≡ places_of old t)
set_places old new txn held sets t = by (nat_eq txn t) refl (sets t)
  where
    by : (b : Bool) → nat_eq txn t ≡ b → held_of new t ≡ (if b then Some held else held_of old t) → ((t ≡ txn) × (places_of new t ≡ held.places)) ⊎ (places_of new t ≡ places_of old t)
    by true k e = inl (sym (eqb-true txn t k), ap places_in e)
    by false k e = inr (ap places_in e)

set_begun : (old new : List Held) (txn : ℕ) (held : Held) → Sets old new txn (Some held) → (t : ℕ) → ((t ≡ txn) × (is_begun new t ≡ held.begun)) ⊎ (is_begun new t ≡ is_begun old t)
set_begun old new txn held sets t = by (nat_eq txn t) refl (sets t)
  where
    by : (b : Bool) → nat_eq txn t ≡ b → held_of new t ≡ (if b then Some held else held_of old t) → ((t ≡ txn) × (is_begun new t ≡ held.begun)) ⊎ (is_begun new t ≡ is_begun old t)
    by true k e = inl (sym (eqb-true txn t k), ap begun_in e)
    by false k e = inr (ap begun_in e)

set_there : (old new : List Held) (txn : ℕ) (held : Held) → Sets old new txn (Some held) → held_of new txn ≡ Some held
set_there old new txn held sets = subst (λ (b : Bool). held_of new txn ≡ (if b then Some held else held_of old txn)) (eq-eqb txn txn refl) (sets txn)

module _ (old new : List Held) (is : IsArea old) (is' : IsArea new) (txn : ℕ) where
  -- a beginning that is noted is taken
  pub takes_begin : Sets old new txn (Some (record { txn = txn; begun = true; places = places_of old txn })) → AreaTakes (Some (mined.Begin txn)) old new
  takes_begin sets = record {
    places_kept = λ t a h. (place_is_held new t a is').1 (subst (λ l. Contains l a) (sym (places t)) ((place_is_held old t a is).0 h));
    places_new = λ t a h. absurd cc;
    places_only = λ t a h. inl ((place_is_held old t a is).1 (subst (λ l. Contains l a) (places t) ((place_is_held new t a is').0 h)));
    begins_kept = λ t h. (begin_is_held new t is').1 (kept t (set_begun old new txn held sets t) ((begin_is_held old t is).0 h));
    begins_new = λ t h. let same : txn ≡ t = cc in (begin_is_held new t is').1 (subst (λ n. is_begun new n ≡ true) same (ap begun_in (set_there old new txn held sets)));
    begins_only = λ t h. only t (set_begun old new txn held sets t) ((begin_is_held new t is').0 h);
  }
    where
      held : Held
      held = record { txn = txn; begun = true; places = places_of old txn }

      places : (t : ℕ) → places_of new t ≡ places_of old t
      places t = by (set_places old new txn held sets t)
        where
          by : ((t ≡ txn) × (places_of new t ≡ places_of old txn)) ⊎ (places_of new t ≡ places_of old t) → places_of new t ≡ places_of old t
          by (inl h) = h.1 ∙ ap (places_of old) (sym h.0)
          by (inr h) = h

      kept : (t : ℕ) → ((t ≡ txn) × (is_begun new t ≡ true)) ⊎ (is_begun new t ≡ is_begun old t) → is_begun old t ≡ true → is_begun new t ≡ true
      kept t (inl h) k = h.1
      kept t (inr h) k = h ∙ k

      only : (t : ℕ) → ((t ≡ txn) × (is_begun new t ≡ true)) ⊎ (is_begun new t ≡ is_begun old t) → is_begun new t ≡ true → HoldsBegin old t ⊎ (Some (mined.Begin txn) ≡ Some (mined.Begin t))
      only t (inl h) k = inr (ap (λ n. Some (mined.Begin n)) (sym h.0))
      only t (inr h) k = inl ((begin_is_held old t is).1 (sym h ∙ k))

  -- and so is an address
  pub takes_note : (at : Place) → Sets old new txn (Some (record { txn = txn; begun = is_begun old txn; places = with_place at (places_of old txn) })) → AreaTakes (Some (mined.Note txn at)) old new
  takes_note at sets = record {
    places_kept = λ t a h. (place_is_held new t a is').1 (kept t a (set_places old new txn held sets t) ((place_is_held old t a is).0 h));
    places_new = λ t a h.
        let same : txn ≡ t = cc in
        let one : at ≡ a = cc in
        let there : Contains (places_of new txn) at = subst (λ l. Contains l at) (sym (ap places_in (set_there old new txn held sets))) (with_place_has at (places_of old txn)) in
        (place_is_held new t a is').1 (subst (λ n. Contains (places_of new n) a) same (subst (Contains (places_of new txn)) one there));
    places_only = λ t a h. only t a (set_places old new txn held sets t) ((place_is_held new t a is').0 h);
    begins_kept = λ t h. (begin_is_held new t is').1 (begun t ∙ (begin_is_held old t is).0 h);
    begins_new = λ t h. absurd cc;
    begins_only = λ t h. inl ((begin_is_held old t is).1 (sym (begun t) ∙ (begin_is_held new t is').0 h));
  }
    where
      held : Held
      held = record { txn = txn; begun = is_begun old txn; places = with_place at (places_of old txn) }

      begun : (t : ℕ) → is_begun new t ≡ is_begun old t
      begun t = by (set_begun old new txn held sets t)
        where
          by : ((t ≡ txn) × (is_begun new t ≡ is_begun old txn)) ⊎ (is_begun new t ≡ is_begun old t) → is_begun new t ≡ is_begun old t
          by (inl h) = h.1 ∙ ap (is_begun old) (sym h.0)
          by (inr h) = h

      kept : (t : ℕ) (a : Place) → ((t ≡ txn) × (places_of new t ≡ with_place at (places_of old txn))) ⊎ (places_of new t ≡ places_of old t) → Contains (places_of old t) a → Contains (places_of new t) a
      kept t a (inl h) k = subst (λ l. Contains l a) (sym h.1) (with_place_keeps at (places_of old txn) a (subst (λ n. Contains (places_of old n) a) h.0 k))
      kept t a (inr h) k = subst (λ l. Contains l a) (sym h) k

      one_more : (t : ℕ) (a : Place) → t ≡ txn → Contains (places_of old txn) a ⊎ (at ≡ a) → HoldsPlace old t a ⊎ (Some (mined.Note txn at) ≡ Some (mined.Note t a))
      one_more t a e (inl k) = inl ((place_is_held old t a is).1 (subst (λ n. Contains (places_of old n) a) (sym e) k))
      one_more t a e (inr k) = let same : txn ≡ t = sym e in inr (cc)

      only : (t : ℕ) (a : Place) → ((t ≡ txn) × (places_of new t ≡ with_place at (places_of old txn))) ⊎ (places_of new t ≡ places_of old t) → Contains (places_of new t) a
          → HoldsPlace old t a ⊎ (Some (mined.Note txn at) ≡ Some (mined.Note t a))
      only t a (inl h) k = one_more t a h.0 (with_place_cases at (places_of old txn) a (subst (λ l. Contains l a) h.1 k))
      only t a (inr h) k = inl ((place_is_held old t a is).1 (subst (λ l. Contains l a) h k))

-- the mark of an area by its test
begin_held : (area : List Held) (t : ℕ) → holds_begin area t ≡ true → HoldsBegin area t
begin_held area t h =
    let r = any_contains_back (λ (x : Held). nat_eq x.txn t && x.begun) area h in
    let p = and_parts (nat_eq r.0.txn t) r.0.begun r.2 in
    record { held = r.0; within = r.1; of = eqb-true r.0.txn t p.0; noted = p.1 }

held_begin : (area : List Held) (t : ℕ) → HoldsBegin area t → holds_begin area t ≡ true
held_begin area t h = any_contains (λ (x : Held). nat_eq x.txn t && x.begun) area h.held h.within (and_from (nat_eq h.held.txn t) h.held.begun (eq-eqb h.held.txn t h.of) h.noted)

same_tests : (a b : Bool) → (a ≡ true → b ≡ true) → (b ≡ true → a ≡ true) → a ≡ b
same_tests true b f g = sym (f refl)
same_tests false true f g = g refl
same_tests false false f g = refl

-- areas that hold the same have the same marks
pub begun_same : (xs ws : List Held) → IsArea xs → SameHeld xs ws → (t : ℕ) → is_begun xs t ≡ holds_begin ws t
begun_same xs ws is s t = same_tests (is_begun xs t) (holds_begin ws t)
    (λ h. held_begin ws t (s.begins t ((begin_is_held xs t is).1 h)))
    (λ h. (begin_is_held xs t is).0 (s.begins_back t (begin_held ws t h)))
