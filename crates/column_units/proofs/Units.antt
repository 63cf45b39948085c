-- Units by their keys, before and after a change.
use Rattle.std.proofs.Common.{◌≡◌, ℕ, ◌==◌, Bool, true, false, not, cond, if◌then◌else◌, List, filter, Option, Some, None, IfSome, option_map, option_copied, Bor, refl, sym, ap, ap₂, subst, ◌∙◌, arith}
use Rattle.std.specs.Map.{lookup}
use Rattle.std.proofs.lemmas.Bool.Decides.{nat_tests}
use Rattle.std.proofs.lemmas.Map.Entries.{lookup-filter-keys}
use Rattle.adg_base.specs.Address.{Place}
use Rattle.adg_base.specs.Shard.{shard_of_unit}
use Rattle.column_codec.specs.Extent.{PlacedColumns, AreColumns}
use Rattle.column_units.specs.declared.unit.Unit.{Unit as ColumnUnit}
use Rattle.column_units.specs.Unit.{IsOf, IsNew, FitState, awaits, loaded, marked_whole, Marks}
use Rattle.column_units.specs.Shard.{Units, same_key, unit_at, Belongs, AllBelong, KeepsOthers, installed}

abbrev pub Entries : Type 0
Entries = List ((ℕ × ℕ) × ColumnUnit)

abbrev pub of_shard : ℕ → Entries → Units
of_shard n entries = record { number = n; entries = entries }

-- the unit at a key is another now
abbrev pub Sets : ℕ × ℕ → Entries → Entries → Option ColumnUnit → Type 0
Sets k old new unit = (q : ℕ × ℕ) → lookup (same_key q) new ≡ cond (same_key k q) unit (lookup (same_key q) old)

pub unit_set : (n o e : ℕ) (old new : Entries) (unit : Option ColumnUnit) → Sets (o, e) old new unit → unit_at (of_shard n new) o e ≡ unit
unit_set n o e old new unit sets =
    let here : same_key (o, e) (o, e) ≡ true = grind (arith, nat_tests) in
    sets (o, e) ∙ ap (λ b. cond b unit (lookup (same_key (o, e)) old)) here

pub others_stay : (n o e : ℕ) (old new : Entries) (unit : Option ColumnUnit) → Sets (o, e) old new unit → KeepsOthers o e (of_shard n old) (of_shard n new)
others_stay n o e old new unit sets = record {
  number = refl;
  others = λ o' e' h.
      let there : same_key (o, e) (o', e') ≡ false = grind (arith, nat_tests) in
      sets (o', e') ∙ ap (λ b. cond b unit (lookup (same_key (o', e')) old)) there;
}

pub all_belong : (n o e : ℕ) (old new : Entries) (unit : Option ColumnUnit) → AllBelong (of_shard n old) → Sets (o, e) old new unit → ((u : ColumnUnit) → unit ≡ Some u → Belongs n o e u) → AllBelong (of_shard n new)
all_belong n o e old new unit all sets belongs o' e' u is = by_key (same_key (o, e) (o', e')) refl
  where
    by_key : (b : Bool) → same_key (o, e) (o', e') ≡ b → Belongs n o' e' u
    by_key true h =
        let eo : o ≡ o' = grind (arith, nat_tests) in
        let ee : e ≡ e' = grind (arith, nat_tests) in
        let found : unit ≡ Some u = sym (sets (o', e') ∙ ap (λ b. cond b unit (lookup (same_key (o', e')) old)) h) ∙ is in
        subst (λ k. Belongs n k e' u) eo (subst (λ k. Belongs n o k u) ee (belongs u found))
    by_key false h = all o' e' u (sym (sets (o', e') ∙ ap (λ b. cond b unit (lookup (same_key (o', e')) old)) h) ∙ is)

some_is : {X : Type 0} (x y : X) → Some x ≡ Some y → x ≡ y
some_is x y e = cc

pub new_belongs : (n o e s t : ℕ) (unit : ColumnUnit) → shard_of_unit o e ≡ n → IsNew o e s t unit → (u : ColumnUnit) → Some unit ≡ Some u → Belongs n o e u
new_belongs n o e s t unit shard new u is =
    subst (Belongs n o e) (some_is unit u is) (record { shard = shard; of = record { object = new.object; number = new.number; columns = subst (FitState o e) (sym new.state) tt } })

pub loaded_belongs : (n o e t : ℕ) (columns : PlacedColumns) (unit : ColumnUnit) → AreColumns o e columns → Belongs n o e unit → (u : ColumnUnit) → installed t columns (Some unit) ≡ Some u → Belongs n o e u
loaded_belongs n o e t columns unit are belongs u is = by_ticket (awaits t unit) refl
  where
    by_ticket : (b : Bool) → awaits t unit ≡ b → Belongs n o e u
    by_ticket true h =
        subst (Belongs n o e) (some_is (loaded columns unit) u (sym (ap (λ b. if b then Some (loaded columns unit) else Some unit) h) ∙ is))
        (record { shard = belongs.shard; of = record { object = belongs.of.object; number = belongs.of.number; columns = are } })
    by_ticket false h = subst (Belongs n o e) (some_is unit u (sym (ap (λ b. if b then Some (loaded columns unit) else Some unit) h) ∙ is)) belongs

pub marked_belongs : (n o e : ℕ) (a : Place) (old new : ColumnUnit) → Belongs n o e old → Marks a old new → (u : ColumnUnit) → Some new ≡ Some u → Belongs n o e u
marked_belongs n o e a old new belongs m u is =
    subst (Belongs n o e) (some_is new u is)
    (record { shard = belongs.shard; of = record { object = m.object ∙ belongs.of.object; number = m.number ∙ belongs.of.number; columns = subst (FitState o e) (sym m.state) belongs.of.columns } })

-- a unit that was found is of its key
pub found_belongs : (n o e : ℕ) (entries : Entries) → AllBelong (of_shard n entries) → (r : Option (Bor ColumnUnit)) → option_copied r ≡ lookup (same_key (o, e)) entries → IfSome r (λ u. IsOf o e u.now)
found_belongs n o e entries all None is = tt
found_belongs n o e entries all (Some u) is = (all o e u.now (sym is)).of

-- each unit made of the old one at its key
pub each_belongs : (n : ℕ) (make : ℕ → Option ColumnUnit → Option ColumnUnit) (old new : Entries) → AllBelong (of_shard n old) → ((o e : ℕ) → unit_at (of_shard n new) o e ≡ make o (unit_at (of_shard n old) o e))
    → ((o e : ℕ) (w : Option ColumnUnit) (u : ColumnUnit) → ((v : ColumnUnit) → w ≡ Some v → Belongs n o e v) → make o w ≡ Some u → Belongs n o e u) → AllBelong (of_shard n new)
each_belongs n make old new all makes keeps o e u is = keeps o e (unit_at (of_shard n old) o e) u (all o e) (sym (makes o e) ∙ is)

pub whole_belongs : (n o e : ℕ) (w : Option ColumnUnit) (u : ColumnUnit) → ((v : ColumnUnit) → w ≡ Some v → Belongs n o e v) → option_map marked_whole w ≡ Some u → Belongs n o e u
whole_belongs n o e None u all is = absurd cc
whole_belongs n o e (Some v) u all is =
    let b = all v refl in
    subst (Belongs n o e) (some_is (marked_whole v) u is) (record { shard = b.shard; of = record { object = b.of.object; number = b.of.number; columns = b.of.columns } })

pub kept_belongs : (n obj o e : ℕ) (w : Option ColumnUnit) (u : ColumnUnit) → ((v : ColumnUnit) → w ≡ Some v → Belongs n o e v) → (if o == obj then None else w) ≡ Some u → Belongs n o e u
kept_belongs n obj o e w u all is = by_object (o == obj) refl
  where
    by_object : (b : Bool) → (o == obj) ≡ b → Belongs n o e u
    by_object true h = absurd (none_is_some (sym (ap (λ b. if b then None else w) h) ∙ is))
      where
        none_is_some : None ≡ Some u → ⊥
        none_is_some e = cc
    by_object false h = all u (sym (ap (λ b. if b then None else w) h) ∙ is)

-- the key as it was read
pub sets_at : (o e k d : ℕ) (old new : Entries) (unit : Option ColumnUnit) → k ≡ o → d ≡ e → Sets (k, d) old new unit → Sets (o, e) old new unit
sets_at o e k d old new unit ek ed sets = subst (λ x. Sets (x, e) old new unit) ek (subst (λ x. Sets (k, x) old new unit) ed sets)

pub found_at : (o e k d : ℕ) (entries : Entries) (unit : ColumnUnit) → k ≡ o → d ≡ e → Some unit ≡ lookup (same_key (k, d)) entries → lookup (same_key (o, e)) entries ≡ Some unit
found_at o e k d entries unit ek ed found = sym (found ∙ ap₂ (λ x y. lookup (same_key (x, y)) entries) ek ed)

-- a choice between two units
pub chosen_some : (b : Bool) (x y : ColumnUnit) → Some (if b then x else y) ≡ (if b then Some x else Some y)
chosen_some true x y = refl
chosen_some false x y = refl

-- what is left at a key where an object's units are dropped
pub lookup_others : (obj o e : ℕ) (entries : Entries) → lookup (same_key (o, e)) (filter (λ x. not (x.0.0 == obj)) entries) ≡ (if o == obj then None else lookup (same_key (o, e)) entries)
lookup_others obj o e entries =
    lookup-filter-keys (same_key (o, e)) (λ k. not (k.0 == obj)) (not (o == obj)) (λ k h. ap (λ n. not (n == obj)) (same_object k h)) entries ∙ turned (o == obj)
  where
    same_object : (k : ℕ × ℕ) → same_key (o, e) k ≡ true → k.0 ≡ o
    same_object k h = grind (arith, nat_tests)

    turned : (b : Bool) → cond (not b) (lookup (same_key (o, e)) entries) None ≡ (if b then None else lookup (same_key (o, e)) entries)
    turned true = refl
    turned false = refl
