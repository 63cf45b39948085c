-- The units where the shard of units at one place is another one.
use Rattle.std.proofs.Common.{◌≡◌, ℕ, Bool, true, false, List, Option, ◌⊎◌, inl, inr, refl, sym, ap, ◌∙◌, subst}
use Rattle.std.specs.Prelude.{◌==◌, ◌&&◌, slice_get, slice_set}
use Rattle.std.proofs.lemmas.Bool.{eqb-true, eq-eqb, and_parts}
use Rattle.std.proofs.lemmas.List.{length-set}
use Rattle.adg_base.specs.Shard.{shard_of_unit}
use Rattle.column_units.specs.Shard.{unit_at, KeepsOthers, KeepsAll}
use Rattle.column_units.specs.Shard as own
use Rattle.core_rules.specs.Populations.{with_unit}
use Rattle.core_rules.specs.State.{ColumnUnit, Units, At}
use Rattle.core_rules.proofs.Lists.{at_within, at_set_same, at_set_other, at_set_cases, not_both}
use Rattle.standby_core.specs.Parts.{ShowsAny, ShowsUnits, unit_in, unit_in_shard}

-- two numbers are one or not
same_or_not : (m n : ℕ) → (m ≡ n) ⊎ (m ≡ n → ⊥)
same_or_not m n = by_test (m == n) refl
  where
    by_test : (b : Bool) → (m == n) ≡ b → (m ≡ n) ⊎ (m ≡ n → ⊥)
    by_test true h = inl (eqb-true m n h)
    by_test false h = inr (λ e. not_both (m == n) (eq-eqb m n e) h)

module _ (old : List own.Units) (n : ℕ) (was now : own.Units) (found : At old n was) where
  -- what stands in the shard that was set, and in another one
  unit_set : (o e : ℕ) → shard_of_unit o e ≡ n → unit_in (slice_set old n now) o e ≡ unit_at now o e
  unit_set o e k = ap (λ s. unit_in_shard s o e) (ap (slice_get (slice_set old n now)) k ∙ at_set_same old n now (at_within old n was found))

  unit_was : (o e : ℕ) → shard_of_unit o e ≡ n → unit_in old o e ≡ unit_at was o e
  unit_was o e k = ap (λ s. unit_in_shard s o e) (ap (slice_get old) k ∙ found)

  unit_apart : (o e : ℕ) → (shard_of_unit o e ≡ n → ⊥) → unit_in (slice_set old n now) o e ≡ unit_in old o e
  unit_apart o e k = ap (λ s. unit_in_shard s o e) (at_set_other old n (shard_of_unit o e) now k)

  -- a unit that the shard keeps
  unit_kept : (o e : ℕ) → unit_at now o e ≡ unit_at was o e → unit_in (slice_set old n now) o e ≡ unit_in old o e
  unit_kept o e k = by_shard (same_or_not (shard_of_unit o e) n)
    where
      by_shard : (shard_of_unit o e ≡ n) ⊎ (shard_of_unit o e ≡ n → ⊥) → unit_in (slice_set old n now) o e ≡ unit_in old o e
      by_shard (inl here) = unit_set o e here ∙ k ∙ sym (unit_was o e here)
      by_shard (inr apart) = unit_apart o e apart

  numbers_kept : ((m : ℕ) (s : own.Units) → At old m s → s.number ≡ m) → now.number ≡ was.number → (m : ℕ) (s : own.Units) → At (slice_set old n now) m s → s.number ≡ m
  numbers_kept h same m s at = by_place (at_set_cases old n m s now at)
    where
      by_place : ((m ≡ n) × (s ≡ now)) ⊎ ((m ≡ n → ⊥) × At old m s) → s.number ≡ m
      by_place (inl p) = ap (λ (x : own.Units). x.number) p.1 ∙ same ∙ h n was found ∙ sym p.0
      by_place (inr p) = h m s p.1

  -- nothing is another one
  pub shows_kept : (units : Units) → ShowsUnits old units → KeepsAll was now → ShowsUnits (slice_set old n now) units
  shows_kept units h k = record {
    count = length-set old n now ∙ h.count;
    numbers = numbers_kept h.numbers k.number;
    each = λ o e. subst (λ x. ShowsAny x (units o e)) (sym (unit_kept o e (k.units o e))) (h.each o e);
  }

  -- one unit is another one
  pub shows_set : (units : Units) (obj extent : ℕ) (unit : Option ColumnUnit) → ShowsUnits old units → shard_of_unit obj extent ≡ n → KeepsOthers obj extent was now → ShowsAny (unit_at now obj extent) unit
      → ShowsUnits (slice_set old n now) (with_unit obj extent unit units)
  shows_set units obj extent unit h place k shown = record {
    count = length-set old n now ∙ h.count;
    numbers = numbers_kept h.numbers k.number;
    each = λ o e. by_key o e ((o == obj) && (e == extent)) refl;
  }
    where
      by_key : (o e : ℕ) (b : Bool) → ((o == obj) && (e == extent)) ≡ b → ShowsAny (unit_in (slice_set old n now) o e) (with_unit obj extent unit units o e)
      by_key o e true t =
          let parts = and_parts (o == obj) (e == extent) t in
          let objects : o ≡ obj = eqb-true o obj parts.0 in
          let extents : e ≡ extent = eqb-true e extent parts.1 in
          let here : shard_of_unit o e ≡ n = ap (λ x. shard_of_unit x e) objects ∙ ap (shard_of_unit obj) extents ∙ place in
          rw (t, unit_set o e here, objects, extents) shown
      by_key o e false t = rw (t, unit_kept o e (k.others o e t)) (h.each o e)
