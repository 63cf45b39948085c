-- How a population goes on with its units, where nobody disturbs it.
use Rattle.std.proofs.Common.{◌≡◌, ℕ, ◌+◌, ◌<◌, ◌≤◌, Bool, true, false, cond, List, [], Option, Some, None, ◌⊎◌, inl, inr, refl, sym, ap, ◌∙◌, subst, arith, true≢false}
use Rattle.std.specs.Prelude.{◌==◌, is_some, is_none}
use Rattle.std.proofs.lemmas.Bool.{eq-eqb, ne_eqb, ltb-false, and_from, and_right, cases_eq}
use Rattle.adg_base.specs.declared.placed.PlacedRow.{PlacedRow}
use Rattle.core_rules.specs.State.{ColumnUnit, Units, Population}
use Rattle.core_rules.specs.Populations.{loading, with_unit, awaits, filled, units_installed, installed_then}
use Rattle.turn_rules.proofs.Use.{IsOwnUnit, IsBuilding, BuildingGoesOn, BuildingEnds}

-- one unit set
pub unit_here : (obj extent : ℕ) (unit : Option ColumnUnit) (units : Units) → with_unit obj extent unit units obj extent ≡ unit
unit_here obj extent unit units = ap (λ b. cond b unit (units obj extent)) (and_from (obj == obj) (extent == extent) (eq-eqb obj obj refl) (eq-eqb extent extent refl))

pub unit_there : (obj extent : ℕ) (unit : Option ColumnUnit) (units : Units) (e : ℕ) → (e ≡ extent → ⊥) → with_unit obj extent unit units obj e ≡ units obj e
unit_there obj extent unit units e d = ap (λ b. cond b unit (units obj e)) (and_right (obj == obj) (e == extent) (ne_eqb e extent d))

-- the unit of an extent
abbrev pub HasOwn : Units → Population → (extent : ℕ) → Bool → Type 0
HasOwn units p extent full = (u : ColumnUnit) × (units p.obj extent ≡ Some u) × IsOwnUnit p full u

own_again : (units : Units) (p q : Population) (extent : ℕ) (full : Bool) → q.obj ≡ p.obj → q.snapshot ≡ p.snapshot → q.ticket ≡ p.ticket → HasOwn units p extent full → HasOwn units q extent full
own_again units p q extent full o s t h =
    (h.0, ap (λ k. units k extent) o ∙ h.1, record { snapshot = h.2.snapshot ∙ sym s; ticket = h.2.ticket ∙ sym t; columns = h.2.columns })

own_elsewhere : (units : Units) (p : Population) (place extent : ℕ) (unit : Option ColumnUnit) (full : Bool) → (extent ≡ place → ⊥) → HasOwn units p extent full → HasOwn (with_unit p.obj place unit units) p extent full
own_elsewhere units p place extent unit full d h = (h.0, unit_there p.obj place unit units extent d ∙ h.1, h.2)

registers : (units : Units) (p : Population) → IsBuilding units p → p.holds ≡ true → p.registered < p.table.extents
    → IsBuilding (with_unit p.obj p.registered (Some (loading p)) units) (record p { registered = p.registered + 1 })
registers units p b h l = record {
  ended = λ extent k. let none : p.extent ≡ 0 = b.holding h in absurd (omega arith);
  waiting = λ extent k m. waiting extent k m (cases_eq extent p.registered);
  installed = b.installed;
  holding = b.holding;
  released = λ f. absurd (true≢false (sym h ∙ f));
}
  where
    waiting : (extent : ℕ) → p.extent ≤ extent → extent < p.registered + 1 → (extent ≡ p.registered) ⊎ (extent ≡ p.registered → ⊥)
        → HasOwn (with_unit p.obj p.registered (Some (loading p)) units) (record p { registered = p.registered + 1 }) extent false
    waiting extent k m (inl e) =
        (loading p, ap (with_unit p.obj p.registered (Some (loading p)) units p.obj) e ∙ unit_here p.obj p.registered (Some (loading p)) units, record { snapshot = refl; ticket = refl; columns = refl })
    waiting extent k m (inr d) =
        own_again (with_unit p.obj p.registered (Some (loading p)) units) p (record p { registered = p.registered + 1 }) extent false refl refl refl
        (own_elsewhere units p p.registered extent (Some (loading p)) false d (b.waiting extent k (omega (arith, m, d))))

releases : (units : Units) (p : Population) → IsBuilding units p → p.table.extents ≤ p.registered → IsBuilding units (record p { holds = false })
releases units p b l = record {
  ended = λ extent k. own_again units p (record p { holds = false }) extent true refl refl refl (b.ended extent k);
  waiting = λ extent k m. own_again units p (record p { holds = false }) extent false refl refl refl (b.waiting extent k m);
  installed = b.installed;
  holding = λ t. absurd (true≢false (sym t));
  released = λ f. l;
}

-- the unit of the extent at hand waits for its columns
pub at_hand_waits : (units : Units) (p : Population) → IsBuilding units p → p.holds ≡ false → p.extent < p.table.extents → HasOwn units p p.extent false
at_hand_waits units p b h l = let all : p.table.extents ≤ p.registered = b.released h in b.waiting p.extent (omega arith) (omega arith)

pub it_awaits : (units : Units) (p : Population) → HasOwn units p p.extent false → awaits p.ticket (units p.obj p.extent) ≡ true
it_awaits units p h = ap (awaits p.ticket) h.1 ∙ and_from (is_none h.0.columns) (h.0.ticket == p.ticket) (none_of h.0.columns h.2.columns) (eq-eqb h.0.ticket p.ticket h.2.ticket)
  where
    none_of : (o : Option (List PlacedRow)) → is_some o ≡ false → is_none o ≡ true
    none_of None e = refl
    none_of (Some rows) e = absurd (true≢false e)

-- what is installed
pub installed_units : (units : Units) (p : Population) → (h : HasOwn units p p.extent false) → units_installed p units ≡ with_unit p.obj p.extent (Some (record h.0 { columns = Some p.read })) units
installed_units units p h =
    ap (λ b. cond b (with_unit p.obj p.extent (filled p.read (units p.obj p.extent)) units) units) (it_awaits units p h)
    ∙ ap (λ o. with_unit p.obj p.extent (filled p.read o) units) h.1

pub installed_count : (units : Units) (p : Population) → HasOwn units p p.extent false → installed_then p units ≡ p.installed + 1
installed_count units p h = ap (λ b. cond b (p.installed + 1) p.installed) (it_awaits units p h)

-- the units afterwards: that of the extent at hand is full, the others are as they were
own_now : (units : Units) (p : Population) → IsBuilding units p → (h : HasOwn units p p.extent false) → (extent : ℕ) → extent < p.extent + 1 → HasOwn (units_installed p units) p extent true
own_now units p b h extent l = subst (λ (us : Units). HasOwn us p extent true) (sym (installed_units units p h)) (by_place (cases_eq extent p.extent))
  where
    by_place : (extent ≡ p.extent) ⊎ (extent ≡ p.extent → ⊥) → HasOwn (with_unit p.obj p.extent (Some (record h.0 { columns = Some p.read })) units) p extent true
    by_place (inl e) = (
      record h.0 { columns = Some p.read },
      ap (with_unit p.obj p.extent (Some (record h.0 { columns = Some p.read })) units p.obj) e ∙ unit_here p.obj p.extent (Some (record h.0 { columns = Some p.read })) units,
      record { snapshot = h.2.snapshot; ticket = h.2.ticket; columns = refl },
    )
    by_place (inr d) = own_elsewhere units p p.extent extent (Some (record h.0 { columns = Some p.read })) true d (b.ended extent (omega (arith, l, d)))

own_later : (units : Units) (p : Population) → IsBuilding units p → (h : HasOwn units p p.extent false) → (extent : ℕ) → p.extent + 1 ≤ extent → extent < p.registered → HasOwn (units_installed p units) p extent false
own_later units p b h extent k m = subst (λ (us : Units). HasOwn us p extent false) (sym (installed_units units p h))
    (own_elsewhere units p p.extent extent (Some (record h.0 { columns = Some p.read })) false (λ e. absurd (omega arith)) (b.waiting extent (omega arith) m))

installs : (units : Units) (p : Population) → IsBuilding units p → p.holds ≡ false → p.extent < p.table.extents
    → IsBuilding (units_installed p units) (record p { extent = p.extent + 1; blocks = 0; read = []; installed = installed_then p units })
installs units p b f l =
    let h = at_hand_waits units p b f l in
    let q : Population = record p { extent = p.extent + 1; blocks = 0; read = []; installed = installed_then p units } in
    record {
      ended = λ extent k. own_again (units_installed p units) p q extent true refl refl refl (own_now units p b h extent k);
      waiting = λ extent k m. own_again (units_installed p units) p q extent false refl refl refl (own_later units p b h extent k m);
      installed = let e : installed_then p units ≡ p.installed + 1 = installed_count units p h in let i : p.installed ≡ p.extent = b.installed in omega arith;
      holding = λ t. absurd (true≢false (sym t ∙ f));
      released = b.released;
    }

pub building_goes_on : BuildingGoesOn
building_goes_on units p b = (λ h l. registers units p b h l, λ l. releases units p b l, λ f l m. installs units p b f l)

pub building_ends : BuildingEnds
building_ends log units p b f l m defined =
    let h = at_hand_waits units p b f l in
    let last : p.table.extents ≤ p.extent + 1 = ltb-false (p.extent + 1) p.table.extents m in
    let e : installed_then p units ≡ p.installed + 1 = installed_count units p h in
    let i : p.installed ≡ p.extent = b.installed in (
      omega arith,
      record {
        table = p.table;
        defined = defined;
        each = λ extent k. let o = own_now units p b h extent (omega arith) in (o.0, o.1, record { ready = o.2.columns; snapshot = o.2.snapshot });
      },
    )
