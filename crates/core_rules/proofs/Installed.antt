-- The event PopEnd keeps the invariant and the precision of marks.
use Rattle.std.proofs.Common.{◌≡◌, ℕ, ◌+◌, ◌*◌, ◌<◌, ◌≤◌, Bool, true, false, ◌==◌, if◌then◌else◌, List, [], length, Option, Some, None, ◌⊎◌, inl, inr, refl, sym, ap, ◌∙◌, subst, arith, true≢false}
use Rattle.std.specs.Prelude.{is_none}
use Rattle.std.proofs.lemmas.Bool.{eqb-true, ltb-true, and_parts}
use Rattle.adg_base.specs.declared.log.LogEntry.{LogEntry}
use Rattle.adg_base.specs.declared.placed.PlacedRow.{PlacedRow}
use Rattle.adg_model.specs.Database.{Table, rows_at, table_at}
use Rattle.core_rules.specs.declared.event.CoreAnswer.{CoreAnswer}
use Rattle.core_rules.specs.Extents.{extent_rows, rows_of_blocks}
use Rattle.core_rules.specs.State.{CoreState, ColumnUnit, Units, Population, Session, Free, Populating, At, limit, holds_back}
use Rattle.core_rules.specs.Populations.{Installs, awaits, filled, with_unit, units_installed, installed_then, has_more, session_then}
use Rattle.core_rules.specs.UnitParts.{UnitIs, UnitIsBuilt, UnitIsPrecise, PopulationIs, HasItsUnits}
use Rattle.core_rules.specs.Invariant.{Invariant, Precise, unit_place}
use Rattle.core_rules.proofs.Keeps.{Keeps, KeepsPrecise}
use Rattle.core_rules.proofs.Holds.{session_keeps, still_held, SessionIs, TicketIsOwn}
use Rattle.core_rules.proofs.Populated.{unit_cases}

-- a unit with its columns
abbrev with_columns : ColumnUnit → List PlacedRow → ColumnUnit
with_columns u rows = record u { columns = Some rows }

-- A unit that is filled stood with the population's ticket.
record IsFilled (units : Units) (p : Population) (obj extent : ℕ) (u : ColumnUnit) : Type 0 where
  object : obj ≡ p.obj
  at : extent ≡ p.extent
  was : ColumnUnit
  stood : units p.obj p.extent ≡ Some was
  ticket : was.ticket ≡ p.ticket
  same : with_columns was p.read ≡ u

awaited : (ticket : ℕ) (rows : List PlacedRow) (unit : Option ColumnUnit) (u : ColumnUnit) → awaits ticket unit ≡ true → filled rows unit ≡ Some u
    → (was : ColumnUnit) × (unit ≡ Some was) × (was.ticket ≡ ticket) × (with_columns was rows ≡ u)
awaited ticket rows None u h k = absurd (true≢false (sym h))
awaited ticket rows (Some w) u h k =
    let both = and_parts (is_none w.columns) (w.ticket == ticket) h in
    let e : Some (with_columns w rows) ≡ Some u = k in
    (w, refl, eqb-true w.ticket ticket both.1, cc)

-- After it a unit is filled so, or stood.
installed_cases : (units : Units) (p : Population) (obj extent : ℕ) (u : ColumnUnit) → units_installed p units obj extent ≡ Some u
    → IsFilled units p obj extent u ⊎ (units obj extent ≡ Some u)
installed_cases units p obj extent u h = by_test (awaits p.ticket (units p.obj p.extent)) refl h
  where
    by_test : (b : Bool) → awaits p.ticket (units p.obj p.extent) ≡ b
        → (if b then with_unit p.obj p.extent (filled p.read (units p.obj p.extent)) units else units) obj extent ≡ Some u
        → IsFilled units p obj extent u ⊎ (units obj extent ≡ Some u)
    by_test false k e = inr e
    by_test true k e = either (unit_cases units p.obj p.extent obj extent (filled p.read (units p.obj p.extent)) u e)
      where
        either : ((obj ≡ p.obj) × (extent ≡ p.extent) × (filled p.read (units p.obj p.extent) ≡ Some u)) ⊎ (units obj extent ≡ Some u)
            → IsFilled units p obj extent u ⊎ (units obj extent ≡ Some u)
        either (inr stood) = inr stood
        either (inl new) =
            let w = awaited p.ticket p.read (units p.obj p.extent) u k new.2 in
            inl (record { object = new.0; at = new.1; was = w.0; stood = w.1; ticket = w.2; same = w.3 })

-- Where all blocks are read, the rows read are those of the extent as the definition at the snapshot has them.
module _ (c : CoreState) (p : Population) (is : PopulationIs c.log c.query c.ticket p) (whole : 16 ≤ p.blocks) where
  all_read : p.read ≡ extent_rows (rows_at c.log p.snapshot) p.obj (length p.table.kinds) p.extent
  all_read =
      let most : p.blocks ≤ 16 = is.blocks in
      let e : p.blocks ≡ 16 = omega arith in
      is.read ∙ ap (rows_of_blocks (rows_at c.log p.snapshot) p.obj (length p.table.kinds) (16 * p.extent)) e

  -- so a unit with the population's ticket is built when it has them
  filled_built : (w : ColumnUnit) → w.snapshot ≡ p.snapshot → UnitIsBuilt c.log p.obj p.extent w → UnitIsBuilt c.log p.obj p.extent (with_columns w p.read)
  filled_built w at built = record {
    table = built.table;
    defined = built.defined;
    in_memory = built.in_memory;
    within = built.within;
    columns =
        all_read
        ∙ ap (λ (n : ℕ). extent_rows (rows_at c.log n) p.obj (length p.table.kinds) p.extent) (sym at)
        ∙ ap (λ (t : Table). extent_rows (rows_at c.log w.snapshot) p.obj (length t.kinds) p.extent) (sym same_table);
  }
    where
      same_table : built.table ≡ p.table
      same_table =
          let there : Some built.table ≡ Some p.table = sym built.defined ∙ ap (λ (n : ℕ). table_at c.log n p.obj) at ∙ is.defined in
          cc

  filled_is : (place : ℕ) (w : ColumnUnit) → w.snapshot ≡ p.snapshot → UnitIs c.log c.query c.ticket c.links place p.obj p.extent w
      → UnitIs c.log c.query c.ticket c.links place p.obj p.extent (with_columns w p.read)
  filled_is place w at unit = record {
    snapshot = unit.snapshot;
    ticket = unit.ticket;
    built = filled_built w at unit.built;
    covered = unit.covered;
    stands = unit.stands;
  }

-- a population that goes on with the next extent, and with what is installed then
abbrev next_extent : Population → ℕ → Population
next_extent p installed = record p { extent = p.extent + 1; blocks = 0; read = []; installed = installed }

pub installed_most : (p : Population) (units : Units) → p.installed ≤ p.extent → installed_then p units ≤ p.extent + 1
installed_most p units h = by_test (awaits p.ticket (units p.obj p.extent))
  where
    by_test : (b : Bool) → (if b then p.installed + 1 else p.installed) ≤ p.extent + 1
    by_test true = omega arith
    by_test false = omega arith

next_is : (log : List LogEntry) (query next : ℕ) (p : Population) (installed : ℕ) → PopulationIs log query next p → p.extent + 1 < p.table.extents → installed ≤ p.extent + 1
    → PopulationIs log query next (next_extent p installed)
next_is log query next p installed is more most = record {
  snapshot = is.snapshot;
  held = is.held;
  ticket = is.ticket;
  defined = is.defined;
  in_memory = is.in_memory;
  registered = is.registered;
  extent = more;
  blocks = omega arith;
  read = refl;
  installed = most;
}

pub install_keeps : (session : ℕ) (answer : CoreAnswer) → Keeps (λ c new. Installs c session answer new)
install_keeps session answer facts c new r i = subst Invariant (sym r.effect)
    (session_keeps c r.place what c.quiesce units c.ticket i refl (still_held c r.place (Populating p) what i r.is.found back) (omega arith) stand others own is)
  where
    p : Population
    p = r.population

    was : PopulationIs c.log c.query c.ticket p
    was = i.populations r.place p r.is.found

    units : Units
    units = units_installed p c.units

    installed : ℕ
    installed = installed_then p c.units

    what : Session
    what = session_then p installed

    -- it holds publication back no more
    back : holds_back what ≡ holds_back (Populating p)
    back = by_test (has_more p)
      where
        by_test : (b : Bool) → holds_back (if b then Populating (next_extent p installed) else Free) ≡ p.holds
        by_test true = refl
        by_test false = sym r.released

    stand : (o e : ℕ) (u : ColumnUnit) → units o e ≡ Some u → UnitIs c.log c.query c.ticket c.links (unit_place c o e) o e u
    stand o e u h = either (installed_cases c.units p o e u h)
      where
        either : IsFilled c.units p o e u ⊎ (c.units o e ≡ Some u) → UnitIs c.log c.query c.ticket c.links (unit_place c o e) o e u
        either (inr k) = i.units o e u k
        either (inl k) =
            let at = (i.tied r.place p r.is.found p.obj p.extent k.was k.stood k.ticket).1 in
            subst (λ (m : ℕ). UnitIs c.log c.query c.ticket c.links (unit_place c m e) m e u) (sym k.object)
            (subst (λ (m : ℕ). UnitIs c.log c.query c.ticket c.links (unit_place c p.obj m) p.obj m u) (sym k.at)
            (subst (λ (w : ColumnUnit). UnitIs c.log c.query c.ticket c.links (unit_place c p.obj p.extent) p.obj p.extent w) k.same
            (filled_is c p was r.whole (unit_place c p.obj p.extent) k.was at (i.units p.obj p.extent k.was k.stood))))

    -- a unit keeps its ticket, its object and its snapshot
    tied : (n : ℕ) (q : Population) → At c.sessions n (Populating q) → HasItsUnits units q
    tied n q found o e u h same = either (installed_cases c.units p o e u h)
      where
        either : IsFilled c.units p o e u ⊎ (c.units o e ≡ Some u) → (o ≡ q.obj) × (u.snapshot ≡ q.snapshot)
        either (inr k) = i.tied n q found o e u k same
        either (inl k) =
            let tickets : (k.was).ticket ≡ q.ticket = ap (λ (w : ColumnUnit). w.ticket) k.same ∙ same in
            let old = i.tied n q found p.obj p.extent k.was k.stood tickets in
            (k.object ∙ old.0, sym (ap (λ (w : ColumnUnit). w.snapshot) k.same) ∙ old.1)

    others : (n : ℕ) (q : Population) → (n ≡ r.place → ⊥) → At c.sessions n (Populating q) → HasItsUnits units q
    others n q apart found = tied n q found

    own : TicketIsOwn c.sessions r.place what
    own = by_test (has_more p)
      where
        by_test : (b : Bool) → TicketIsOwn c.sessions r.place (if b then Populating (next_extent p installed) else Free)
        by_test true = λ n q apart found same. apart (i.tickets n r.place q p found r.is.found same)
        by_test false = tt

    is : SessionIs c.log c.query c.ticket units what
    is = by_test (has_more p) refl
      where
        by_test : (b : Bool) → has_more p ≡ b → SessionIs c.log c.query c.ticket units (if b then Populating (next_extent p installed) else Free)
        by_test true k =
            (next_is c.log c.query c.ticket p installed was (ltb-true (p.extent + 1) p.table.extents k) (installed_most p c.units was.installed), tied r.place p r.is.found)
        by_test false k = tt

pub install_precise : (session : ℕ) (answer : CoreAnswer) → KeepsPrecise (λ c new. Installs c session answer new)
install_precise session answer facts c new r i precise = subst Precise (sym r.effect) each
  where
    each : (o e : ℕ) (u : ColumnUnit) → units_installed r.population c.units o e ≡ Some u → UnitIsPrecise c.log c.born (limit c) u
    each o e u h = either (installed_cases c.units r.population o e u h)
      where
        either : IsFilled c.units r.population o e u ⊎ (c.units o e ≡ Some u) → UnitIsPrecise c.log c.born (limit c) u
        either (inr k) = precise o e u k
        either (inl k) =
            let was = precise r.population.obj r.population.extent k.was k.stood in
            subst (λ (w : ColumnUnit). UnitIsPrecise c.log c.born (limit c) w) k.same (record { marked = was.marked; all = was.all })
