-- PopEnd: what it makes of the state, and why such an event can't happen.
use Rattle.std.proofs.Common.{◌≡◌, ℕ, ◌+◌, ◌<◌, ◌≤◌, Bool, true, false, cond, not, List, [], Vec, Global, Option, Some, None, inr, refl, sym, ap, ◌∙◌, subst, arith, true≢false}
use Rattle.std.specs.Prelude.{◌==◌, ◌&&◌, nat_le, nat_lt, is_none, slice_set, if◌then◌else◌}
use Rattle.std.proofs.lemmas.Bool.{and_parts, and_from, le-leb, leb-true, eqb-true}
use Rattle.std.proofs.lemmas.List.{length-set}
use Rattle.adg_base.specs.Shard.{shard_of_unit}
use Rattle.adg_base.specs.declared.answer.Reply.TheVariants as reply
use Rattle.adg_base.specs.declared.placed.PlacedRow.{PlacedRow}
use Rattle.column_codec.specs.Extent.{PlacedColumns, placed_rows}
use Rattle.column_units.specs.declared.unit.Unit.{Unit as OwnUnit}
use Rattle.column_units.specs.declared.unit.UnitState.{UnitState}
use Rattle.column_units.specs.declared.unit.UnitState.TheVariants.{Loading, Ready}
use Rattle.column_units.specs.Unit.{awaits_in, loaded}
use Rattle.column_units.specs.Shard.{unit_at, is_awaited, installed, KeepsAll}
use Rattle.column_units.specs.Shard as own
use Rattle.core_rules.specs.State.{CoreState, Population, ColumnUnit, Units, At}
use Rattle.core_rules.specs.State as rules
use Rattle.core_rules.specs.Populations.{CanInstall, awaits, filled, with_unit, units_installed, installed_then, has_more, session_then, answer_then}
use Rattle.core_rules.specs.UnitParts.{PopulationIs}
use Rattle.core_rules.specs.declared.event.Event.TheVariants as event
use Rattle.core_rules.specs.declared.event.CoreAnswer.{CoreAnswer}
use Rattle.core_rules.specs.declared.event.CoreAnswer.TheVariants.{Moved, Said}
use Rattle.standby_core.specs.declared.populate.Phase.TheVariants.{Read}
use Rattle.standby_core.specs.declared.session.Session.{Session as OwnSession}
use Rattle.standby_core.specs.declared.session.Session.TheVariants.{Free, Populating}
use Rattle.standby_core.specs.declared.session.Population.{Population as OwnPopulation}
use Rattle.standby_core.specs.declared.standby.Core.{Core}
use Rattle.standby_core.specs.Each.{EachAt}
use Rattle.standby_core.specs.Filling.{rows_read, with_installed, has_next, at_next, session_after, answer_after, CanEnd, TakesColumns}
use Rattle.standby_core.specs.Parts.{rows_shown, unit_in, unit_in_shard, ShowsUnit, ShowsAny, ShowsUnits, ShowsSession, ShowsPopulation}
use Rattle.standby_core.specs.Populating.{is_in, IsSeat, IsSetIn}
use Rattle.standby_core.specs.Shows.{IsState, HasStepped}
use Rattle.standby_core.proofs.Each.{each_set}
use Rattle.core_rules.proofs.Lists.{at_same}
use Rattle.standby_core.proofs.Filling.{shown, population_is, few, populating_same, released}
use Rattle.standby_core.proofs.Kept.{with_units, with_sessions}
use Rattle.standby_core.proofs.Seating.{at_in}
use Rattle.standby_core.proofs.Seats.{populating_back}
use Rattle.standby_core.proofs.UnitSets.{shows_set, shows_kept}

-- a unit waits for its columns where that of the rules does
state_awaits : (ticket own : ℕ) (s : UnitState) → awaits_in ticket own s ≡ (is_none (rows_shown s) && (own == ticket))
state_awaits ticket own Loading = refl
state_awaits ticket own (Ready columns) = refl

awaits_shown : (ticket : ℕ) (x : Option OwnUnit) (u : Option ColumnUnit) → ShowsAny x u → is_awaited ticket x ≡ awaits ticket u
awaits_shown ticket None None h = refl
awaits_shown ticket None (Some u) h = absurd h
awaits_shown ticket (Some x) None h = absurd h
awaits_shown ticket (Some x) (Some u) h =
    state_awaits ticket x.ticket x.state
    ∙ ap (λ (o : Option (List PlacedRow)). is_none o && (x.ticket == ticket)) h.columns
    ∙ ap (λ (t : ℕ). is_none u.columns && (t == ticket)) h.ticket

-- with its columns it shows the one that is filled
filled_shown : (ticket : ℕ) (columns : PlacedColumns) (rows : List PlacedRow) (x : Option OwnUnit) (u : Option ColumnUnit) → placed_rows columns ≡ rows → ShowsAny x u
    → is_awaited ticket x ≡ true → ShowsAny (installed ticket columns x) (filled rows u)
filled_shown ticket columns rows None None of h e = tt
filled_shown ticket columns rows None (Some u) of h e = absurd h
filled_shown ticket columns rows (Some x) None of h e = absurd h
filled_shown ticket columns rows (Some x) (Some u) of h e =
    let with_columns : ShowsUnit (loaded columns x) (record u { columns = Some rows }) = record {
      snapshot = h.snapshot;
      ticket = h.ticket;
      columns = ap Some of;
      marked = h.marked;
      all = h.all;
    } in
    subst (λ b. ShowsAny (cond b (Some (loaded columns x)) (Some x)) (Some (record u { columns = Some rows }))) (sym e) with_columns

-- where it does not wait it stays
stays_own : (ticket : ℕ) (columns : PlacedColumns) (x : Option OwnUnit) → is_awaited ticket x ≡ false → installed ticket columns x ≡ x
stays_own ticket columns None e = refl
stays_own ticket columns (Some x) e = ap (λ b. cond b (Some (loaded columns x)) (Some x)) e

module _ (old new : List own.Units) (units : Units) (obj extent ticket : ℕ) (rows : List PlacedRow) (h : ShowsUnits old units)
    (k : IsSetIn (TakesColumns obj extent ticket rows) (shard_of_unit obj extent) old new) where
  -- the unit of the extent, in its shard as it was
  unit_was : unit_in old obj extent ≡ unit_at k.was obj extent
  unit_was = ap (λ s. unit_in_shard s obj extent) k.found

  was_shown : ShowsAny (unit_at k.was obj extent) (units obj extent)
  was_shown = subst (λ x. ShowsAny x (units obj extent)) unit_was (h.each obj extent)

  shown_if_awaited : awaits ticket (units obj extent) ≡ true → ShowsAny (unit_at k.now obj extent) (filled rows (units obj extent))
  shown_if_awaited e =
      subst (λ x. ShowsAny x (filled rows (units obj extent))) (sym k.related.unit)
      (filled_shown ticket k.related.columns rows (unit_at k.was obj extent) (units obj extent) k.related.of was_shown
      (awaits_shown ticket (unit_at k.was obj extent) (units obj extent) was_shown ∙ e))

  keeps_if_not : awaits ticket (units obj extent) ≡ false → KeepsAll k.was k.now
  keeps_if_not e = record { number = k.related.others.number; units = λ o n. by_key o n ((o == obj) && (n == extent)) refl }
    where
      same : unit_at k.now obj extent ≡ unit_at k.was obj extent
      same = k.related.unit ∙ stays_own ticket k.related.columns (unit_at k.was obj extent) (awaits_shown ticket (unit_at k.was obj extent) (units obj extent) was_shown ∙ e)

      by_key : (o n : ℕ) (b : Bool) → ((o == obj) && (n == extent)) ≡ b → unit_at k.now o n ≡ unit_at k.was o n
      by_key o n true t =
          let parts = and_parts (o == obj) (n == extent) t in
          let objects : o ≡ obj = eqb-true o obj parts.0 in
          let extents : n ≡ extent = eqb-true n extent parts.1 in
          rw (objects, extents) same
      by_key o n false t = k.related.others.others o n t

  -- so the units show those with the unit filled where it waits
  pub units_then : ShowsUnits new (if awaits ticket (units obj extent) then with_unit obj extent (filled rows (units obj extent)) units else units)
  units_then =
      subst (λ xs. ShowsUnits xs (if awaits ticket (units obj extent) then with_unit obj extent (filled rows (units obj extent)) units else units)) (sym k.set) (by_wait (awaits ticket (units obj extent)) refl)
    where
      by_wait : (b : Bool) → awaits ticket (units obj extent) ≡ b → ShowsUnits (slice_set old (shard_of_unit obj extent) k.now) (cond b (with_unit obj extent (filled rows (units obj extent)) units) units)
      by_wait true e = shows_set old (shard_of_unit obj extent) k.was k.now k.found units obj extent (filled rows (units obj extent)) h refl k.related.others (shown_if_awaited e)
      by_wait false e = shows_kept old (shard_of_unit obj extent) k.was k.now k.found units h (keeps_if_not e)

module _ (core : Core) (c : CoreState) (h : IsState core c) where
  -- of a population
  module _ (n : ℕ) (x : OwnPopulation) (found : At core.sessions.items n (Populating x)) where
    abbrev p : Population
    p = (shown core c h n x found).0

    p_shown : ShowsPopulation x p
    p_shown = (shown core c h n x found).2

    p_is : PopulationIs c.log c.query c.ticket p
    p_is = population_is core c h n x found

    pub can_end : is_in Read x ≡ true → CanEnd x
    can_end phased =
        let blocks : x.build.blocks ≡ p.blocks = p_shown.blocks in
        let most : p.blocks ≤ 16 = p_is.blocks in
        let all : 16 ≤ x.build.blocks = leb-true 16 x.build.blocks (and_parts (not x.holds) (nat_le 16 x.build.blocks) phased).1 in
        let extent : x.build.extent ≡ p.extent = p_shown.extent in
        let one : p.extent < p.table.extents = p_is.extent in
        let few : p.table.extents ≤ 256 = few core c h n x found in
        let installed : x.installed ≡ p.installed = p_shown.installed in
        let fewer : p.installed ≤ p.extent = p_is.installed in
        record { whole = omega arith; object = p_shown.build_obj ∙ sym p_shown.obj; extent = omega arith; installed = omega arith }

    -- it waits for the same unit
    waits_same : is_awaited x.ticket (unit_in core.units.items x.obj x.build.extent) ≡ awaits p.ticket (c.units p.obj p.extent)
    waits_same =
        awaits_shown x.ticket (unit_in core.units.items x.obj x.build.extent) (c.units x.obj x.build.extent) (h.shows.units.each x.obj x.build.extent)
        ∙ ap (λ (t : ℕ). awaits t (c.units x.obj x.build.extent)) p_shown.ticket
        ∙ ap (λ (o : ℕ). awaits p.ticket (c.units o x.build.extent)) p_shown.obj
        ∙ ap (λ (e : ℕ). awaits p.ticket (c.units p.obj e)) p_shown.extent

    abbrev count : ℕ
    count = installed_then p c.units

    count_shown : (with_installed core.units.items x).installed ≡ count
    count_shown = ap (λ (b : Bool). cond b (x.installed + 1) x.installed) waits_same ∙ ap (λ (k : ℕ). cond (awaits p.ticket (c.units p.obj p.extent)) (k + 1) k) p_shown.installed

    -- it has as many extents left
    next_same : has_next x ≡ has_more p
    next_same = ap (λ (e : ℕ). nat_lt (e + 1) x.extents) p_shown.extent ∙ ap (λ (n : ℕ). nat_lt (p.extent + 1) n) p_shown.extents

    next_shown : ShowsPopulation (at_next (with_installed core.units.items x)) (record p { extent = p.extent + 1; blocks = 0; read = []; installed = count })
    next_shown = record {
      obj = p_shown.obj;
      extents = p_shown.extents;
      snapshot = p_shown.snapshot;
      ticket = p_shown.ticket;
      holds = p_shown.holds;
      registered = p_shown.registered;
      installed = count_shown;
      build_obj = p_shown.build_obj;
      extent = ap (λ k. k + 1) p_shown.extent;
      build_snapshot = p_shown.build_snapshot;
      width = p_shown.width;
      blocks = refl;
      read = refl;
    }

    pub session_shown : ShowsSession (session_after (with_installed core.units.items x)) (session_then p count)
    session_shown = by_rest (has_next x) (has_more p) next_same
      where
        by_rest : (a b : Bool) → a ≡ b → ShowsSession (cond a (Populating (at_next (with_installed core.units.items x))) Free) (cond b (rules.Populating (record p { extent = p.extent + 1; blocks = 0; read = []; installed = count })) rules.Free)
        by_rest true true e = next_shown
        by_rest false false e = tt
        by_rest true false e = absurd (true≢false e)
        by_rest false true e = absurd (true≢false (sym e))

    pub answer_shown : answer_after (with_installed core.units.items x) ≡ answer_then p count
    answer_shown =
        ap (λ (b : Bool). cond b Moved (Said (reply.Populated x.snapshot (with_installed core.units.items x).installed))) next_same
        ∙ ap (λ (s : ℕ). cond (has_more p) Moved (Said (reply.Populated s (with_installed core.units.items x).installed))) p_shown.snapshot
        ∙ ap (λ (k : ℕ). cond (has_more p) Moved (Said (reply.Populated p.snapshot k))) count_shown

    pub units_shown : (us : List own.Units) → IsSetIn (TakesColumns x.obj x.build.extent x.ticket (rows_read x)) (shard_of_unit x.obj x.build.extent) core.units.items us → ShowsUnits us (units_installed p c.units)
    units_shown us k =
        units_then core.units.items us c.units p.obj p.extent p.ticket p.read h.shows.units
        (subst (λ (rows : List PlacedRow). IsSetIn (TakesColumns p.obj p.extent p.ticket rows) (shard_of_unit p.obj p.extent) core.units.items us) p_shown.read
        (subst (λ (t : ℕ). IsSetIn (TakesColumns p.obj p.extent t (rows_read x)) (shard_of_unit p.obj p.extent) core.units.items us) p_shown.ticket
        (subst (λ (e : ℕ). IsSetIn (TakesColumns p.obj e x.ticket (rows_read x)) (shard_of_unit p.obj e) core.units.items us) p_shown.extent
        (subst (λ (o : ℕ). IsSetIn (TakesColumns o x.build.extent x.ticket (rows_read x)) (shard_of_unit o x.build.extent) core.units.items us) p_shown.obj k))))

  module _ (session : ℕ) where
    pub end_barred : (xs : List OwnSession) → xs ≡ core.sessions.items → ((n : ℕ) (p : OwnPopulation) → session ≡ n + 1 → At xs n (Populating p) → is_in Read p ≡ true → ⊥) → CanInstall c session → ⊥
    end_barred xs e barred can =
        let own = populating_back core.sessions.items c.sessions can.place can.population h.shows.sessions can.is.found in
        let blocks : own.0.build.blocks ≡ can.population.blocks = own.2.blocks in
        let whole : 16 ≤ can.population.blocks = can.whole in
        barred can.place own.0 can.is.number (at_in core.sessions.items xs can.place (Populating own.0) (sym e) own.1)
        (and_from (not own.0.holds) (nat_le 16 own.0.build.blocks) (ap not (own.2.holds ∙ can.released)) (le-leb 16 own.0.build.blocks (omega arith)))

    module _ (n : ℕ) (xs : List OwnSession) (e : xs ≡ core.sessions.items) (seat : IsSeat xs session Read n) where
      abbrev x : OwnPopulation
      x = seat.population

      found : At core.sessions.items n (Populating x)
      found = at_in xs core.sessions.items n (Populating x) e seat.found

      -- who stands there can end its extent
      pub can_end_at : (ys : List OwnSession) → ys ≡ core.sessions.items → (q : OwnPopulation) → At ys n (Populating q) → CanEnd q
      can_end_at ys e' q at =
          let here : At core.sessions.items n (Populating q) = at_in ys core.sessions.items n (Populating q) e' at in
          let one = at_same core.sessions.items n (Populating x) (Populating q) found here in
          can_end n q here (subst (λ (y : OwnPopulation). is_in Read y ≡ true) (populating_same x q one) seat.phased)

      pub end_moves : (ss : Vec OwnSession Global) (us : Vec own.Units Global) (answer : CoreAnswer) → ss.items ≡ slice_set core.sessions.items n (session_after (with_installed core.units.items x))
          → IsSetIn (TakesColumns x.obj x.build.extent x.ticket (rows_read x)) (shard_of_unit x.obj x.build.extent) core.units.items us.items
          → answer ≡ answer_after (with_installed core.units.items x) → HasStepped (record core { sessions = ss; units = us }) c (event.PopEnd session) answer
      end_moves ss us answer sessions units says =
          let of = shown core c h n x found in
          let count = installed_then of.0 c.units in
          let parts = and_parts (not x.holds) (nat_le 16 x.build.blocks) seat.phased in
          let all : 16 ≤ x.build.blocks = leb-true 16 x.build.blocks parts.1 in
          let blocks : x.build.blocks ≡ of.0.blocks = of.2.blocks in
          let next_sessions = slice_set c.sessions n (session_then of.0 count) in
          record {
            next = record c { sessions = next_sessions; units = units_installed of.0 c.units };
            steps = inr (record {
              place = n;
              population = of.0;
              is = record { number = seat.number; found = of.1 };
              released = released x.holds of.0.holds of.2.holds parts.0;
              whole = omega arith;
              says = says ∙ answer_shown n x found;
              effect = refl;
            });
            shows = with_units (record core { sessions = ss }) (record c { sessions = next_sessions }) us (units_installed of.0 c.units)
                (with_sessions core c ss next_sessions h.shows
                (subst (λ xs. EachAt (λ n. ShowsSession) xs next_sessions) (sym sessions)
                (each_set (λ n. ShowsSession) core.sessions.items c.sessions h.shows.sessions n (session_after (with_installed core.units.items x)) (session_then of.0 count) (session_shown n x found)))
                (length-set c.sessions n (session_then of.0 count)))
                (units_shown n x found us.items units);
          }
