-- PopRegister: what it makes of the state, and why such an event can't happen.
use Rattle.std.proofs.Common.{◌≡◌, ℕ, ◌+◌, ◌<◌, true, List, Vec, Global, Option, Some, None, inr, refl, sym, ap, ◌∙◌, subst, arith, true≢false}
use Rattle.std.specs.Prelude.{nat_lt, slice_set, IfSome, IsSome}
use Rattle.std.proofs.lemmas.Bool.{and_parts, and_from, lt-ltb, ltb-true, and_right}
use Rattle.std.proofs.lemmas.List.{length-set}
use Rattle.adg_base.specs.Shard.{shard_of_unit}
use Rattle.column_codec.specs.Extent.{is_in_extent}
use Rattle.column_units.specs.declared.unit.Unit.{Unit as OwnUnit}
use Rattle.column_units.specs.Unit.{IsNew, marks}
use Rattle.column_units.specs.Shard.{unit_at, KeepsAll}
use Rattle.column_units.specs.Shard as own
use Rattle.core_rules.specs.State.{CoreState, Population, ColumnUnit, At}
use Rattle.core_rules.specs.State as rules
use Rattle.core_rules.specs.Populations.{CanRegister, loading, with_unit}
use Rattle.core_rules.specs.declared.event.Event.TheVariants as event
use Rattle.core_rules.specs.declared.event.CoreAnswer.TheVariants.{Moved}
use Rattle.standby_core.specs.declared.populate.Phase.TheVariants.{Registering}
use Rattle.standby_core.specs.declared.session.Session.{Session as OwnSession}
use Rattle.standby_core.specs.declared.session.Session.TheVariants.{Populating}
use Rattle.standby_core.specs.declared.session.Population.{Population as OwnPopulation}
use Rattle.standby_core.specs.declared.standby.Core.{Core}
use Rattle.standby_core.specs.Each.{EachAt}
use Rattle.standby_core.specs.Parts.{rows_shown, ShowsUnit, ShowsAny, ShowsUnits, ShowsSession, ShowsPopulation}
use Rattle.standby_core.specs.Populating.{is_in, IsSeat, IsSetIn, TakesUnit}
use Rattle.standby_core.specs.Shows.{Shows, IsState, HasStepped}
use Rattle.standby_core.proofs.Each.{each_set}
use Rattle.standby_core.proofs.Kept.{with_units, with_sessions}
use Rattle.standby_core.proofs.Seating.{at_in}
use Rattle.standby_core.proofs.Seats.{populating_shown, populating_back}
use Rattle.standby_core.proofs.UnitSets.{shows_set, shows_kept}

-- a new unit shows one that is loading
new_shown : (obj extent : ℕ) (p : Population) (u : OwnUnit) → IsNew obj extent p.snapshot p.ticket u → ShowsUnit u (loading p)
new_shown obj extent p u h = record {
  snapshot = h.snapshot;
  ticket = h.ticket;
  columns = ap rows_shown h.state;
  marked = λ a. and_right (is_in_extent u.obj u.extent a) (marks u.map a) (h.marked a);
  all = h.all;
}

stands_shown : (obj extent : ℕ) (p : Population) (u : Option OwnUnit) → IfSome u (IsNew obj extent p.snapshot p.ticket) → IsSome u → ShowsAny u (Some (loading p))
stands_shown obj extent p None h k = absurd (true≢false (sym k))
stands_shown obj extent p (Some u) h k = new_shown obj extent p u h

module _ (core : Core) (c : CoreState) (h : IsState core c) (session : ℕ) where
  pub register_barred : (xs : List OwnSession) → xs ≡ core.sessions.items → ((place : ℕ) (p : OwnPopulation) → session ≡ place + 1 → At xs place (Populating p) → is_in Registering p ≡ true → ⊥) → CanRegister c session → ⊥
  register_barred xs e barred can =
      let own = populating_back core.sessions.items c.sessions can.place can.population h.shows.sessions can.is.found in
      let extents : own.0.extents ≡ can.population.table.extents = own.2.extents in
      let registered : own.0.registered ≡ can.population.registered = own.2.registered in
      let left : can.population.registered < can.population.table.extents = can.left in
      barred can.place own.0 can.is.number (at_in core.sessions.items xs can.place (Populating own.0) (sym e) own.1)
      (and_from own.0.holds (nat_lt own.0.registered own.0.extents) (own.2.holds ∙ can.holds) (lt-ltb own.0.registered own.0.extents (omega arith)))

  -- want of memory leaves the units
  pub register_keeps : (ss : Vec OwnSession Global) (us : Vec own.Units Global) (n : ℕ) → ss.items ≡ core.sessions.items → IsSetIn KeepsAll n core.units.items us.items → Shows (record core { sessions = ss; units = us }) c
  register_keeps ss us n e k =
      with_units (record core { sessions = ss }) c us c.units
      (with_sessions core c ss c.sessions h.shows (subst (λ xs. EachAt (λ n. ShowsSession) xs c.sessions) (sym e) h.shows.sessions) refl)
      (subst (λ xs. ShowsUnits xs c.units) (sym k.set) (shows_kept core.units.items n k.was k.now k.found c.units h.shows.units k.related))

  module _ (place : ℕ) (xs : List OwnSession) (e : xs ≡ core.sessions.items) (seat : IsSeat xs session Registering place)
      (ss : Vec OwnSession Global) (us : Vec own.Units Global)
      (sessions : ss.items ≡ slice_set core.sessions.items place (Populating (record seat.population { registered = seat.population.registered + 1 })))
      (units : IsSetIn (TakesUnit seat.population.obj seat.population.registered seat.population.snapshot seat.population.ticket) (shard_of_unit seat.population.obj seat.population.registered) core.units.items us.items) where
    abbrev p : OwnPopulation
    p = seat.population

    found : At core.sessions.items place (Populating p)
    found = at_in xs core.sessions.items place (Populating p) e seat.found

    shown : (r : Population) × At c.sessions place (rules.Populating r) × ShowsPopulation p r
    shown = populating_shown core.sessions.items c.sessions place p h.shows.sessions found

    abbrev registered : Population
    registered = record shown.0 { registered = shown.0.registered + 1 }

    population_shown : ShowsPopulation (record p { registered = p.registered + 1 }) registered
    population_shown = record {
      obj = shown.2.obj;
      extents = shown.2.extents;
      snapshot = shown.2.snapshot;
      ticket = shown.2.ticket;
      holds = shown.2.holds;
      registered = ap (λ k. k + 1) shown.2.registered;
      installed = shown.2.installed;
      build_obj = shown.2.build_obj;
      extent = shown.2.extent;
      build_snapshot = shown.2.build_snapshot;
      width = shown.2.width;
      blocks = shown.2.blocks;
      read = shown.2.read;
    }

    own_units : ShowsUnits us.items (with_unit p.obj p.registered (Some (loading shown.0)) c.units)
    own_units = subst (λ xs. ShowsUnits xs (with_unit p.obj p.registered (Some (loading shown.0)) c.units)) (sym units.set)
        (shows_set core.units.items (shard_of_unit p.obj p.registered) units.was units.now units.found c.units p.obj p.registered (Some (loading shown.0)) h.shows.units refl units.related.others
        (stands_shown p.obj p.registered shown.0 (unit_at units.now p.obj p.registered)
        (subst (λ t. IfSome (unit_at units.now p.obj p.registered) (IsNew p.obj p.registered shown.0.snapshot t)) shown.2.ticket
        (subst (λ s. IfSome (unit_at units.now p.obj p.registered) (IsNew p.obj p.registered s p.ticket)) shown.2.snapshot units.related.unit))
        units.related.stands))

    units_shown : ShowsUnits us.items (with_unit shown.0.obj shown.0.registered (Some (loading shown.0)) c.units)
    units_shown = subst (λ o. ShowsUnits us.items (with_unit o shown.0.registered (Some (loading shown.0)) c.units)) shown.2.obj
        (subst (λ r. ShowsUnits us.items (with_unit p.obj r (Some (loading shown.0)) c.units)) shown.2.registered own_units)

    pub register_moves : HasStepped (record core { sessions = ss; units = us }) c (event.PopRegister session) Moved
    register_moves =
        let parts = and_parts p.holds (nat_lt p.registered p.extents) seat.phased in
        let left_own : p.registered < p.extents = ltb-true p.registered p.extents parts.1 in
        let extents : p.extents ≡ shown.0.table.extents = shown.2.extents in
        let same : p.registered ≡ shown.0.registered = shown.2.registered in
        record {
          next = record c {
            sessions = slice_set c.sessions place (rules.Populating registered);
            units = with_unit shown.0.obj shown.0.registered (Some (loading shown.0)) c.units;
          };
          steps = inr (
            refl,
            record {
              place = place;
              population = shown.0;
              is = record { number = seat.number; found = shown.1 };
              holds = sym shown.2.holds ∙ parts.0;
              left = omega arith;
              effect = refl;
            },
          );
          shows = with_units (record core { sessions = ss }) (record c { sessions = slice_set c.sessions place (rules.Populating registered) }) us
              (with_unit shown.0.obj shown.0.registered (Some (loading shown.0)) c.units)
              (with_sessions core c ss (slice_set c.sessions place (rules.Populating registered)) h.shows
              (subst (λ xs. EachAt (λ n. ShowsSession) xs (slice_set c.sessions place (rules.Populating registered))) (sym sessions)
              (each_set (λ n. ShowsSession) core.sessions.items c.sessions h.shows.sessions place (Populating (record p { registered = p.registered + 1 })) (rules.Populating registered) population_shown))
              (length-set c.sessions place (rules.Populating registered)))
              units_shown;
        }
