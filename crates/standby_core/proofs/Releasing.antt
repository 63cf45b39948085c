-- PopRelease: what it makes of the state, and why such an event can't happen.
use Rattle.std.proofs.Common.{◌≡◌, ℕ, ◌+◌, ◌-◌, ◌≤◌, Bool, true, false, cond, List, Vec, Global, inr, refl, sym, ap, ◌∙◌, subst, arith}
use Rattle.std.specs.Prelude.{nat_le, slice_set}
use Rattle.std.proofs.lemmas.Bool.{and_parts, and_from, le-leb, leb-true}
use Rattle.std.proofs.lemmas.List.{length-set}
use Rattle.core_rules.specs.State.{CoreState, Population, Quiesce, At, held_once_less}
use Rattle.core_rules.specs.State as rules
use Rattle.core_rules.specs.Populations.{CanRelease}
use Rattle.core_rules.specs.declared.event.Event.TheVariants as event
use Rattle.core_rules.specs.declared.event.CoreAnswer.TheVariants.{Moved}
use Rattle.standby_core.specs.declared.flush.Flush.{Flush}
use Rattle.standby_core.specs.declared.flush.Quiesce.{Quiesce as OwnQuiesce}
use Rattle.standby_core.specs.declared.flush.Quiesce.TheVariants as keeper
use Rattle.standby_core.specs.declared.populate.Phase.TheVariants.{Registered}
use Rattle.standby_core.specs.declared.session.Session.{Session as OwnSession}
use Rattle.standby_core.specs.declared.session.Session.TheVariants.{Populating}
use Rattle.standby_core.specs.declared.session.Population.{Population as OwnPopulation}
use Rattle.standby_core.specs.declared.standby.Core.{Core}
use Rattle.standby_core.specs.Each.{EachAt}
use Rattle.standby_core.specs.Links.{quiesce_shown, ShowsFlush}
use Rattle.standby_core.specs.Parts.{ShowsSession, ShowsPopulation}
use Rattle.standby_core.specs.Populating.{is_in, once_less, IsSeat}
use Rattle.standby_core.specs.Shows.{IsState, HasStepped}
use Rattle.standby_core.proofs.Each.{each_set}
use Rattle.standby_core.proofs.Kept.{with_flush, with_sessions}
use Rattle.standby_core.proofs.Seating.{at_in}
use Rattle.standby_core.proofs.Seats.{populating_shown, populating_back}

-- one less of both
pub less_shown : (q : OwnQuiesce) → quiesce_shown (once_less q) ≡ held_once_less (quiesce_shown q)
less_shown keeper.Idle = refl
less_shown (keeper.Shared n) = by_count (nat_le n 1)
  where
    by_count : (b : Bool) → quiesce_shown (cond b keeper.Idle (keeper.Shared (n - 1))) ≡ cond b rules.Idle (rules.Shared (n - 1))
    by_count true = refl
    by_count false = refl
less_shown (keeper.Flushing through) = refl

-- a flush that another one keeps back
pub with_keeper : (workers : ℕ) (old new : Flush) (q : OwnQuiesce) (c : CoreState) → ShowsFlush workers old c.quiesce c.links → new ≡ record old { quiesce = q } → ShowsFlush workers new (quiesce_shown q) c.links
with_keeper workers old new q c h same = subst (λ f. ShowsFlush workers f (quiesce_shown q) c.links) (sym same) (record {
  quiesce = refl;
  links = h.links;
  numbers = record {
    claimed = h.numbers.claimed;
    within = h.numbers.within;
    done = h.numbers.done;
    actors = h.numbers.actors;
    held = h.numbers.held;
    holds = h.numbers.holds;
  };
})

module _ (core : Core) (c : CoreState) (h : IsState core c) (session : ℕ) where
  pub release_barred : (xs : List OwnSession) → xs ≡ core.sessions.items → ((place : ℕ) (p : OwnPopulation) → session ≡ place + 1 → At xs place (Populating p) → is_in Registered p ≡ true → ⊥) → CanRelease c session → ⊥
  release_barred xs e barred can =
      let own = populating_back core.sessions.items c.sessions can.place can.population h.shows.sessions can.is.found in
      let extents : own.0.extents ≡ can.population.table.extents = own.2.extents in
      let registered : own.0.registered ≡ can.population.registered = own.2.registered in
      let all : can.population.table.extents ≤ can.population.registered = can.all in
      barred can.place own.0 can.is.number (at_in core.sessions.items xs can.place (Populating own.0) (sym e) own.1)
      (and_from own.0.holds (nat_le own.0.extents own.0.registered) (own.2.holds ∙ can.holds) (le-leb own.0.extents own.0.registered (omega arith)))

  module _ (place : ℕ) (xs : List OwnSession) (e : xs ≡ core.sessions.items) (seat : IsSeat xs session Registered place)
      (ss : Vec OwnSession Global) (f : Flush)
      (sessions : ss.items ≡ slice_set core.sessions.items place (Populating (record seat.population { holds = false })))
      (quiesce : f.quiesce ≡ once_less core.flush.quiesce) (same : f ≡ record core.flush { quiesce = f.quiesce }) where
    abbrev p : OwnPopulation
    p = seat.population

    found : At core.sessions.items place (Populating p)
    found = at_in xs core.sessions.items place (Populating p) e seat.found

    shown : (r : Population) × At c.sessions place (rules.Populating r) × ShowsPopulation p r
    shown = populating_shown core.sessions.items c.sessions place p h.shows.sessions found

    abbrev released : Population
    released = record shown.0 { holds = false }

    population_shown : ShowsPopulation (record p { holds = false }) released
    population_shown = record {
      obj = shown.2.obj;
      extents = shown.2.extents;
      snapshot = shown.2.snapshot;
      ticket = shown.2.ticket;
      holds = refl;
      registered = shown.2.registered;
      installed = shown.2.installed;
      build_obj = shown.2.build_obj;
      extent = shown.2.extent;
      build_snapshot = shown.2.build_snapshot;
      width = shown.2.width;
      blocks = shown.2.blocks;
      read = shown.2.read;
    }

    quiesce_is : quiesce_shown f.quiesce ≡ held_once_less c.quiesce
    quiesce_is = ap quiesce_shown quiesce ∙ less_shown core.flush.quiesce ∙ ap held_once_less (sym h.shows.flush.quiesce)

    pub release_moves : HasStepped (record core { sessions = ss; flush = f }) c (event.PopRelease session) Moved
    release_moves =
        let parts = and_parts p.holds (nat_le p.extents p.registered) seat.phased in
        let all_own : p.extents ≤ p.registered = leb-true p.extents p.registered parts.1 in
        let extents : p.extents ≡ shown.0.table.extents = shown.2.extents in
        let registered : p.registered ≡ shown.0.registered = shown.2.registered in
        record {
          next = record c { sessions = slice_set c.sessions place (rules.Populating released); quiesce = held_once_less c.quiesce };
          steps = inr (
            refl,
            record {
              place = place;
              population = shown.0;
              is = record { number = seat.number; found = shown.1 };
              holds = sym shown.2.holds ∙ parts.0;
              all = omega arith;
              effect = refl;
            },
          );
          shows = with_flush (record core { sessions = ss }) (record c { sessions = slice_set c.sessions place (rules.Populating released) }) f (held_once_less c.quiesce) c.links
              (with_sessions core c ss (slice_set c.sessions place (rules.Populating released)) h.shows
              (subst (λ xs. EachAt (λ n. ShowsSession) xs (slice_set c.sessions place (rules.Populating released))) (sym sessions)
              (each_set (λ n. ShowsSession) core.sessions.items c.sessions h.shows.sessions place (Populating (record p { holds = false })) (rules.Populating released) population_shown))
              (length-set c.sessions place (rules.Populating released)))
              (subst (λ q. ShowsFlush core.worker_count f q c.links) quiesce_is (with_keeper core.worker_count core.flush f f.quiesce c h.shows.flush same));
        }
