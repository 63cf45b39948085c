-- PopBegin: what it makes of the state, what it is refused with, and why such an event can't happen.
use Rattle.std.proofs.Common.{◌≡◌, ℕ, ◌+◌, Bool, true, false, cond, List, Vec, Global, Option, Some, None, inl, inr, refl, sym, ap, ◌∙◌, subst, arith}
use Rattle.std.specs.Prelude.{slice_set}
use Rattle.std.proofs.lemmas.List.{length-set}
use Rattle.adg_base.specs.declared.answer.Reply.TheVariants as reply
use Rattle.adg_base.specs.declared.definition.Definition.{Definition}
use Rattle.adg_model.specs.Database.{Table, table_at}
use Rattle.adg_model.specs.Defined.{IsDefinition, AreDefined}
use Rattle.core_rules.specs.State.{CoreState, Population, Quiesce, Session, At, held_once_more, is_flushing, holds_back, holders}
use Rattle.core_rules.specs.State as rules
use Rattle.core_rules.specs.Populations.{CanPopulate, population_refusal, new_population}
use Rattle.core_rules.specs.declared.event.Event.TheVariants as event
use Rattle.core_rules.specs.declared.event.CoreAnswer.TheVariants.{Moved, Said}
use Rattle.core_rules.proofs.ExactSessions.{next_is_fresh}
use Rattle.core_rules.proofs.Lists.{not_both}
use Rattle.standby_core.specs.declared.flush.Flush.{Flush}
use Rattle.standby_core.specs.declared.flush.Quiesce.{Quiesce as OwnQuiesce}
use Rattle.standby_core.specs.declared.flush.Quiesce.TheVariants as keeper
use Rattle.standby_core.specs.declared.session.Session.{Session as OwnSession}
use Rattle.standby_core.specs.declared.session.Session.TheVariants.{Free, Populating}
use Rattle.standby_core.specs.declared.standby.Core.{Core}
use Rattle.standby_core.specs.Each.{EachAt}
use Rattle.standby_core.specs.Links.{quiesce_shown, ShowsFlush}
use Rattle.standby_core.specs.Parts.{ShowsSession, ShowsPopulation}
use Rattle.standby_core.specs.Populating.{once_more, begun_population}
use Rattle.standby_core.specs.Shows.{IsState, HasStepped}
use Rattle.standby_core.proofs.Each.{each_set}
use Rattle.standby_core.proofs.Kept.{with_flush, with_sessions, with_ticket}
use Rattle.standby_core.proofs.Releasing.{with_keeper}
use Rattle.standby_core.proofs.Seating.{at_in}
use Rattle.standby_core.proofs.Seats.{free_shown, free_back}

-- one more of both
more_shown : (q : OwnQuiesce) → quiesce_shown (once_more q) ≡ held_once_more (quiesce_shown q)
more_shown keeper.Idle = refl
more_shown (keeper.Shared n) = refl
more_shown (keeper.Flushing through) = refl

-- where a definition is missing the table is, and where there is one there is a table
none_defined : (obj : ℕ) (t : Option Table) → AreDefined obj t None → t ≡ None
none_defined obj None h = refl
none_defined obj (Some t) h = absurd h

some_defined : (obj : ℕ) (t : Option Table) (d : Definition) → AreDefined obj t (Some d) → (table : Table) × (t ≡ Some table) × IsDefinition obj table d
some_defined obj None d h = absurd h
some_defined obj (Some t) d h = (t, refl, h)

module _ (core : Core) (c : CoreState) (h : IsState core c) (session obj : ℕ) where
  pub taken_barred : (xs : List OwnSession) → xs ≡ core.sessions.items → ((place : ℕ) → session ≡ place + 1 → At xs place Free → ⊥) → CanPopulate c session → ⊥
  taken_barred xs e barred can =
      barred can.place can.free.number (at_in core.sessions.items xs can.place Free (sym e) (free_back core.sessions.items c.sessions can.place h.shows.sessions can.free.found))

  pub flushing_barred : is_flushing (quiesce_shown core.flush.quiesce) ≡ true → CanPopulate c session → ⊥
  flushing_barred flushing can = not_both (is_flushing (quiesce_shown core.flush.quiesce)) flushing (sym (ap is_flushing h.shows.flush.quiesce) ∙ can.calm)

  module _ (place : ℕ) (xs : List OwnSession) (e : xs ≡ core.sessions.items) (number : session ≡ place + 1) (at : At xs place Free) (calm : is_flushing (quiesce_shown core.flush.quiesce) ≡ false) where
    free : At c.sessions place rules.Free
    free = free_shown core.sessions.items c.sessions place h.shows.sessions (at_in xs core.sessions.items place Free e at)

    can_populate : CanPopulate c session
    can_populate = record { place = place; free = record { number = number; found = free }; calm = ap is_flushing h.shows.flush.quiesce ∙ calm }

    pub no_table : AreDefined obj (table_at c.log core.query obj) None → HasStepped core c (event.PopBegin session obj) (Said (reply.NoTable core.query))
    no_table defined = record {
      next = c;
      steps = inr (inr (record {
        reply = reply.NoTable core.query;
        refused = record {
          can = can_populate;
          refusal = subst (λ q. population_refusal q (table_at c.log q obj) ≡ Some (reply.NoTable core.query)) h.shows.query
              (ap (population_refusal core.query) (none_defined obj (table_at c.log core.query obj) defined));
          same = refl;
        };
        says = refl;
      }));
      shows = h.shows;
    }

    module _ (d : Definition) (defined : AreDefined obj (table_at c.log core.query obj) (Some d)) where
      table : (t : Table) × (table_at c.log core.query obj ≡ Some t) × IsDefinition obj t d
      table = some_defined obj (table_at c.log core.query obj) d defined

      pub not_in_memory : d.flag ≡ false → HasStepped core c (event.PopBegin session obj) (Said (reply.NotInMemory core.query))
      not_in_memory flag = record {
        next = c;
        steps = inr (inr (record {
          reply = reply.NotInMemory core.query;
          refused = record {
            can = can_populate;
            refusal = subst (λ q. population_refusal q (table_at c.log q obj) ≡ Some (reply.NotInMemory core.query)) h.shows.query
                (ap (population_refusal core.query) table.1 ∙ ap (λ (b : Bool). cond b None (Some (reply.NotInMemory core.query))) (sym table.2.flag ∙ flag));
            same = refl;
          };
          says = refl;
        }));
        shows = h.shows;
      }

      module _ (flag : d.flag ≡ true) (ss : Vec OwnSession Global) (f : Flush) (ticket : ℕ)
          (sessions : ss.items ≡ slice_set core.sessions.items place (Populating (begun_population obj core.query core.ticket d)))
          (quiesce : f.quiesce ≡ once_more core.flush.quiesce) (same : f ≡ record core.flush { quiesce = f.quiesce }) (next : ticket ≡ core.ticket + 1) where
        abbrev begun : Population
        begun = new_population obj c.query c.ticket table.0

        shown : ShowsPopulation (begun_population obj core.query core.ticket d) begun
        shown = record {
          obj = refl;
          extents = table.2.extents;
          snapshot = h.shows.query;
          ticket = h.shows.ticket;
          holds = refl;
          registered = refl;
          installed = refl;
          build_obj = refl;
          extent = refl;
          build_snapshot = h.shows.query;
          width = table.2.width;
          blocks = refl;
          read = refl;
        }

        quiesce_is : quiesce_shown f.quiesce ≡ held_once_more c.quiesce
        quiesce_is = ap quiesce_shown quiesce ∙ more_shown core.flush.quiesce ∙ ap held_once_more (sym h.shows.flush.quiesce)

        abbrev sessions_then : List Session
        sessions_then = slice_set c.sessions place (rules.Populating begun)

        pub begin_population_moves : HasStepped (record core { sessions = ss; flush = f; ticket = ticket }) c (event.PopBegin session obj) Moved
        unfolding can_populate
        begin_population_moves =
            let old : core.ticket ≡ c.ticket = h.shows.ticket in
            record {
              next = record c { sessions = sessions_then; quiesce = held_once_more c.quiesce; ticket = ticket };
              steps = inr (inl (
                refl,
                record {
                  can = can_populate;
                  table = table.0;
                  defined = subst (λ q. table_at c.log q obj ≡ Some table.0) h.shows.query table.1;
                  in_memory = sym table.2.flag ∙ flag;
                  ticket = c.ticket;
                  fresh = next_is_fresh c h.invariant;
                  next = ticket;
                  above = omega (arith, old, next);
                  forward = omega (arith, old, next);
                  effect = refl;
                },
              ));
              shows = with_ticket (record core { sessions = ss; flush = f }) (record c { sessions = sessions_then; quiesce = held_once_more c.quiesce }) ticket
                  (with_flush (record core { sessions = ss }) (record c { sessions = sessions_then }) f (held_once_more c.quiesce) c.links
                  (with_sessions core c ss sessions_then h.shows
                  (subst (λ xs. EachAt (λ n. ShowsSession) xs sessions_then) (sym sessions)
                  (each_set (λ n. ShowsSession) core.sessions.items c.sessions h.shows.sessions place (Populating (begun_population obj core.query core.ticket d)) (rules.Populating begun) shown))
                  (length-set c.sessions place (rules.Populating begun)))
                  (subst (λ q. ShowsFlush core.worker_count f q c.links) quiesce_is (with_keeper core.worker_count core.flush f f.quiesce c h.shows.flush same)));
            }
