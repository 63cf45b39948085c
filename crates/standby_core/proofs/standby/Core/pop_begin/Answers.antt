use Rattle.std.proofs.Common.{inl, refl, sym, ap, ◌∙◌}
use Rattle.std.specs.Prelude.{slice_set}
use Rattle.core_rules.proofs.Lists.{at_within}
use Rattle.standby_core.specs.declared.session.Population.{Population}
use Rattle.standby_core.specs.declared.session.Session.TheVariants.{Free, Populating}
use Rattle.standby_core.proofs.Seating.{set_left, at_in}
use Rattle.standby_core.proofs.Populating.{taken_barred, no_table, not_in_memory, begin_population_moves}
use Rattle.standby_core.proofs.standby.Core.pop_begin.Goals as goal

pub returns-in_default-clause-ok : goal.returns-in_default-clause-ok
returns-in_default-clause-ok c = λ c' h stands. record {
  next = c';
  steps = inl (refl, taken_barred c.args.self.now c' h c.args.session c.args.obj c.deref.result.now c.deref.ensures.value c.in_default.ensures, refl);
  shows = h.shows;
}

pub returns-in_default-at-clause-ok : goal.returns-in_default-at-clause-ok
returns-in_default-at-clause-ok c = λ c' h stands.
    no_table c.args.self.now c' h c.args.session c.args.obj c.in-Some.place c.deref.result.now c.deref.ensures.value c.in-Some.ensures.0 c.in-Some.ensures.1 (sym c.is_flushing.ensures ∙ c.if-is_flushing.false)
    (c.in_default-at.ensures c'.log stands)

pub returns-then-not-definition-clause-ok : goal.returns-then-not-definition-clause-ok
returns-then-not-definition-clause-ok c = λ c' h stands.
    not_in_memory c.args.self.now c' h c.args.session c.args.obj c.in-Some.place c.deref.result.now c.deref.ensures.value c.in-Some.ensures.0 c.in-Some.ensures.1 (sym c.is_flushing.ensures ∙ c.if-is_flushing.false)
    c.in-Some-at.definition (c.in-Some-at.ensures c'.log stands) c.if-not-definition.true

pub begin_in-requires : goal.begin_in-requires
begin_in-requires c = at_within c.deref_mut.result.now c.in-Some.place Free (at_in c.deref.result.now c.deref_mut.result.now c.in-Some.place Free (c.deref.ensures.value ∙ sym c.deref_mut.ensures.value) c.in-Some.ensures.1)

pub returns-clause-ok : goal.returns-clause-ok
returns-clause-ok c = λ c' h stands.
    begin_population_moves c.args.self.now c' h c.args.session c.args.obj c.in-Some.place c.deref.result.now c.deref.ensures.value c.in-Some.ensures.0 c.in-Some.ensures.1 (sym c.is_flushing.ensures ∙ c.if-is_flushing.false)
    c.in-Some-at.definition (c.in-Some-at.ensures c'.log stands) c.if-not-definition.false _ c.hold.new.self c.in_ok-next.next
    (set_left c.args.self.now.sessions c.in-Some.place _ c.deref_mut.result.now c.begin_in.new.sessions c.deref_mut.ensures.value
    (c.begin_in.ensures ∙ ap (λ (p : Population). slice_set c.deref_mut.result.now c.in-Some.place (Populating p)) c.in_ok-population.ensures))
    c.hold.ensures.quiesce c.hold.ensures.same c.in_ok-next.ensures
