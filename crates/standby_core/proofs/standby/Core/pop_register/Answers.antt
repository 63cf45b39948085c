use Rattle.std.proofs.Common.{inl, refl, sym, ◌∙◌}
use Rattle.column_units.specs.Shard.{KeepsAll}
use Rattle.standby_core.specs.Populating.{TakesUnit}
use Rattle.standby_core.specs.declared.populate.Phase.TheVariants.{Registering}
use Rattle.standby_core.specs.declared.session.Session.TheVariants.{Populating}
use Rattle.standby_core.proofs.Exits.{at_err}
use Rattle.standby_core.proofs.Seating.{set_left, same_left, set_in_left, at_in, seat_within}
use Rattle.standby_core.proofs.Registering.{register_barred, register_keeps, register_moves}
use Rattle.standby_core.proofs.standby.Core.pop_register.Goals as goal

pub returns-in_default-clause-ok : goal.returns-in_default-clause-ok
returns-in_default-clause-ok c = λ c' h. record {
  next = c';
  steps = inl (refl, register_barred c.args.self.now c' h c.args.session c.deref.result.now c.deref.ensures.value (c.in_default.ensures.none refl), refl);
  shows = h.shows;
}

pub register_next-requires-clause-within : goal.register_next-requires-clause-within
register_next-requires-clause-within c = seat_within c.deref.result.now c.deref_mut.result.now c.args.self.now.sessions.items c.args.session Registering c.in-Some.place c.deref.ensures.value c.deref_mut.ensures.value c.in-Some.ensures.some

pub returns-in_err-register_next-clause-err : goal.returns-in_err-register_next-clause-err
returns-in_err-register_next-clause-err c = at_err c.from_residual.result (λ c' h.
    let p = c.in-Some.ensures.some.population in
    let found = at_in c.deref.result.now c.deref_mut.result.now c.in-Some.place (Populating p) (c.deref.ensures.value ∙ sym c.deref_mut.ensures.value) c.in-Some.ensures.some.found in
    register_keeps c.args.self.now c' h c.args.session _ _ _
    (same_left c.args.self.now.sessions c.deref_mut.result.now c.register_next.new.sessions c.deref_mut.ensures.value c.in_err-register_next.ensures.same)
    (set_in_left KeepsAll c.args.self.now.units _ c.deref_mut-2.result.now c.register_next.new.units c.deref_mut-2.ensures.value (c.in_err-register_next.ensures.kept p found)))

pub returns-clause-ok : goal.returns-clause-ok
returns-clause-ok c = λ c' h.
    let p = c.in-Some.ensures.some.population in
    let found = at_in c.deref.result.now c.deref_mut.result.now c.in-Some.place (Populating p) (c.deref.ensures.value ∙ sym c.deref_mut.ensures.value) c.in-Some.ensures.some.found in
    register_moves c.args.self.now c' h c.args.session c.in-Some.place c.deref.result.now c.deref.ensures.value c.in-Some.ensures.some _ _
    (set_left c.args.self.now.sessions c.in-Some.place _ c.deref_mut.result.now c.register_next.new.sessions c.deref_mut.ensures.value (c.in_ok-register_next.ensures.population p found))
    (set_in_left (TakesUnit p.obj p.registered p.snapshot p.ticket) c.args.self.now.units _ c.deref_mut-2.result.now c.register_next.new.units c.deref_mut-2.ensures.value (c.in_ok-register_next.ensures.unit p found))
