use Rattle.std.proofs.Common.{inl, refl, sym, ◌∙◌}
use Rattle.standby_core.specs.declared.populate.Phase.TheVariants.{Reading}
use Rattle.standby_core.specs.declared.session.Session.TheVariants.{Populating}
use Rattle.standby_core.proofs.Filling.{read_barred, can_take_at, read_moves}
use Rattle.standby_core.proofs.Seating.{set_left, at_in, seat_within}
use Rattle.standby_core.proofs.standby.Core.pop_read.Goals as goal

pub returns-in_default-clause-ok : goal.returns-in_default-clause-ok
returns-in_default-clause-ok c = λ c' h. record {
  next = c';
  steps = inl (refl, read_barred c.args.self.now c' h c.args.session c.deref.result.now c.deref.ensures.value (c.in_default.ensures.none refl), refl);
  shows = h.shows;
}

pub read_next-requires-clause-within : goal.read_next-requires-clause-within
read_next-requires-clause-within c = seat_within c.deref.result.now c.deref_mut.result.now c.args.self.now.sessions.items c.args.session Reading c.in-Some.place c.deref.ensures.value c.deref_mut.ensures.value c.in-Some.ensures.some

pub read_next-requires-clause-can : goal.read_next-requires-clause-can
read_next-requires-clause-can c = can_take_at c.args.self.now c.requires.state c.requires.is c.args.session c.in-Some.place c.deref.result.now c.deref.ensures.value c.in-Some.ensures.some c.deref_mut.result.now c.deref_mut.ensures.value c.deref-2.result.now c.deref-2.ensures.value

pub returns-clause-ok : goal.returns-clause-ok
returns-clause-ok c = λ c' h.
    let p = c.in-Some.ensures.some.population in
    let found = at_in c.deref.result.now c.deref_mut.result.now c.in-Some.place (Populating p) (c.deref.ensures.value ∙ sym c.deref_mut.ensures.value) c.in-Some.ensures.some.found in
    read_moves c.args.self.now c' h c.args.session c.in-Some.place c.deref.result.now c.deref.ensures.value c.in-Some.ensures.some c.deref-2.result.now c.deref-2.ensures.value _
    (set_left c.args.self.now.sessions c.in-Some.place _ c.deref_mut.result.now c.read_next.new.sessions c.deref_mut.ensures.value (c.in_ok-read_next.ensures.ok p found))
