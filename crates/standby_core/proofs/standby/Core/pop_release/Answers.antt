use Rattle.std.proofs.Common.{inl, refl, sym, ◌∙◌}
use Rattle.standby_core.proofs.Seating.{set_left, at_in, seat_within}
use Rattle.standby_core.proofs.Releasing.{release_barred, release_moves}
use Rattle.standby_core.specs.declared.populate.Phase.TheVariants.{Registered}
use Rattle.standby_core.specs.declared.session.Session.TheVariants.{Populating}
use Rattle.standby_core.proofs.standby.Core.pop_release.Goals as goal

pub returns-in_default : goal.returns-in_default
returns-in_default c = λ c' h. record {
  next = c';
  steps = inl (refl, release_barred c.args.self.now c' h c.args.session c.deref.result.now c.deref.ensures.value (c.in_default.ensures.none refl), refl);
  shows = h.shows;
}

pub let_go-requires : goal.let_go-requires
let_go-requires c = seat_within c.deref.result.now c.deref_mut.result.now c.args.self.now.sessions.items c.args.session Registered c.in-Some.place c.deref.ensures.value c.deref_mut.ensures.value c.in-Some.ensures.some

pub returns : goal.returns
returns c = λ c' h. release_moves c.args.self.now c' h c.args.session c.in-Some.place c.deref.result.now c.deref.ensures.value c.in-Some.ensures.some
    _ c.release.new.self
    (set_left c.args.self.now.sessions c.in-Some.place _ c.deref_mut.result.now c.let_go.new.sessions c.deref_mut.ensures.value
    (c.let_go.ensures c.in-Some.ensures.some.population (at_in c.deref.result.now c.deref_mut.result.now c.in-Some.place (Populating c.in-Some.ensures.some.population) (c.deref.ensures.value ∙ sym c.deref_mut.ensures.value) c.in-Some.ensures.some.found)))
    c.release.ensures.quiesce c.release.ensures.same
