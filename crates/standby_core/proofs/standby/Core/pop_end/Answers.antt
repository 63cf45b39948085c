use Rattle.std.proofs.Common.{List, inl, refl, sym, ap, ◌∙◌}
use Rattle.std.specs.Prelude.{slice_set}
use Rattle.column_units.specs.Shard.{Units}
use Rattle.standby_core.specs.Filling.{TakesColumns, rows_read, session_after, answer_after, with_installed}
use Rattle.standby_core.specs.declared.populate.Phase.TheVariants.{Read}
use Rattle.standby_core.specs.declared.session.Session.TheVariants.{Populating}
use Rattle.standby_core.proofs.Installing.{end_barred, can_end_at, end_moves}
use Rattle.standby_core.proofs.Seating.{set_left, set_in_left, at_in, seat_within}
use Rattle.standby_core.proofs.standby.Core.pop_end.Goals as goal

pub returns-in_default-clause-ok : goal.returns-in_default-clause-ok
returns-in_default-clause-ok c = λ c' h. record {
  next = c';
  steps = inl (refl, end_barred c.args.self.now c' h c.args.session c.deref.result.now c.deref.ensures.value (c.in_default.ensures.none refl), refl);
  shows = h.shows;
}

pub end_extent-requires-clause-within : goal.end_extent-requires-clause-within
end_extent-requires-clause-within c = seat_within c.deref.result.now c.deref_mut.result.now c.args.self.now.sessions.items c.args.session Read c.in-Some.place c.deref.ensures.value c.deref_mut.ensures.value c.in-Some.ensures.some

pub end_extent-requires-clause-can : goal.end_extent-requires-clause-can
end_extent-requires-clause-can c = can_end_at c.args.self.now c.requires.state c.requires.is c.args.session c.in-Some.place c.deref.result.now c.deref.ensures.value c.in-Some.ensures.some c.deref_mut.result.now c.deref_mut.ensures.value

pub returns-clause-ok : goal.returns-clause-ok
returns-clause-ok c = λ c' h.
    let p = c.in-Some.ensures.some.population in
    let found = at_in c.deref.result.now c.deref_mut.result.now c.in-Some.place (Populating p) (c.deref.ensures.value ∙ sym c.deref_mut.ensures.value) c.in-Some.ensures.some.found in
    end_moves c.args.self.now c' h c.args.session c.in-Some.place c.deref.result.now c.deref.ensures.value c.in-Some.ensures.some _ _ c.in_ok-answer.answer
    (set_left c.args.self.now.sessions c.in-Some.place _ c.deref_mut.result.now c.end_extent.new.sessions c.deref_mut.ensures.value
    (c.in_ok-answer.ensures.session p found ∙ ap (λ (us : List Units). slice_set c.deref_mut.result.now c.in-Some.place (session_after (with_installed us p))) c.deref_mut-2.ensures.value))
    (set_in_left (TakesColumns p.obj p.build.extent p.ticket (rows_read p)) c.args.self.now.units _ c.deref_mut-2.result.now c.end_extent.new.units c.deref_mut-2.ensures.value (c.in_ok-answer.ensures.unit p found))
    (c.in_ok-answer.ensures.answer p found ∙ ap (λ (us : List Units). answer_after (with_installed us p)) c.deref_mut-2.ensures.value)
