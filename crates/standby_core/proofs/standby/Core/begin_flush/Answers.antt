use Rattle.std.proofs.Common.{inl, refl, sym, ap, ◌∙◌}
use Rattle.std.specs.List.{flat_map}
use Rattle.standby_core.specs.Begin.{ends_upto}
use Rattle.standby_core.proofs.Beginning.{begin_barred, begin_moves, workers_left}
use Rattle.standby_core.proofs.standby.Core.begin_flush.Goals as goal

pub returns-then-not-can_flush-clause-ok : goal.returns-then-not-can_flush-clause-ok
returns-then-not-can_flush-clause-ok c = λ c' h. record {
  next = c';
  steps = inl (refl, begin_barred c.args.self.now c' h c.args.through (sym c.can_flush.ensures ∙ c.if-not-can_flush.true), refl);
  shows = h.shows;
}

pub returns-clause-ok : goal.returns-clause-ok
returns-clause-ok c = λ c' h. begin_moves c.args.self.now c' h c.args.through (sym c.can_flush.ensures ∙ c.if-not-can_flush.false)
    c.in_ok-nodes.nodes.items (c.in_ok-nodes.ensures ∙ ap (flat_map (ends_upto c.args.through)) c.deref.ensures.value) c.in_ok-links.links.items c.in_ok-links.ensures
    _ (workers_left c.args.self.now.workers c.args.through c.deref_mut.result.now c.drop_through.new.workers c.deref_mut.ensures.value c.drop_through.ensures) c.drop_through-2.new.self c.drop_through-2.ensures
    c.open.new.self c.open.ensures.quiesce c.open.ensures.links c.open.ensures.claimed c.open.ensures.done c.open.ensures.held
