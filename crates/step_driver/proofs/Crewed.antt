-- What the coordinator and a worker do, by what the looks at a core tell.
use Rattle.std.proofs.Common.{◌≡◌, ℕ, true, false, cond, ◌&&◌, length, sym, ap, ◌∙◌}
use Rattle.core_rules.specs.declared.event.Event.{Event}
use Rattle.core_rules.specs.declared.event.Event.TheVariants as event
use Rattle.core_rules.specs.State.{CoreState, is_flushing}
use Rattle.standby_core.specs.declared.standby.Core.{Core}
use Rattle.standby_core.specs.Duty.{HasCursor}
use Rattle.standby_core.specs.Shows.{IsState}
use Rattle.turn_rules.specs.Picks.{Act, Makes, cursor_of, link_event, link_act, has_unclaimed, flushing_act, calm_act}
use Rattle.turn_rules.proofs.Cursors.{cursor_of_holder, cursor_of_nobody}

module _ (core : Core) (c : CoreState) (h : IsState core c) where
  -- The act of an actor that has a worklink, and of one that has none.
  pub with_link : (workers actor cursor : ℕ) (e : Event) (other : Act) → workers ≡ length c.workers → HasCursor c.links actor cursor → e ≡ link_event workers actor cursor
      → Makes e ≡ link_act (length c.workers) actor (cursor_of actor c.links) other
  with_link workers actor cursor e other count u is =
      ap Makes is ∙ ap (λ n. Makes (link_event n actor cursor)) count
      ∙ sym (ap (λ o. link_act (length c.workers) actor o other) (cursor_of_holder (length c.workers) actor c.links h.invariant.flush.claims u.number u.link cursor u.collected u.found u.stage))

  pub without_link : (actor : ℕ) (other : Act) → ((cursor : ℕ) → HasCursor c.links actor cursor → ⊥) → other ≡ link_act (length c.workers) actor (cursor_of actor c.links) other
  without_link actor other none =
      sym (ap (λ o. link_act (length c.workers) actor o other)
      (cursor_of_nobody actor c.links (λ n l cursor collected at e. none cursor (record { number = n; link = l; collected = collected; found = at; stage = e }))))

  -- The coordinator, in a flush.
  pub coordinates_flush : is_flushing c.quiesce ≡ true → flushing_act c.links ≡ cond (is_flushing c.quiesce) (flushing_act c.links) (calm_act c)
  coordinates_flush f = sym (ap (λ b. cond b (flushing_act c.links) (calm_act c)) f)

  -- A worker.
  pub claims_next : (actor : ℕ) (other : Act) → (is_flushing c.quiesce && has_unclaimed c.links) ≡ true → Makes (event.Claim actor) ≡ cond (is_flushing c.quiesce && has_unclaimed c.links) (Makes (event.Claim actor)) other
  claims_next actor other t = sym (ap (λ b. cond b (Makes (event.Claim actor)) other) t)

  pub claims_none : (actor : ℕ) (other : Act) → (is_flushing c.quiesce && has_unclaimed c.links) ≡ false → other ≡ cond (is_flushing c.quiesce && has_unclaimed c.links) (Makes (event.Claim actor)) other
  claims_none actor other f = sym (ap (λ b. cond b (Makes (event.Claim actor)) other) f)
