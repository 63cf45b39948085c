use Rattle.std.proofs.Common.{inl, refl, sym, ◌∙◌}
use Rattle.standby_core.proofs.Claiming.{link_held, done_barred, done_moves, done_needs_link, done_below, places_are}
use Rattle.standby_core.proofs.standby.Core.done.Goals as goal
use Rattle.standby_core.proofs.standby.Core.done.Goals.{in_default-via-in-Some+else-has_come_to, in_default-via-in_default}

-- src/claim.rt:37:17
pub finish-requires-clause-count : goal.finish-requires-clause-count
finish-requires-clause-count c = done_below c.args.self.now c.requires.state c.requires.is c.args.actor c.in-Some.number c.in-Some.ensures

-- src/claim.rt:30:5
pub returns-in-Some : goal.returns-in-Some
returns-in-Some c = λ c' h.
    let link = link_held c.args.self.now c' h c.args.actor c.in-Some.number c.in-Some.ensures in
    done_moves c.args.self.now c' h c.args.actor c.in-Some.number c.in-Some.ensures c.finish.new.self c.places.result
    (places_are c.args.self.now c' h c.places.result c.places.ensures)
    (sym (c.has_come_to.ensures link.own c.args.actor link.cursor link.at link.own_stage) ∙ c.if-has_come_to.true)
    c.finish.ensures.held c.finish.ensures.links c.finish.ensures.done c.finish.ensures.same c.finish.ensures.claimed

-- src/claim.rt:30:5
pub returns-in_default : goal.returns-in_default
returns-in_default c = λ c' h. elim c.in_default.branch [
  | in_default-via-in-Some+else-has_come_to w ↦
      (let link = link_held c.args.self.now c' h c.args.actor w.in-Some.number w.in-Some.ensures in
      record {
        next = c';
        steps = inl (
          refl,
          done_barred c.args.self.now c' h c.args.actor w.in-Some.number w.in-Some.ensures w.places.result
              (places_are c.args.self.now c' h w.places.result w.places.ensures)
              (sym (w.has_come_to.ensures link.own c.args.actor link.cursor link.at link.own_stage) ∙ w.if-has_come_to.false),
          refl,
        );
        shows = h.shows;
      })
  | in_default-via-in_default w ↦ record {
    next = c';
    steps = inl (refl, done_needs_link c.args.self.now c' h c.args.actor w.in_default.ensures, refl);
    shows = h.shows;
  }
]
