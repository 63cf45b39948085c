use Rattle.std.proofs.Common.{cond, refl, sym, ◌∙◌}
use Rattle.core_rules.specs.State.{is_flushing}
use Rattle.turn_rules.specs.Picks.{flushing_act, calm_act}
use Rattle.standby_core.specs.Crew.{event_of}
use Rattle.step_driver.proofs.Crewed.{with_link, without_link, coordinates_flush}
use Rattle.step_driver.proofs.crew.coordinator.Goals as goal

pub returns-in-Some : goal.returns-in-Some
returns-in-Some c c' h =
    with_link c.args.core.now c' h c.workers.result 0 c.in-Some.cursor (event_of c.next_of_link.result) (cond (is_flushing c'.quiesce) (flushing_act c'.links) (calm_act c'))
    (c.workers.ensures c' h) (c.in-Some.ensures.some c' h) c.next_of_link.ensures

pub returns-in-None : goal.returns-in-None
returns-in-None c c' h =
    c.flushing.ensures c' h ∙ coordinates_flush c.args.core.now c' h (sym (c.if-is_flushing.ensures c' h))
    ∙ without_link c.args.core.now c' h 0 (cond (is_flushing c'.quiesce) (flushing_act c'.links) (calm_act c')) (c.in-None.ensures.none refl c' h)
