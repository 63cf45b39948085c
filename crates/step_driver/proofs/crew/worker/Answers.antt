use Rattle.std.proofs.Common.{◌≡◌, ◌+◌, cond, false, ◌&&◌, refl, sym, ap, ◌∙◌}
use Rattle.std.specs.Prelude.{slice_get}
use Rattle.std.proofs.lemmas.Bool.{and_from, and_left, and_right}
use Rattle.core_rules.specs.declared.event.Event.TheVariants as event
use Rattle.core_rules.specs.State.{is_flushing}
use Rattle.core_rules.proofs.Lists.{at_exists}
use Rattle.turn_rules.specs.Picks.{Makes, has_unclaimed, share_act}
use Rattle.standby_core.specs.Crew.{event_of}
use Rattle.step_driver.proofs.Crewed.{with_link, without_link, claims_next, claims_none}
use Rattle.step_driver.proofs.crew.worker.Goals.{then-is_flushing+else-has_unclaimed, else-is_flushing}
use Rattle.step_driver.proofs.crew.worker.Goals as goal

pub returns-in-Some : goal.returns-in-Some
returns-in-Some c c' h within =
    with_link c.args.core.now c' h c.workers.result (c.args.worker + 1) c.in-Some.cursor (event_of c.next_of_link.result)
    (cond (is_flushing c'.quiesce && has_unclaimed c'.links) (Makes (event.Claim (c.args.worker + 1))) (share_act c' c.args.worker (slice_get c'.workers c.args.worker)))
    (c.workers.ensures c' h) (c.in-Some.ensures.some c' h) c.next_of_link.ensures

pub returns-in-None : goal.returns-in-None
returns-in-None c c' h within =
    claims_next c.args.core.now c' h (c.args.worker + 1) (share_act c' c.args.worker (slice_get c'.workers c.args.worker))
    (and_from (is_flushing c'.quiesce) (has_unclaimed c'.links) (sym (c.if-is_flushing.ensures c' h)) (sym (c.if-has_unclaimed.ensures c' h)))
    ∙ without_link c.args.core.now c' h (c.args.worker + 1)
    (cond (is_flushing c'.quiesce && has_unclaimed c'.links) (Makes (event.Claim (c.args.worker + 1))) (share_act c' c.args.worker (slice_get c'.workers c.args.worker)))
    (c.in-None.ensures.none refl c' h)

pub returns-in-None-2 : goal.returns-in-None-2
returns-in-None-2 c c' h within =
    let w = at_exists c'.workers c.args.worker within in
    let no : (is_flushing c'.quiesce && has_unclaimed c'.links) ≡ false = elim c.if-is_flushing.branch [
      | then-is_flushing+else-has_unclaimed w ↦ and_right (is_flushing c'.quiesce) (has_unclaimed c'.links) (sym (w.if-has_unclaimed.ensures c' h))
      | else-is_flushing w ↦ and_left (is_flushing c'.quiesce) (has_unclaimed c'.links) (sym (w.if-is_flushing.ensures c' h))
    ] in
    c.at_share.ensures c' w.0 h w.1 ∙ ap (share_act c' c.args.worker) (sym w.1)
    ∙ claims_none c.args.core.now c' h (c.args.worker + 1) (share_act c' c.args.worker (slice_get c'.workers c.args.worker)) no
    ∙ without_link c.args.core.now c' h (c.args.worker + 1)
    (cond (is_flushing c'.quiesce && has_unclaimed c'.links) (Makes (event.Claim (c.args.worker + 1))) (share_act c' c.args.worker (slice_get c'.workers c.args.worker)))
    (c.in-None-2.ensures.none refl c' h)
