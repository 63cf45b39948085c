use Rattle.std.proofs.Common.{◌≡◌, length, refl, ap, ◌∙◌}
use Rattle.turn_rules.specs.Picks.{actor_of, act_of}
use Rattle.step_driver.proofs.turn.take_turn.Goals as goal

pub take_crew_turn-requires-then-waits-clause-picked : goal.take_crew_turn-requires-then-waits-clause-picked
take_crew_turn-requires-then-waits-clause-picked c r s =
    let workers : c.workers.result ≡ length r.core.workers = c.workers.ensures r.core s.core in
    c.if-waits.ensures refl c.args.dictionary.now r s ∙ ap (act_of r) (c.in-Session.ensures.is ∙ ap (λ n. actor_of n c.args.number) workers)
