use Rattle.std.proofs.Common.{false, ap, sym, ◌∙◌}
use Rattle.std.specs.Prelude.{◌||◌, ◌&&◌, ◌==◌}
use Rattle.step_driver.proofs.Played.{over_now}
use Rattle.step_driver.proofs.round.is_over.Goals as goal

pub returns-then-seats-eq0 : goal.returns-then-seats-eq0
returns-then-seats-eq0 c known r s =
    let x = c.args.seats.now in
    let q = c.query_scn.result in
    let f = c.frontier.result in
    c.eq.ensures
    ∙ sym (ap (λ b. b || ((x.waiting == 0) && (q == f))) c.if-seats.false ∙ ap (λ n. false || ((n == 0) && (q == f))) c.if-seats-eq0.true)
    ∙ over_now known c.args.core.now x r q f s (c.query_scn.ensures r.core s.core) (c.frontier.ensures r.core s.core)
