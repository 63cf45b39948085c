use Rattle.std.proofs.Common.{List, sym, subst, ◌∙◌, arith}
use Rattle.std.proofs.lemmas.Bool.Decides.{nat_tests}
use Rattle.worklinks.specs.declared.worklink.Worklink.{Worklink}
use Rattle.worklinks.proofs.Parts.{SoFar, SoFar-more}
use Rattle.worklinks.proofs.chopping.chop.Goals as goal

pub loop-rest-preserved : goal.loop-rest-preserved
loop-rest-preserved c =
    let later = c.split_at.result.1.now in
    let all = c.as_slice-rest.result.now in
    subst (λ (links : List Worklink). SoFar c.args.workers links later all) (sym c.in_ok-push.ensures.ok)
    (SoFar-more c.args.workers c.loop-rest.links c.loop-rest.rest.now later all c.in_ok-ready.field-0 c.min.result c.loop-rest.invariant (grind (arith, nat_tests)) c.min.ensures
    (c.in_ok-ready.ensures.items ∙ c.split_at.ensures.front) c.split_at.ensures.back c.in_ok-ready.ensures.ready)
