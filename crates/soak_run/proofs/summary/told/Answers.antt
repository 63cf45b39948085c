use Rattle.std.proofs.Common.{◌≡◌, [], ◌∷◌, sym, ap, ◌∙◌, map, subst, ◌==◌, rules}
use Rattle.std.specs.Prelude.{IfOk}
use Rattle.std.proofs.lemmas.Iterator.Consumers.{YieldsList-end}
use Rattle.std.proofs.lemmas.Iterator.Splits.{YieldsList-from_slice_split}
use Rattle.std.proofs.lemmas.List.{map_push}
use Rattle.soak_run.specs.Telling.{Told, nothing_told, after_line, after_lines, with_run}
use Rattle.soak_run.proofs.Reading.{after_append}
use Rattle.soak_run.proofs.summary.told.Goals as goal

pub loop-line-preserved : goal.loop-line-preserved
loop-line-preserved c =
    c.in_ok-read.ensures
    ∙ ap (λ t. after_line t c.in-Some.line.now) c.loop-line.invariant
    ∙ sym (ap (after_lines nothing_told) (map_push (λ x. x.now) c.loop-line.yielded c.in-Some.line) ∙ after_append nothing_told (map (λ x. x.now) c.loop-line.yielded) (c.in-Some.line.now ∷ []))

pub returns : goal.returns
returns c =
    let end = YieldsList-end (YieldsList-from_slice_split _ (λ b. b == 10) c.args.transcript.now (search rules) (search rules) (search rules) (λ x b q k. search rules)) c.loop-line.yielded _ c.loop-line.yielded_by _ _ c.in-None.is c.next.ensures.steps in
    subst (λ (t : Told). IfOk c.finish.result (λ text. text.items ≡ with_run c.args.seed c.args.txns t)) (c.loop-line.invariant ∙ ap (after_lines nothing_told) end.0) c.finish.ensures
