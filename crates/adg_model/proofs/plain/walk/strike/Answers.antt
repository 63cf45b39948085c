use Rattle.std.proofs.Common.{List, sym, ap, ◌∙◌}
use Rattle.std.specs.List.{position}
use Rattle.adg_model.specs.Database.{Change}
use Rattle.adg_base.specs.Address.{place, same_place}
use Rattle.adg_model.proofs.PlainWalk.{removed, struck_removed}
use Rattle.adg_model.proofs.plain.walk.strike.Goals as goal

pub returns-in-Some : goal.returns-in-Some
returns-in-Some c =
    let a = place c.args.obj c.args.block c.args.slot in
    let found = c.in-Some.ensures ∙ ap (λ (cs : List Change). position (λ x. same_place a x.at) cs) c.as_slice.ensures.value in
    c.remove.ensures.items ∙ ap (removed c.args.changes.now.items) found ∙ sym (struck_removed a c.args.changes.now.items)

pub returns-in-None : goal.returns-in-None
returns-in-None c =
    let a = place c.args.obj c.args.block c.args.slot in
    let none = c.in-None.ensures ∙ ap (λ (cs : List Change). position (λ x. same_place a x.at) cs) c.as_slice.ensures.value in
    ap (removed c.args.changes.now.items) none ∙ sym (struck_removed a c.args.changes.now.items)
