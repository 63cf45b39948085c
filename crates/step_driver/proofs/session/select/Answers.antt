use Rattle.std.proofs.Common.{ap, ◌∙◌}
use Rattle.adg_base.specs.declared.command.Select.{Select}
use Rattle.core_rules.specs.declared.event.Event.TheVariants as event
use Rattle.turn_rules.specs.Picks.{Makes}
use Rattle.step_driver.proofs.Asked.{select_by, selects, selects_nothing}
use Rattle.step_driver.proofs.session.select.Goals as goal

pub returns-in_ok-select-in-Free : goal.returns-in_ok-select-in-Free
returns-in_ok-select-in-Free c c' place s h number found =
    ap (λ (query : Select). Makes (event.ScanBegin c.args.session query)) c.in_ok-select-in-Free.ensures
    ∙ ap (select_by c.args.session c.args.query.now) (c.in-Free.ensures c' place s h number found) ∙ selects c.args.session c.args.query.now s

pub returns-in-Gather : goal.returns-in-Gather
returns-in-Gather c c' place s h number found = ap (select_by c.args.session c.args.query.now) (c.in-Gather.ensures c' place s h number found) ∙ selects c.args.session c.args.query.now s

pub returns-in-Answer : goal.returns-in-Answer
returns-in-Answer c c' place s h number found = ap (select_by c.args.session c.args.query.now) (c.in-Answer.ensures c' place s h number found) ∙ selects c.args.session c.args.query.now s

pub returns-in-Register : goal.returns-in-Register
returns-in-Register c c' place s h number found = selects_nothing c.args.session c.args.query.now s c.duty.result (c.duty.ensures c' place s h number found) c.in-Register.is
