use Rattle.std.proofs.Common.{cond, ap, ◌∙◌}
use Rattle.core_rules.specs.declared.event.Event.TheVariants as event
use Rattle.core_rules.specs.State.{is_flushing}
use Rattle.turn_rules.specs.Picks.{Rests, Makes}
use Rattle.step_driver.proofs.Asked.{populate_by, populates, populates_nothing}
use Rattle.step_driver.proofs.session.populate.Goals as goal

pub returns-in-Free : goal.returns-in-Free
returns-in-Free c c' place s h number found =
    ap (λ b. cond b Rests (Makes (event.PopBegin c.args.session c.args.obj))) (c.if-is_flushing.ensures c' h)
    ∙ ap (populate_by (is_flushing c'.quiesce) c.args.session c.args.obj) (c.in-Free.ensures c' place s h number found) ∙ populates c' c.args.session c.args.obj s

pub returns-in-Free-2 : goal.returns-in-Free-2
returns-in-Free-2 c c' place s h number found =
    ap (λ b. cond b Rests (Makes (event.PopBegin c.args.session c.args.obj))) (c.if-is_flushing.ensures c' h)
    ∙ ap (populate_by (is_flushing c'.quiesce) c.args.session c.args.obj) (c.in-Free-2.ensures c' place s h number found) ∙ populates c' c.args.session c.args.obj s

pub returns-in-Register : goal.returns-in-Register
returns-in-Register c c' place s h number found =
    ap (populate_by (is_flushing c'.quiesce) c.args.session c.args.obj) (c.in-Register.ensures c' place s h number found) ∙ populates c' c.args.session c.args.obj s

pub returns-in-Release : goal.returns-in-Release
returns-in-Release c c' place s h number found =
    ap (populate_by (is_flushing c'.quiesce) c.args.session c.args.obj) (c.in-Release.ensures c' place s h number found) ∙ populates c' c.args.session c.args.obj s

pub returns-in-Read : goal.returns-in-Read
returns-in-Read c c' place s h number found =
    ap (populate_by (is_flushing c'.quiesce) c.args.session c.args.obj) (c.in-Read.ensures c' place s h number found) ∙ populates c' c.args.session c.args.obj s

pub returns-in-Install : goal.returns-in-Install
returns-in-Install c c' place s h number found =
    ap (populate_by (is_flushing c'.quiesce) c.args.session c.args.obj) (c.in-Install.ensures c' place s h number found) ∙ populates c' c.args.session c.args.obj s

pub returns-in-Gather : goal.returns-in-Gather
returns-in-Gather c c' place s h number found = populates_nothing c' c.args.session c.args.obj s c.duty.result (c.duty.ensures c' place s h number found) c.in-Gather.is
