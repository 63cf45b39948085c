use Rattle.std.proofs.Common.{◌≡◌, ◌+◌, get_or, Option, Some, sym, ap, ◌∙◌, subst}
use Rattle.std.specs.List.{Contains}
use Rattle.std.proofs.lemmas.Option.{slice_get-get_or}
use Rattle.adg_base.specs.declared.log.LogEntry.{LogEntry}
use Rattle.adg_model.specs.declared.mined.Mined.{Mined}
use Rattle.adg_model.specs.Mined.{mined_of}
use Rattle.core_rules.specs.State.{At}
use Rattle.core_rules.proofs.Lists.{at_same}
use Rattle.standby_core.specs.Mining.{TakesMined}
use Rattle.standby_core.proofs.Taken.{mined_more}
use Rattle.standby_core.proofs.Exits.{at_err}
use Rattle.standby_core.proofs.worker.Worker.mine.Goals as goal

pub returns-clause-ok : goal.returns-clause-ok
returns-clause-ok c log e stands within at =
    let x = c.args.self.now in
    let y = c.take.new.self in
    let e0 = c.index-as_slice-self.result in
    let at0 : At x.share x.mined e0 = slice_get-get_or x.share x.mined e0 c.requires.left ∙ ap Some (sym (c.index-as_slice-self.is ∙ ap (λ l. get_or l x.mined e0) c.as_slice.ensures)) in
    let same : e0 ≡ e = at_same x.share x.mined e0 e at0 at in
    let what : c.mine-what.result ≡ mined_of log e0 = c.mine-what.ensures log stands (subst (Contains log) (sym same) within) in
    let more = mined_more e0.scn e0.pos c.mine-what.result x y c.args.ddl.now c.take.new.ddl c.in_ok-take.ensures.ok in
    subst (λ (z : LogEntry). TakesMined z.scn z.pos (mined_of log z) (record x { mined = x.mined + 1 }) (record y { mined = y.mined + 1 }) c.args.ddl.now c.take.new.ddl) same
    (subst (λ (w : Option Mined). TakesMined e0.scn e0.pos w (record x { mined = x.mined + 1 }) (record y { mined = y.mined + 1 }) c.args.ddl.now c.take.new.ddl) what more)

pub returns-in_err-take-clause-err : goal.returns-in_err-take-clause-err
returns-in_err-take-clause-err c = at_err c.from_residual.result c.in_err-take.ensures.err
