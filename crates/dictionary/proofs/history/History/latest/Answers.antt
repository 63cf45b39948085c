use Rattle.std.proofs.Common.{◌≡◌, None, sym, ap, ◌∙◌}
use Rattle.dictionary.specs.History.{last_from}
use Rattle.dictionary.proofs.Steps.{last_from_get}
use Rattle.dictionary.proofs.history.History.latest.Goals as goal

pub returns : goal.returns
returns c =
    let shown : c.deref.result.now ≡ c.args.self.now = c.deref.ensures.value ∙ c.self.view_is in
    c.as_ref.ensures.value ∙ sym (last_from_get None c.deref.result.now c.in_ok-last.field-0.now c.in_ok-last.ensures.value) ∙ ap (last_from None) shown
