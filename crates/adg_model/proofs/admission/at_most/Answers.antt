use Rattle.std.proofs.Common.{ℕ, take, ap, ◌∙◌}
use Rattle.std.proofs.lemmas.List.{take_min}
use Rattle.adg_model.proofs.admission.at_most.Goals as goal

pub returns : goal.returns
returns c =
    let kinds = c.args.kinds.now in
    ap (λ (n : ℕ). take n kinds) c.min-count.ensures ∙ take_min c.args.count kinds
