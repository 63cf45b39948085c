use Rattle.std.proofs.Common.{◌≡◌, false, ap, ◌∙◌, sym, subst, rules}
use Rattle.std.specs.List.{list_any}
use Rattle.adg_journal.specs.Places.{EachOnce, same_place}
use Rattle.adg_journal.proofs.Once.{added_once}
use Rattle.adg_journal.proofs.places.Places.note.Goals.{then-len-eq-FEW+in_ok-make_index, else-len-eq-FEW}
use Rattle.adg_journal.proofs.places.Places.note.Goals as goal

pub returns-clause-once : goal.returns-clause-once
returns-clause-once c =
    let same : c.if-len-eq-FEW.self ≡ c.args.self.now = search rules in
    let absent : list_any (same_place c.args.addr) c.if-len-eq-FEW.self ≡ false = ap (list_any (same_place c.args.addr)) same ∙ sym c.if-has.ensures in
    added_once c.add.result c.args.addr c.if-len-eq-FEW.self c.add.new.self c.add.ensures.ok c.add.ensures.err absent (subst EachOnce (c.self.view_is ∙ sym same) c.self.invariant.0)
