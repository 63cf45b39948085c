use Rattle.std.proofs.Common.{◌≡◌, ◌<◌, ◌∙◌, sym, subst, length, get_or, rules}
use Rattle.adg_journal.specs.Places.{EachOnce}
use Rattle.adg_journal.proofs.Once.{indexed_more}
use Rattle.adg_journal.proofs.places.Places.make_index.Goals as goal

pub loop-addr-preserved : goal.loop-addr-preserved
loop-addr-preserved c =
    let ps = c.deref-addr-items.result.now in
    let at = c.addr-item.result in
    let once : EachOnce ps = subst EachOnce (sym c.deref-addr-items.ensures.value) c.self.invariant.0 in
    let within : c.loop-addr.addr-index < length ps = search rules in
    let is : at ≡ get_or ps c.loop-addr.addr-index at = search rules in
    c.in_ok-insert.ensures.keys ∙ indexed_more ps c.loop-addr.index.keys c.loop-addr.addr-index at once within is c.loop-addr.invariant
