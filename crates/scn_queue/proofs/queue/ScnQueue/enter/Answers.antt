use Rattle.std.proofs.Common.{ap, ◌∙◌, subst}
use Rattle.std.specs.List.{insert}
use Rattle.scn_queue.specs.Queue.{IsPartedAt}
use Rattle.scn_queue.proofs.Parted.{entered_at}
use Rattle.scn_queue.proofs.queue.ScnQueue.enter.Goals as goal

pub returns-clause-ok : goal.returns-clause-ok
returns-clause-ok g c =
    let scn = g.T.HasScn.scn_of in
    let xs = c.args.self.now in
    let place = c.place_of-place.result in
    let parted = subst (λ s. IsPartedAt scn s xs place) c.scn.ensures c.place_of-place.ensures in
    c.in_ok-insert.ensures.items ∙ ap (λ l. insert l place c.args.entry) c.self.view_is ∙ entered_at scn c.args.entry xs place parted
