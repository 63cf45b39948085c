use Rattle.std.proofs.Common.{◌≡◌, ◌<◌, ◌≤◌, ◌-◌, length, get_or, subst, rules}
use Rattle.scn_queue.specs.Queue.{IsPartedAt}
use Rattle.scn_queue.proofs.Parted.{parted_at_end}
use Rattle.scn_queue.proofs.queue.ScnQueue.place_of.Goals as goal

pub returns-else-gt : goal.returns-else-gt
returns-else-gt g c =
    let scn = g.T.HasScn.scn_of in
    let xs = c.self.inside.entries.items in
    let last = c.in-Some.last.now in
    let len : length xs ≡ c.len.result = search rules in
    let some : 0 < length xs = search rules in
    let is : last ≡ get_or xs (length xs - 1) last = search rules in
    let low : scn last ≤ c.args.scn = search rules in
    subst (λ l. IsPartedAt scn c.args.scn l c.len.result) c.self.view_is
    (subst (IsPartedAt scn c.args.scn xs) len (parted_at_end scn c.args.scn xs last c.self.invariant some is low))
