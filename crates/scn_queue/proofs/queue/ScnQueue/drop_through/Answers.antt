use Rattle.std.proofs.Common.{◌≡◌, drop, ap, ◌∙◌, rules}
use Rattle.scn_queue.proofs.Parted.{left}
use Rattle.scn_queue.proofs.queue.ScnQueue.drop_through.Goals as goal

pub returns : goal.returns
returns g c =
    let xs = c.args.self.now in
    let end = c.count_upto-end.result in
    let at_end : c.loop.counter ≡ end = search rules in
    let gone : c.loop.self-inside.entries.items ≡ drop c.loop.counter xs = c.loop.invariant ∙ ap (drop c.loop.counter) c.self.view_is in
    gone ∙ ap (λ n. drop n xs) at_end ∙ left g.T.HasScn.scn_of c.args.through xs end c.count_upto-end.ensures
