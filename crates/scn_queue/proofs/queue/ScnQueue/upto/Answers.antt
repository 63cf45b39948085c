use Rattle.std.proofs.Common.{◌≡◌, ◌-◌, ◌++◌, min, length, take, sym, ◌∙◌, subst, rules}
use Rattle.std.proofs.lemmas.List.Kept.{IsNonDecreasingBy-filter}
use Rattle.std.specs.Bool.{nat_le}
use Rattle.scn_queue.specs.Queue.{IsInScnOrder}
use Rattle.scn_queue.proofs.Parted.{taken, front_of_two}
use Rattle.scn_queue.proofs.queue.ScnQueue.upto.Goals as goal

pub returns-clause-found : goal.returns-clause-found
returns-clause-found g c =
    let xs = c.args.self.now in
    let count = c.count_upto-count.result in
    let head = c.as_slices.result.0.now in
    let tail = c.as_slices.result.1.now in
    let copied : c.from_vec.result ≡ take (min count (length head)) head ++ take (count - min count (length head)) tail = search rules in
    let whole : head ++ tail ≡ xs = c.as_slices.ensures.items ∙ c.self.view_is in
    copied ∙ front_of_two head tail xs count whole ∙ taken g.T.HasScn.scn_of c.args.through xs count c.count_upto-count.ensures

pub returns-clause-order : goal.returns-clause-order
returns-clause-order g c =
    let scn = g.T.HasScn.scn_of in
    let order : IsInScnOrder scn c.args.self.now = subst (IsInScnOrder scn) c.self.view_is c.self.invariant in
    subst (IsInScnOrder scn) (sym (returns-clause-found g c)) (IsNonDecreasingBy-filter scn (λ x. nat_le (scn x) c.args.through) c.args.self.now order)
