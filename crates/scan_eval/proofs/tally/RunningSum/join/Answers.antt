use Rattle.std.proofs.Common.{ap, arith}
use Rattle.std.proofs.lemmas.Int.{ints}
use Rattle.scan_eval.specs.Summed.{Summed}
use Rattle.scan_eval.proofs.tally.RunningSum.join.Goals as goal

pub invariant_of-self : goal.invariant_of-self
invariant_of-self c =
    let a = c.self.invariant in
    let b = c.other.invariant in
    let own = ap (λ (s : Summed). s.terms) c.self.view_is in
    let more = ap (λ (s : Summed). s.terms) c.other.view_is in
    (omega (arith, ints, a.0, a.1, b.0, b.1, own, more, c.requires), omega (arith, ints, a.0, a.1, b.0, b.1, own, more, c.requires))
