use Rattle.std.proofs.Common.{◌≡◌, ◌++◌, take, codes}
use Rattle.std.specs.List.{flat_map}
use Rattle.feed_text.specs.Words.{vector_text}
use Rattle.feed_text.proofs.text.put_other_vectors.Given as goal

abbrev pub invariant-loop-vector : goal.invariant-loop-vector
invariant-loop-vector l = l.out.items ≡ l.initial.out.items ++ flat_map (λ w. codes "; " ++ vector_text w) (take l.vector-index l.vectors)
