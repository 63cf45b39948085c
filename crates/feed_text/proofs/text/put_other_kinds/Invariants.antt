use Rattle.std.proofs.Common.{◌≡◌, ◌++◌, take, codes}
use Rattle.std.specs.List.{flat_map}
use Rattle.feed_text.specs.Words.{kind_text}
use Rattle.feed_text.proofs.text.put_other_kinds.Given as goal

abbrev pub invariant-loop-kind : goal.invariant-loop-kind
invariant-loop-kind l = l.out.items ≡ l.initial.out.items ++ flat_map (λ y. codes ", " ++ kind_text y) (take l.kind-index l.kinds)
