use Rattle.std.proofs.Common.{◌≡◌, ◌++◌, ◌∷◌, [], take}
use Rattle.std.specs.List.{flat_map}
use Rattle.adg_model.specs.Spelling.{kind_byte}
use Rattle.change_vectors.proofs.write.put_kinds.Given as goal

abbrev pub invariant-loop-kind : goal.invariant-loop-kind
invariant-loop-kind l = l.out.items ≡ l.initial.out.items ++ flat_map (λ k. kind_byte k ∷ []) (take l.kind-index l.kinds)
