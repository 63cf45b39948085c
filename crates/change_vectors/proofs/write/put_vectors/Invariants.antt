use Rattle.std.proofs.Common.{◌≡◌, ◌++◌, length, take}
use Rattle.std.specs.List.{flat_map, AllByRecursion}
use Rattle.adg_model.specs.Spelling.{vector_bytes, IsVector}
use Rattle.change_vectors.proofs.write.put_vectors.Given as goal

abbrev pub invariant-loop-vector : goal.invariant-loop-vector
invariant-loop-vector l = record {
  written : l.out.items ≡ l.initial.out.items ++ flat_map vector_bytes (take l.vector-index l.vectors);
  good : AllByRecursion (IsVector (length l.vectors)) (take l.vector-index l.vectors);
}
