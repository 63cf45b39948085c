use Rattle.std.proofs.Common.{◌≡◌, ◌++◌, take}
use Rattle.std.specs.List.{flat_map, AllByRecursion}
use Rattle.adg_model.specs.Spelling.{value_bytes, IsValue}
use Rattle.change_vectors.proofs.write.put_values.Given as goal

abbrev pub invariant-loop-value : goal.invariant-loop-value
invariant-loop-value l = record {
  written : l.out.items ≡ l.initial.out.items ++ flat_map value_bytes (take l.value-index l.values);
  good : AllByRecursion IsValue (take l.value-index l.values);
}
