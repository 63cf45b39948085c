use Rattle.std.proofs.Common.{◌≡◌, ◌+◌, length, take}
use Rattle.std.specs.List.{flat_map}
use Rattle.adg_model.specs.Spelling.{vector_bytes}
use Rattle.change_vectors.proofs.size.room_after_vectors.Given as goal

abbrev pub invariant-loop-vector : goal.invariant-loop-vector
invariant-loop-vector l = l.left + length (flat_map vector_bytes (take l.vector-index l.vectors)) ≡ l.room
