use Rattle.std.proofs.Common.{◌≡◌}
use Rattle.storage_tests.proofs.builds.built.Given as goal

abbrev pub invariant-loop-index : goal.invariant-loop-index
invariant-loop-index l = record {
  obj : l.build.obj ≡ l.obj;
  extent : l.build.extent ≡ 1;
  width : l.build.width ≡ 3;
  blocks : l.build.blocks ≡ l.index;
}
