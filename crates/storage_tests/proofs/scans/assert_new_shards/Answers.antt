use Rattle.std.proofs.Common.{[], sym, subst}
use Rattle.hybrid_scan.specs.Reader.{AreServing}
use Rattle.hybrid_scan.proofs.Tested.{new_serving}
use Rattle.storage_tests.proofs.scans.assert_new_shards.Goals as goal

pub assert_no_rows-requires : goal.assert_no_rows-requires
assert_no_rows-requires g c =
    subst (λ shards. AreServing shards c.in_ok-q.q) (sym c.deref.ensures.value) (new_serving c.in_ok-shards.shards.items c.in_ok-q.q c.in_ok-shards.ensures.count c.in_ok-shards.ensures.stand (c.in_ok-shards.ensures.settled []))
