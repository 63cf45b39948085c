use Rattle.storage_tests.proofs.scans.assert_case.Goals as goal

pub add_extent-requires-clause-covers : goal.add_extent-requires-clause-covers
add_extent-requires-clause-covers g c = (c.scan_extent.ensures.still c.in_ok-q.q c.requires.shards).0
