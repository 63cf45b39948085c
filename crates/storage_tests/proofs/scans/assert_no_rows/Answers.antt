use Rattle.std.proofs.Common.{sym, subst}
use Rattle.hybrid_scan.specs.Reader.{AreServing}
use Rattle.storage_tests.proofs.scans.assert_no_rows.Goals as goal

pub row-requires : goal.row-requires
row-requires g c = (c.rows.ensures.still c.args.q (subst (λ shards. AreServing shards c.args.q) (sym c.new-reader.ensures) c.requires)).0
