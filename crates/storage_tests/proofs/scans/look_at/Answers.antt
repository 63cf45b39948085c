use Rattle.hybrid_scan.proofs.Looks.{look_fits}
use Rattle.storage_tests.proofs.scans.look_at.Goals as goal

pub returns : goal.returns
returns c = look_fits c.args.unit.now.obj c.args.unit.now.extent c.args.q c.args.unit.now c.in_ok-clean_rows.field-0 c.requires c.in_ok-clean_rows.ensures.look
