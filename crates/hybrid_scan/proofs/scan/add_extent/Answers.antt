use Rattle.std.specs.Prelude.{option_copied}
use Rattle.hybrid_scan.proofs.Seen.{looks_give_rows}
use Rattle.hybrid_scan.proofs.scan.add_extent.Goals as goal

pub returns-clause-committed : goal.returns-clause-committed
returns-clause-committed g c =
    looks_give_rows (option_copied c.args.look) c.args.def.now.width (g.B.BlockReader.committed c.args.reader.now c.args.q) c.args.def.now.obj c.args.extent c.args.q
