use Rattle.std.proofs.Common.{◌++◌, ap₂, ◌∙◌}
use Rattle.std.specs.Prelude.{option_copied}
use Rattle.hybrid_scan.specs.Scan.{scanned}
use Rattle.hybrid_scan.proofs.Seen.{looks_give_rows}
use Rattle.hybrid_scan.proofs.scan.scan_extent.Goals as goal

pub returns-clause-committed : goal.returns-clause-committed
returns-clause-committed g c log serves =
    let look = option_copied c.args.look in
    let store = g.B.BlockReader.committed c.args.reader.now in
    c.in_ok-counts.ensures.scanned.added ∙ ap₂ (λ l t. l ++ scanned look t.width (store t.q) t.obj t.extent) c.new-rows.ensures c.of-target.ensures
    ∙ looks_give_rows look c.args.def.now.width (store c.args.q) c.args.def.now.obj c.args.extent c.args.q log serves
