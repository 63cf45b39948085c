use Rattle.std.proofs.Common.{true, ap, sym, ◌∙◌, slice_set}
use Rattle.row_blocks.specs.declared.version.Version.{Version}
use Rattle.row_blocks.proofs.Strikes.{strike_latest}
use Rattle.row_blocks.proofs.several.strike_before.Goals as goal

pub returns-then-index-end-clause-versions : goal.returns-then-index-end-clause-versions
returns-then-index-end-clause-versions c =
    ap (λ (x : Version). slice_set c.args.versions.now c.in-Some.index (record x { struck = true })) (sym c.index-versions-index.is)
    ∙ strike_latest c.args.txn c.in-Some.index c.args.versions.now c.index-versions-index.result c.in-Some.ensures.latest c.index-versions-index.is

pub returns-else-index-end-clause-versions : goal.returns-else-index-end-clause-versions
returns-else-index-end-clause-versions c =
    ap (λ (x : Version). slice_set c.args.versions.now c.in-Some.index (record x { struck = true })) (sym c.index-versions-index.is)
    ∙ strike_latest c.args.txn c.in-Some.index c.args.versions.now c.index-versions-index.result c.in-Some.ensures.latest c.index-versions-index.is
